-- What the search leaves to show of the two loops.
use Rattle.std.proofs.Common.{[], ◌++◌, ◌∙◌, append_assoc, box_value, rules}
use Rattle.std.proofs.Output.{has_written_append}
use Rattle.account.specs.Accounts.{line_text}
use Rattle.account.proofs.whole.LayoutAccountDisplay.fmt.Goals as goal

pub loop-line-init : goal.loop-line-init
loop-line-init g c p = ([], search rules, search rules)

pub loop-line-preserved : goal.loop-line-preserved
loop-line-preserved g c p =
    let so_far = c.loop-line.invariant p in
    let line = line_text (box_value c.in-Some.line.now) in
    (so_far.0 ++ line, has_written_append _ _ _ _ _ _ so_far.1 (search rules), append_assoc so_far.0 line _ ∙ search rules)
