-- What has been written of the lines, and of the refused lines, so far.
use Rattle.std.proofs.Common.{◌≡◌, ℕ, List, ◌++◌, take, vec_items}
use Rattle.std.specs.BTreeMap.{values}
use Rattle.std.specs.Fmt.{HasWritten, IsPlainFormatter}
use Rattle.account.specs.Accounts.{lines_text, refusals_text}
use Rattle.account.proofs.whole.LayoutAccountDisplay.fmt.Given as goal

abbrev pub invariant-loop-line : goal.invariant-loop-line
invariant-loop-line g l = IsPlainFormatter l.fn.f →
    (bs : List ℕ) × HasWritten g.W.Write.write_str_gives l.fn.f bs l.f × (bs ++ lines_text l.line-iterator ≡ lines_text (values l.layout.lines))

abbrev pub invariant-loop-refusal : goal.invariant-loop-refusal
invariant-loop-refusal g l = IsPlainFormatter l.fn.f →
    HasWritten g.W.Write.write_str_gives l.fn.f (lines_text (values l.layout.lines) ++ refusals_text (take l.refusal-index (vec_items l.layout.refused))) l.f
