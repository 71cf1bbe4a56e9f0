-- What the search leaves to show of `from_words`.
use Rattle.std.proofs.Common.{arith, rules, sym, ap, ◌∙◌}
use Rattle.lines.specs.Entries.{word_of}
use Rattle.lines.proofs.Recorded.{none_at, none_filled, filled_more, filled_past, filled_words, recorded}
use Rattle.lines.proofs.rows.Line.from_words.Goals as goal
use Rattle.lines.proofs.rows.Line.from_words.Goals.{in-Some-entry, in_default-entry}

pub loop-k-init : goal.loop-k-init
loop-k-init c = none_filled _

pub returns-in_default : goal.returns-in_default
returns-in_default c = λ l e. none_at c.args.words c.loop-k.k (omega arith) c.in_default.ensures l.entries (cc)

pub loop-k-preserved : goal.loop-k-preserved
loop-k-preserved c =
    elim c.match-entry.branch [
      | in-Some-entry w ↦ filled_more _ c.loop-k.entries _ c.loop-k.k w.in-Some-entry.mapping (omega arith) (sym (ap word_of w.in-Some-entry.is) ∙ c.in-Some.ensures) c.loop-k.invariant w.entries-is
      | in_default-entry w ↦ filled_past _ c.loop-k.entries _ c.loop-k.k (sym (ap word_of w.in_default-entry.is) ∙ c.in-Some.ensures) c.loop-k.invariant w.entries-is
    ]

pub returns : goal.returns
returns c =
    let words = filled_words c.args.words c.loop-k.entries c.loop-k.k (omega arith) (omega arith) c.loop-k.invariant in
    let found = recorded _ _ c.loop-k.entries words c.new.result c.new.ensures in
    search rules
