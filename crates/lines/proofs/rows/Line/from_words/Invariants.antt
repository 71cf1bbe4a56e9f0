-- What the loop of `from_words` keeps.
use Rattle.std.proofs.Common.{get_or}
use Rattle.lines.proofs.Recorded.{FilledTo}
use Rattle.lines.proofs.rows.Line.from_words.Given as goal

abbrev pub invariant-loop-k : goal.invariant-loop-k
invariant-loop-k l = FilledTo (λ i. get_or l.fn.words i 0) l.entries l.k
