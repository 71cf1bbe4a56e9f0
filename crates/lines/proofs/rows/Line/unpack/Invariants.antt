-- What the loop of `unpack` keeps.
use Rattle.lines.proofs.Bytes.{ReadTo}
use Rattle.lines.proofs.rows.Line.unpack.Given as goal

abbrev pub invariant-loop-k : goal.invariant-loop-k
invariant-loop-k l = ReadTo l.bytes l.cluster l.entries l.k
