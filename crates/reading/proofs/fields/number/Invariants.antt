-- What `number` has read before the index.
use Rattle.reading.proofs.Digits.{ReadTo}
use Rattle.reading.proofs.fields.number.Given as goal

abbrev pub invariant-loop-byte : goal.invariant-loop-byte
invariant-loop-byte l = ReadTo l.field l.byte-index l.value
