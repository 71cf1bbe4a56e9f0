-- One more digit fits, and what `number` returns.
use Rattle.std.proofs.Common.{get_or, sym, ◌∙◌, arith}
use Rattle.reading.proofs.Digits.{value_small, digit_small, read_more, read_none}
use Rattle.reading.proofs.fields.number.Goals as goal

pub overflow_mul-value : goal.overflow_mul-value
overflow_mul-value c = omega (arith, value_small c.loop-byte.invariant (omega arith) (omega arith))

pub overflow_add-value : goal.overflow_add-value
overflow_add-value c =
    omega (arith, value_small c.loop-byte.invariant (omega arith) (omega arith), digit_small (get_or c.args.field.now c.loop-byte.byte-index 0) _ (sym c.in_ok-value.ensures))

pub loop-byte-preserved : goal.loop-byte-preserved
loop-byte-preserved c = read_more c.loop-byte.invariant _ c.loop-byte-test.true (sym c.in_ok-value.ensures)

pub returns-in_err-value : goal.returns-in_err-value
returns-in_err-value c = c.from_residual.ensures ∙ sym (read_none _ _ c.loop-byte-test.true (sym c.in_err-value.ensures))
