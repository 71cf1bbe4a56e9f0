-- What the search leaves to show of `keep`.
use native.Mathlib.Nat.{sub-zero}
use Rattle.std.proofs.Common.{arith}
use Rattle.keeping.proofs.Placing.{laid_standing}
use Rattle.keeping.proofs.Rounding.{rows_pos}
use Rattle.keeping.proofs.whole.keep.Goals as goal

pub count_same-same-requires : goal.count_same-same-requires
count_same-same-requires g c =
    let laid = c.lay-rows.ensures.laid in
    let stand = laid_standing _ _ c.args.lines.now c.lay-rows.result.0 _ _ (rows_pos _ g.S.ChunkStore.power) (omega arith) laid in
    let v = c.as_slice.ensures.value in
    rw (v, sub-zero) stand
