-- What the search leaves to show of `lay`.
use Rattle.std.proofs.Common.{◌≡◌, length, vec_items, subst, arith, rules}
use Rattle.std.proofs.lemmas.List.{get_or_read}
use Rattle.lines.specs.Lines.{empty_line}
use Rattle.keeping.specs.Laid.{Laid}
use Rattle.keeping.proofs.Placing.{laid_more, laid_all}
use Rattle.keeping.proofs.Rounding.{rows_pos, chunks_next}
use Rattle.keeping.proofs.laying.lay.Goals as goal

pub loop-k-preserved : goal.loop-k-preserved
loop-k-preserved g c =
    let rows = g.S.ChunkStore.rows in
    let m = g.S.ChunkStore.model in
    let ls = c.args.lines.now in
    let k = c.loop-k.k in
    let inv = c.loop-k.invariant in
    let pos = rows_pos rows g.S.ChunkStore.power in
    let line = get_or_read ls k c.index-lines-k.result c.loop-k-test.true c.index-lines-k.is empty_line in
    let did = c.in_default.ensures.cases in
    let long = c.loop-k.chunks.ok.0 in
    let more = laid_more rows (m c.args.store.now) ls k (m c.loop-k.store) (vec_items c.loop-k.chunks) (m c.lay_line.new.store) (vec_items c.lay_line.new.chunks) c.index-lines-k.result pos (g.S.ChunkStore.bounded c.loop-k.store) inv.0 (omega arith) line did in
    let next = chunks_next rows k pos in
    let after = c.lay_line.new.chunks.ok.0 in
    (more.0, omega arith, search rules)

pub returns-clause-rows : goal.returns-clause-rows
returns-clause-rows g c =
    let ls = c.args.lines.now in
    let rows = g.S.ChunkStore.rows in
    let m = g.S.ChunkStore.model in
    let s = m c.args.store.now in
    let t = m c.loop-k.store in
    let cs = vec_items c.loop-k.chunks in
    let e : c.loop-k.k ≡ length ls = omega arith in
    laid_all rows s ls (length ls) t cs (subst (λ n. Laid rows s ls n t cs) e c.loop-k.invariant.0)
