-- What the search leaves to show of `take_for`.
use Rattle.std.proofs.Common.{◌≡◌, ◌%◌, length, vec_items, rules}
use Rattle.keeping.specs.Stays.{chunks_for}
use Rattle.keeping.proofs.Placing.{took_ready}
use Rattle.keeping.proofs.Rounding.{rows_pos}
use Rattle.keeping.proofs.laying.take_for.Goals as goal

pub returns-clause-ready : goal.returns-clause-ready
returns-clause-ready g c =
    let rows = g.S.ChunkStore.rows in
    let k = c.args.k in
    let first : k % rows ≡ 0 = search rules in
    let many : length (vec_items c.args.chunks.now) ≡ chunks_for rows k = search rules in
    let t = c.in_ok-chunk.ensures.after in
    let r = took_ready rows k _ _ _ _ c.in_ok-chunk.chunk (rows_pos rows g.S.ChunkStore.power) first many t.0 t.1 c.push_reserved.ensures.items in
    r.1
