-- What the search leaves to show of `clear_chunk`.
use Rattle.std.proofs.Common.{ℕ, ◌*◌, replicate, sym, ap, ◌∙◌, arith, length-take, length-drop}
use lib.ListN.{length-replicate}
use Rattle.std.proofs.lemmas.Slice.{put_mid-paste}
use Rattle.lent_store.specs.Memory.{blanks}
use Rattle.lent_store.proofs.rows.clear_chunk.Goals as goal

pub returns : goal.returns
unfolding blanks
returns g c =
    let f = g.F.RowForm in
    let size : ℕ = g.F.ChunkShape.ROWS * f.CELLS in
    let e = rw (c.ROWS.ensures, c.CELLS.ensures) at c.clear.ensures in
    rw (c.ROWS.ensures, c.CELLS.ensures)
    (put_mid-paste (c.args.chunk * size) _ c.args.mem.now _ (blanks f.blank size) size (e ∙ ap (λ n. replicate n f.blank) (simp (length-take, length-drop) (omega arith))) (omega arith) (sym (length-replicate size f.blank)))
