-- Rows of one record.
use Rattle.std.proofs.Common.{◌≡◌, ℕ, ◌+◌, ◌*◌, ◌<◌, List, [], ◌∷◌, length, get_or, set, replicate, is_ok, cond, Ok, Err, Result, sym, refl, ap, ◌∙◌, ap₂, arith}
use Rattle.std.proofs.lemmas.List.Edits.{get_or-between, paste_more, paste_none}
use Rattle.std.specs.List.{between}
use lib.Seq.{paste}
use mathlib.Core.Path.{fun_ext}
use Rattle.lines.specs.declared.rows.Line.{Line}
use Rattle.lines.specs.Decoded.{record_of, recorded_line}
use Rattle.stores.specs.declared.faults.StoreFault.{StoreFault}
use Rattle.stores.specs.declared.marks.Marks.{Marks}
use Rattle.stores.specs.Refusals.{refusal, row_refusal}
use Rattle.stores.specs.Views.{out_of, view}
use Rattle.stores.proofs.Meaning.{out_below}
use Rattle.stores.proofs.Refusing.{row_accepted}
use Rattle.lent_store.specs.Memory.{blanks, row_replaced as cells_replaced}
use Rattle.record_store.specs.Records.{RecordLaws, blank_record, chunk_count, row_of, row_replaced, rows_per_chunk}

-- the one record of a row
row_record : (mem : List (List ℕ)) (i : ℕ) → get_or (between (i * 1) (i * 1 + 1) mem) 0 [] ≡ get_or mem i []
row_record mem i = get_or-between mem (i * 1) (i * 1 + 1) 0 [] (omega arith) ∙ ap (λ k. get_or mem k []) (omega arith)

-- one record written over is one record set
row_set : (mem : List (List ℕ)) (i : ℕ) (x : List ℕ) → i < length mem → paste mem (i * 1) (x ∷ []) 1 ≡ set mem i x
row_set mem i x h =
    sym (paste_more mem (i * 1) (x ∷ []) 0 [] (omega arith) (omega arith))
    ∙ ap₂ (λ d k. set d k x) (sym (paste_none mem (i * 1) (x ∷ []))) (omega arith)

row_written : (mem : List (List ℕ)) (c r : ℕ) (l : Line) → c < chunk_count mem → r < 4 → cells_replaced 4 1 mem c r (row_of l) ≡ row_replaced mem c r l
row_written mem c r l h p = row_set mem (c * 4 + r) (record_of l) (omega arith)

-- an accepted write is at a row that there is
row_left : (result : Result Unit StoreFault) (m : Marks) (mem : List (List ℕ)) (c r : ℕ) (l : Line) → refusal result ≡ row_refusal 4 (out_of (chunk_count mem) m) c r → cond (is_ok result) (cells_replaced 4 1 mem c r (row_of l)) mem ≡ cond (is_ok result) (row_replaced mem c r l) mem
row_left (Ok x) m mem c r l said = let met = row_accepted 4 (out_of (chunk_count mem) m) c r (sym said) in row_written mem c r l (out_below (chunk_count mem) m c met.0) met.1
row_left (Err e) m mem c r l said = refl

blanks_four : (x : List ℕ) → blanks x 4 ≡ replicate 4 x
unfolding blanks
blanks_four x = refl

pub record_laws : RecordLaws
record_laws = record {
  counts = λ mem. refl;
  beyond = λ mem. refl;
  shows = λ m mem. ap (view rows_per_chunk (out_of (chunk_count mem) m)) (fun_ext (λ i. ap recorded_line (row_record mem i)));
  cleared = λ mem c. ap (λ zeros. paste mem (c * rows_per_chunk) zeros rows_per_chunk) (blanks_four blank_record);
  replaced = row_written;
  written = row_left;
}
