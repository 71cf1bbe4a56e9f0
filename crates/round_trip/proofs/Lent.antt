-- What a lender finds in records and in bytes.
use Rattle.std.proofs.Common.{◌≡◌, ℕ, ◌<◌, Bool, true, false, cond, eqb, List, length, replicate, refl, ap, ◌∙◌, arith, rules}
use Rattle.std.proofs.lemmas.List.Edits.{length-paste}
use Rattle.std.proofs.lemmas.Bool.Decides.{nat_tests}
use Rattle.lines.specs.declared.rows.Line.{Line}
use Rattle.lines.specs.Packs.{packed}
use Rattle.packed_store.specs.Packed as packs
use Rattle.packed_store.proofs.Zeros.{packed_laws}
use Rattle.record_store.specs.Records as records
use Rattle.record_store.proofs.Single.{record_laws}
use Rattle.lent_store.specs.Memory as memory
use Rattle.round_trip.specs.Trips.{bytes_after, memory_after, records_after}

record_left : (mem : List (List ℕ)) (l : Line) → 0 < records.chunk_count mem → memory.row_replaced records.rows_per_chunk records.records_per_row (memory.chunk_cleared records.rows_per_chunk records.records_per_row records.blank_record mem 0) 0 0 (records.row_of l) ≡ records.row_replaced (records.chunk_cleared mem 0) 0 0 l
record_left mem l h =
    let cleared = record_laws.cleared mem 0 in
    let long : length (records.chunk_cleared mem 0) ≡ length mem = length-paste mem 0 (replicate 4 records.blank_record) 4 (omega arith) (search rules) in
    ap (λ m. memory.row_replaced records.rows_per_chunk records.records_per_row m 0 0 (records.row_of l)) cleared
    ∙ record_laws.replaced (records.chunk_cleared mem 0) 0 0 l (omega arith) (omega arith)

-- where a test fails
otherwise : {X : Type 0} (b : Bool) (x y z : X) → (b ≡ false → y ≡ z) → cond b x y ≡ cond b x z
otherwise true x y z h = refl
otherwise false x y z h = h refl

some_chunk : (n : ℕ) → eqb n 0 ≡ false → 0 < n
some_chunk n e = grind (arith, nat_tests)

-- what is left in records, so many chunks of them being free
pub records_left : (mem : List (List ℕ)) (l : Line) → memory_after records.rows_per_chunk records.records_per_row records.blank_record (records.chunk_count mem) 0 mem (records.row_of l) ≡ records_after (records.chunk_count mem) 0 mem l
records_left mem l = otherwise (eqb (records.chunk_count mem) 0) mem _ _ (λ none. record_left mem l (some_chunk _ none))

-- and in bytes
pub bytes_left : (mem : List ℕ) (l : Line) → memory_after packs.rows_per_chunk packs.line_bytes 0 (packs.chunk_count mem) 0 mem (packed l) ≡ bytes_after (packs.chunk_count mem) 0 mem l
bytes_left mem l = otherwise (eqb (packs.chunk_count mem) 0) mem _ _ (λ _. ap (λ m. packs.row_replaced m 0 0 l) (packed_laws.cleared mem 0))
