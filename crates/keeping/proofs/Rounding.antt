-- How many chunks lines need.
use Rattle.std.proofs.Common.{◌≡◌, ℕ, ◌+◌, ◌*◌, ◌/◌, ◌%◌, ◌<◌, ◌≤◌, ap, ◌∙◌, ⊎_elim, add-mul, one-mul, arith, pow_pos}
use Rattle.std.proofs.lemmas.Nat.{div-add-mod', div-mul-add, mod_below, mod-mul-add}
use Rattle.std.proofs.lemmas.Bool.{cases_lt}
use Rattle.stores.specs.Stores.{RowsPerChunk}
use Rattle.keeping.specs.Stays.{chunks_for}

-- a chunk has a row
pub rows_pos : (rows : ℕ) → RowsPerChunk rows → 0 < rows
rows_pos rows p = let e = p.2 in rw e (pow_pos p.0)

-- one chunk more has so many rows more
pub row_more : (n rows : ℕ) → (n + 1) * rows ≡ n * rows + rows
row_more n rows = add-mul n 1 rows ∙ ap (λ k. n * rows + k) (one-mul rows)

parts : (n q rows r : ℕ) → r < rows → n ≡ q * rows + r → (n / rows ≡ q) × (n % rows ≡ r)
parts n q rows r h e = (ap (λ k. k / rows) e ∙ div-mul-add q rows r h, ap (λ k. k % rows) e ∙ mod-mul-add q rows r h)

-- a line more needs no chunk past that of its own row
pub chunks_next : (rows n : ℕ) → 0 < rows → chunks_for rows (n + 1) ≡ n / rows + 1
chunks_next rows n pos =
    let q = n / rows in
    let r = n % rows in
    let e = div-add-mod' n rows in
    let h = mod_below n rows pos in
    ⊎_elim
    (λ (k : r + 1 < rows). let p = parts (n + 1) q rows (r + 1) k (omega arith) in omega arith)
    (λ (k : rows ≤ r + 1). let p = parts (n + 1) (q + 1) rows 0 pos (let m = row_more q rows in omega arith) in omega arith)
    (cases_lt (r + 1) rows)
