-- Which cells a chunk has, and a row of it.
use Rattle.std.proofs.Common.{◌≡◌, ℕ, ◌+◌, ◌*◌, ◌/◌, ◌<◌, ◌≤◌, ◌≢◌, ◌⊎◌, ⊎_elim, inl, inr, arith}
use Rattle.std.proofs.Math.Nat.{mul-le-mul_right, div-mul-le_self}
use Rattle.std.proofs.lemmas.Bool.{cases_lt}
use Rattle.stores.specs.Views.{chunks_in}

-- a chunk below another lies below it
pub chunk_below : (size c n : ℕ) → c < n → c * size + size ≤ n * size
chunk_below size c n h =
    let next : c + 1 ≤ n = omega arith in
    omega (arith, mul-le-mul_right size next)

-- a chunk that there is lies in the memory
pub chunk_fits : (size len n c : ℕ) → n ≡ chunks_in size len → c < n → c * size + size ≤ len
chunk_fits size len n c e h = omega (arith, chunk_below size c (len / size) (omega arith), div-mul-le_self len size)

-- and so does a row of it
pub row_fits : (rows cells len n c r : ℕ) → n ≡ chunks_in (rows * cells) len → c < n → r < rows → (c * rows + r) * cells + cells ≤ len
row_fits rows cells len n c r e h p = omega (arith, chunk_fits (rows * cells) len n c e h, chunk_below cells r rows p)

-- a row of another chunk lies beside it
pub chunk_beside : (rows cells c d r : ℕ) → d ≢ c → r < rows → ((d * rows + r) * cells + cells ≤ c * (rows * cells)) ⊎ (c * (rows * cells) + rows * cells ≤ (d * rows + r) * cells)
chunk_beside rows cells c d r ne p =
    let inside = chunk_below cells r rows p in
    ⊎_elim
    (λ (lt : d < c). inl (omega (arith, chunk_below (rows * cells) d c lt)))
    (λ (ge : c ≤ d). inr (omega (arith, chunk_below (rows * cells) c d (omega arith))))
    (cases_lt d c)

-- another row lies beside a row
pub row_beside : (cells i j : ℕ) → j ≢ i → (j * cells + cells ≤ i * cells) ⊎ (i * cells + cells ≤ j * cells)
row_beside cells i j ne =
    ⊎_elim
    (λ (lt : j < i). inl (chunk_below cells j i lt))
    (λ (ge : i ≤ j). inr (chunk_below cells i j (omega arith)))
    (cases_lt j i)
