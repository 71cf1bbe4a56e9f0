-- What was written over a part of a list, as it is read there and beside it.
use Rattle.std.proofs.Common.{◌≡◌, ℕ, ◌+◌, ◌-◌, ◌<◌, ◌≤◌, ◌⊎◌, List, ◌++◌, length, get_or, take, drop, sym, refl, ap, ◌∙◌, inl, inr, arith}
use Rattle.std.proofs.lemmas.List.Edits.{get_or-between}
use Rattle.std.proofs.lemmas.List.{append_assoc, length-take-le, take-append-le, take-take}
use Rattle.std.proofs.lemmas.Slice.{between_is, between-put_mid, put_mid-paste}
use Rattle.std.specs.List.{between}
use lib.Seq.{paste}
use Rattle.stores.proofs.Meaning.{drop_past}

-- what was written is read there
pub paste_here : {A : Type 0} (xs ys : List A) (a n : ℕ) → a + n ≤ length xs → n ≡ length ys → between a (a + n) (paste xs a ys n) ≡ ys
paste_here xs ys a n h e =
    ap (between a (a + n)) (sym (put_mid-paste a n xs ys ys n refl refl e)) ∙ between-put_mid a n xs ys (a + n) (omega arith) (omega arith)

-- and what lies beside it as before
pub paste_beside : {A : Type 0} (xs ys : List A) (a n i j : ℕ) → a + n ≤ length xs → n ≡ length ys → (j ≤ a) ⊎ (a + n ≤ i) → between i j (paste xs a ys n) ≡ between i j xs
paste_beside xs ys a n i j h e (inl below) =
    let short : length (take a xs) ≡ a = length-take-le a xs (omega arith) in
    between_is (paste xs a ys n) i j
    ∙ ap (drop i) (ap (take j) (append_assoc (take a xs) (take n ys) (drop (a + n) xs)) ∙ take-append-le j (take a xs) (take n ys ++ drop (a + n) xs) (omega arith) ∙ take-take j a xs below)
    ∙ sym (between_is xs i j)
paste_beside xs ys a n i j h e (inr above) =
    ap (take (j - i)) (drop_past xs ys a n i h (omega arith) above)

-- an element of what was written
pub paste_at : {A : Type 0} (xs ys : List A) (a n i : ℕ) (d : A) → a + n ≤ length xs → n ≡ length ys → i < n → get_or (paste xs a ys n) (a + i) d ≡ get_or ys i d
paste_at xs ys a n i d h e p = sym (get_or-between (paste xs a ys n) a (a + n) i d (omega arith)) ∙ ap (λ zs. get_or zs i d) (paste_here xs ys a n h e)
