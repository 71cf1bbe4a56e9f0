-- The table's rule, by one test of the whole list.
use Rattle.std.proofs.Common.{◌≡◌, ℕ, zero, suc, ◌+◌, ◌<◌, Bool, true, ◌&&◌, eqb, List, [], ◌∷◌, length, get_or, sym, refl, ap, ◌∙◌, add-zero, add-suc, suc-add, zero-add, arith}
use Rattle.std.proofs.lemmas.Bool.{and_parts, eqb-true}
use Rattle.families.specs.Words.{xorshift}
use Rattle.families.specs.Tables.{table_at}

-- the list begins with x, and each next number is the step of the one before
abbrev pub follows : ℕ → List ℕ → Bool
follows x [] = true
follows x (y ∷ ys) = eqb y x && follows (xorshift y) ys

from : (xs : List ℕ) (i x : ℕ) → x ≡ table_at i → follows x xs ≡ true → (k : ℕ) → k < length xs → get_or xs k 0 ≡ table_at (i + k)
unfolding table_at
from [] i x e t k h = absurd (omega arith)
from (y ∷ ys) i x e t zero h = eqb-true y x (and_parts (eqb y x) _ t).0 ∙ e ∙ ap table_at (sym (add-zero i))
from (y ∷ ys) i x e t (suc k) h =
    let both = and_parts (eqb y x) (follows (xorshift y) ys) t in
    from ys (suc i) (xorshift y) (ap xorshift (eqb-true y x both.0 ∙ e)) both.1 k (omega arith)
    ∙ ap table_at (suc-add i k ∙ sym (add-suc i k))

-- a list that passes the test is the table, as far as it goes
pub table_at-follows : (xs : List ℕ) → follows 1 xs ≡ true → (k : ℕ) → k < length xs → get_or xs k 0 ≡ table_at k
unfolding table_at
table_at-follows xs t k h = from xs 0 1 refl t k h ∙ ap table_at (zero-add k)
