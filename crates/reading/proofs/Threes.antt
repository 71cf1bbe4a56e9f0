-- The fields of a line, from its cuts at commas.
use Rattle.std.proofs.Common.{◌≡◌, ℕ, Bool, true, false, cond, eqb, List, [], ◌∷◌, is_some, Some, None, Option, refl, ap, ◌∙◌, arith, Bor}
use Rattle.std.proofs.lemmas.Option.{MatchOption-at_some, MatchOption-at_none}
use Rattle.reading.specs.Parts.{before, fields_of, CutAt}
use Rattle.reading.specs.Numbers.{three_in, three_of}
use Rattle.reading.proofs.Parting.{fields_cut}

-- the bytes behind a mark, where there is one
abbrev Rest : Type 0
Rest = Option (Bor (List ℕ))

last_field : {line a : List ℕ} {r : Rest} → CutAt 44 line a r → r ≡ None → fields_of line ≡ a ∷ []
last_field {line} {a} {r} h e = MatchOption-at_none _ (λ x. fields_of line ≡ a ∷ fields_of x.now) e (fields_cut line a r h)

next_field : {line a : List ℕ} {r : Rest} {x : Bor (List ℕ)} → CutAt 44 line a r → r ≡ Some x → fields_of line ≡ a ∷ fields_of x.now
next_field {line} {a} {r} {x} h e =
    MatchOption-at_some (fields_of line ≡ a ∷ []) (λ x. fields_of line ≡ a ∷ fields_of x.now) x e (fields_cut line a r h)

-- behind a third comma there is a fourth field, if an empty one
four : (a b c line : List ℕ) → three_in (a ∷ b ∷ c ∷ fields_of line) ≡ None
four a b c [] = refl
four a b c (x ∷ line) = each (eqb x 44) (fields_of line) where
  each : (t : Bool) (more : List (List ℕ)) → three_in (a ∷ b ∷ c ∷ cond t ([] ∷ more) (before x more)) ≡ None
  each true more = refl
  each false [] = refl
  each false (d ∷ more) = refl

-- a line by how many commas are found in it
module _ {line a : List ℕ} {r : Rest} (h : CutAt 44 line a r) where
  pub one_field : r ≡ None → three_of line ≡ None
  one_field e = ap three_in (last_field h e)

  module _ {b : List ℕ} {s : Rest} {x : Bor (List ℕ)} (e : r ≡ Some x) (k : CutAt 44 x.now b s) where
    pub two_fields : s ≡ None → three_of line ≡ None
    two_fields f = ap three_in (next_field h e ∙ ap (λ fs. a ∷ fs) (last_field k f))

    module _ {y : Bor (List ℕ)} (f : s ≡ Some y) where
      front : fields_of line ≡ a ∷ b ∷ fields_of y.now
      front = next_field h e ∙ ap (λ fs. a ∷ fs) (next_field k f)

      pub three_fields : {c : List ℕ} (t : Rest) → CutAt 44 y.now c t → is_some t ≡ false → fields_of line ≡ a ∷ b ∷ c ∷ []
      three_fields None l g = front ∙ ap (λ fs. a ∷ b ∷ fs) (last_field l refl)
      three_fields (Some z) l g = let w : ◌≡◌ {A = ℕ} 0 1 = cc in absurd (omega arith)

      pub four_fields : {c : List ℕ} (t : Rest) → CutAt 44 y.now c t → is_some t ≡ true → three_of line ≡ None
      four_fields None l g = let w : ◌≡◌ {A = ℕ} 0 1 = cc in absurd (omega arith)
      four_fields {c} (Some z) l g = ap three_in (front ∙ ap (λ fs. a ∷ b ∷ fs) (next_field l refl)) ∙ four a b c z.now
