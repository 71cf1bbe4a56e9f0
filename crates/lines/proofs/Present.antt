-- Which entries are present, and the words that tell entries apart.
use Rattle.std.proofs.Common.{◌≡◌, ℕ, zero, suc, ◌^◌, ◌<◌, true, false, eqb, List, [], ◌∷◌, length, set, replicate, Decides, refl, ap, ◌∙◌, arith}
use Rattle.std.proofs.lemmas.Bool.Decides.{Decides-eqb}
use borrow.Author.Tests.{not-true}
use Rattle.lines.specs.Entries.{Entry}
use Rattle.std.specs.Prelude.{Some, None}
use Rattle.lines.specs.declared.entries.Mapping.{Mapping}
use Rattle.lines.specs.declared.rows.Line.{Line}
use Rattle.lines.specs.Entries.{word_of, any_present}
use Rattle.lines.specs.Lines.{empty_line, filled, is_empty}
use Rattle.lines.specs.Same.{same_mapping, same_line}

pub any_set : (es : List Entry) (i : ℕ) (m : Mapping) → i < length es → any_present (set es i (Some m)) ≡ true
any_set [] i m h = absurd (omega arith)
any_set (e ∷ es) zero m h = refl
any_set (None ∷ es) (suc i) m h = any_set es i m (omega arith)
any_set (Some n ∷ es) (suc i) m h = refl

-- an entry that is set leaves one present where one was
pub any_filled : (es : List Entry) (k : ℕ) (m : Mapping) → any_present es ≡ true → any_present (filled es k m) ≡ true
any_filled [] k m h = h
any_filled (e ∷ es) zero m h = refl
any_filled (None ∷ es) (suc k) m h = any_filled es k m h
any_filled (Some n ∷ es) (suc k) m h = refl

none_left : (es : List Entry) → any_present es ≡ false → es ≡ replicate (length es) None
none_left [] h = refl
none_left (None ∷ es) h = ap (λ (xs : List Entry). None ∷ xs) (none_left es h)
none_left (Some m ∷ es) h = let z : ◌≡◌ {A = ℕ} 0 1 = cc in absurd (omega arith)

-- a line with no entry is the empty line: its cluster is 0
no_entry : (l : Line) → any_present l.entries ≡ false → l ≡ empty_line
no_entry l f = same_line l empty_line zero_cluster (none_left l.entries f ∙ ap (λ n. replicate n None) l.ok.1) where
  bare : 0 < l.cluster → ⊥
  bare h = let t : any_present l.entries ≡ true = l.ok.2 h in let z : ◌≡◌ {A = ℕ} 0 1 = cc in omega arith

  zero_cluster : l.cluster ≡ 0
  zero_cluster = omega (arith, bare)

pub decides_empty : (l : Line) → Decides (is_empty l) (l ≡ empty_line)
decides_empty l = (λ t. no_entry l (not-true (any_present l.entries) t), λ e. ap is_empty e)

pub word_lt : (e : Entry) → word_of e < 2 ^ 37
word_lt None = omega arith
word_lt (Some m) = omega arith

pub same_word : (e f : Entry) → word_of e ≡ word_of f → e ≡ f
same_word None None h = refl
same_word None (Some n) h = absurd (omega arith)
same_word (Some m) None h = absurd (omega arith)
same_word (Some m) (Some n) h = ap Some (same_mapping m n (omega arith) (omega arith))

-- entries are told apart by their words
pub entry_decides : (e f : Entry) → Decides (eqb (word_of e) (word_of f)) (e ≡ f)
entry_decides e f = let d = Decides-eqb (word_of e) (word_of f) in (λ t. same_word e f (d.0 t), λ p. d.1 (ap word_of p))
