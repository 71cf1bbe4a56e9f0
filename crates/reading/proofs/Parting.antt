-- The parts of bytes, from a cut at the first mark.
use Rattle.std.proofs.Common.{◌≡◌, ℕ, suc, ◌+◌, ◌<◌, eqb, List, [], ◌∷◌, ◌++◌, length, drop, Some, None, Option, unwrap_or, sym, refl, ap, ◌∙◌, append_assoc, arith, Bor, MatchOption}
use Rattle.std.proofs.lemmas.List.{drop_all, drop_at, length-append, length_push}
use Rattle.std.proofs.lemmas.Bool.{eq-eqb, ne_eqb, cond-true, cond-false}
use Rattle.reading.specs.Parts.{before, parted, lines_of, fields_of, Lacks, CutAt, FirstLine}

lacks_rest : (mark b : ℕ) (bs : List ℕ) → Lacks mark (b ∷ bs) → Lacks mark bs
lacks_rest mark b bs h i l = h (suc i) (omega arith)

parted_other : (mark : ℕ) (end : List (List ℕ)) (b : ℕ) (part bs : List ℕ) → Lacks mark (b ∷ part) → parted mark end (b ∷ bs) ≡ before b (parted mark end bs)
parted_other mark end b part bs h = cond-false (eqb b mark) _ _ (ne_eqb b mark (h 0 (omega arith)))

parted_mark : (mark : ℕ) (end : List (List ℕ)) (part rest : List ℕ) → Lacks mark part → parted mark end (part ++ mark ∷ rest) ≡ part ∷ parted mark end rest
parted_mark mark end [] rest h = cond-true (eqb mark mark) _ _ (eq-eqb mark mark refl)
parted_mark mark end (b ∷ part) rest h =
    parted_other mark end b part (part ++ mark ∷ rest) h ∙ ap (before b) (parted_mark mark end part rest (lacks_rest mark b part h))

fields_end : (field : List ℕ) → Lacks 44 field → fields_of field ≡ field ∷ []
fields_end [] h = refl
fields_end (b ∷ field) h = parted_other 44 ([] ∷ []) b field field h ∙ ap (before b) (fields_end field (lacks_rest 44 b field h))

lines_end : (line : List ℕ) → Lacks 10 line → 0 < length line → lines_of line ≡ line ∷ []
lines_end [] h l = absurd (omega arith)
lines_end (b ∷ []) h l = parted_other 10 [] b [] [] h
lines_end (b ∷ c ∷ line) h l =
    parted_other 10 [] b (c ∷ line) (c ∷ line) h ∙ ap (before b) (lines_end (c ∷ line) (lacks_rest 10 b (c ∷ line) h) (omega arith))

-- the fields of a line, from its cut at a comma
pub fields_cut : (line part : List ℕ) (rest : Option (Bor (List ℕ))) → CutAt 44 line part rest → MatchOption rest (fields_of line ≡ part ∷ []) (λ behind. fields_of line ≡ part ∷ fields_of behind.now)
fields_cut line part None h = ap fields_of h.whole ∙ fields_end part h.free
fields_cut line part (Some behind) h = ap fields_of h.whole ∙ parted_mark 44 ([] ∷ []) part behind.now h.free

drop_behind : (line rest : List ℕ) → drop (length line + 1) (line ++ 10 ∷ rest) ≡ rest
drop_behind line rest =
    ap (drop (length line + 1)) (sym (append_assoc line (10 ∷ []) rest)) ∙ drop_at (line ++ 10 ∷ []) rest (length line + 1) (length_push line 10)

-- the first line of a text, from its cut at the end of a line
pub first_cut : (text line : List ℕ) (rest : Option (Bor (List ℕ))) (none : Bor (List ℕ)) → none.now ≡ [] → CutAt 10 text line rest → 0 < length text → FirstLine text line (unwrap_or rest none).now
first_cut text line None none e h l =
    let long = ap length h.whole in
    record {
      lines = ap lines_of h.whole ∙ lines_end line h.free (omega arith) ∙ ap (λ more. line ∷ lines_of more) (sym e);
      behind = e ∙ sym (drop_all (length line + 1) text (omega arith));
      shorter = omega (arith, ap length e);
    }
first_cut text line (Some behind) none e h l = record {
  lines = ap lines_of h.whole ∙ parted_mark 10 [] line behind.now h.free;
  behind = sym (ap (drop (length line + 1)) h.whole ∙ drop_behind line behind.now);
  shorter = omega (arith, ap length h.whole, length-append line (10 ∷ behind.now));
}
