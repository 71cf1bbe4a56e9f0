-- Entries and lines by the words of the entries.
use Rattle.std.proofs.Common.{◌≡◌, ℕ, ◌+◌, ◌<◌, ◌≤◌, List, [], ◌∷◌, map, length, set, refl, sym, ap, ◌∙◌, subst, get_or, arith, length-set, get_or-set_other, get_or-set_same, below_more}
use Rattle.std.proofs.Math.Decide.{dec_lt}
use Rattle.std.proofs.lemmas.List.{ext_get_or, get_or-map, get_or-replicate, get_or_past, length-map}
use Rattle.std.specs.Prelude.{Option, Some, None, MatchOption}
use Rattle.lines.specs.declared.entries.Mapping.{Mapping}
use Rattle.lines.specs.declared.rows.Line.{Line}
use Rattle.lines.specs.Decoded.{record_of, NoRecord}
use Rattle.lines.specs.Entries.{Entry, word_of, NoEntry, NoEntries}
use Rattle.lines.specs.Lines.{Holds, NoLine, no_entries}
use Rattle.lines.proofs.Present.{same_word}
use Rattle.lines.specs.Same.{same_line}

same_words : (es fs : List Entry) → map word_of es ≡ map word_of fs → es ≡ fs
same_words [] [] h = refl
same_words [] (f ∷ fs) h = cc
same_words (e ∷ es) [] h = cc
same_words (e ∷ es) (f ∷ fs) h = let head = same_word e f (cc) in let tail = same_words es fs (cc) in cc

-- a line whose record has the cluster and the words of these entries holds them
pub record_holds : (l : Line) (c : ℕ) (es : List Entry) → record_of l ≡ c ∷ map word_of es → Holds l c es
record_holds l c es e = record { cluster = cc; entries = same_words l.entries es (cc) }

-- different lines have different records
pub records_apart : (k l : Line) → record_of k ≡ record_of l → k ≡ l
records_apart k l e = let held = record_holds k l.cluster l.entries e in same_line k l held.cluster held.entries

-- no entries have words one of which is no entry's
pub none_at : (ws : List ℕ) (k : ℕ) → k < length ws → NoEntry (get_or ws k 0) → NoEntries ws
none_at ws k h none es e =
    let here : k < length es = omega (arith, ap length e, length-map es word_of) in
    none (get_or es k None) (sym (get_or-map word_of es k None 0 here) ∙ ap (λ xs. get_or xs k 0) e)

-- eight entries, of which those below a place have these words, and from there on there are none
pub record FilledTo (w : ℕ → ℕ) (es : List Entry) (k : ℕ) : Type 0 where
  pub eight : length es ≡ 8
  pub words : (i : ℕ) → i < k → word_of (get_or es i None) ≡ w i
  pub bare : (i : ℕ) → k ≤ i → get_or es i None ≡ None

pub none_filled : (w : ℕ → ℕ) → FilledTo w no_entries 0
none_filled w = record {
  eight = refl;
  words = λ i h. absurd (omega arith);
  bare = λ i h. elim (dec_lt i 8) [ yes le ↦ get_or-replicate 8 i None None le | no out ↦ get_or_past no_entries i None (omega arith) ];
}

-- one place further, with the entry of its word there
pub filled_more : (w : ℕ → ℕ) (es fs : List Entry) (k : ℕ) (m : Mapping) → k < 8 → word_of (Some m) ≡ w k → FilledTo w es k → fs ≡ set es k (Some m) → FilledTo w fs (k + 1)
filled_more w es fs k m h is f e =
    let here : k < length es = omega (arith, f.eight) in
    subst (λ xs. FilledTo w xs (k + 1)) (sym e) (record {
      eight = length-set es k (Some m) ∙ f.eight;
      words = below_more _ _ (λ i l. ap word_of (get_or-set_other es k i (Some m) None (omega arith)) ∙ f.words i l) (ap word_of (get_or-set_same es k (Some m) None here) ∙ is);
      bare = λ i l. get_or-set_other es k i (Some m) None (omega arith) ∙ f.bare i (omega arith);
    })

-- one place further, where its word is that of no entry present
pub filled_past : (w : ℕ → ℕ) (es fs : List Entry) (k : ℕ) → word_of None ≡ w k → FilledTo w es k → fs ≡ es → FilledTo w fs (k + 1)
filled_past w es fs k is f e =
    subst (λ xs. FilledTo w xs (k + 1)) (sym e) (record {
      eight = f.eight;
      words = below_more _ _ f.words (ap word_of (f.bare k (omega arith)) ∙ is);
      bare = λ i l. f.bare i (omega arith);
    })

-- all eight have their words
pub filled_words : (ws : List ℕ) (es : List Entry) (k : ℕ) → 8 ≤ k → length ws ≡ 8 → FilledTo (λ i. get_or ws i 0) es k → map word_of es ≡ ws
filled_words ws es k all long f =
    ext_get_or 0 (map word_of es) ws (omega (arith, length-map es word_of, f.eight))
    (λ i h. let l : i < 8 = omega (arith, length-map es word_of, f.eight) in
    get_or-map word_of es i None 0 (omega (arith, f.eight)) ∙ f.words i (omega arith))

-- what comes of looking for the line of a cluster and these entries
pub recorded : (c : ℕ) (ws : List ℕ) (es : List Entry) → map word_of es ≡ ws → (o : Option Line) → MatchOption o (NoLine c es) (λ l. Holds l c es) → MatchOption o (NoRecord (c ∷ ws)) (λ l. record_of l ≡ c ∷ ws)
recorded c ws es e None none = λ l r. none l (record_holds l c es (r ∙ ap (λ xs. c ∷ xs) (sym e)))
recorded c ws es e (Some l) holds = let c = holds.cluster in let h = holds.entries in cc
