-- The line of a record.
use Rattle.std.proofs.Common.{◌≡◌, ℕ, List, [], ◌∷◌, length, get_or, Some, None, sym, ap, ◌∙◌, arith}
use Rattle.std.proofs.lemmas.Slice.{first_rest}
use Rattle.std.specs.List.{between}
use Rattle.std.specs.Option.{MatchOption}
use Rattle.std.specs.Prelude.{Option}
use Rattle.lines.specs.declared.rows.Line.{Line}
use Rattle.lines.specs.Decoded.{NoRecord, record_of, recorded_line}
use Rattle.lines.specs.Lines.{empty_line, no_entries, Holds}
use Rattle.lines.proofs.Decoding.{holds_nothing, recorded_line-record, recorded_none}

-- a line found for a record, or else the empty line
pub line_found : (ns : List ℕ) (r : Option Line) (l : Line) → MatchOption r (NoRecord ns) (λ k. record_of k ≡ ns) → MatchOption r (Holds l 0 no_entries) (λ k. l ≡ k) → l ≡ recorded_line ns
line_found ns (Some k) l found is = is ∙ sym (recorded_line-record k ns found)
line_found ns None l found nothing = holds_nothing l nothing ∙ sym (recorded_none ns found)

-- no number is no record
pub nothing_recorded : recorded_line [] ≡ empty_line
nothing_recorded = recorded_none [] (λ l e. cc)

-- a record's first number and the other eight
pub first_of_nine : (ns : List ℕ) → length ns ≡ 9 → get_or ns 0 0 ∷ between 1 9 ns ≡ ns
first_of_nine ns nine = ap (λ n. get_or ns 0 0 ∷ between 1 n ns) (sym nine) ∙ sym (first_rest ns 0 (omega arith))
