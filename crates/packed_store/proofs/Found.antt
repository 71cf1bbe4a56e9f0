-- The line of bytes.
use Rattle.std.proofs.Common.{◌≡◌, ℕ, List, Ok, Err, Result, MatchResult, sym, ◌∙◌}
use Rattle.lines.specs.declared.faults.LineFault.{LineFault}
use Rattle.lines.specs.declared.rows.Line.{Line}
use Rattle.lines.specs.Decoded.{packed_line}
use Rattle.lines.specs.Lines.{no_entries, Holds}
use Rattle.lines.specs.Refusals.{Unpacked}
use Rattle.lines.proofs.Decoding.{holds_nothing, packed_line-packed, packed_none}

-- a line that was unpacked, or else the empty line
pub line_found : (bs : List ℕ) (r : Result Line LineFault) (l : Line) → Unpacked bs r → MatchResult r (λ k. l ≡ k) (λ _. Holds l 0 no_entries) → l ≡ packed_line bs
line_found bs (Ok k) l found is = is ∙ sym (packed_line-packed k bs found)
line_found bs (Err e) l found nothing = holds_nothing l nothing ∙ sym (packed_none bs found.1)
