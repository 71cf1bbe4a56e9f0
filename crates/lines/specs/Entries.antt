-- The word of an entry.
use Rattle.std.specs.Prelude.{ℕ, ◌+◌, ◌*◌, Bool, List, map, Option, Some, None, is_some, ◌≢◌}
use Rattle.std.specs.List.{list_any}
use Rattle.lines.specs.declared.entries.Mapping.{Mapping}

-- what a page is mapped to, if anything
abbrev pub Entry : Type 0
Entry = Option Mapping

-- the word of an entry: 0, or frame and rights side by side
abbrev pub word_of : Entry → ℕ
word_of None = 0
word_of (Some m) = m.frame * 8 + m.rights

-- whether one of the entries is present
abbrev pub any_present : List Entry → Bool
any_present = list_any is_some

-- no entry has this word
abbrev pub NoEntry : ℕ → Type 0
NoEntry w = (e : Entry) → word_of e ≢ w

-- no entries have these words
abbrev pub NoEntries : List ℕ → Type 0
NoEntries ws = (es : List Entry) → map word_of es ≢ ws
