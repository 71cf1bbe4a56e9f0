-- What an iterator over the lines of a text has left.
use Rattle.std.specs.Prelude.{ℕ, List}
use Rattle.reading.specs.Parts.{lines_of}
use Rattle.reading.specs.declared.texts.Lines.{Lines}

-- the lines that are left
abbrev pub lines_left : Lines → List (List ℕ)
lines_left it = lines_of it.left.now
