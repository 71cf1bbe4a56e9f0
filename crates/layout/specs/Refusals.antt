-- Each refusal of a list by its number.
use Rattle.std.specs.Prelude.{ℕ, List, [], ◌∷◌}
use Rattle.lines.specs.Refusals as line
use Rattle.layout.specs.declared.faults.ListFault.{ListFault}
use Rattle.layout.specs.declared.faults.ListFault.TheVariants.{Line, ListedTwice, Unreadable}

-- a refusal's number and the values that it carries
abbrev pub told : ListFault → List ℕ
told (Line e) = line.told e
told ListedTwice = 6 ∷ []
told Unreadable = 15 ∷ []
