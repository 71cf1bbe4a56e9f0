-- What the search leaves to show of `line_laws_hold`.
use Rattle.lines.specs.Equal.{address_decides, page_decides, mapping_decides, entry_decides, line_decides}
use Rattle.lines.proofs.Present.{decides_empty, same_word}
use Rattle.lines.proofs.laws.line_laws_hold.Goals as goal

pub returns : goal.returns
returns c = record {
  one_empty = decides_empty;
  by_word = same_word;
  addresses = address_decides;
  pages = page_decides;
  mappings = mapping_decides;
  entries = entry_decides;
  lines = line_decides;
}
