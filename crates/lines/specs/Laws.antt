-- What the types of lines rule out, and what `==` says of them.
use Rattle.std.specs.Prelude.{◌≡◌, ◌↔◌, Bool, Decides, IsTrue}
use Rattle.std.specs.Option.{option_eq}
use Rattle.lines.specs.contracts.entries.MappingPartialEq.TheImpl as mapping_test
use Rattle.lines.specs.contracts.numbers.AddressPartialEq.TheImpl as address_test
use Rattle.lines.specs.contracts.numbers.PagePartialEq.TheImpl as page_test
use Rattle.lines.specs.contracts.rows.LinePartialEq.TheImpl as line_test
use Rattle.lines.specs.declared.entries.Mapping.{Mapping}
use Rattle.lines.specs.declared.numbers.Address.{Address}
use Rattle.lines.specs.declared.numbers.Page.{Page}
use Rattle.lines.specs.declared.rows.Line.{Line}
use Rattle.lines.specs.Entries.{Entry, word_of}
use Rattle.lines.specs.Lines.{empty_line, is_empty}

-- the tests that `==` computes
abbrev pub address_eq : Address → Address → Bool
address_eq = (address_test.eq-value).it

abbrev pub page_eq : Page → Page → Bool
page_eq = (page_test.eq-value).it

abbrev pub mapping_eq : Mapping → Mapping → Bool
mapping_eq = (mapping_test.eq-value).it

abbrev pub entry_eq : Entry → Entry → Bool
entry_eq = option_eq mapping_eq

abbrev pub line_eq : Line → Line → Bool
line_eq = (line_test.eq-value).it

-- the facts on which everything above lines rests
pub record LineLaws : Type 0 where
  -- there is one line without entries
  pub one_empty : (l : Line) → Decides (is_empty l) (l ≡ empty_line)
  -- an entry is known by its word
  pub by_word : (e f : Entry) → word_of e ≡ word_of f → e ≡ f
  -- `==` holds of two values exactly where they are the same
  pub addresses : (a b : Address) → IsTrue (address_eq a b) ↔ (a ≡ b)
  pub pages : (p q : Page) → IsTrue (page_eq p q) ↔ (p ≡ q)
  pub mappings : (m n : Mapping) → IsTrue (mapping_eq m n) ↔ (m ≡ n)
  pub entries : (e f : Entry) → IsTrue (entry_eq e f) ↔ (e ≡ f)
  pub lines : (k l : Line) → IsTrue (line_eq k l) ↔ (k ≡ l)
