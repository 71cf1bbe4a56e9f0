-- What the search leaves to show of `worked_examples_hold`.
use mathlib.Core.List.{◌∷◌}
use mathlib.Core.Path.{◌≡◌, refl, sym, ◌∙◌, ap}
use native.Mathlib.Omega.{arith}
use Prim.Native.Nat.{◌%◌, ◌^◌}
use lib.Dec.{lit<, lit≤}
use lib.ListN.{replicate, set}
use Rattle.lines.specs.Entries.{Entry}
use Rattle.std.specs.Prelude.{Some, None}
use Rattle.lines.specs.declared.entries.Mapping.{Mapping}
use Rattle.lines.specs.declared.rows.Line.{Line}
use Rattle.lines.specs.Entries.{word_of}
use Rattle.lines.specs.Lines.{entry_at}
use Rattle.lines.specs.Packs.{packed, content_bits}
use Rattle.lines.proofs.Bytes.{packed-word_at, packed_word_low}
use Rattle.lines.specs.Same.{same_line, same_mapping}
use Rattle.families.specs.Tables.{table_at}
use Rattle.families.specs.Words.{rotl}
use Rattle.worked.proofs.worked_examples_hold.Goals as goal

two : Mapping
two = record { frame = 2; rights = 1; ok = (lit< tt, lit≤ tt, lit≤ tt) }

nine : Line
unfolding two
nine = record { cluster = 1; entries = set (replicate 8 None) 1 (Some two); ok = (lit< tt, refl, λ _. refl) }

not_eight : (e : Entry) → word_of e ≡ 8 → ⊥
not_eight None h = omega arith
not_eight (Some m) h = omega arith

pub returns : goal.returns
unfolding packed nine two table_at rotl
returns c = record {
  last_page = (refl, refl);
  place = refl;
  word = λ m f r. omega arith;
  packs = λ l m f r h.
      let e : m ≡ two = same_mapping m two f r in
      ap packed (same_line l nine h.cluster (h.entries ∙ ap (λ (x : Mapping). set (replicate 8 None) 1 (Some x)) e));
  no_line = λ l e.
      not_eight (entry_at l 0) (sym (packed_word_low l 0) ∙ ap (λ w. w % 2 ^ content_bits) (sym (packed-word_at l (8 ∷ replicate 63 0) e 0 (lit< tt))));
  mix = refl;
  table = refl;
  digit = (refl, refl, refl);
}
