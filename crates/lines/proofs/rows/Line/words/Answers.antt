-- What the search leaves to show of `words`.
use Rattle.std.proofs.Common.{◌≡◌, ◌<◌, get_or, sym, ◌∙◌, arith, rules}
use Rattle.std.proofs.lemmas.List.{length-map, ext_get_or, get_or-map}
use Rattle.std.specs.Prelude.{None}
use Rattle.lines.specs.Entries.{word_of}
use Rattle.lines.proofs.rows.Line.words.Goals as goal

pub returns : goal.returns
returns c =
    let items = c.map.ensures.items in
    ext_get_or 0 _ _ (omega (arith, length-map c.args.self.now.entries word_of, items.long, c.args.self.now.ok.1)) (λ i h.
    let h8 : i < 8 = omega (arith, items.long) in
    let here : i < 8 → get_or c.map.result i 0 ≡ word_of (get_or c.args.self.now.entries i None) = λ l. let at = items.at i None 0 l in search rules in
    here h8 ∙ sym (get_or-map word_of c.args.self.now.entries i None 0 (omega (arith, c.args.self.now.ok.1))))
