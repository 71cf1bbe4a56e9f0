-- What the search leaves to show of `pack`.
use Rattle.std.proofs.Common.{◌≡◌, ℕ, ◌<◌, [], get_or, w64, ap, ◌∙◌, rules}
use Rattle.std.specs.Int.{to_le_bytes}
use Rattle.lines.specs.Packs.{packed, packed_word}
use Rattle.lines.proofs.Arrays.{made_by}
use Rattle.lines.proofs.Bytes.{packs_apart, rows_packed}
use Rattle.lines.proofs.rows.Line.pack.Goals as goal

pub returns : goal.returns
returns c =
    let l = c.args.self.now in
    let ws = c.from_fn-words.result in
    let word = made_by _ (λ k w. w ≡ packed_word l k) _ ws 8 (λ k w q h call. search rules) c.from_fn-words.ensures.items in
    let row : (k : ℕ) → k < 8 → get_or c.map.result k [] ≡ to_le_bytes w64 (get_or ws k 0) =
    λ k h. let at = c.map.ensures.items.at k 0 [] h in search rules in
    let is : c.copy_from_slice.new.self ≡ packed l =
    rows_packed l c.map.result c.copy_from_slice.new.self c.map.ensures.items.long (λ k h. row k h ∙ ap (to_le_bytes w64) (word k 0 h))
    (c.copy_from_slice.ensures.after ∙ c.as_flattened.ensures.value) c.copy_from_slice.ensures.len in
    record { value = is; apart = λ l e. packs_apart l _ (e ∙ is) }
