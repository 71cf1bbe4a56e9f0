-- What the search leaves to show of `recorded_line`.
use Rattle.std.proofs.Common.{get_or, ap, ◌∙◌, ◌∷◌}
use Rattle.lines.specs.Decoded.{recorded_line}
use Rattle.record_store.proofs.Found.{first_of_nine, line_found}
use Rattle.record_store.proofs.records.recorded_line.Goals as goal

pub returns : goal.returns
returns c =
    let ns = c.args.numbers.now in
    line_found (get_or ns 0 0 ∷ c.copy_from_slice.new.self) c.from_words.result _ c.from_words.ensures c.unwrap_or_else.ensures
    ∙ ap recorded_line (ap (λ rest. get_or ns 0 0 ∷ rest) c.copy_from_slice.ensures.after ∙ first_of_nine ns c.told-numbers)
