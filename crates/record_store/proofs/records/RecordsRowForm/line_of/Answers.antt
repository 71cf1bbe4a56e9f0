-- What the search leaves to show of `line_of`.
use Rattle.std.proofs.Common.{[], sym, ap, ◌∙◌, arith}
use Rattle.std.proofs.lemmas.List.{get_or_past}
use Rattle.lines.specs.Decoded.{recorded_line}
use Rattle.lines.proofs.Decoding.{holds_nothing}
use Rattle.record_store.proofs.Found.{nothing_recorded}
use Rattle.record_store.proofs.records.RecordsRowForm.line_of.Goals as goal

pub returns-in-empty : goal.returns-in-empty
returns-in-empty c =
    holds_nothing c.empty.result c.empty.ensures
    ∙ sym nothing_recorded
    ∙ ap recorded_line (sym (get_or_past c.args.row.now 0 [] (omega arith)))
