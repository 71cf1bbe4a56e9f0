-- What the search leaves to show of `store_account`.
use Rattle.std.proofs.Common.{length, box_value, ap, ◌∙◌, rules}
use Rattle.std.proofs.lemmas.List.{length-map}
use Rattle.std.proofs.lemmas.Result.{IfOk-weaker}
use Rattle.std.specs.BTreeMap.{values}
use Rattle.store_account.specs.Accounts.{packed_text, record_text}
use Rattle.store_account.proofs.whole.store_account.Goals as goal

pub returns : goal.returns
returns c =
    let many = ap length c.in_ok-lines.ensures ∙ length-map (values c.in_ok-layout.layout.lines) box_value in
    let packed = c.in_ok-packed.ensures ∙ ap packed_text (ap length c.as_slice.ensures.value ∙ many) in
    let record-text = c.in_ok-record.ensures ∙ ap record_text (ap length c.as_slice-2.ensures.value ∙ many) in
    IfOk-weaker c.format.result _ _ (λ s text. record { layout = c.in_ok-layout.layout; laid_out = c.in_ok-layout.ensures; is = search rules }) c.format.ensures.ok
