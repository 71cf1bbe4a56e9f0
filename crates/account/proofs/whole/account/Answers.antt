-- What the search leaves to show of `account`.
use Rattle.std.proofs.lemmas.Result.{IfOk-weaker}
use Rattle.account.proofs.whole.account.Goals as goal

pub returns : goal.returns
returns c =
    let laid_out = c.in_ok-layout.ensures in
    IfOk-weaker c.to_string.result _ _ (λ s text. record { layout = c.in_ok-layout.layout; laid_out = laid_out; is = text }) c.to_string.ensures.ok
