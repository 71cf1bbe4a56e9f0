-- The text of the account of a stay.
use Rattle.std.specs.Prelude.{ℕ, List, ◌++◌}
use Rattle.store_account.specs.Accounts.{store_text, told_text}
use Rattle.store_account.specs.declared.stays.StayAccount.{StayAccount}

-- the store, and what is told of the stay in it
abbrev pub account_text : StayAccount → List ℕ
account_text a =
    let s = a.store in
    let t = a.told in
    store_text s.name.now s.chunks s.shape.rows s.shape.row_bytes ++ told_text t.lines t.shape.rows t.shape.row_bytes t.free t.stay
