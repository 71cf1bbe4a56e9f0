-- What the search leaves to show of `packed_laws_hold`.
use Rattle.packed_store.proofs.Zeros.{packed_laws}
use Rattle.packed_store.proofs.laws.packed_laws_hold.Goals as goal

pub returns : goal.returns
returns c = packed_laws
