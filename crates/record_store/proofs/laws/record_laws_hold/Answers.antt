-- What the search leaves to show of `record_laws_hold`.
use Rattle.record_store.proofs.Single.{record_laws}
use Rattle.record_store.proofs.laws.record_laws_hold.Goals as goal

pub returns : goal.returns
returns c = record_laws
