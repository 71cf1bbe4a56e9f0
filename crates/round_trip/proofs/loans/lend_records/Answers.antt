-- What the search leaves to show of `lend_records`.
use Rattle.std.proofs.Common.{◌∙◌}
use Rattle.round_trip.proofs.Lent.{records_left}
use Rattle.round_trip.proofs.loans.lend_records.Goals as goal

pub returns-clause-memory : goal.returns-clause-memory
returns-clause-memory c = c.lend.ensures.memory ∙ records_left c.args.mem.now c.args.line.now
