-- What the search leaves to show of `lend_bytes`.
use Rattle.std.proofs.Common.{◌∙◌}
use Rattle.round_trip.proofs.Lent.{bytes_left}
use Rattle.round_trip.proofs.loans.lend_bytes.Goals as goal

pub returns-clause-memory : goal.returns-clause-memory
returns-clause-memory c = c.lend.ensures.memory ∙ bytes_left c.args.mem.now c.args.line.now
