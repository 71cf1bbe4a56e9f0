-- What the search leaves to show of `lend`.
use Rattle.std.proofs.Common.{ap, ◌∙◌, rules}
use Rattle.lent_store.specs.Memory.{chunk_count}
use Rattle.round_trip.specs.Trips.{memory_after}
use Rattle.round_trip.proofs.Fresh.{fresh}
use Rattle.round_trip.proofs.loans.lend.Goals as goal

pub returns-clause-memory : goal.returns-clause-memory
returns-clause-memory g c =
    let f = g.F.RowForm in
    let made = c.new-store.ensures in
    let mem = c.args.mem.now in
    ◌∙◌ {b = c.leave.new.store.mem.now} (search rules)
    (c.leave.ensures.memory ∙ fresh (λ free k m. memory_after g.F.ChunkShape.ROWS f.CELLS f.blank free k m (f.row_of c.args.line.now)) _ _ (chunk_count g.F.ChunkShape.ROWS f.CELLS mem) _ mem (ap (λ s. s.out) made.model) made.marks.1 made.memory)
