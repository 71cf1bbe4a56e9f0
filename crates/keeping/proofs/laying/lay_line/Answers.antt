-- What the search leaves to show of `lay_line`.
use Rattle.std.proofs.Common.{ap, ◌∙◌}
use Rattle.keeping.specs.Laid.{line_put}
use Rattle.keeping.proofs.laying.lay_line.Goals as goal

pub returns-clause-cases : goal.returns-clause-cases
returns-clause-cases g c =
    let between = g.S.ChunkStore.model c.take_for.new.store in
    let took = c.in_ok-take_for.ensures in
    let put = c.put_line.ensures ∙ ap (line_put g.S.ChunkStore.rows c.args.k c.args.line.now between) c.as_slice.ensures.value in
    record { between = between; opened = took.cases; store = put }
