-- What the loop of `lay_out` keeps.
use Rattle.std.specs.Iterator.Adapters.{enumerate_source, enumerate_count}
use Rattle.reading.specs.Lines.{lines_left}
use Rattle.layout.proofs.Running.{Sofar}
use Rattle.layout.proofs.calls.lay_out.Given as goal

abbrev pub invariant-loop-before : goal.invariant-loop-before
invariant-loop-before l =
    (goal.iterator-loop-before).can_next l.before-iterator ×
    (goal.iterator-loop-before).is_finite l.before-iterator ×
    Sofar l.list l.layout (enumerate_count l.before-iterator) (lines_left (enumerate_source l.before-iterator))
