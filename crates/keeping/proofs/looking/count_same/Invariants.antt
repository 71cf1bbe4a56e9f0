-- What the loop of `count_same` keeps.
use Rattle.std.proofs.Common.{◌≡◌}
use Rattle.keeping.proofs.looking.count_same.Given as goal

abbrev pub invariant-loop-k : goal.invariant-loop-k
invariant-loop-k g l = l.same ≡ l.k
