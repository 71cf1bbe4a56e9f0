-- What `three_fields` returns, by how many commas there are.
use Rattle.std.proofs.Common.{sym}
use Rattle.reading.proofs.Threes.{one_field, two_fields, three_fields, four_fields}
use Rattle.reading.proofs.fields.three_fields.Goals as goal

pub returns-in_err-rest : goal.returns-in_err-rest
returns-in_err-rest c = rw c.from_residual.ensures (one_field c.cut.ensures c.in_err-rest.was)

pub returns-in_err-rest-2 : goal.returns-in_err-rest-2
returns-in_err-rest-2 c =
    rw c.from_residual-in_err-rest-2.ensures
    (two_fields c.cut.ensures c.in_ok-rest.was c.cut-2.ensures c.in_err-rest-2.was)

pub returns-then-is_some : goal.returns-then-is_some
returns-then-is_some c =
    four_fields c.cut.ensures c.in_ok-rest.was c.cut-2.ensures c.in_ok-rest-2.was _ c.cut-3.ensures
    (sym c.if-is_some.ensures)

pub returns : goal.returns
returns c =
    three_fields c.cut.ensures c.in_ok-rest.was c.cut-2.ensures c.in_ok-rest-2.was _ c.cut-3.ensures
    (sym c.if-is_some.ensures)
