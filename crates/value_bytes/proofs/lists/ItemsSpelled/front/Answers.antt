use Rattle.std.proofs.Common.{refl}
use Rattle.value_bytes.proofs.Fronts.{needs_more}
use Rattle.value_bytes.proofs.ListLaws.{list_front, list_frontless, list_refused}
use Rattle.value_bytes.proofs.lists.ItemsSpelled.front.Goals as goal

pub returns-in_default-clause-refused : goal.returns-in_default-clause-refused
returns-in_default-clause-refused g c = list_frontless g.T.Spelled.spell g.T.Spelled.is c.args.bytes.now (c.in_default.ensures.none refl)

pub returns-in-Err-clause-refused : goal.returns-in-Err-clause-refused
returns-in-Err-clause-refused g c =
    needs_more c.in-Err.fault
    (list_refused g.T.Spelled.spell g.T.Spelled.is c.args.bytes.now c.in-Some.count c.in-Some.behind.now c.in-Some.ensures.number)
    c.in-Err.ensures.refused

pub returns-clause-value : goal.returns-clause-value
returns-clause-value g c =
    list_front g.T.Spelled.spell g.T.Spelled.is c.args.bytes.now c.in-Some.count c.in-Some.behind.now c.in-Ok.found.0 c.in-Ok.found.1.now
    c.in-Some.ensures.number c.in-Ok.ensures.values
