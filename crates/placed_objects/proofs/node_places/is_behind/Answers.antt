use Rattle.std.proofs.Common.{arith}
use Rattle.std.proofs.lemmas.Bool.Decides.{nat_tests}
use Rattle.placed_objects.proofs.Placed.{alone-rise, behind-none, behind-rise}
use Rattle.placed_objects.proofs.node_places.is_behind.Goals as goal

pub returns-in-Some-clause-none : goal.returns-in-Some-clause-none
returns-in-Some-clause-none c = λ less.
    behind-none c.args.ids.now c.args.id c.in-Some.last.now c.requires c.in-Some.ensures.value (grind (arith, nat_tests, less))

pub returns-in-Some-clause-rise : goal.returns-in-Some-clause-rise
returns-in-Some-clause-rise c = λ less.
    behind-rise c.args.ids.now c.args.id c.in-Some.last.now c.requires c.in-Some.ensures.value (grind (arith, nat_tests, less))

pub returns-in-None-clause-rise : goal.returns-in-None-clause-rise
returns-in-None-clause-rise c = λ _. alone-rise c.args.ids.now c.args.id c.in-None.ensures.item.3
