use Rattle.std.proofs.Common.{arith}
use Rattle.std.proofs.lemmas.Bool.Decides.{nat_tests}
use Rattle.store_check.proofs.PlaceFinds.{alone_none, alone_order, behind_none, behind_order}
use Rattle.store_check.proofs.node_list.is_behind.Goals as goal

pub returns-in-Some-clause-none : goal.returns-in-Some-clause-none
returns-in-Some-clause-none c = λ less.
    behind_none c.args.listed.now c.args.id c.in-Some.last.now c.requires.order c.in-Some.ensures.value (grind (arith, nat_tests, less))

pub returns-in-Some-clause-order : goal.returns-in-Some-clause-order
returns-in-Some-clause-order c = λ less.
    behind_order c.args.listed.now c.args.id c.in-Some.last.now c.requires.order c.in-Some.ensures.value (grind (arith, nat_tests, less))

pub returns-in-None-clause-none : goal.returns-in-None-clause-none
returns-in-None-clause-none c = λ _. alone_none c.args.listed.now c.args.id c.in-None.ensures.item.3

pub returns-in-None-clause-order : goal.returns-in-None-clause-order
returns-in-None-clause-order c = λ _. alone_order c.args.listed.now c.args.id c.in-None.ensures.item.3 c.requires.order
