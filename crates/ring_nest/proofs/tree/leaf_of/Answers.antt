use Rattle.std.proofs.Common.{◌≡◌, ◌≤◌, arith, length, take}
use Rattle.std.proofs.lemmas.Grind.{common_steps}
use Rattle.std.proofs.lemmas.List.{take_all}
use Rattle.ring_nest.proofs.Walked.{leaf_covers}
use Rattle.ring_nest.proofs.tree.leaf_of.Goals as goal

pub loop-number-preserved : goal.loop-number-preserved
loop-number-preserved c = grind (arith, common_steps)

pub returns-clause-is_leaf : goal.returns-clause-is_leaf
returns-clause-is_leaf c =
    let numbers = c.args.numbers.items in
    let end : length numbers ≤ c.loop-number.number-index = rw c.deref-number-items.ensures.value at c.loop-number-test.false in
    let all : take c.loop-number.number-index numbers ≡ numbers = take_all c.loop-number.number-index numbers end in
    let own = rw (c.deref-number-items.ensures.value, all) at c.loop-number.invariant in
    let covers = rw (c.deref.ensures.value, own) at c.box_around_all-around.ensures in
    record {
      few = c.requires.few;
      own = own;
      covers = leaf_covers c.args.boxes.now c.box_around_all-around.result numbers c.requires.within covers;
    }
