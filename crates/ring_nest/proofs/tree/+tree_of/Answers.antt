use Rattle.std.proofs.Common.{length, arith}
use Rattle.ring_nest.specs.Holders.{numbers_of}
use Rattle.ring_nest.proofs.Owned.{halves_below, halves_join, halves_long}
use Rattle.ring_nest.proofs.Walked.{halves_cover}
use Rattle.ring_nest.proofs.tree.+tree_of.Goals as goal

pub tree_of-requires : goal.tree_of-requires
tree_of-requires t c =
    let all = c.args.numbers.items in
    let parts = halves_below (length c.args.boxes.now) all c.in_ok-front.front.items c.in_ok-front.back.items c.in_ok-front.ensures.same
    c.requires.within in
    let long = halves_long all c.in_ok-front.front.items c.in_ok-front.back.items c.in_ok-front.ensures.same in
    (omega (arith, c.in_ok-front.ensures.half), parts.0)

pub tree_of-requires-2 : goal.tree_of-requires-2
tree_of-requires-2 t c =
    let all = c.args.numbers.items in
    let parts = halves_below (length c.args.boxes.now) all c.in_ok-front.front.items c.in_ok-front.back.items c.in_ok-front.ensures.same
    c.requires.within in
    let long = halves_long all c.in_ok-front.front.items c.in_ok-front.back.items c.in_ok-front.ensures.same in
    (omega (arith, c.in_ok-front.ensures.half), parts.1)

pub returns-clause-numbers : goal.returns-clause-numbers
returns-clause-numbers t c =
    let joined = halves_join c.args.numbers.items c.in_ok-front.front.items c.in_ok-front.back.items (numbers_of c.in_ok-left.left)
    (numbers_of c.in_ok-right.right)
    c.in_ok-front.ensures.same c.in_ok-left.ensures.numbers c.in_ok-right.ensures.numbers in
    rw (c.in_ok-new.ensures.ok, c.in_ok-new-2.ensures.ok) joined

pub returns-clause-is_tree : goal.returns-clause-is_tree
returns-clause-is_tree t c =
    let left = c.in_ok-left.left in
    let right = c.in_ok-right.right in
    let over_left = rw c.around_of.ensures at c.widened-around.ensures.so_far in
    let over_right = rw c.around_of-2.ensures at c.widened-around.ensures.other in
    let covers = halves_cover c.args.boxes.now c.widened-around.result left right c.in_ok-left.ensures.is_tree c.in_ok-right.ensures.is_tree
    over_left over_right in
    rw (c.in_ok-new.ensures.ok, c.in_ok-new-2.ensures.ok) (c.in_ok-left.ensures.is_tree, c.in_ok-right.ensures.is_tree, covers)
