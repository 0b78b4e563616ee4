use Rattle.std.proofs.Common.{◌≡◌, ◌<◌, ◌∙◌, length, get_or, arith}
use Rattle.std.proofs.lemmas.Grind.{get_or_default_zero}
use Rattle.ring_nest.proofs.Walked.{mark_is}
use Rattle.ring_nest.proofs.tree.add_of_leaf.Goals as goal

pub add_if_holder-requires-clause-met : goal.add_if_holder-requires-clause-met
add_if_holder-requires-clause-met c =
    let leaf = c.args.leaf.now in
    let numbers = leaf.numbers.items in
    let within : c.loop-at.at < length numbers = omega arith in
    let mark = mark_is c.args.asked c.args.rings.now numbers leaf.boxes.items c.boxes_meet.new.mask c.loop-at.at leaf.around
    (rw c.deref.ensures.value at c.boxes_meet.ensures.marked) c.requires.is_leaf.own c.requires.is_leaf.covers within in
    let number : c.index.result.now ≡ get_or numbers c.loop-at.at 0 =
    c.index.ensures ∙ get_or_default_zero numbers c.loop-at.at c.index.result.now within in
    rw (number, ← c.requires.asked.at_start) mark
