use Rattle.std.proofs.Common.{◌≡◌, ◌∙◌, [], false, map, sym}
use Rattle.std.specs.List.{filter}
use Rattle.std.proofs.lemmas.List.{append-nil}
use Rattle.lanes_geo.specs.Nesting.{ring_at}
use Rattle.ring_nest.specs.Around.{around, may_hold}
use Rattle.ring_nest.specs.Holders.{box_of_tree, is_holder, numbers_of}
use Rattle.ring_nest.proofs.Walked.{boxed_at, none_in, ring_is, tree_covers}
use Rattle.ring_nest.proofs.tree.+add_holders.Goals as goal

pub returns-then-not-may_hold : goal.returns-then-not-may_hold
returns-then-not-may_hold t c =
    let rings = c.args.rings.now in
    let tree = c.args.tree.now in
    let asked = c.requires.asked in
    let ring = ring_is rings c.args.number c.index-rings-number.result asked.within c.index-rings-number.is in
    let beside : may_hold (box_of_tree tree) (ring_at rings c.args.number) ≡ false =
    rw (ring, ← c.around_of.ensures, ← c.as_slice.ensures.items) (sym c.may_hold.ensures ∙ c.if-not-may_hold.true) in
    let none : filter (is_holder rings (ring_at rings c.args.number)) (numbers_of tree) ≡ [] =
    none_in rings (box_of_tree tree) (ring_at rings c.args.number) (numbers_of tree) asked.boxed
    (boxed_at rings c.args.number asked.boxed asked.within)
    (tree_covers (map around rings) tree c.requires.is_tree) beside in
    rw (none, append-nil)
