use Rattle.std.proofs.Common.{arith, ◌∙◌, length, refl}
use Rattle.std.proofs.lemmas.List.{length-map}
use Rattle.ring_nest.specs.Around.{around}
use Rattle.ring_nest.proofs.Marked.{unmarked_below}
use Rattle.ring_nest.proofs.known.known_with.Goals as goal

pub tree_of-requires : goal.tree_of-requires
tree_of-requires c =
    let rings = c.args.boxed.now.rings.now in
    record {
      within = rw (c.in_ok-numbers.ensures, c.deref-2.ensures.value, c.args.boxed.now.own, length-map rings around)
          (unmarked_below c.args.marks.items (length rings) (omega (arith, c.requires.marked)));
    }

pub returns : goal.returns
returns c = record {
  known = record {
    marked = c.requires.marked;
    minus = c.requires.minus;
    plus = c.requires.plus;
    inside = c.requires.inside;
    crossed = c.requires.crossed;
    rising = c.in_ok-lats.ensures.sorted;
    lats = λ north. c.in_ok-lats.ensures.count north ∙ rw c.deref.ensures.value refl;
    others = rw c.args.boxed.now.own at c.in_ok-others.ensures.is_tree;
    all_others = ∣ (rw (c.in_ok-numbers.ensures, c.deref-2.ensures.value) at c.in_ok-others.ensures.numbers) ∣₁;
  };
}
