use Rattle.std.proofs.Common.{arith, rules, ◌≡◌, ◌∙◌, ◌-◌, false, true, sym}
use Rattle.lanes_geo.specs.Nesting.{ring_at}
use Rattle.ring_nest.specs.Opened.{crossings_in}
use Rattle.ring_nest.specs.Told.{is_marked, near, westward}
use Rattle.ring_nest.proofs.Near.{marked_at, near_part, none_near, own_near, ring_with}
use Rattle.ring_nest.proofs.told.is_near_own.Goals as goal

pub returns-then-not-index : goal.returns-then-not-index
returns-then-not-index c = λ e.
    let rings = c.args.asked.now.rings.now in
    let marks = c.args.asked.now.known.now.marks.items in
    let west : c.in-Some.beside ≡ crossings_in (westward c.args.place) rings marks = rw c.requires.west.0 at c.in-Some.ensures in
    let mark : is_marked marks c.args.asked.now.number ≡ false = search rules in
    let less : c.saturating_sub-between.result ≡ c.in-Some.beside - c.in-Some-crossed_at.here = search rules in
    none_near c.args.place rings marks c.args.asked.now.number c.saturating_sub-between.result c.in-Some.beside c.in-Some-crossed_at.here
    c.requires.place.0 c.requires.place.1 c.args.asked.now.boxed mark west c.in-Some-crossed_at.ensures less e

pub returns : goal.returns
returns c = λ e.
    let rings = c.args.asked.now.rings.now in
    let marks = c.args.asked.now.known.now.marks.items in
    let west : c.in-Some.beside ≡ crossings_in (westward c.args.place) rings marks = rw c.requires.west.0 at c.in-Some.ensures in
    let mark : is_marked marks c.args.asked.now.number ≡ true =
    marked_at marks c.args.asked.now.number c.index.result.now c.index.ensures (omega (arith, c.args.asked.now.within, c.args.asked.now.is_known.marked)) (search rules) in
    let less : c.saturating_sub-between.result ≡ c.in-Some.beside - c.in-Some-crossed_at.here = search rules in
    let ring : c.as_slice-ring.result.now ≡ ring_at rings c.args.asked.now.number = c.as_slice-ring.ensures.items
    ∙ sym c.index-asked-asked.is ∙ ring_with rings c.args.asked.now.number c.index-asked-asked.result c.index-asked-asked.is c.args.asked.now.within in
    let part : c.saturating_sub-own.result ≡ near c.args.place (ring_at rings c.args.asked.now.number) =
    near_part c.args.place c.args.west (ring_at rings c.args.asked.now.number) c.saturating_sub-own.result c.crossings_of.result c.crossings_of-2.result c.requires.west.0
    (rw ring at c.crossings_of.ensures) (rw ring at c.crossings_of-2.ensures) (search rules) in
    own_near c.args.place rings marks c.args.asked.now.number c.saturating_sub-between.result c.in-Some.beside c.in-Some-crossed_at.here c.saturating_sub-own.result
    c.requires.place.0 c.requires.place.1 c.args.asked.now.boxed mark west c.in-Some-crossed_at.ensures less part e
