use Rattle.std.proofs.Common.{◌≡◌, ◌+◌, ◌∷◌, drop, sym}
use Rattle.lanes_geo.specs.Grid.{IsPlace}
use Rattle.ring_nest.specs.Around.{around}
use Rattle.ring_nest.proofs.Apart.{out_of_it}
use Rattle.ring_nest.proofs.Held.{all_at, first_of}
use Rattle.ring_nest.proofs.Itself.{not_itself}
use Rattle.ring_nest.proofs.rings.holds.Goals as goal

pub returns-then-is_same : goal.returns-then-is_same
returns-then-is_same c = rw (c.is_same.ensures c.if-is_same.true) (sym (not_itself c.args.other.now))

pub returns-then-not-is_met : goal.returns-then-not-is_met
returns-then-not-is_met c =
    let ring = c.args.ring.now in
    let other = c.args.other.now in
    let at = c.loop-place.place-index in
    let place = c.place-item.result in
    let here : drop at other ≡ place ∷ drop (at + 1) other = rw (first_of other at place c.loop-place-test.true, ← c.place-item.is) in
    let apart = rw (c.box_of_place.ensures, c.requires.own) at c.if-not-is_met.ensures in
    let on_earth = all_at IsPlace other at place c.requires.other.on_earth c.loop-place-test.true c.place-item.is in
    let out = out_of_it ring (drop (at + 1) other) place (around ring) c.requires.boxed.closed c.requires.boxed.on_earth on_earth
    c.requires.boxed.within (sym apart) in
    rw (← c.loop-place.invariant, here) (sym out)

pub returns-then-not-lies_on : goal.returns-then-not-lies_on
returns-then-not-lies_on c =
    let other = c.args.other.now in
    let at = c.loop-place.place-index in
    let place = c.place-item.result in
    let here : drop at other ≡ place ∷ drop (at + 1) other = rw (first_of other at place c.loop-place-test.true, ← c.place-item.is) in
    rw (c.odd_crossings.ensures, ← c.loop-place.invariant, here, ← c.if-not-lies_on.ensures)
