-- What is crossed between a place and the one next to it in the west.
use Rattle.std.proofs.Common.{◌≡◌, ℕ, ◌+◌, ◌-◌, ◌≤◌, arith, Bool, true, false, cond, nat_eq, List, [], ◌∷◌, zero, suc, refl, sym, ap, ◌∙◌, ◌<◌, get_or, length}
use Rattle.std.specs.List.{AllByRecursion}
use Rattle.std.proofs.lemmas.Bool.Decides.{nat_tests}
use Rattle.lanes_geo.specs.Crossing.{crossings, odd}
use Rattle.lanes_geo.specs.Grid.{IsPlace, east_of}
use Rattle.osm_base.specs.values.Place.{PlaceOf}
use Rattle.lanes_geo.specs.Nesting.{Ring, ring_at}
use Rattle.ring_nest.specs.Around.{IsBoxed}
use Rattle.ring_nest.specs.Opened.{crossings_in, odd_in, sum_open}
use Rattle.ring_nest.specs.Told.{Tells, is_marked, marked_holders, near, own_part, westward}
use Rattle.ring_nest.proofs.Depths.{crossed_more, marked_holders as marked_are}
use Rattle.ring_nest.proofs.Sums.{sum_less}

all_more : (place : PlaceOf) (rings : List Ring) → IsPlace place → 1 ≤ east_of place → AllByRecursion IsBoxed rings
    → AllByRecursion (λ (ring : Ring). crossings ring place ≤ crossings ring (westward place)) rings
all_more place [] here some all = tt
all_more place (ring ∷ rings) here some all = (crossed_more place ring here some all.0.on_earth, all_more place rings here some all.1)

near_is : (place : PlaceOf) (rings : List Ring) (marks : List Bool) → IsPlace place → 1 ≤ east_of place → AllByRecursion IsBoxed rings
    → sum_open (near place) rings marks + crossings_in place rings marks ≡ crossings_in (westward place) rings marks
near_is place rings marks here some all =
    sum_less (λ ring. crossings ring (westward place)) (λ ring. crossings ring place) rings marks (all_more place rings here some all)

same_as : (m n : ℕ) → nat_eq m n ≡ true → m ≡ n
same_as m n e = grind (arith, nat_tests)

part_is : (f : Ring → ℕ) (rings : List Ring) (marks : List Bool) (at some : ℕ) (mark : Bool) → is_marked marks at ≡ mark → some ≡ cond mark (f (ring_at rings at)) 0
    → some ≡ own_part f rings marks at
part_is f rings marks at some mark e is = rw e is

pub none_near : (place : PlaceOf) (rings : List Ring) (marks : List Bool) (at between beside here : ℕ) → IsPlace place → 1 ≤ east_of place
    → AllByRecursion IsBoxed rings → is_marked marks at ≡ false → beside ≡ crossings_in (westward place) rings marks → here ≡ crossings_in place rings marks
    → between ≡ beside - here → nat_eq between 0 ≡ true → sum_open (near place) rings marks ≡ own_part (near place) rings marks at
none_near place rings marks at between beside here own some all mark west is less e =
    let none = same_as between 0 e in
    let sums = near_is place rings marks own some all in
    part_is (near place) rings marks at (sum_open (near place) rings marks) false mark (omega (arith, none, sums, west, is, less))

pub own_near : (place : PlaceOf) (rings : List Ring) (marks : List Bool) (at between beside here some_own : ℕ) → IsPlace place → 1 ≤ east_of place
    → AllByRecursion IsBoxed rings → is_marked marks at ≡ true → beside ≡ crossings_in (westward place) rings marks → here ≡ crossings_in place rings marks
    → between ≡ beside - here → some_own ≡ near place (ring_at rings at) → nat_eq between some_own ≡ true
    → sum_open (near place) rings marks ≡ own_part (near place) rings marks at
own_near place rings marks at between beside here some_own own some all mark west is less part e =
    let same = same_as between some_own e in
    let sums = near_is place rings marks own some all in
    part_is (near place) rings marks at (sum_open (near place) rings marks) true mark (omega (arith, same, sums, west, is, less, part))

-- a mark and a ring by their number
pub marked_at : (marks : List Bool) (at : ℕ) (mark : Bool) → mark ≡ get_or marks at mark → at < length marks → mark ≡ true → is_marked marks at ≡ true
marked_at [] at mark is within e = absurd (omega arith)
marked_at (own ∷ marks) zero mark is within e = sym is ∙ e
marked_at (own ∷ marks) (suc at) mark is within e = marked_at marks at mark is (omega arith) e

pub ring_with : (rings : List Ring) (at : ℕ) (ring : Ring) → ring ≡ get_or rings at ring → at < length rings → ring ≡ ring_at rings at
ring_with [] at ring is within = absurd (omega arith)
ring_with (own ∷ rings) zero ring is within = is
ring_with (own ∷ rings) (suc at) ring is within = ring_with rings at ring is (omega arith)

pub near_part : (place west : PlaceOf) (ring : Ring) (some beside here : ℕ) → west ≡ westward place → beside ≡ crossings ring west → here ≡ crossings ring place
    → some ≡ beside - here → some ≡ near place ring
near_part place west ring some beside here e f g h = h ∙ (rw (f, g, e) refl)

all_on_earth : (rings : List Ring) → AllByRecursion IsBoxed rings → AllByRecursion (AllByRecursion IsPlace) rings
all_on_earth [] all = tt
all_on_earth (ring ∷ rings) all = (all.0.on_earth, all_on_earth rings all.1)

boxed_at : (rings : List Ring) (at : ℕ) → AllByRecursion IsBoxed rings → at < length rings → AllByRecursion IsPlace (ring_at rings at)
boxed_at [] at all within = absurd (omega arith)
boxed_at (ring ∷ rings) zero all within = all.0.on_earth
boxed_at (ring ∷ rings) (suc at) all within = boxed_at rings at all.1 (omega arith)

first_here : (place : PlaceOf) (rest ring : Ring) → ring ≡ place ∷ rest → AllByRecursion IsPlace ring → IsPlace place
first_here place rest ring is all = (rw is at all).0

-- the first place of the ring with a number is one of the earth
pub place_here : (rings : List Ring) (at : ℕ) (place : PlaceOf) (rest : Ring) → AllByRecursion IsBoxed rings → at < length rings
    → ring_at rings at ≡ place ∷ rest → IsPlace place
place_here rings at place rest all within is = first_here place rest (ring_at rings at) is (boxed_at rings at all within)

-- how many marked rings hold a ring, where it is told
pub told_by : (rings : List Ring) (marks : List Bool) (at : ℕ) (place : PlaceOf) (rest : Ring) (inside : ℕ) (mark is_odd : Bool) → length marks ≡ length rings
    → at < length rings → AllByRecursion IsBoxed rings → ring_at rings at ≡ place ∷ rest → 1 ≤ east_of place → Tells rings marks at place
    → inside ≡ odd_in place rings marks → is_marked marks at ≡ mark → odd (ring_at rings at) place ≡ is_odd
    → marked_holders rings marks (ring_at rings at) + cond {A = ℕ} mark (cond is_odd 1 0) 0 ≡ inside
told_by rings marks at place rest inside mark is_odd same within all own some tells is m o =
    let here = place_here rings at place rest all within own in
    let both = marked_are rings marks at place rest same within (all_on_earth rings all) own here some tells in
    rw (m, o) at both ∙ sym is

unmarked_at : (marks : List Bool) (at : ℕ) (mark : Bool) → mark ≡ get_or marks at mark → at < length marks → is_marked marks at ≡ mark
unmarked_at [] at mark is within = absurd (omega arith)
unmarked_at (own ∷ marks) zero mark is within = sym is
unmarked_at (own ∷ marks) (suc at) mark is within = unmarked_at marks at mark is (omega arith)

pub mark_with : (marks : List Bool) (at : ℕ) (mark own : Bool) → mark ≡ get_or marks at mark → at < length marks → mark ≡ own → is_marked marks at ≡ own
mark_with marks at mark own is within e = unmarked_at marks at mark is within ∙ e

-- a ring without its first place
abbrev pub behind_first : Ring → Ring
behind_first [] = []
behind_first (place ∷ rest) = rest

pub begins : (ring : Ring) (place : PlaceOf) → 1 ≤ length ring → place ≡ get_or ring 0 place → ring ≡ place ∷ behind_first ring
begins [] place some is = absurd (omega arith)
begins (own ∷ rest) place some is = ap (λ first. first ∷ rest) (sym is)
