-- How many of the marked rings hold a ring, by what their edges tell of its first place.
use Rattle.std.proofs.Common.{◌≡◌, ◌≢◌, ℕ, ◌+◌, ◌*◌, ◌==◌, ◌<◌, ◌≤◌, zero, suc, refl, sym, ap, ◌∙◌, inl, inr, Bool, true, false, cond, ◌&&◌, List, [], ◌∷◌, length, nat_lt, count_by, arith}
use Rattle.std.specs.List.{AllByRecursion}
use Rattle.std.proofs.lemmas.Bool.{cases_Bool, eq-eqb, false≢true}
use Rattle.std.proofs.lemmas.Bool.Decides.{nat_tests}
use Rattle.std.proofs.lemmas.Int.{ints}
use Rattle.std.proofs.lemmas.List.Sums.{sum_by-cons}
use Rattle.std.proofs.lemmas.Nat.{mul-le}
use Rattle.lanes_geo.proofs.Crossed.{EndsOnEarth, crosses_is, differ, west_sum, east_sum}
use Rattle.lanes_geo.specs.Crossing.{Segment, crosses, crossings, odd, segments_from}
use Rattle.lanes_geo.specs.Grid.{IsPlace, apart, east_of, north_of}
use Rattle.osm_base.specs.values.Place.{PlaceOf}
use Rattle.lanes_geo.specs.Nesting.{Ring, holds, lies_on, ring_at}
use Rattle.ring_nest.specs.Latitudes.{at_latitude}
use Rattle.ring_nest.specs.Opened.{odd_in, sum_open}
use Rattle.ring_nest.specs.Told.{Tells, is_marked, near, own_part, westward}
use Rattle.ring_nest.proofs.Free.{lies_on_none}
use Rattle.ring_nest.proofs.Itself.{not_itself}
use Rattle.ring_nest.proofs.Sums.{only_own, sum_but}

-- ---- the place next to one in the west

pub west_on_earth : (place : PlaceOf) → IsPlace place → 1 ≤ east_of place → IsPlace (westward place)
west_on_earth place here some =
    let w = here.west in
    let e = here.east in
    record { west = grind (arith, ints); east = omega (arith, ints); south = here.south; north = here.north }

pub west_by_one : (place : PlaceOf) → IsPlace place → 1 ≤ east_of place → east_of (westward place) + 1 ≡ east_of place
west_by_one place here some = let w = here.west in grind (arith, ints)

fewer_shares : (e f d n : ℕ) → f ≤ e → nat_lt (e * d) n ≡ true → nat_lt (f * d) n ≡ true
fewer_shares e f d n le h =
    let less = mul-le f d e d le (omega arith) in
    grind (arith, nat_tests)

and_more : (a b c : Bool) → (b ≡ true → c ≡ true) → (a && b) ≡ true → (a && c) ≡ true
and_more true b c f e = f e
and_more false b c f e = absurd (cc)

-- it is passed wherever the place is
pub passed_too : (place : PlaceOf) (s : Segment) → IsPlace place → 1 ≤ east_of place → EndsOnEarth s → crosses place s ≡ true
    → crosses (westward place) s ≡ true
passed_too place s here some ends pass =
    let west = west_on_earth place here some in
    let less : east_of (westward place) ≤ east_of place = omega (arith, west_by_one place here some) in
    crosses_is (westward place) s west ends
    ∙ and_more (differ (nat_lt (north_of place) (north_of s.start)) (nat_lt (north_of place) (north_of s.end)))
    (nat_lt (west_sum place s) (east_sum place s)) (nat_lt (west_sum (westward place) s) (east_sum (westward place) s))
    (fewer_shares (east_of place) (east_of (westward place)) (apart (north_of place) (north_of s.start) + apart (north_of place) (north_of s.end)) (east_sum place s) less)
    (sym (crosses_is place s here ends) ∙ pass)

-- ---- of all segments

abbrev Implies : (f g : Segment → Bool) → Segment → Type 0
Implies f g s = f s ≡ true → g s ≡ true

one_at_most : (f g : Segment → Bool) (s : Segment) → Implies f g s → cond {A = ℕ} (f s) 1 0 ≤ cond (g s) 1 0
one_at_most f g s more = elim (cases_Bool (f s)) [
  | inl here ↦ rw (here, more here) (omega arith)
  | inr fails ↦ rw fails (omega arith)
]

count_at_most : (f g : Segment → Bool) (some : List Segment) → AllByRecursion (Implies f g) some → count_by f some ≤ count_by g some
count_at_most f g [] all = omega arith
count_at_most f g (s ∷ some) all =
    let one = one_at_most f g s all.0 in
    let rest = count_at_most f g some all.1 in
    omega (arith, one, rest, sum_by-cons (λ (own : Segment). cond {A = ℕ} (f own) 1 0) s some, sum_by-cons (λ (own : Segment). cond {A = ℕ} (g own) 1 0) s some)

back_one : (f g : Segment → Bool) (s : Segment) → cond {A = ℕ} (g s) 1 0 ≤ cond (f s) 1 0 → Implies g f s
back_one f g s le here = elim (cases_Bool (f s)) [
  | inl also ↦ also
  | inr fails ↦ absurd (let wrong : 1 ≤ 0 = rw (here, fails) at le in omega arith)
]

-- where no more of the one pass, each of the other does
pub all_back : (f g : Segment → Bool) (some : List Segment) → AllByRecursion (Implies f g) some → count_by g some ≤ count_by f some
    → AllByRecursion (Implies g f) some
all_back f g [] all le = tt
all_back f g (s ∷ some) all le =
    let one = one_at_most f g s all.0 in
    let rest = count_at_most f g some all.1 in
    let first = sum_by-cons (λ (own : Segment). cond {A = ℕ} (f own) 1 0) s some in
    let second = sum_by-cons (λ (own : Segment). cond {A = ℕ} (g own) 1 0) s some in
    (back_one f g s (omega (arith, one, rest, first, second, le)), all_back f g some all.1 (omega (arith, one, rest, first, second, le)))

-- ---- of one ring

other_latitude : (place own : PlaceOf) → (north_of own == north_of place) ≡ false → own.lat ≢ place.lat
other_latitude place own e same =
    let also : north_of own ≡ north_of place = rw same refl in
    let yes_it_is : (north_of own == north_of place) ≡ true = rw also (eq-eqb (north_of place) (north_of place) refl) in
    false≢true (sym e ∙ yes_it_is)

none_at : (place : PlaceOf) (ring : Ring) → at_latitude (north_of place) ring ≡ 0 → AllByRecursion (λ (own : PlaceOf). own.lat ≢ place.lat) ring
none_at place [] e = tt
none_at place (own ∷ ring) e =
    let parts = sum_by-cons (λ (other : PlaceOf). cond {A = ℕ} (north_of other == north_of place) 1 0) own ring in
    elim (cases_Bool (north_of own == north_of place)) [
      | inl here ↦ absurd (let one : cond {A = ℕ} (north_of own == north_of place) 1 0 ≡ 1 = rw here refl in omega (arith, e, parts, one))
      | inr fails ↦ (other_latitude place own fails, none_at place ring (let none : cond {A = ℕ} (north_of own == north_of place) 1 0 ≡ 0 = rw fails refl in omega (arith, e, parts, none)))
    ]

all_passed : (place p : PlaceOf) (ps : List PlaceOf) → IsPlace place → 1 ≤ east_of place → IsPlace p → AllByRecursion IsPlace ps
    → AllByRecursion (Implies (crosses place) (crosses (westward place))) (segments_from p ps)
all_passed place p [] here some one all = tt
all_passed place p (q ∷ ps) here some one all =
    (passed_too place (record { start = p; end = q }) here some (one, all.0), all_passed place q ps here some all.0 all.1)

pub crossed_more : (place : PlaceOf) (ring : Ring) → IsPlace place → 1 ≤ east_of place → AllByRecursion IsPlace ring
    → crossings ring place ≤ crossings ring (westward place)
crossed_more place [] here some all = omega arith
crossed_more place (p ∷ ps) here some all =
    count_at_most (crosses place) (crosses (westward place)) (segments_from p ps) (all_passed place p ps here some all.0 all.1)

ring_free : (place : PlaceOf) (ring : Ring) → IsPlace place → 1 ≤ east_of place → AllByRecursion IsPlace ring → at_latitude (north_of place) ring ≡ 0
    → near place ring ≡ 0 → lies_on ring place ≡ false
ring_free place [] here some all lats few = refl
ring_free place (p ∷ ps) here some all lats few =
    let others = none_at place (p ∷ ps) lats in
    let passed = all_passed place p ps here some all.0 all.1 in
    lies_on_none place p ps others.0 others.1
    (all_back (crosses place) (crosses (westward place)) (segments_from p ps) passed (omega (arith, few)))

holds_odd : (place : PlaceOf) (rest ring : Ring) → lies_on ring place ≡ false → holds ring (place ∷ rest) ≡ odd ring place
holds_odd place rest ring off = rw off refl

-- ---- of all marked rings

part_of : (f : Ring → ℕ) (rings : List Ring) (marks : List Bool) (other : ℕ) → is_marked marks other ≡ true → own_part f rings marks other ≡ 0
    → f (ring_at rings other) ≡ 0
part_of f rings marks other marked e = rw marked at e

boxed_at : (rings : List Ring) (other : ℕ) → AllByRecursion (AllByRecursion IsPlace) rings → other < length rings → AllByRecursion IsPlace (ring_at rings other)
boxed_at [] other all there = absurd (omega arith)
boxed_at (ring ∷ rings) zero all there = all.0
boxed_at (ring ∷ rings) (suc other) all there = boxed_at rings other all.1 (omega arith)

none_of_itself : (ring : Ring) (mark : Bool) → cond {A = ℕ} mark (cond (holds ring ring) 1 0) 0 ≡ 0
none_of_itself ring true = rw (not_itself ring) refl
none_of_itself ring false = refl

pub marked_holders : (rings : List Ring) (marks : List Bool) (at : ℕ) (place : PlaceOf) (rest : Ring) → length marks ≡ length rings → at < length rings
    → AllByRecursion (AllByRecursion IsPlace) rings → ring_at rings at ≡ place ∷ rest → IsPlace place → 1 ≤ east_of place → Tells rings marks at place
    → sum_open (λ ring. cond (holds ring (ring_at rings at)) 1 0) rings marks + own_part (λ ring. cond (odd ring place) 1 0) rings marks at ≡ odd_in place rings marks
marked_holders rings marks at place rest same within all own here some tells =
    let each : (other : ℕ) → other < length rings → other ≢ at → is_marked marks other ≡ true
    → cond {A = ℕ} (holds (ring_at rings other) (ring_at rings at)) 1 0 ≡ cond (odd (ring_at rings other) place) 1 0 = λ other there apart marked.
    let lats = part_of (at_latitude (north_of place)) rings marks other marked
    (only_own (at_latitude (north_of place)) rings marks at other same within there apart tells.lats) in
    let few = part_of (near place) rings marks other marked (only_own (near place) rings marks at other same within there apart tells.few) in
    let off = ring_free place (ring_at rings other) here some (boxed_at rings other all there) lats few in
    ap (λ b. cond {A = ℕ} b 1 0) (ap (holds (ring_at rings other)) own ∙ holds_odd place rest (ring_at rings other) off) in
    let sums = sum_but (λ ring. cond (holds ring (ring_at rings at)) 1 0) (λ ring. cond (odd ring place) 1 0) rings marks at same within each in
    let none = none_of_itself (ring_at rings at) (is_marked marks at) in
    omega (arith, sums, none)
