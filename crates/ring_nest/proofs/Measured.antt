-- What the edges of rings that open tell of a place.
use Rattle.std.proofs.Common.{◌≡◌, ℕ, ◌+◌, ◌%◌, ◌==◌, ◌≤◌, refl, sym, inl, inr, Bool, true, false, cond, List, [], ◌∷◌, ◌++◌, length, length-append, arith}
use Rattle.std.specs.List.{AllByRecursion}
use Rattle.std.proofs.lemmas.Bool.Decides.{nat_tests}
use Rattle.std.proofs.lemmas.Int.{ints}
use Rattle.lanes_geo.specs.Crossing.{crossings, odd}
use Rattle.lanes_geo.specs.Grid.{IsPlace, east_of, north_of}
use Rattle.osm_base.specs.values.Place.{PlaceOf}
use Rattle.lanes_geo.specs.Nesting.{Ring}
use Rattle.ring_nest.specs.Edge.{EdgeOf}
use Rattle.ring_nest.specs.declared.opened.TheConstants.{TOP}
use Rattle.ring_nest.specs.Edges.{falling, passes, rising}
use Rattle.ring_nest.specs.Opened.{AreMeasured, IsMeasured, count_at, sum_open}
use Rattle.ring_nest.specs.Opening.{IsOpened, OpensIn}
use Rattle.std.proofs.lemmas.List.Sums.{sum_by-append}
use Rattle.ring_nest.proofs.RingEdges.{crossed}

-- ---- the edges of a ring

pub north_fits : (place : PlaceOf) → IsPlace place → north_of place ≤ 1800000000
north_fits place here = let top = here.north in let low = here.south in grind (arith, ints)

pub east_fits : (place : PlaceOf) → IsPlace place → east_of place ≤ 3600000000
east_fits place here = let top = here.east in let low = here.west in grind (arith, ints)

-- ---- a ring that opens

by_parity : (m p c : ℕ) → IsOpened m p → c ≡ p + m → p ≡ m + cond (c % 2 == 1) 1 0
by_parity m p c (inl e) f =
    let even : (c % 2 == 1) ≡ false = grind (arith, nat_tests, e, f) in
    rw even (omega (arith, e))
by_parity m p c (inr e) f =
    let is_odd : (c % 2 == 1) ≡ true = grind (arith, nat_tests, e, f) in
    rw is_odd (omega (arith, e))

pub opens_up : (own : Ring) → AllByRecursion IsPlace own → OpensIn 0 TOP (falling own) (rising own)
    → IsMeasured own (falling own) (rising own)
opens_up own all opens = record {
  inside = λ place here.
      let low = north_fits place here in
      by_parity (count_at place (falling own)) (count_at place (rising own)) (crossings own place)
      (opens (north_of place) (east_of place) (omega arith) (omega (arith, low))) (crossed place own here all);
  crossed = λ place here. sym (crossed place own here all);
}

pub opens_down : (own : Ring) → AllByRecursion IsPlace own → OpensIn 0 TOP (rising own) (falling own)
    → IsMeasured own (rising own) (falling own)
opens_down own all opens = record {
  inside = λ place here.
      let low = north_fits place here in
      by_parity (count_at place (rising own)) (count_at place (falling own)) (crossings own place)
      (opens (north_of place) (east_of place) (omega arith) (omega (arith, low))) (let all_of = crossed place own here all in omega (arith, all_of));
  crossed = λ place here. let all_of = crossed place own here all in omega (arith, all_of);
}

-- ---- several rings

count_more : (place : PlaceOf) (some more : List EdgeOf) → count_at place (some ++ more) ≡ count_at place some + count_at place more
count_more place some more = sum_by-append (λ (edge : EdgeOf). cond {A = ℕ} (passes (north_of place) (east_of place) edge) 1 0) some more

sum_more : (f : Ring → ℕ) (rings : List Ring) (marks : List Bool) (own : Ring) (mark : Bool) → length marks ≡ length rings
    → sum_open f (rings ++ own ∷ []) (marks ++ mark ∷ []) ≡ sum_open f rings marks + cond mark (f own) 0
sum_more f [] [] own mark e = omega arith
sum_more f [] (first ∷ marks) own mark e = absurd (omega (arith, e))
sum_more f (ring ∷ rings) [] own mark e = absurd (omega (arith, e))
sum_more f (ring ∷ rings) (first ∷ marks) own mark e =
    let more = sum_more f rings marks own mark (omega (arith, e)) in
    omega (arith, more)

more_marked : (rings : List Ring) (marks : List Bool) (own : Ring) (mark : Bool) → length marks ≡ length rings
    → length (marks ++ mark ∷ []) ≡ length (rings ++ own ∷ [])
more_marked rings marks own mark e = omega (arith, e, length-append marks (mark ∷ []), length-append rings (own ∷ []))

pub one_more : (rings : List Ring) (marks : List Bool) (minus plus m p : List EdgeOf) (own : Ring) → AreMeasured rings marks minus plus → IsMeasured own m p
    → AreMeasured (rings ++ own ∷ []) (marks ++ true ∷ []) (minus ++ m) (plus ++ p)
one_more rings marks minus plus m p own so_far one = record {
  marked = more_marked rings marks own true so_far.marked;
  inside = λ place here. omega (
    arith,
    so_far.inside place here,
    one.inside place here,
    count_more place minus m,
    count_more place plus p,
    sum_more (λ ring. cond (odd ring place) 1 0) rings marks own true so_far.marked,
  );
  crossed = λ place here. omega (
    arith,
    so_far.crossed place here,
    one.crossed place here,
    count_more place minus m,
    count_more place plus p,
    sum_more (λ ring. crossings ring place) rings marks own true so_far.marked,
  );
}

pub none_more : (rings : List Ring) (marks : List Bool) (minus plus : List EdgeOf) (own : Ring) → AreMeasured rings marks minus plus
    → AreMeasured (rings ++ own ∷ []) (marks ++ false ∷ []) minus plus
none_more rings marks minus plus own so_far = record {
  marked = more_marked rings marks own false so_far.marked;
  inside = λ place here. omega (arith, so_far.inside place here, sum_more (λ ring. cond (odd ring place) 1 0) rings marks own false so_far.marked);
  crossed = λ place here. omega (arith, so_far.crossed place here, sum_more (λ ring. crossings ring place) rings marks own false so_far.marked);
}

pub none_yet : AreMeasured [] [] [] []
none_yet = record { marked = refl; inside = λ place here. refl; crossed = λ place here. refl }
