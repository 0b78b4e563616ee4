-- Places that are all north of a latitude, or all not, and what is left of a ring.
use Rattle.std.proofs.Common.{◌≡◌, ℕ, ◌+◌, ◌<◌, ◌≤◌, ◌-◌, suc, zero, refl, ap, arith, int_lt, Bool, true, false, cond, List, [], ◌∷◌, ◌++◌}
use Rattle.std.proofs.Common.{length, take, drop, get_or, length-drop, count_by, slice_range, add_comm}
use Rattle.std.specs.List.{AllByRecursion}
use Rattle.std.proofs.Math.Seq.{take-add}
use Rattle.std.proofs.lemmas.Grind.{common_steps}
use Rattle.std.proofs.lemmas.List.{drop-drop}
use Rattle.std.proofs.lemmas.List.Sums.{sum_by-cons, sum_by-append, count_by-le-length}
use Rattle.osm_base.specs.values.Place.{PlaceOf}
use Rattle.lanes_geo.specs.Crossing.{Segment, segments, segments_from, crosses, crossings}
use Rattle.lanes_geo.proofs.Segments.{rest_at, next_place, length-segments_from}

-- a place is north of a latitude, or not
abbrev pub IsOnSide : PlaceOf → Bool → PlaceOf → Type 0
IsOnSide place side other = int_lt place.lat other.lat ≡ side

same_side : (side : Bool) (place : PlaceOf) (s : Segment) → IsOnSide place side s.start → IsOnSide place side s.end
    → crosses place s ≡ false
same_side true place s e f = rw (e, f)
same_side false place s e f = rw (e, f)

pub none_crossed : (side : Bool) (place p : PlaceOf) (xs : List PlaceOf) → IsOnSide place side p → AllByRecursion (IsOnSide place side) xs
    → count_by (crosses place) (segments_from p xs) ≡ 0
none_crossed side place p [] e f = refl
none_crossed side place p (x ∷ xs) e f =
    let one = same_side side place (record { start = p; end = x }) e f.0 in
    let more = none_crossed side place x xs f.0 f.1 in
    rw (sum_by-cons, one, more)

-- the segments up to a place, and from it on
split_at : (n : ℕ) (p : PlaceOf) (xs : List PlaceOf) → n < length xs
    → segments_from p xs ≡ segments_from p (take (suc n) xs) ++ segments (drop n xs)
split_at zero p [] h = absurd (omega arith)
split_at zero p (x ∷ xs) h = refl
split_at (suc n) p [] h = absurd (omega arith)
split_at (suc n) p (x ∷ xs) h = ap (λ ys. record { start = p; end = x } ∷ ys) (split_at n x xs (omega arith))

abbrev one_if : PlaceOf → Segment → ℕ
one_if place s = cond (crosses place s) 1 0

drop_again : (n at to : ℕ) (xs : List PlaceOf) → to ≡ n + at → drop n (drop at xs) ≡ drop to xs
drop_again n at to xs e = rw (e, add_comm n at) (drop-drop n at xs)

-- the crossings of some places, and of what is left
more_from : (n : ℕ) (ring : List PlaceOf) (place : PlaceOf) (at : ℕ) → at + suc (suc n) ≤ length ring
    → crossings (drop at ring) place ≡ crossings (slice_range ring at (at + suc (suc n))) place + crossings (drop (at + suc n) ring) place
more_from n ring place at h =
    let r = rest_at at ring (omega arith) in
    let room : n < length (drop (at + 1) ring) = rw length-drop (omega arith) in
    let cut : (at + suc (suc n)) - at ≡ suc (suc n) = omega arith in
    rw (
      cut,
      r.1,
      split_at n r.0 (drop (at + 1) ring) room,
      sum_by-append (one_if place) (segments_from r.0 (take (suc n) (drop (at + 1) ring))) (segments (drop n (drop (at + 1) ring))),
      drop_again n (at + 1) (at + suc n) ring (omega arith),
    )

pub thirty_two_more : (ring : List PlaceOf) (place : PlaceOf) (at : ℕ) → at + 33 ≤ length ring
    → crossings (drop at ring) place ≡ crossings (slice_range ring at (at + 33)) place + crossings (drop (at + 32) ring) place
thirty_two_more ring place at h = more_from 31 ring place at h

-- the crossings of thirty-three places, in two parts
pub two_parts : (ring : List PlaceOf) (place : PlaceOf) (at : ℕ) → at + 33 ≤ length ring
    → crossings (slice_range ring at (at + 17)) place + crossings (slice_range ring (at + 16) (at + 16 + 17)) place
    ≡ crossings (slice_range ring at (at + 33)) place
two_parts ring place at h =
    let first = more_from 15 ring place at (omega arith) in
    let end : (at + 16) + 16 ≡ at + 32 = omega arith in
    let second = rw end at (more_from 15 ring place (at + 16) (omega arith)) in
    let whole = more_from 31 ring place at h in
    omega (arith, first, second, whole)

-- the crossing of one segment, and those of what is left
pub one_more : (ring : List PlaceOf) (place start end : PlaceOf) (at : ℕ) → at + 2 ≤ length ring → start ≡ get_or ring at start
    → end ≡ get_or ring (at + 1) end
    → crossings (drop at ring) place ≡ cond (crosses place (record { start = start; end = end })) 1 0 + crossings (drop (at + 1) ring) place
one_more ring place start end at h e f =
    let first : drop at ring ≡ start ∷ drop (at + 1) ring = grind (arith, common_steps) in
    let next : drop (at + 1) ring ≡ end ∷ drop (at + 2) ring = grind (arith, common_steps) in
    rw (first, next, sum_by-cons (one_if place) (record { start = start; end = end }) (segments_from end (drop (at + 2) ring)))

pub few : (ring : List PlaceOf) (place : PlaceOf) → crossings ring place ≤ length ring
few [] place = omega arith
few (p ∷ xs) place =
    let h = count_by-le-length (crosses place) (segments_from p xs) in
    let e = length-segments_from p xs in
    omega arith

pub no_segment : (xs : List PlaceOf) (place : PlaceOf) → length xs ≤ 1 → crossings xs place ≡ 0
no_segment [] place h = refl
no_segment (x ∷ []) place h = refl
no_segment (x ∷ y ∷ xs) place h = absurd (omega arith)

-- places one after the other, and one more
pub all_append : (P : PlaceOf → Type 0) (xs ys : List PlaceOf) → AllByRecursion P xs → AllByRecursion P ys → AllByRecursion P (xs ++ ys)
all_append P [] ys e f = f
all_append P (x ∷ xs) ys e f = (e.0, all_append P xs ys e.1 f)

pub all_joined : (P : PlaceOf → Type 0) (m n at next : ℕ) (xs : List PlaceOf) → next ≡ m + at → AllByRecursion P (take m (drop at xs))
    → AllByRecursion P (take n (drop next xs))
    → AllByRecursion P (take (m + n) (drop at xs))
all_joined P m n at next xs e f g =
    rw (take-add m n (drop at xs), drop_again m at next xs e) (all_append P _ _ f g)

none_at : (side : Bool) (place : PlaceOf) (xs : List PlaceOf) → AllByRecursion (IsOnSide place side) xs → crossings xs place ≡ 0
none_at side place [] all = refl
none_at side place (x ∷ xs) all = none_crossed side place x xs all.0 all.1

-- thirty-two places on one side, and the next one on it too
pub none_level : (side : Bool) (place last : PlaceOf) (ring : List PlaceOf) (at : ℕ) → at + 33 ≤ length ring
    → AllByRecursion (IsOnSide place side) (take 32 (drop at ring)) → last ≡ get_or ring (at + 32) last → IsOnSide place side last
    → crossings (slice_range ring at (at + 33)) place ≡ 0
none_level side place last ring at h all e one =
    let cut : (at + 33) - at ≡ 32 + 1 = omega arith in
    let next = next_place ring (at + 32) (at + 33) last (omega arith) (omega arith) e in
    rw (cut, take-add 32 1 (drop at ring), drop_again 32 at (at + 32) ring (omega arith), next)
    (none_at side place _ (all_append (IsOnSide place side) (take 32 (drop at ring)) (last ∷ []) all (one, tt)))
