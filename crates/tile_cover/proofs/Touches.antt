-- Whether a segment touches a tile, told by the part of the segment in the row of the tile.
use Rattle.std.proofs.Common.{◌≡◌, ℕ, ◌+◌, ◌*◌, ◌<◌, ◌≤◌, refl, sym, ◌∙◌, arith, nat_lt, nat_le, min, max, ℤ, pos, ◌-ℤ◌, int_le, Bool, true}
use Rattle.std.proofs.Common.{false, not, ◌&&◌, ◌⊎◌, inl, inr}
use Rattle.std.specs.Int.{int_min, int_max}
use Rattle.std.specs.List.{list_all}
use Rattle.std.proofs.lemmas.Int.{ints}
use Rattle.std.proofs.lemmas.Bool.Decides.{nat_tests}
use Rattle.osm_base.specs.values.Place.{PlaceOf}
use Rattle.osm_base.specs.declared.values.place.GeoBox.{GeoBox}
use Rattle.lanes_geo.specs.Box.{meets}
use Rattle.lanes_geo.specs.Crossing.{Segment}
use Rattle.tile_cover.specs.Tile.{is_on_one_side, is_on_other_side, segment_box, touches, corners}
use Rattle.tile_cover.proofs.Sides.{IsTold, IsToldPlace, one_side_is, other_side_is}
use Rattle.tile_cover.proofs.Parts.{IsWest, IsEast, IsPart, west_west, east_east, west_why, east_why, west_part, east_part, level_west}
use Rattle.tile_cover.proofs.Parts.{level_east}

pub record IsToldBox (box : GeoBox) (P Q l h : ℕ) : Type 0 where
  pub west : box.west ≡ pos P
  pub east : box.east ≡ pos Q
  pub south : box.south ≡ pos l -ℤ pos 900000000
  pub north : box.north ≡ pos h -ℤ pos 900000000
  pub wide : P ≤ Q
  pub high : l ≤ h

-- tests
pub same_tests : (p q : Bool) → (p ≡ true → q ≡ true) → (q ≡ true → p ≡ true) → p ≡ q
same_tests true q f g = sym (f refl)
same_tests false true f g = absurd (let e = g refl in cc)
same_tests false false f g = refl

pub no_test : (p : Bool) → (p ≡ true → ⊥) → p ≡ false
no_test true f = absurd (f refl)
no_test false f = refl

pub both_true : (p q : Bool) → (p && q) ≡ true → (p ≡ true) × (q ≡ true)
both_true true true e = (refl, refl)
both_true true false e = absurd (cc)
both_true false q e = absurd (cc)

pub not_true : (p : Bool) → not p ≡ true → p ≡ true → ⊥
not_true true e f = cc
not_true false e f = cc

pub lt_true : (x y : ℕ) → nat_lt x y ≡ true → x < y
lt_true x y e = grind (arith, nat_tests)

pub true_lt : (x y : ℕ) → x < y → nat_lt x y ≡ true
true_lt x y e = grind (arith, nat_tests)

pub le_true : (x y : ℕ) → nat_le x y ≡ true → x ≤ y
le_true x y e = grind (arith, nat_tests)

pub true_le : (x y : ℕ) → x ≤ y → nat_le x y ≡ true
true_le x y e = grind (arith, nat_tests)

pub at_most : (x y : ℕ) → (y < x → ⊥) → x ≤ y
at_most x y f = omega arith

all_four : (p q r t : Bool) → (p && (q && (r && (t && true)))) ≡ true → (p ≡ true) × (q ≡ true) × (r ≡ true) × (t ≡ true)
all_four true true true true e = (refl, refl, refl, refl)
all_four true true true false e = absurd (cc)
all_four true true false t e = absurd (cc)
all_four true false r t e = absurd (cc)
all_four false q r t e = absurd (cc)

-- one corner
pub west_of_test : (s : Segment) (place : PlaceOf) (A a B b X v : ℕ) → IsTold s A a B b → IsToldPlace place X v
    → is_on_one_side s place ≡ true → IsWest A a B b X v
west_of_test s place A a B b X v e f g = record { sums = lt_true _ _ (sym (one_side_is s place A a B b X v e f) ∙ g) }

pub test_of_west : (s : Segment) (place : PlaceOf) (A a B b X v : ℕ) → IsTold s A a B b → IsToldPlace place X v → IsWest A a B b X v
    → is_on_one_side s place ≡ true
test_of_west s place A a B b X v e f g = one_side_is s place A a B b X v e f ∙ true_lt _ _ g.sums

east_of_test : (s : Segment) (place : PlaceOf) (A a B b X v : ℕ) → IsTold s A a B b → IsToldPlace place X v
    → is_on_other_side s place ≡ true → IsEast A a B b X v
east_of_test s place A a B b X v e f g = record { sums = lt_true _ _ (sym (other_side_is s place A a B b X v e f) ∙ g) }

test_of_east : (s : Segment) (place : PlaceOf) (A a B b X v : ℕ) → IsTold s A a B b → IsToldPlace place X v → IsEast A a B b X v
    → is_on_other_side s place ≡ true
test_of_east s place A a B b X v e f g = other_side_is s place A a B b X v e f ∙ true_lt _ _ g.sums

south_west : (box : GeoBox) (P Q l h : ℕ) → IsToldBox box P Q l h → IsToldPlace (record { lon = box.west; lat = box.south }) P l
south_west box P Q l h t = record { lon = t.west; lat = t.south }

pub north_west_told : (box : GeoBox) (P Q l h : ℕ) → IsToldBox box P Q l h → IsToldPlace (record { lon = box.west; lat = box.north }) P h
north_west_told box P Q l h t = record { lon = t.west; lat = t.north }

south_east : (box : GeoBox) (P Q l h : ℕ) → IsToldBox box P Q l h → IsToldPlace (record { lon = box.east; lat = box.south }) Q l
south_east box P Q l h t = record { lon = t.east; lat = t.south }

north_east : (box : GeoBox) (P Q l h : ℕ) → IsToldBox box P Q l h → IsToldPlace (record { lon = box.east; lat = box.north }) Q h
north_east box P Q l h t = record { lon = t.east; lat = t.north }

-- all corners
pub all_west : (s : Segment) (box : GeoBox) (A a B b P Q l h : ℕ) → IsTold s A a B b → IsToldBox box P Q l h
    → list_all (is_on_one_side s) (corners box) ≡ true → IsWest A a B b Q l × IsWest A a B b Q h
all_west s box A a B b P Q l h e t f =
    let four = all_four _ _ _ _ f in
    (west_of_test s _ A a B b Q l e (south_east box P Q l h t) four.2, west_of_test s _ A a B b Q h e (north_east box P Q l h t) four.3)

pub west_all : (s : Segment) (box : GeoBox) (A a B b P Q l h : ℕ) → IsTold s A a B b → IsToldBox box P Q l h → a ≤ b
    → IsWest A a B b Q l → IsWest A a B b Q h → list_all (is_on_one_side s) (corners box) ≡ true
west_all s box A a B b P Q l h e t up f g = rw (
  test_of_west s _ A a B b P l e (south_west box P Q l h t) (west_west A a B b P Q l up t.wide f),
  test_of_west s _ A a B b P h e (north_west_told box P Q l h t) (west_west A a B b P Q h up t.wide g),
  test_of_west s _ A a B b Q l e (south_east box P Q l h t) f,
  test_of_west s _ A a B b Q h e (north_east box P Q l h t) g,
) refl

pub all_east : (s : Segment) (box : GeoBox) (A a B b P Q l h : ℕ) → IsTold s A a B b → IsToldBox box P Q l h
    → list_all (is_on_other_side s) (corners box) ≡ true → IsEast A a B b P l × IsEast A a B b P h
all_east s box A a B b P Q l h e t f =
    let four = all_four _ _ _ _ f in (
      east_of_test s _ A a B b P l e (south_west box P Q l h t) four.0,
      east_of_test s _ A a B b P h e (north_west_told box P Q l h t) four.1,
    )

pub east_all : (s : Segment) (box : GeoBox) (A a B b P Q l h : ℕ) → IsTold s A a B b → IsToldBox box P Q l h → a ≤ b
    → IsEast A a B b P l → IsEast A a B b P h → list_all (is_on_other_side s) (corners box) ≡ true
east_all s box A a B b P Q l h e t up f g = rw (
  test_of_east s _ A a B b P l e (south_west box P Q l h t) f,
  test_of_east s _ A a B b P h e (north_west_told box P Q l h t) g,
  test_of_east s _ A a B b Q l e (south_east box P Q l h t) (east_east A a B b P Q l up t.wide f),
  test_of_east s _ A a B b Q h e (north_east box P Q l h t) (east_east A a B b P Q h up t.wide g),
) refl

-- the boxes
lons_meet : (y z : ℤ) (A B P Q : ℕ) (u v : ℤ) → y ≡ pos A → z ≡ pos B → u ≡ pos P → v ≡ pos Q
    → (int_le u (int_max y z) && int_le (int_min y z) v) ≡ (nat_le P (max A B) && nat_le (min A B) Q)
lons_meet y z A B P Q u v e f g h = rw (e, f, g, h) (grind (arith, ints, nat_tests))

lats_meet : (y z : ℤ) (a b l h : ℕ) (u v : ℤ) → y ≡ pos a -ℤ pos 900000000 → z ≡ pos b -ℤ pos 900000000 → u ≡ pos l -ℤ pos 900000000
    → v ≡ pos h -ℤ pos 900000000
    → a ≤ b → (int_le u (int_max y z) && int_le (int_min y z) v) ≡ (nat_le l b && nat_le a h)
lats_meet y z a b l h u v e f g i up = rw (e, f, g, i) (grind (arith, ints, nat_tests))

meets_is : (s : Segment) (box : GeoBox) (A a B b P Q l h : ℕ) → IsTold s A a B b → IsToldBox box P Q l h → a ≤ b
    → meets (segment_box s) box ≡ ((nat_le P (max A B) && nat_le (min A B) Q) && (nat_le l b && nat_le a h))
meets_is s box A a B b P Q l h e t up =
    rw (lons_meet _ _ A B P Q _ _ e.start_lon e.end_lon t.west t.east, lats_meet _ _ a b l h _ _ e.start_lat e.end_lat t.south t.north up)
    refl

-- why a segment touches a tile
pub record IsTouch (s : Segment) (box : GeoBox) (A a B b P Q l h : ℕ) : Type 0 where
  pub box_east : P ≤ max A B
  pub box_west : min A B ≤ Q
  pub box_south : l ≤ b
  pub box_north : a ≤ h
  pub not_west : IsWest A a B b Q l → IsWest A a B b Q h → ⊥
  pub not_east : IsEast A a B b P l → IsEast A a B b P h → ⊥

pub touch_why : (s : Segment) (box : GeoBox) (A a B b P Q l h : ℕ) → IsTold s A a B b → IsToldBox box P Q l h → a ≤ b
    → touches box s ≡ true → IsTouch s box A a B b P Q l h
touch_why s box A a B b P Q l h e t up f =
    let parts = both_true _ _ f in
    let boxes = both_true _ _ (sym (meets_is s box A a B b P Q l h e t up) ∙ parts.0) in
    let lons = both_true _ _ boxes.0 in
    let lats = both_true _ _ boxes.1 in
    let sides = both_true _ _ parts.1 in
    record {
      box_east = le_true _ _ lons.0;
      box_west = le_true _ _ lons.1;
      box_south = le_true _ _ lats.0;
      box_north = le_true _ _ lats.1;
      not_west = λ g i. not_true _ sides.0 (west_all s box A a B b P Q l h e t up g i);
      not_east = λ g i. not_true _ sides.1 (east_all s box A a B b P Q l h e t up g i);
    }

pub why_touch : (s : Segment) (box : GeoBox) (A a B b P Q l h : ℕ) → IsTold s A a B b → IsToldBox box P Q l h → a ≤ b
    → IsTouch s box A a B b P Q l h → touches box s ≡ true
why_touch s box A a B b P Q l h e t up f =
    let west = no_test (list_all (is_on_one_side s) (corners box))
    (λ g. let all = all_west s box A a B b P Q l h e t g in f.not_west all.0 all.1) in
    let east = no_test (list_all (is_on_other_side s) (corners box))
    (λ g. let all = all_east s box A a B b P Q l h e t g in f.not_east all.0 all.1) in
    rw (
      meets_is s box A a B b P Q l h e t up,
      true_le _ _ f.box_east,
      true_le _ _ f.box_west,
      true_le _ _ f.box_south,
      true_le _ _ f.box_north,
      west,
      east,
    ) refl

-- by the part in the row
and_true : (p q : Bool) → p ≡ true → q ≡ true → (p && q) ≡ true
and_true p q e f = rw (e, f) refl

pub touches_part : (s : Segment) (box : GeoBox) (A a B b P Q l h lo hi k m n o H : ℕ) → IsTold s A a B b → IsToldBox box P Q l h
    → IsPart a b l h lo hi k m n o
    → k + m ≡ H → n + o ≡ H
    → touches box s ≡ (nat_le (min (k * B + m * A) (n * B + o * A)) (Q * H) && nat_le (P * H) (max (k * B + m * A) (n * B + o * A)))
touches_part s box A a B b P Q l h lo hi k m n o H e t p one other =
    let up : a ≤ b = let c = p.climbs in omega arith in
    same_tests _ _
    (λ f. let w = touch_why s box A a B b P Q l h e t up f in and_true _ _
    (true_le _ _ (at_most _ _ (λ (g : Q * H < min (k * B + m * A) (n * B + o * A)).
    let west = west_why A a B b l h lo hi k m n o Q p (rw one (omega arith)) (rw other (omega arith)) in
    elim west [ inl i ↦ (let j = w.box_west in let x = i.0 in let y = i.1 in omega arith) | inr i ↦ w.not_west i.0 i.1 ])))
    (true_le _ _ (at_most _ _ (λ (g : max (k * B + m * A) (n * B + o * A) < P * H).
    let east = east_why A a B b l h lo hi k m n o P p (rw one (omega arith)) (rw other (omega arith)) in
    elim east [ inl i ↦ (let j = w.box_east in let x = i.0 in let y = i.1 in omega arith) | inr i ↦ w.not_east i.0 i.1 ]))))
    (λ f. let parts = both_true _ _ f in
    let low = le_true _ _ parts.0 in
    let high = le_true _ _ parts.1 in
    let west = λ (g : ((Q < A) × (Q < B)) ⊎ (IsWest A a B b Q l × IsWest A a B b Q h)).
    let i = west_part A a B b l h lo hi k m n o Q p g in
    beyond (Q * (k + m)) (Q * (n + o)) _ _ (Q * H) (rw one refl) (rw other refl) i.0 i.1 low in
    let east = λ (g : ((A < P) × (B < P)) ⊎ (IsEast A a B b P l × IsEast A a B b P h)).
    let i = east_part A a B b l h lo hi k m n o P p g in
    before (P * (k + m)) (P * (n + o)) _ _ (P * H) (rw one refl) (rw other refl) i.0 i.1 high in
    why_touch s box A a B b P Q l h e t up (record {
      box_east = at_most _ _ (λ g. east (inl (omega arith, omega arith)));
      box_west = at_most _ _ (λ g. west (inl (omega arith, omega arith)));
      box_south = p.from_south;
      box_north = p.from_north;
      not_west = λ g i. west (inr (g, i));
      not_east = λ g i. east (inr (g, i));
    }))
  where
    beyond : (x y c d z : ℕ) → x ≡ z → y ≡ z → x < c → y < d → min c d ≤ z → ⊥
    beyond x y c d z e f g h i = omega arith

    before : (x y c d z : ℕ) → x ≡ z → y ≡ z → c < x → d < y → z ≤ max c d → ⊥
    before x y c d z e f g h i = omega arith

-- a level segment
pub touches_level : (s : Segment) (box : GeoBox) (A a B P Q l h : ℕ) → IsTold s A a B a → IsToldBox box P Q l h → l ≤ a → a ≤ h
    → touches box s ≡ (nat_le (min A B) Q && nat_le P (max A B))
touches_level s box A a B P Q l h e t south north =
    let up : a ≤ a = omega arith in
    same_tests _ _
    (λ f. let w = touch_why s box A a B a P Q l h e t up f in and_true _ _ (true_le _ _ w.box_west) (true_le _ _ w.box_east))
    (λ f. let parts = both_true _ _ f in why_touch s box A a B a P Q l h e t up (record {
      box_east = le_true _ _ parts.1;
      box_west = le_true _ _ parts.0;
      box_south = south;
      box_north = north;
      not_west = λ g i. level_west A a B l h Q south north g i;
      not_east = λ g i. level_east A a B l h P south north g i;
    }))

-- a segment that does not reach the row
pub touches_none : (s : Segment) (box : GeoBox) (A a B b P Q l h : ℕ) → IsTold s A a B b → IsToldBox box P Q l h → a ≤ b → (b < l) ⊎ (h < a)
    → touches box s ≡ false
touches_none s box A a B b P Q l h e t up f = no_test _ (λ g. let w = touch_why s box A a B b P Q l h e t up g in
    let south = w.box_south in let north = w.box_north in elim f [ inl i ↦ omega arith | inr i ↦ omega arith ])
