-- A segment from its end to its start meets and crosses what it did.
use Rattle.std.proofs.Common.{◌≡◌, ℕ, ◌+◌, ◌*◌, ◌<◌, ◌≤◌, refl, sym, ◌∙◌, arith, nat_lt, ℤ, Bool, true, false, cond, not, ◌&&◌}
use Rattle.std.specs.Int.{int_min, int_max}
use Rattle.std.specs.List.{list_all}
use Rattle.std.proofs.lemmas.Int.{ints}
use Rattle.osm_base.specs.values.Place.{PlaceOf}
use Rattle.osm_base.specs.declared.values.place.GeoBox.{GeoBox}
use Rattle.lanes_geo.specs.Crossing.{Segment, crosses}
use Rattle.tile_cover.specs.Tile.{is_on_one_side, is_on_other_side, touches, corners}
use Rattle.tile_cover.proofs.Sides.{IsTold, IsToldPlace, one_side_is, other_side_is}
use Rattle.tile_cover.proofs.Touches.{IsToldBox}
use Rattle.tile_cover.proofs.Crossed.{lat_order}
use mathlib.Core.Bool.{beq}
use Rattle.std.proofs.lemmas.Bool.Decides.{nat_tests}

abbrev pub turned : Segment → Segment
turned s = record { start = s.end; end = s.start }

pub turned_told : (s : Segment) (A a B b : ℕ) → IsTold s A a B b → IsTold (turned s) B b A a
turned_told s A a B b e = record { start_lon = e.end_lon; start_lat = e.end_lat; end_lon = e.start_lon; end_lat = e.start_lat }

one_turned : (s : Segment) (place : PlaceOf) (A a B b X v : ℕ) → IsTold s A a B b → IsToldPlace place X v
    → is_on_one_side (turned s) place ≡ is_on_other_side s place
one_turned s place A a B b X v e f =
    one_side_is (turned s) place B b A a X v (turned_told s A a B b e) f
    ∙ rw (moved (X * a) (A * b) (B * v), ← moved (X * b) (B * a) (A * v)) (sym (other_side_is s place A a B b X v e f))
  where
    moved : (x y z : ℕ) → x + (y + z) ≡ (x + y) + z
    moved x y z = omega arith

other_turned : (s : Segment) (place : PlaceOf) (A a B b X v : ℕ) → IsTold s A a B b → IsToldPlace place X v
    → is_on_other_side (turned s) place ≡ is_on_one_side s place
other_turned s place A a B b X v e f = sym (one_turned (turned s) place B b A a X v (turned_told s A a B b e) f)

least_turned : (y z : ℤ) → int_min y z ≡ int_min z y
least_turned y z = grind (arith, ints)

most_turned : (y z : ℤ) → int_max y z ≡ int_max z y
most_turned y z = grind (arith, ints)

neither_turned : (m p q : Bool) → (m && (not p && not q)) ≡ (m && (not q && not p))
neither_turned m true true = refl
neither_turned m true false = refl
neither_turned m false true = refl
neither_turned m false false = refl

corners_told : (box : GeoBox) (P Q l h : ℕ) → IsToldBox box P Q l h
    → IsToldPlace (record { lon = box.west; lat = box.south }) P l × IsToldPlace (record { lon = box.west; lat = box.north }) P h
    × IsToldPlace (record { lon = box.east; lat = box.south }) Q l × IsToldPlace (record { lon = box.east; lat = box.north }) Q h
corners_told box P Q l h t = (
  record { lon = t.west; lat = t.south },
  record { lon = t.west; lat = t.north },
  record { lon = t.east; lat = t.south },
  record { lon = t.east; lat = t.north },
)

all_one_turned : (s : Segment) (box : GeoBox) (A a B b P Q l h : ℕ) → IsTold s A a B b → IsToldBox box P Q l h
    → list_all (is_on_one_side (turned s)) (corners box) ≡ list_all (is_on_other_side s) (corners box)
all_one_turned s box A a B b P Q l h e t =
    let c = corners_told box P Q l h t in
    rw (
      one_turned s _ A a B b P l e c.0,
      one_turned s _ A a B b P h e c.1,
      one_turned s _ A a B b Q l e c.2,
      one_turned s _ A a B b Q h e c.3,
    ) refl

all_other_turned : (s : Segment) (box : GeoBox) (A a B b P Q l h : ℕ) → IsTold s A a B b → IsToldBox box P Q l h
    → list_all (is_on_other_side (turned s)) (corners box) ≡ list_all (is_on_one_side s) (corners box)
all_other_turned s box A a B b P Q l h e t =
    let c = corners_told box P Q l h t in
    rw (
      other_turned s _ A a B b P l e c.0,
      other_turned s _ A a B b P h e c.1,
      other_turned s _ A a B b Q l e c.2,
      other_turned s _ A a B b Q h e c.3,
    ) refl

pub touches_turned : (s : Segment) (box : GeoBox) (A a B b P Q l h : ℕ) → IsTold s A a B b → IsToldBox box P Q l h
    → touches box (turned s) ≡ touches box s
touches_turned s box A a B b P Q l h e t =
    rw (
      least_turned s.end.lon s.start.lon,
      least_turned s.end.lat s.start.lat,
      most_turned s.end.lon s.start.lon,
      most_turned s.end.lat s.start.lat,
      all_one_turned s box A a B b P Q l h e t,
      all_other_turned s box A a B b P Q l h e t,
    )
    (neither_turned _ (list_all (is_on_other_side s) (corners box)) (list_all (is_on_one_side s) (corners box)))

picked : (p q r t x y : Bool) (a b v : ℕ) → p ≡ nat_lt v a → q ≡ nat_lt v b → r ≡ nat_lt a b → t ≡ nat_lt b a
    → cond (cond (beq q p) false true) (cond t y x) false ≡ cond (cond (beq p q) false true) (cond r x y) false
picked true true r t x y a b v e f g h = refl
picked false false r t x y a b v e f g h = refl
picked true false true t x y a b v e f g h =
    let i : v < a = grind (arith, nat_tests) in let j : b ≤ v = grind (arith, nat_tests) in let k : a < b = grind (arith, nat_tests) in
    absurd (omega arith)
picked true false false true x y a b v e f g h = refl
picked true false false false x y a b v e f g h =
    let i : v < a = grind (arith, nat_tests) in let j : b ≤ v = grind (arith, nat_tests) in let k : a ≤ b = grind (arith, nat_tests) in
    absurd (omega arith)
picked false true true true x y a b v e f g h =
    let i : a < b = grind (arith, nat_tests) in let j : b < a = grind (arith, nat_tests) in absurd (omega arith)
picked false true true false x y a b v e f g h = refl
picked false true false t x y a b v e f g h =
    let i : a ≤ v = grind (arith, nat_tests) in let j : v < b = grind (arith, nat_tests) in let k : b ≤ a = grind (arith, nat_tests) in
    absurd (omega arith)

pub crosses_turned : (s : Segment) (place : PlaceOf) (A a B b X v : ℕ) → IsTold s A a B b → IsToldPlace place X v
    → crosses place (turned s) ≡ crosses place s
crosses_turned s place A a B b X v e f =
    rw (
      lat_order _ _ v a f.lat e.start_lat,
      lat_order _ _ v b f.lat e.end_lat,
      lat_order _ _ a b e.start_lat e.end_lat,
      lat_order _ _ b a e.end_lat e.start_lat,
      one_turned s place A a B b X v e f,
      other_turned s place A a B b X v e f,
    )
    (picked (nat_lt v a) (nat_lt v b) (nat_lt a b) (nat_lt b a) (is_on_one_side s place)
    (is_on_other_side s place) a b v refl refl refl refl)
