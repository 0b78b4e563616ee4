-- The sides of a segment's line, told by natural numbers.
use Rattle.std.proofs.Common.{◌≡◌, ℕ, ◌+◌, ◌*◌, suc, refl, arith, nat_lt, ℤ, pos, negsuc, ◌-ℤ◌, ◌*ℤ◌, int_lt}
use Rattle.std.proofs.lemmas.Int.{ints}
use Rattle.osm_base.specs.values.Place.{PlaceOf}
use Rattle.lanes_geo.specs.Crossing.{Segment, across, along}
use Rattle.tile_cover.specs.Tile.{is_on_one_side, is_on_other_side}

-- a product of two differences
product_of : (z w : ℤ) (x y u v : ℕ) → z ≡ pos x -ℤ pos y → w ≡ pos u -ℤ pos v → z *ℤ w ≡ pos (x * u + y * v) -ℤ pos (x * v + y * u)
product_of (pos i) (pos j) x y u v e f =
    let q : x ≡ y + i = omega (arith, ints) in
    let r : u ≡ v + j = omega (arith, ints) in
    rw (q, r) (omega (arith, ints))
product_of (pos i) (negsuc j) x y u v e f =
    let q : x ≡ y + i = omega (arith, ints) in
    let r : v ≡ u + suc j = omega (arith, ints) in
    rw (q, r) (omega (arith, ints))
product_of (negsuc i) (pos j) x y u v e f =
    let q : y ≡ x + suc i = omega (arith, ints) in
    let r : u ≡ v + j = omega (arith, ints) in
    rw (q, r) (omega (arith, ints))
product_of (negsuc i) (negsuc j) x y u v e f =
    let q : y ≡ x + suc i = omega (arith, ints) in
    let r : v ≡ u + suc j = omega (arith, ints) in
    rw (q, r) (omega (arith, ints))

-- a segment, or a box, with all its numbers natural
pub record IsTold (s : Segment) (A a B b : ℕ) : Type 0 where
  pub start_lon : s.start.lon ≡ pos A
  pub start_lat : s.start.lat ≡ pos a -ℤ pos 900000000
  pub end_lon : s.end.lon ≡ pos B
  pub end_lat : s.end.lat ≡ pos b -ℤ pos 900000000

pub record IsToldPlace (place : PlaceOf) (X v : ℕ) : Type 0 where
  pub lon : place.lon ≡ pos X
  pub lat : place.lat ≡ pos v -ℤ pos 900000000

-- the two sums whose order says the side
abbrev pub one_sum : (A a B b X v : ℕ) → ℕ
one_sum A a B b X v = X * b + (B * a + A * v)

abbrev pub other_sum : (A a B b X v : ℕ) → ℕ
other_sum A a B b X v = (X * a + A * b) + B * v

apart : (y z : ℤ) (least a b : ℕ) → y ≡ pos a -ℤ pos least → z ≡ pos b -ℤ pos least → y -ℤ z ≡ pos a -ℤ pos b
apart y z least a b e f = omega (arith, ints)

lons_apart : (y z : ℤ) (a b : ℕ) → y ≡ pos a → z ≡ pos b → y -ℤ z ≡ pos a -ℤ pos b
lons_apart y z a b e f = rw (e, f) refl

pub across_is : (s : Segment) (place : PlaceOf) (A a B b X v : ℕ) → IsTold s A a B b → IsToldPlace place X v
    → across place s ≡ pos (X * b + A * a) -ℤ pos (X * a + A * b)
across_is s place A a B b X v e f =
    product_of _ _ X A b a (lons_apart _ _ X A f.lon e.start_lon) (apart _ _ 900000000 b a e.end_lat e.start_lat)

pub along_is : (s : Segment) (place : PlaceOf) (A a B b X v : ℕ) → IsTold s A a B b → IsToldPlace place X v
    → along place s ≡ pos (B * v + A * a) -ℤ pos (B * a + A * v)
along_is s place A a B b X v e f =
    product_of _ _ B A v a (lons_apart _ _ B A e.end_lon e.start_lon) (apart _ _ 900000000 v a f.lat e.start_lat)

ordered : (m n o p k : ℕ) → int_lt (pos (m + k) -ℤ pos n) (pos (o + k) -ℤ pos p) ≡ nat_lt (m + p) (n + o)
ordered m n o p k = grind (arith, ints)

ordered_back : (m n o p k : ℕ) → int_lt (pos (o + k) -ℤ pos p) (pos (m + k) -ℤ pos n) ≡ nat_lt (n + o) (m + p)
ordered_back m n o p k = grind (arith, ints)

pub one_side_is : (s : Segment) (place : PlaceOf) (A a B b X v : ℕ) → IsTold s A a B b → IsToldPlace place X v
    → is_on_one_side s place ≡ nat_lt (one_sum A a B b X v) (other_sum A a B b X v)
one_side_is s place A a B b X v e f =
    rw (across_is s place A a B b X v e f, along_is s place A a B b X v e f)
    (ordered (X * b) (X * a + A * b) (B * v) (B * a + A * v) (A * a))

pub other_side_is : (s : Segment) (place : PlaceOf) (A a B b X v : ℕ) → IsTold s A a B b → IsToldPlace place X v
    → is_on_other_side s place ≡ nat_lt (other_sum A a B b X v) (one_sum A a B b X v)
other_side_is s place A a B b X v e f =
    rw (across_is s place A a B b X v e f, along_is s place A a B b X v e f)
    (ordered_back (X * b) (X * a + A * b) (B * v) (B * a + A * v) (A * a))
