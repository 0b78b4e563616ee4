-- A segment that lies within a row, or within a tile.
use Rattle.std.proofs.Common.{◌≡◌, ℕ, ◌+◌, ◌*◌, ◌-◌, ◌<◌, ◌≤◌, ◌^◌, ◌==◌, zero, suc, refl, sym, ◌∙◌, arith, nat_lt, nat_le, min, max, ℤ}
use Rattle.std.proofs.Common.{pos, ◌+ℤ◌, ◌-ℤ◌, ◌<ℤ◌, ◌≤ℤ◌, unsigned_abs, int_le, Bool, true, false, ◌&&◌, ◌⊎◌, inl, inr, Some}
use Rattle.std.proofs.lemmas.Int.{ints}
use Rattle.std.proofs.lemmas.Bool.Decides.{nat_tests}
use Rattle.std.proofs.lemmas.Nat.{mul-le}
use Rattle.osm_base.specs.values.Place.{PlaceOf}
use Rattle.osm_base.specs.declared.values.place.GeoBox.{GeoBox}
use Rattle.lanes_geo.specs.Crossing.{Segment, crosses}
use Rattle.tile_cover.specs.declared.climb.Climb.{Climb}
use Rattle.tile_cover.specs.declared.span.Span.{Span}
use Rattle.tile_cover.specs.Inside.{IsBetween}
use Rattle.tile_cover.specs.Span.{Tells, is_reached, lat_of, segment_of}
use Rattle.tile_cover.specs.Table.{BoundsOf, IsTable, boundary}
use Rattle.tile_cover.specs.Tile.{touches, north_west, box_between, tile_box}
use Rattle.tile_cover.proofs.Crossed.{crosses_none}
use Rattle.tile_cover.proofs.Gained.{itself, sides_of}
use Rattle.tile_cover.proofs.Parts.{IsPart, le_or}
use Rattle.tile_cover.proofs.Rows.{falls_on}
use Rattle.tile_cover.proofs.Sides.{IsTold}
use Rattle.tile_cover.proofs.Spans.{told, told_box}
use Rattle.tile_cover.proofs.Touches.{IsToldBox, same_tests, true_le, le_true, at_most, touches_part, touches_level, touches_none}
use Rattle.tile_cover.proofs.Turned.{turned, turned_told, touches_turned, crosses_turned}

-- tests of numbers that are all taken as often
le_times : (m n H : ℕ) → 0 < H → nat_le (m * H) (n * H) ≡ nat_le m n
le_times m n H some = same_tests _ _
    (λ e. true_le m n (at_most m n (λ f. less (le_true _ _ e) f)))
    (λ e. true_le _ _ (mul-le m H n H (le_true _ _ e) (omega arith)))
  where
    less : m * H ≤ n * H → n < m → ⊥
    less e f = let g : (n + 1) * H ≤ m * H = mul-le (n + 1) H m H (omega arith) (omega arith) in omega arith

min_times : (A B H : ℕ) → min (0 * B + H * A) (H * B + 0 * A) ≡ min A B * H
min_times A B H = elim (le_or A B) [
  | inl e ↦ let f : min A B ≡ A = omega arith in let g : A * H ≤ B * H = mul-le A H B H e (omega arith) in rw f (omega arith)
  | inr e ↦ let f : min A B ≡ B = omega arith in let g : B * H ≤ A * H = mul-le B H A H e (omega arith) in rw f (omega arith)
]

max_times : (A B H : ℕ) → max (0 * B + H * A) (H * B + 0 * A) ≡ max A B * H
max_times A B H = elim (le_or A B) [
  | inl e ↦ let f : max A B ≡ B = omega arith in let g : A * H ≤ B * H = mul-le A H B H e (omega arith) in rw f (omega arith)
  | inr e ↦ let f : max A B ≡ A = omega arith in let g : B * H ≤ A * H = mul-le B H A H e (omega arith) in rw f (omega arith)
]

level_or : (a b : ℕ) → a ≤ b → (b ≡ a) ⊎ (a < b)
level_or a b e = elim (le_or b a) [ inl f ↦ inl (omega arith) | inr f ↦ go (nat_lt a b) refl ]
  where
    go : (test : Bool) → test ≡ nat_lt a b → (b ≡ a) ⊎ (a < b)
    go true g = inr (grind (arith, nat_tests))
    go false g = let h : b ≤ a = grind (arith, nat_tests) in inl (omega arith)

-- no part of it is north or south of the row
pub touches_within : (s : Segment) (box : GeoBox) (A a B b P Q l h : ℕ) → IsTold s A a B b → IsToldBox box P Q l h → a ≤ b → l ≤ a → b ≤ h
    → touches box s ≡ (nat_le (min A B) Q && nat_le P (max A B))
touches_within s box A a B b P Q l h e t up south north = elim (level_or a b up) [
  | inl level ↦ touches_level s box A a B P Q l h (rw level at e) t south (omega arith)
  | inr climbs ↦
      let H = b - a in
      let some : 0 < H = omega arith in
      let part : IsPart a b l h a b 0 H H 0 = record {
        climbs = climbs;
        row = omega arith;
        from_south = omega arith;
        from_north = omega arith;
        lo_is = omega arith;
        hi_is = omega arith;
        lo_up = omega arith;
        lo_down = omega arith;
        hi_up = omega arith;
        hi_down = omega arith;
      } in
      touches_part s box A a B b P Q l h a b 0 H H 0 H e t part (omega arith) (omega arith)
      ∙ rw (min_times A B H, max_times A B H, le_times (min A B) Q H some, le_times P (max A B) H some) refl
]

pub tells_within : (climb : Climb) (span : Span) (l h x : ℕ) → l ≤ climb.south → climb.north ≤ h → climb.south ≤ climb.north
    → nat_le span.first x ≡ nat_le (min climb.start climb.end) ((x + 1) * 3600000000)
    → nat_le x span.last ≡ nat_le (x * 3600000000) (max climb.start climb.end)
    → span.straddles ≡ false
    → Tells (box_between (lat_of l) (lat_of h) x) x (segment_of climb) (Some span)
tells_within climb span l h x south north up first last through =
    let box = box_between (lat_of l) (lat_of h) x in (
      touches_within (segment_of climb) box climb.start climb.south climb.end climb.north (x * 3600000000) ((x + 1) * 3600000000) l h
          (told climb) (told_box l h x (omega arith)) up south north
          ∙ rw (first, last) refl,
      λ none. rw through (crosses_none (segment_of climb) (north_west box) climb.start climb.south climb.end climb.north (x * 3600000000) h
          (told climb) (record { lon = refl; lat = refl }) up (inl north)),
    )

-- rows beside one another
pub nat_order : (m n : ℕ) (y z : ℤ) → lat_of m ≡ y → lat_of n ≡ z → y ≤ℤ z → m ≤ n
nat_order m n y z e f g = grind (arith, ints)

three : (m n : ℕ) → (m < n) ⊎ ((m ≡ n) ⊎ (n < m))
three zero zero = inr (inl refl)
three zero (suc n) = inl (omega arith)
three (suc m) zero = inr (inr (omega arith))
three (suc m) (suc n) = elim (three m n)
    [ inl e ↦ inl (omega arith) | inr (inl e) ↦ inr (inl (omega arith)) | inr (inr e) ↦ inr (inr (omega arith)) ]

pub rows_apart : (table : BoundsOf) (row y l h L U : ℕ) → IsTable table → row < 2 ^ table.zoom → y < 2 ^ table.zoom
    → lat_of l ≡ boundary table (row + 1) → lat_of h ≡ boundary table row → lat_of L ≡ boundary table (y + 1) → lat_of U ≡ boundary table y
    → ((row ≡ y) × (h ≤ U)) ⊎ (((y < row) × (h ≤ L) × (h ≤ U)) ⊎ ((row < y) × (U ≤ l)))
rows_apart table row y l h L U t within other l_is h_is L_is U_is =
    let long = t.whole in
    elim (three row y) [
      | inl e ↦ inr (inr (e, nat_order U l _ _ U_is l_is (falls_on table.lats (row + 1) y (pos 0) t.falling (omega arith) (omega arith))))
      | inr (inl e) ↦ inl (e, nat_order h U _ _ h_is U_is (falls_on table.lats y row (pos 0) t.falling (omega arith) (omega arith)))
      | inr (inr e) ↦ inr (inl (
        e,
        nat_order h L _ _ h_is L_is (falls_on table.lats (y + 1) row (pos 0) t.falling (omega arith) (omega arith)),
        nat_order h U _ _ h_is U_is (falls_on table.lats y row (pos 0) t.falling (omega arith) (omega arith)),
      ))
    ]

-- the one row that a segment reaches
reached_is : (L U a b : ℕ) → (int_le (lat_of L) (lat_of b) && int_le (lat_of a) (lat_of U)) ≡ (nat_le L b && nat_le a U)
reached_is L U a b = rw (lat_order L b, lat_order a U) refl
  where
    lat_order : (m n : ℕ) → int_le (lat_of m) (lat_of n) ≡ nat_le m n
    lat_order m n = grind (arith, ints)

one_row : (row y l h L U a b : ℕ) → l < a → b < h → a ≤ b
    → ((row ≡ y) × (h ≤ U)) ⊎ (((y < row) × (h ≤ L) × (h ≤ U)) ⊎ ((row < y) × (U ≤ l))) → (row ≡ y → L ≡ l)
    → (nat_le row y && nat_lt y (row + 1)) ≡ (nat_le L b && nat_le a U)
one_row row y l h L U a b south north up (inl (e, f)) same = let g = same e in grind (arith, nat_tests)
one_row row y l h L U a b south north up (inr (inl (e, f, g))) same = grind (arith, nat_tests)
one_row row y l h L U a b south north up (inr (inr (e, f))) same = grind (arith, nat_tests)

lat_same : (m n : ℕ) → lat_of m ≡ lat_of n → m ≡ n
lat_same m n e = grind (arith, ints)

pub reached_one : (table : BoundsOf) (climb : Climb) (row y l h : ℕ) → IsTable table → row < 2 ^ table.zoom → y < 2 ^ table.zoom
    → lat_of l ≡ boundary table (row + 1) → lat_of h ≡ boundary table row → l < climb.south → climb.north < h → climb.south ≤ climb.north
    → (nat_le row y && nat_lt y (row + 1)) ≡ is_reached table climb y
reached_one table climb row y l h t within other l_is h_is south north up =
    let sides = sides_of table y t other in
    rw (← sides.south_is, ← sides.north_is) (
    one_row row y l h sides.south sides.north climb.south climb.north south north up
    (rows_apart table row y l h sides.south sides.north t within other l_is h_is sides.south_is sides.north_is)
    (λ e. lat_same sides.south l (sides.south_is ∙ rw (← e) (sym l_is)))
    ∙ sym (reached_is sides.south sides.north climb.south climb.north)
    )

-- the tests of natural numbers tell whether a place lies between the sides of a tile
pub between_is : (place : PlaceOf) (column l h lon lat : ℕ) → pos lon ≡ place.lon → lat_of lat ≡ place.lat
    → ((((nat_lt (column * 3600000000) lon && nat_lt lon (column * 3600000000 + 3600000000)) && nat_lt l lat) && nat_lt lat h) ≡ true
    → IsBetween (box_between (lat_of l) (lat_of h) column) place)
    × (IsBetween (box_between (lat_of l) (lat_of h) column) place
    → (((nat_lt (column * 3600000000) lon && nat_lt lon (column * 3600000000 + 3600000000)) && nat_lt l lat) && nat_lt lat h) ≡ true)
between_is place column l h lon lat e f = (
  λ tests.
      let north = both _ _ tests in
      let south = both _ _ north.0 in
      let sides = both _ _ south.0 in
      record {
        west = west_so (column * 3600000000) lon place.lon e (less _ _ sides.0);
        east = east_so column lon place.lon e (less _ _ sides.1);
        south = south_so l lat place.lat f (less _ _ south.1);
        north = north_so h lat place.lat f (less _ _ north.1);
      },
  λ between. rw (
    is_less _ _ (west_is (column * 3600000000) lon place.lon e between.west),
    is_less _ _ (east_is column lon place.lon e between.east),
    is_less _ _ (south_is l lat place.lat f between.south),
    is_less _ _ (north_is h lat place.lat f between.north),
  ) refl,
)
  where
    both : (a b : Bool) → (a && b) ≡ true → (a ≡ true) × (b ≡ true)
    both true b e = (refl, e)
    both false b e = absurd (cc)

    less : (a b : ℕ) → nat_lt a b ≡ true → a < b
    less a b e = grind (arith, nat_tests)

    is_less : (a b : ℕ) → a < b → nat_lt a b ≡ true
    is_less a b e = grind (arith, nat_tests)

    west_so : (P n : ℕ) (z : ℤ) → pos n ≡ z → P < n → pos P <ℤ z
    west_so P n z e f = rw (← e) (grind (arith, ints))

    east_so : (column n : ℕ) (z : ℤ) → pos n ≡ z → n < column * 3600000000 + 3600000000 → z <ℤ pos ((column + 1) * 3600000000)
    east_so column n z e f = rw (← e) (grind (arith, ints))

    south_so : (l n : ℕ) (z : ℤ) → lat_of n ≡ z → l < n → lat_of l <ℤ z
    south_so l n z e f = rw (← e) (grind (arith, ints))

    north_so : (h n : ℕ) (z : ℤ) → lat_of n ≡ z → n < h → z <ℤ lat_of h
    north_so h n z e f = rw (← e) (grind (arith, ints))

    west_is : (P n : ℕ) (z : ℤ) → pos n ≡ z → pos P <ℤ z → P < n
    west_is P n z e f = grind (arith, ints)

    east_is : (column n : ℕ) (z : ℤ) → pos n ≡ z → z <ℤ pos ((column + 1) * 3600000000) → n < column * 3600000000 + 3600000000
    east_is column n z e f = grind (arith, ints)

    south_is : (l n : ℕ) (z : ℤ) → lat_of n ≡ z → lat_of l <ℤ z → l < n
    south_is l n z e f = grind (arith, ints)

    north_is : (h n : ℕ) (z : ℤ) → lat_of n ≡ z → z <ℤ lat_of h → n < h
    north_is h n z e f = grind (arith, ints)

-- a place between the sides of a tile, by natural numbers
record IsToldBetween (place : PlaceOf) (column l h : ℕ) : Type 0 where
  lon : place.lon ≡ pos (unsigned_abs place.lon)
  lat : place.lat ≡ pos (unsigned_abs (place.lat +ℤ pos 900000000)) -ℤ pos 900000000
  west : column * 3600000000 < unsigned_abs place.lon
  east : unsigned_abs place.lon < (column + 1) * 3600000000
  south : l < unsigned_abs (place.lat +ℤ pos 900000000)
  north : unsigned_abs (place.lat +ℤ pos 900000000) < h

told_between : (place : PlaceOf) (column l h : ℕ) → IsBetween (box_between (lat_of l) (lat_of h) column) place
    → IsToldBetween place column l h
told_between place column l h e =
    let west = e.west in
    let east = e.east in
    let south = e.south in
    let north = e.north in
    record {
      lon = lon_is (column * 3600000000) place.lon west;
      lat = lat_is l place.lat south;
      west = lon_west (column * 3600000000) place.lon west;
      east = lon_east (column * 3600000000) ((column + 1) * 3600000000) place.lon west east;
      south = lat_south l place.lat south;
      north = lat_north l h place.lat south north;
    }
  where
    lon_is : (P : ℕ) (z : ℤ) → pos P <ℤ z → z ≡ pos (unsigned_abs z)
    lon_is P z e = grind (arith, ints)

    lon_west : (P : ℕ) (z : ℤ) → pos P <ℤ z → P < unsigned_abs z
    lon_west P z e = grind (arith, ints)

    lon_east : (P Q : ℕ) (z : ℤ) → pos P <ℤ z → z <ℤ pos Q → unsigned_abs z < Q
    lon_east P Q z e f = grind (arith, ints)

    lat_is : (l : ℕ) (z : ℤ) → lat_of l <ℤ z → z ≡ pos (unsigned_abs (z +ℤ pos 900000000)) -ℤ pos 900000000
    lat_is l z e = grind (arith, ints)

    lat_south : (l : ℕ) (z : ℤ) → lat_of l <ℤ z → l < unsigned_abs (z +ℤ pos 900000000)
    lat_south l z e = grind (arith, ints)

    lat_north : (l h : ℕ) (z : ℤ) → lat_of l <ℤ z → z <ℤ lat_of h → unsigned_abs (z +ℤ pos 900000000) < h
    lat_north l h z e f = grind (arith, ints)

-- the one column that it touches
one_column : (column x A B : ℕ) → column * 3600000000 < A → A < (column + 1) * 3600000000 → column * 3600000000 < B
    → B < (column + 1) * 3600000000
    → (nat_le (min A B) ((x + 1) * 3600000000) && nat_le (x * 3600000000) (max A B)) ≡ (nat_le column x && nat_le x column)
one_column column x A B e f g h = rw (first, last) refl
  where
    first : nat_le (min A B) ((x + 1) * 3600000000) ≡ nat_le column x
    first = same_tests _ _ (λ i. true_le _ _ (let j = le_true _ _ i in omega arith))
        (λ i. true_le _ _ (let j = le_true _ _ i in omega arith))

    last : nat_le (x * 3600000000) (max A B) ≡ nat_le x column
    last = same_tests _ _ (λ i. true_le _ _ (let j = le_true _ _ i in omega arith))
        (λ i. true_le _ _ (let j = le_true _ _ i in omega arith))

-- what a segment meets and crosses that touches one tile, and none of its sides
pub record MeetsOne (table : BoundsOf) (column row : ℕ) (s : Segment) : Type 0 where
  pub touch : (x y : ℕ) → y < 2 ^ table.zoom → touches (tile_box table x y) s ≡ ((row == y) && (nat_le column x && nat_le x column))
  pub cross : (x y : ℕ) → y < 2 ^ table.zoom → crosses (north_west (tile_box table x y)) s ≡ false

differ_above : (m n : ℕ) → n < m → (m == n) ≡ false
differ_above m n e = grind (arith, nat_tests)

differ_below : (m n : ℕ) → m < n → (m == n) ≡ false
differ_below m n e = grind (arith, nat_tests)

meets_up : (table : BoundsOf) (column row : ℕ) (s : Segment) (A a B b l h : ℕ) → IsTable table → row < 2 ^ table.zoom → IsTold s A a B b
    → a ≤ b
    → lat_of l ≡ boundary table (row + 1) → lat_of h ≡ boundary table row → l < a → b < h
    → column * 3600000000 < A → A < (column + 1) * 3600000000 → column * 3600000000 < B → B < (column + 1) * 3600000000
    → MeetsOne table column row s
meets_up table column row s A a B b l h t within e up l_is h_is south north A_west A_east B_west B_east = record {
  touch = λ x y other.
      let sides = sides_of table y t other in
      let apart = rows_apart table row y l h sides.south sides.north t within other l_is h_is sides.south_is sides.north_is in
      rw (← sides.south_is, ← sides.north_is) (touch_at x y sides.south sides.north sides.high apart
      (λ f. lat_same sides.south l (sides.south_is ∙ rw (← f) (sym l_is))));
  cross = λ x y other.
      let sides = sides_of table y t other in
      let apart = rows_apart table row y l h sides.south sides.north t within other l_is h_is sides.south_is sides.north_is in
      rw (← sides.north_is) (crosses_none s _ A a B b (x * 3600000000) sides.north e (record { lon = refl; lat = refl }) up
      (beyond y sides.south sides.north apart));
}
  where
    touch_at : (x y L U : ℕ) → L ≤ U → ((row ≡ y) × (h ≤ U)) ⊎ (((y < row) × (h ≤ L) × (h ≤ U)) ⊎ ((row < y) × (U ≤ l))) → (row ≡ y → L ≡ l)
        → touches (box_between (lat_of L) (lat_of U) x) s ≡ ((row == y) && (nat_le column x && nat_le x column))
    touch_at x y L U high (inl (f, g)) same =
        let i = same f in
        touches_within s _ A a B b (x * 3600000000) ((x + 1) * 3600000000) L U e (told_box L U x high) up (omega arith) (omega arith)
        ∙ one_column column x A B A_west A_east B_west B_east ∙ rw (← f, itself row) refl
    touch_at x y L U high (inr (inl (f, g, i))) same =
        touches_none s _ A a B b (x * 3600000000) ((x + 1) * 3600000000) L U e (told_box L U x high) up (inl (omega arith))
        ∙ rw (differ_above row y f) refl
    touch_at x y L U high (inr (inr (f, g))) same =
        touches_none s _ A a B b (x * 3600000000) ((x + 1) * 3600000000) L U e (told_box L U x high) up (inr (omega arith))
        ∙ rw (differ_below row y f) refl

    beyond : (y L U : ℕ) → ((row ≡ y) × (h ≤ U)) ⊎ (((y < row) × (h ≤ L) × (h ≤ U)) ⊎ ((row < y) × (U ≤ l))) → (b ≤ U) ⊎ (U < a)
    beyond y L U (inl (f, g)) = inl (omega arith)
    beyond y L U (inr (inl (f, g, i))) = inl (omega arith)
    beyond y L U (inr (inr (f, g))) = inr (omega arith)

meets_turned : (table : BoundsOf) (column row : ℕ) (s : Segment) (A a B b : ℕ) → IsTable table → IsTold s A a B b
    → MeetsOne table column row (turned s) → MeetsOne table column row s
meets_turned table column row s A a B b t e one = record {
  touch = λ x y other. sym (same_touch x y other) ∙ one.touch x y other;
  cross = λ x y other. sym (same_cross x y other) ∙ one.cross x y other;
}
  where
    same_touch : (x y : ℕ) → y < 2 ^ table.zoom → touches (tile_box table x y) (turned s) ≡ touches (tile_box table x y) s
    same_touch x y other =
        let sides = sides_of table y t other in
        rw (← sides.south_is, ← sides.north_is)
        (touches_turned s _ A a B b (x * 3600000000) ((x + 1) * 3600000000) sides.south sides.north e
        (told_box sides.south sides.north x sides.high))

    same_cross : (x y : ℕ) → y < 2 ^ table.zoom
        → crosses (north_west (tile_box table x y)) (turned s) ≡ crosses (north_west (tile_box table x y)) s
    same_cross x y other =
        let sides = sides_of table y t other in
        rw (← sides.north_is) (crosses_turned s _ A a B b (x * 3600000000) sides.north e (record { lon = refl; lat = refl }))

pub meets_one : (table : BoundsOf) (column row : ℕ) (s : Segment) → IsTable table → row < 2 ^ table.zoom
    → IsBetween (tile_box table column row) s.start → IsBetween (tile_box table column row) s.end → MeetsOne table column row s
meets_one table column row s t within start_in end_in =
    let sides = sides_of table row t within in
    let start = told_between s.start column sides.south sides.north (rw (sides.south_is, sides.north_is) start_in) in
    let end = told_between s.end column sides.south sides.north (rw (sides.south_is, sides.north_is) end_in) in
    let A = unsigned_abs s.start.lon in
    let a = unsigned_abs (s.start.lat +ℤ pos 900000000) in
    let B = unsigned_abs s.end.lon in
    let b = unsigned_abs (s.end.lat +ℤ pos 900000000) in
    let e : IsTold s A a B b = record { start_lon = start.lon; start_lat = start.lat; end_lon = end.lon; end_lat = end.lat } in
    elim (le_or a b) [
      | inl up ↦ meets_up table column row s A a B b sides.south sides.north t within e up sides.south_is sides.north_is start.south
          end.north start.west start.east end.west end.east
      | inr down ↦ meets_turned table column row s A a B b t e
          (meets_up table column row (turned s) B b A a sides.south sides.north t within (turned_told s A a B b e) down
          sides.south_is sides.north_is end.south start.north end.west end.east start.west start.east)
    ]
