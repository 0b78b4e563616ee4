-- The box of places, told by natural numbers.
use Rattle.std.proofs.Common.{◌≡◌, ℕ, ◌*◌, ◌<◌, ◌≤◌, arith, List, [], ◌∷◌, map, length, ℤ, pos, ◌-ℤ◌, ◌+ℤ◌, ◌≤ℤ◌, neg_ℤ, unsigned_abs, Some}
use Rattle.std.specs.List.{AllByRecursion}
use Rattle.std.proofs.lemmas.Int.{ints}
use Rattle.osm_base.specs.values.Place.{PlaceOf}
use Rattle.osm_base.specs.declared.values.place.GeoBox.{GeoBox}
use Rattle.lanes_geo.specs.Box.{IsWithin, box_of}
use Rattle.lanes_geo.specs.Grid.{IsPlace, east_of, north_of, least_of, greatest_of}
use Rattle.lanes_geo.proofs.Sides.{shifted}
use Rattle.lanes_geo.proofs.Extremes.{StandsFor, folds_min, folds_max, least_bound, greatest_bound}

low : (z : ℤ) (bound : ℕ) → neg_ℤ (pos bound) ≤ℤ z → z ≤ℤ pos bound → unsigned_abs (z +ℤ pos bound) ≤ 2 * bound
low z bound h k = grind (arith, ints)

easts : StandsFor (λ p. p.lon) east_of 1800000000
easts p h = (shifted p.lon 1800000000 h.west, low p.lon 1800000000 h.west h.east)

norths : StandsFor (λ p. p.lat) north_of 900000000
norths p h = (shifted p.lat 900000000 h.south, low p.lat 900000000 h.south h.north)

fits : (n most : ℕ) → n ≤ most → pos n ≤ℤ pos most
fits n most h = omega (arith, ints)

pub west_fits : (ps : List PlaceOf) (n : ℕ) → 0 < length ps → AllByRecursion IsPlace ps → n ≡ least_of (map east_of ps)
    → pos n ≤ℤ pos 3600000000
west_fits [] n some on_earth e = absurd (omega arith)
west_fits (p ∷ ps) n some on_earth e = fits n 3600000000 (rw e (least_bound (λ p. p.lon) east_of 1800000000 easts p ps on_earth))

pub south_fits : (ps : List PlaceOf) (n : ℕ) → 0 < length ps → AllByRecursion IsPlace ps → n ≡ least_of (map north_of ps)
    → pos n ≤ℤ pos 1800000000
south_fits [] n some on_earth e = absurd (omega arith)
south_fits (p ∷ ps) n some on_earth e = fits n 1800000000 (rw e (least_bound (λ p. p.lat) north_of 900000000 norths p ps on_earth))

pub east_fits : (ps : List PlaceOf) (n : ℕ) → AllByRecursion IsPlace ps → n ≡ greatest_of (map east_of ps) → pos n ≤ℤ pos 3600000000
east_fits ps n on_earth e = fits n 3600000000 (rw e (greatest_bound (λ p. p.lon) east_of 1800000000 easts ps on_earth))

pub north_fits : (ps : List PlaceOf) (n : ℕ) → AllByRecursion IsPlace ps → n ≡ greatest_of (map north_of ps) → pos n ≤ℤ pos 1800000000
north_fits ps n on_earth e = fits n 1800000000 (rw e (greatest_bound (λ p. p.lat) north_of 900000000 norths ps on_earth))

narrow : (n least : ℕ) → n ≤ 2 * least → 2 * least ≤ 4294967295 → n ≤ 4294967295
narrow n least h k = omega arith

pub around_is : (ps : List PlaceOf) (w s e n : ℕ) (west south east north : ℤ) → 0 < length ps → AllByRecursion IsPlace ps
    → w ≡ least_of (map east_of ps) → s ≡ least_of (map north_of ps) → e ≡ greatest_of (map east_of ps) → n ≡ greatest_of (map north_of ps)
    → west ≡ pos w -ℤ pos 1800000000 → south ≡ pos s -ℤ pos 900000000 → east ≡ pos e -ℤ pos 1800000000 → north ≡ pos n -ℤ pos 900000000
    → Some (record { west = west; south = south; east = east; north = north }) ≡ box_of ps
around_is [] w s e n west south east north some on_earth e1 e2 e3 e4 e5 e6 e7 e8 = absurd (omega arith)
around_is (p ∷ ps) w s e n west south east north some on_earth e1 e2 e3 e4 e5 e6 e7 e8 =
    let lon = easts p on_earth.0 in
    let lat = norths p on_earth.0 in
    rw (
      e5,
      e6,
      e7,
      e8,
      e1,
      e2,
      e3,
      e4,
      folds_min (λ p. p.lon) east_of 1800000000 easts p.lon (east_of p) ps on_earth.1 lon.0
          (narrow (east_of p) 1800000000 lon.1 (omega arith)),
      folds_min (λ p. p.lat) north_of 900000000 norths p.lat (north_of p) ps on_earth.1 lat.0
          (narrow (north_of p) 900000000 lat.1 (omega arith)),
      folds_max (λ p. p.lon) east_of 1800000000 easts p.lon (east_of p) ps on_earth.1 lon.0,
      folds_max (λ p. p.lat) north_of 900000000 norths p.lat (north_of p) ps on_earth.1 lat.0,
    )

above : (least a b : ℕ) (y z : ℤ) → a ≤ b → y ≡ pos a -ℤ pos least → z ≡ pos b -ℤ pos least → y ≤ℤ z
above least a b y z h e f = omega (arith, ints)

within_all : (box : GeoBox) (w s e n : ℕ) (ps : List PlaceOf)
    → box.west ≡ pos w -ℤ pos 1800000000 → box.south ≡ pos s -ℤ pos 900000000 → box.east ≡ pos e -ℤ pos 1800000000
    → box.north ≡ pos n -ℤ pos 900000000
    → AllByRecursion IsPlace ps → w ≤ least_of (map east_of ps) → s ≤ least_of (map north_of ps) → greatest_of (map east_of ps) ≤ e
    → greatest_of (map north_of ps) ≤ n
    → AllByRecursion (IsWithin box) ps
within_all box w s e n [] e5 e6 e7 e8 on_earth a b c d = tt
within_all box w s e n (p ∷ ps) e5 e6 e7 e8 on_earth a b c d =
    let lon = easts p on_earth.0 in
    let lat = norths p on_earth.0 in (
      record {
        west = above 1800000000 w (east_of p) _ _ (omega arith) e5 lon.0;
        south = above 900000000 s (north_of p) _ _ (omega arith) e6 lat.0;
        east = above 1800000000 (east_of p) e _ _ (omega arith) lon.0 e7;
        north = above 900000000 (north_of p) n _ _ (omega arith) lat.0 e8;
      },
      within_all box w s e n ps e5 e6 e7 e8 on_earth.1 (omega arith) (omega arith) (omega arith) (omega arith),
    )

pub around_holds : (ps : List PlaceOf) (w s e n : ℕ) (west south east north : ℤ) → AllByRecursion IsPlace ps
    → w ≡ least_of (map east_of ps) → s ≡ least_of (map north_of ps) → e ≡ greatest_of (map east_of ps) → n ≡ greatest_of (map north_of ps)
    → west ≡ pos w -ℤ pos 1800000000 → south ≡ pos s -ℤ pos 900000000 → east ≡ pos e -ℤ pos 1800000000 → north ≡ pos n -ℤ pos 900000000
    → AllByRecursion (IsWithin (record { west = west; south = south; east = east; north = north })) ps
around_holds ps w s e n west south east north on_earth e1 e2 e3 e4 e5 e6 e7 e8 =
    within_all (record { west = west; south = south; east = east; north = north }) w s e n ps e5 e6 e7 e8 on_earth (omega arith)
    (omega arith) (omega arith) (omega arith)
