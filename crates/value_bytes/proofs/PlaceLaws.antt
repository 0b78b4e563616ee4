-- The laws of places in bytes.
use Rattle.std.proofs.Common.{◌≡◌, ℕ, ℤ, zero, suc, ◌+◌, ◌*◌, ◌/◌, ◌%◌, ◌^◌, ◌<◌, List, [], ◌∷◌, ◌++◌, length, get_or, refl, sym, ap, ◌∙◌, arith, length-append, subst, pos}
use Rattle.std.proofs.Common.{negsuc}
use Rattle.std.proofs.lemmas.Nat.{from_le_bytes-to_le_bytes_4, le_bytes_8}
use Rattle.std.proofs.lemmas.Int.{of_z-to_z, to_z-of_z, ints}
use Rattle.std.specs.Int.{w32, w64, from_le_bytes, cast_signed, cast_unsigned}
use Rattle.std.specs.List.{AllByRecursion}
use Rattle.std.proofs.Math.Facts.{Fits-of_z}
use mir.Val.{SFits}
use Rattle.osm_base.specs.values.Place.{PlaceOf, IsOnEarth}
use Rattle.value_bytes.specs.Forms.{Begins, IsFront, IsFrontless, both_bytes, Both}
use Rattle.value_bytes.specs.Places.{four_bytes, IsFour, place_bytes, IsPlace}
use Rattle.value_bytes.specs.Numbers.{number_bytes, IsNumber}
use Rattle.value_bytes.proofs.Seen.{AreSeen, front_seen, frontless_seen, unseen}

length-four_bytes : (number : ℕ) → length (four_bytes number) ≡ 4
unfolding four_bytes
length-four_bytes number = refl

each_low : (bytes : List ℕ) → AllByRecursion (λ byte. byte < 256) bytes → (i : ℕ) → get_or bytes i 0 < 256
each_low [] low i = omega arith
each_low (byte ∷ bytes) low zero = low.0
each_low (byte ∷ bytes) low (suc i) = each_low bytes low.1 i

are_low : (low high : ℕ) → AllByRecursion (λ byte. byte < 256) (four_bytes low ++ four_bytes high)
unfolding four_bytes
are_low low high = (omega arith, (omega arith, (omega arith, (omega arith, (omega arith, (omega arith, (omega arith, (omega arith, tt))))))))

joined_sum : (low high : ℕ) → IsFour low → IsFour high → low + high * 2 ^ 32 ≡ from_le_bytes w64 (four_bytes low ++ four_bytes high)
unfolding four_bytes
joined_sum low high small few = omega (arith, from_le_bytes-to_le_bytes_4 low small, from_le_bytes-to_le_bytes_4 high few)

-- two numbers of four bytes, the second above the first, are one of eight
joined : (low high : ℕ) → IsFour low → IsFour high → number_bytes (low + high * 2 ^ 32) ≡ four_bytes low ++ four_bytes high
unfolding number_bytes
joined low high small few =
    let long = length-append (four_bytes low) (four_bytes high) in
    le_bytes_8 (four_bytes low ++ four_bytes high) (low + high * 2 ^ 32)
    (omega (arith, long, length-four_bytes low, length-four_bytes high)) (each_low _ (are_low low high)) (joined_sum low high small few)

-- what is on the earth fits four bytes
pub fits_lon : (lon lat : ℤ) → IsOnEarth lon lat → SFits w32 lon
fits_lon (pos lon) lat earth = record { sfits = omega (arith, ints) }
fits_lon (negsuc lon) lat earth = record { sfits = omega (arith, ints) }

pub fits_lat : (lon lat : ℤ) → IsOnEarth lon lat → SFits w32 lat
fits_lat lon (pos lat) earth = record { sfits = omega (arith, ints) }
fits_lat lon (negsuc lat) earth = record { sfits = omega (arith, ints) }

fits_is : (number : ℤ) → SFits w32 number → cast_unsigned w32 number < 2 ^ 32
fits_is number fits = (Fits-of_z {w = w32} fits).fits

-- the two numbers of a place
abbrev pub fours : PlaceOf → ℕ × ℕ
fours place = (cast_unsigned w32 place.lon, cast_unsigned w32 place.lat)

fours_fit : (place : PlaceOf) → IsPlace place → Both IsFour IsFour (fours place)
fours_fit place earth = (fits_is place.lon (fits_lon place.lon place.lat earth), fits_is place.lat (fits_lat place.lon place.lat earth))

places_seen : AreSeen (both_bytes four_bytes four_bytes) (Both IsFour IsFour) place_bytes IsPlace fours
unfolding place_bytes
places_seen = record { is = fours_fit; told = λ place. refl }

-- a place of these numbers is the one that they make
one_place : (lon lat : ℕ) (place : PlaceOf) → IsPlace place → fours place ≡ (lon, lat)
    → place ≡ record { lon = cast_signed w32 lon; lat = cast_signed w32 lat }
one_place lon lat place earth here =
    let lons = sym (to_z-of_z w32 place.lon (fits_lon place.lon place.lat earth)) ∙ ap (λ (p : ℕ × ℕ). cast_signed w32 p.0) here in
    let lats = sym (to_z-of_z w32 place.lat (fits_lat place.lon place.lat earth)) ∙ ap (λ (p : ℕ × ℕ). cast_signed w32 p.1) here in
    λ i. record { lon = lons i; lat = lats i }

fours_again : (lon lat : ℕ) → IsFour lon → IsFour lat → fours (record { lon = cast_signed w32 lon; lat = cast_signed w32 lat }) ≡ (lon, lat)
fours_again lon lat is-lon is-lat = λ i. (of_z-to_z w32 lon is-lon i, of_z-to_z w32 lat is-lat i)

-- a number of eight bytes at the front is both numbers of a place
unfoldable parts : ℕ → ℕ × ℕ
parts number = (number % 2 ^ 32, number / 2 ^ 32)

parts_fit : (number : ℕ) → IsNumber number → Both IsFour IsFour (parts number)
unfolding parts
parts_fit number is = (omega arith, omega arith)

parts_bytes : (number : ℕ) → IsNumber number → number_bytes number ≡ both_bytes four_bytes four_bytes (parts number)
unfolding parts
parts_bytes number is =
    let whole : number ≡ number % 2 ^ 32 + number / 2 ^ 32 * 2 ^ 32 = omega arith in
    let fit = parts_fit number is in
    ap number_bytes whole ∙ joined (number % 2 ^ 32) (number / 2 ^ 32) fit.0 fit.1

parts_again : (low high : ℕ) → IsFour low → IsFour high → (low, high) ≡ parts (low + high * 2 ^ 32)
unfolding parts
parts_again low high small few =
    let lows : low ≡ (low + high * 2 ^ 32) % 2 ^ 32 = omega arith in
    let highs : high ≡ (low + high * 2 ^ 32) / 2 ^ 32 = omega arith in
    λ i. (lows i, highs i)

begins_joined : (bytes : List ℕ) (p : ℕ × ℕ) (rest : List ℕ) → Begins (both_bytes four_bytes four_bytes) (Both IsFour IsFour) bytes p rest
    → Begins number_bytes IsNumber bytes (p.0 + p.1 * 2 ^ 32) rest
begins_joined bytes p rest begins = record {
  is = omega (arith, begins.is.0, begins.is.1);
  bytes_are = begins.bytes_are ∙ ap (λ (l : List ℕ). l ++ rest) (sym (joined p.0 p.1 begins.is.0 begins.is.1));
}

both_front : (bytes : List ℕ) (number : ℕ) (rest : List ℕ) → IsFront number_bytes IsNumber bytes number rest
    → IsFront (both_bytes four_bytes four_bytes) (Both IsFour IsFour) bytes (parts number) rest
both_front bytes number rest front = record {
  begins = record {
    is = parts_fit number front.begins.is;
    bytes_are = front.begins.bytes_are ∙ ap (λ (l : List ℕ). l ++ rest) (parts_bytes number front.begins.is);
  };
  alone = λ other behind begins.
      let same = front.alone (other.0 + other.1 * 2 ^ 32) behind (begins_joined bytes other behind begins) in
      (parts_again other.0 other.1 begins.is.0 begins.is.1 ∙ ap parts same.0, same.1);
}

pub place_front : (bytes : List ℕ) (number : ℕ) (rest : List ℕ) (place : PlaceOf) → IsFront number_bytes IsNumber bytes number rest
    → place ≡ record { lon = cast_signed w32 (number % 2 ^ 32); lat = cast_signed w32 (number / 2 ^ 32) } → IsPlace place
    → IsFront place_bytes IsPlace bytes place rest
unfolding parts
place_front bytes number rest place front is earth =
    let fit = parts_fit number front.begins.is in
    front_seen (both_bytes four_bytes four_bytes) (Both IsFour IsFour) place_bytes IsPlace fours places_seen bytes (parts number) rest
    (both_front bytes number rest front) place earth
    (ap fours is ∙ fours_again (number % 2 ^ 32) (number / 2 ^ 32) fit.0 fit.1)
    (λ other others here. one_place (number % 2 ^ 32) (number / 2 ^ 32) other others here ∙ sym is)

pub place_frontless : (bytes : List ℕ) → IsFrontless number_bytes IsNumber bytes → IsFrontless place_bytes IsPlace bytes
place_frontless bytes none =
    frontless_seen (both_bytes four_bytes four_bytes) (Both IsFour IsFour) place_bytes IsPlace fours places_seen bytes
    (λ p rest begins. none (p.0 + p.1 * 2 ^ 32) rest (begins_joined bytes p rest begins))

-- numbers of no place on the earth
pub place_off : (bytes : List ℕ) (number : ℕ) (rest : List ℕ) → IsFront number_bytes IsNumber bytes number rest
    → (IsPlace (record { lon = cast_signed w32 (number % 2 ^ 32); lat = cast_signed w32 (number / 2 ^ 32) }) → ⊥)
    → IsFrontless place_bytes IsPlace bytes
unfolding parts
place_off bytes number rest front off =
    unseen (both_bytes four_bytes four_bytes) (Both IsFour IsFour) place_bytes IsPlace fours places_seen bytes (parts number) rest
    (both_front bytes number rest front)
    (λ place earth here. off (subst IsPlace (one_place (number % 2 ^ 32) (number / 2 ^ 32) place earth here) earth))

-- what is put
pub place_put : (place : PlaceOf) → IsPlace place
    → number_bytes (cast_unsigned w32 place.lon + cast_unsigned w32 place.lat * 2 ^ 32) ≡ place_bytes place
unfolding place_bytes
place_put place earth =
    let fit = fours_fit place earth in
    joined (cast_unsigned w32 place.lon) (cast_unsigned w32 place.lat) fit.0 fit.1
