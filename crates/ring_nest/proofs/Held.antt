-- Rings that are passed over, and boxes around boxes.
use Rattle.std.proofs.Common.{◌≡◌, ℕ, ◌+◌, ◌<◌, suc, zero, refl, arith, List, [], ◌∷◌, ◌++◌, length, take, drop, get_or, Bool, true, false}
use Rattle.std.proofs.Common.{◌&&◌, ℤ, ◌≤ℤ◌, int_le, int_lt, pos, ◌||◌, add-one, drop-cons}
use Rattle.std.specs.List.{AllByRecursion}
use Rattle.std.proofs.lemmas.Int.{ints}
use Rattle.std.proofs.lemmas.List.{take_more}
use Rattle.osm_base.specs.declared.values.place.GeoBox.{GeoBox}
use Rattle.osm_base.specs.values.Place.{PlaceOf}
use Rattle.lanes_geo.specs.Box.{meets}
use Rattle.lanes_geo.specs.Nesting.{Ring, holds}
use Rattle.ring_nest.specs.Around.{Covers, IsBoxed, around, at_place, is_well_within, may_hold, start}
use Rattle.ring_nest.proofs.Apart.{holds_none, holds_none_beside}

fewer : (a b c d p q r s : Bool) → (p ≡ true → a ≡ true) → (q ≡ true → b ≡ true) → (r ≡ true → c ≡ true) → (s ≡ true → d ≡ true)
    → ((a && b) && (c && d)) ≡ false → ((p && q) && (r && s)) ≡ false
fewer a b c d false q r s f g h i e = refl
fewer a b c d true false r s f g h i e = refl
fewer a b c d true true false s f g h i e = refl
fewer a b c d true true true false f g h i e = refl
fewer a b c d true true true true f g h i e =
    let one = f refl in
    let two = g refl in
    let three = h refl in
    let four = i refl in
    let none = rw (one, two, three, four) at e in
    absurd (cc none)

lower_end : (y z most : ℤ) → y ≤ℤ z → int_le z most ≡ true → int_le y most ≡ true
lower_end y z most h e = grind (arith, ints)

higher_end : (y z least : ℤ) → z ≤ℤ y → int_le least z ≡ true → int_le least y ≡ true
higher_end y z least h e = grind (arith, ints)

pub not_met : (asked block box : GeoBox) → Covers block box → meets asked block ≡ false → meets asked box ≡ false
not_met asked block box c none =
    fewer (int_le block.west asked.east) (int_le asked.west block.east) (int_le block.south asked.north) (int_le asked.south block.north)
    (int_le box.west asked.east) (int_le asked.west box.east) (int_le box.south asked.north) (int_le asked.south box.north)
    (lower_end block.west box.west asked.east c.west) (higher_end block.east box.east asked.west c.east)
    (lower_end block.south box.south asked.north c.south) (higher_end block.north box.north asked.south c.north) none

pub not_held : (ring other : Ring) → IsBoxed other → IsBoxed ring → meets (start ring) (around other) ≡ false → holds other ring ≡ false
not_held ring other b a none = holds_none other ring (around other) b.closed b.on_earth a.on_earth b.within none

-- what may not be held by any ring in a box may not by one in a box within it
less_far : (y z most : ℤ) → z ≤ℤ y → int_lt y most ≡ true → int_lt z most ≡ true
less_far y z most h e = grind (arith, ints)

less_near : (y z least : ℤ) → y ≤ℤ z → int_lt least y ≡ true → int_lt least z ≡ true
less_near y z least h e = grind (arith, ints)

well_within_less : (block box : GeoBox) (place : PlaceOf) → Covers block box → is_well_within block place ≡ false → is_well_within box place ≡ false
well_within_less block box place c none =
    fewer (int_lt block.west place.lon) (int_lt place.lon block.east) (int_le block.south place.lat) (int_lt place.lat block.north)
    (int_lt box.west place.lon) (int_lt place.lon box.east) (int_le box.south place.lat) (int_lt place.lat box.north)
    (less_far box.west block.west place.lon c.west) (less_near box.east block.east place.lon c.east)
    (lower_end block.south box.south place.lat c.south) (less_near box.north block.north place.lat c.north) none

or_none : (a b : Bool) → (a || b) ≡ false → (a ≡ false) × (b ≡ false)
or_none false b e = (refl, e)
or_none true b e = absurd (cc)

pub may_hold_less : (block box : GeoBox) (ring : Ring) → Covers block box → may_hold block ring ≡ false → may_hold box ring ≡ false
may_hold_less block box [] c none = refl
may_hold_less block box (p ∷ []) c none = well_within_less block box p c none
may_hold_less block box (p ∷ q ∷ rest) c none =
    let parts = or_none (meets (at_place q) block) (is_well_within block p) none in
    rw (not_met (at_place q) block box c parts.0, well_within_less block box p c parts.1)

pub not_held_beside : (ring other : Ring) → IsBoxed other → IsBoxed ring → may_hold (around other) ring ≡ false → holds other ring ≡ false
not_held_beside ring other b a none = holds_none_beside other ring (around other) b.closed b.on_earth a.on_earth b.within none

pub all_at : {A : Type 0} (P : A → Type 0) (xs : List A) (at : ℕ) (x : A) → AllByRecursion P xs → at < length xs → x ≡ get_or xs at x → P x
all_at P [] at x all h e = absurd (omega arith)
all_at P (y ∷ xs) zero x all h e = rw e all.0
all_at P (y ∷ xs) (suc at) x all h e = all_at P xs at x all.1 (omega arith) e

abbrev pub nothing : GeoBox
nothing = record { west = pos 0; south = pos 0; east = pos 0; north = pos 0 }

pub covers_more : (box old new : GeoBox) → Covers new old → Covers old box → Covers new box
covers_more box old new c d =
    let w1 = c.west in
    let w2 = d.west in
    let s1 = c.south in
    let s2 = d.south in
    let e1 = c.east in
    let e2 = d.east in
    let n1 = c.north in
    let n2 = d.north in
    record { west = omega (arith, ints); south = omega (arith, ints); east = omega (arith, ints); north = omega (arith, ints) }

all_covered : (old new : GeoBox) (boxes : List GeoBox) → Covers new old → AllByRecursion (Covers old) boxes
    → AllByRecursion (Covers new) boxes
all_covered old new [] c all = tt
all_covered old new (box ∷ boxes) c all = (covers_more box old new c all.0, all_covered old new boxes c all.1)

pub all_last : {A : Type 0} (P : A → Type 0) (xs : List A) (x : A) → AllByRecursion P xs → P x → AllByRecursion P (xs ++ x ∷ [])
all_last P [] x all one = (one, tt)
all_last P (y ∷ xs) x all one = (all.0, all_last P xs x all.1 one)

pub next_of : {A : Type 0} (xs : List A) (i : ℕ) (d : A) → i < length xs → take (i + 1) xs ≡ take i xs ++ get_or xs i d ∷ []
next_of xs i d h = take_more xs i d h

pub first_of : {A : Type 0} (xs : List A) (i : ℕ) (d : A) → i < length xs → drop i xs ≡ get_or xs i d ∷ drop (i + 1) xs
first_of xs i d h = rw (add-one, drop-cons xs i d)

-- one more box is covered
pub covered_next : (old new d : GeoBox) (boxes : List GeoBox) (i : ℕ) → i < length boxes → Covers new old → Covers new (get_or boxes i d)
    → AllByRecursion (Covers old) (take i boxes) → AllByRecursion (Covers new) (take (i + 1) boxes)
covered_next old new d boxes i h c e all =
    rw (next_of boxes i d h) (all_last (Covers new) (take i boxes) (get_or boxes i d) (all_covered old new (take i boxes) c all) e)
