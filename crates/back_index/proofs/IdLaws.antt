-- The laws of lists of the index in bytes.
use Rattle.std.proofs.Common.{◌≡◌, ◌≢◌, ◌+◌, ◌*◌, ◌/◌, ◌<◌, ◌≤◌, ℕ, List, [], ◌∷◌, ◌++◌, length, refl, sym, ap, ◌∙◌, subst, arith, suc}
use Rattle.std.proofs.Common.{get_or, drop, drop-cons, length-append, true}
use Rattle.std.specs.Prelude.{◌==◌}
use Rattle.std.proofs.lemmas.Bool.{eqb-true}
use Rattle.std.proofs.lemmas.List.{append-nil, drop_all}
use Rattle.std.proofs.lemmas.Bool.Decides.{nat_tests}
use Rattle.std.specs.declared.cmp.Ordering.TheVariants.{Less}
use Rattle.std.specs.Ordering.{nat_cmp}
use Rattle.std.specs.List.{AllByRecursion}
use Rattle.std.specs.List.Sorted.{IsStrictlySortedBy}
use Rattle.osm_base.specs.values.Ids.{IsRising, AreRisingIds}
use Rattle.osm_base.specs.values.Key.{IsId}
use Rattle.osm_base.specs.declared.values.key.TheConstants.{MAX_ID}
use Rattle.back_index.specs.Ids.{ids_bytes}
use Rattle.value_bytes.specs.Forms.{Begins, IsFront, IsFrontless, Spells, IsNoValue, all_bytes, AreMany}
use Rattle.value_bytes.specs.Numbers.{number_bytes, IsNumber}
use Rattle.value_bytes.proofs.NumberLaws.{length-number_bytes}

-- eight bytes a number
pub length-ids_bytes : (ids : List ℕ) → length (ids_bytes ids) ≡ 8 * length ids
length-ids_bytes [] = refl
length-ids_bytes (id ∷ ids) = omega (arith, length-append (number_bytes id) (ids_bytes ids), length-number_bytes id, length-ids_bytes ids)

-- ids from this one on, each above the one before it
abbrev pub RiseFrom : ℕ → List ℕ → Type 0
RiseFrom least [] = Unit {0}
RiseFrom least (id ∷ ids) = (least ≤ id) × (id ≤ MAX_ID) × RiseFrom (id + 1) ids

less_of : (id other : ℕ) → id < other → nat_cmp id other ≡ Less
less_of id other lt = grind (arith, nat_tests)

less_than : (id other : ℕ) → nat_cmp id other ≡ Less → id < other
less_than id other e = grind (arith, nat_tests)

above : (id least : ℕ) (ids : List ℕ) → id < least → RiseFrom least ids → AllByRecursion (λ other. nat_cmp id other ≡ Less) ids
above id least [] low rise = tt
above id least (next ∷ ids) low rise = (less_of id next (omega (arith, rise.0)), above id (next + 1) ids (omega (arith, rise.0)) rise.2)

pub sorted : (least : ℕ) (ids : List ℕ) → 1 ≤ least → RiseFrom least ids → AreRisingIds ids
unfolding IsStrictlySortedBy
sorted least [] low rise = (tt, tt)
sorted least (id ∷ ids) low rise =
    let rest = sorted (id + 1) ids (omega arith) rise.2 in
    ((above id (id + 1) ids (omega arith) rise.2, rest.0), (record { least = omega (arith, rise.0); greatest = rise.1 }, rest.1))

first_above : (id : ℕ) (ids : List ℕ) → AllByRecursion (λ other. nat_cmp id other ≡ Less) ids → IsRising ids → AllByRecursion IsId ids
    → RiseFrom (id + 1) ids
unfolding IsStrictlySortedBy
first_above id [] all rise are = tt
first_above id (next ∷ ids) all rise are =
    let low = less_than id next all.0 in
    (omega arith, are.0.greatest, first_above next ids rise.0 rise.1 are.1)

pub rises : (ids : List ℕ) → AreRisingIds ids → RiseFrom 1 ids
unfolding IsStrictlySortedBy
rises [] rise = tt
rises (id ∷ ids) rise = (rise.1.0.least, rise.1.0.greatest, first_above id ids rise.0.0 rise.0.1 rise.1.1)

-- one more of those that rise
pub rise_step : (ids : List ℕ) (place least : ℕ) → place < length ids → RiseFrom least (drop place ids)
    → (least ≤ get_or ids place 0) × (get_or ids place 0 ≤ MAX_ID) × RiseFrom (get_or ids place 0 + 1) (drop (place + 1) ids)
rise_step ids place least within rise =
    let next : suc place ≡ place + 1 = omega arith in
    let cut : drop place ids ≡ get_or ids place 0 ∷ drop (place + 1) ids =
    drop-cons ids place 0 within ∙ ap (λ (n : ℕ). get_or ids place 0 ∷ drop n ids) next in
    subst (λ l. RiseFrom least l) cut rise

pub rise_back : (ids : List ℕ) (place least : ℕ) → place < length ids → least ≤ get_or ids place 0 → get_or ids place 0 ≤ MAX_ID
    → RiseFrom (get_or ids place 0 + 1) (drop (place + 1) ids) → RiseFrom least (drop place ids)
rise_back ids place least within low high rise =
    let next : suc place ≡ place + 1 = omega arith in
    let cut : drop place ids ≡ get_or ids place 0 ∷ drop (place + 1) ids =
    drop-cons ids place 0 within ∙ ap (λ (n : ℕ). get_or ids place 0 ∷ drop n ids) next in
    subst (λ l. RiseFrom least l) (sym cut) (low, high, rise)

pub rise_none : (ids : List ℕ) (place least : ℕ) → length ids ≤ place → RiseFrom least (drop place ids)
rise_none ids place least past = subst (λ l. RiseFrom least l) (sym (drop_all place ids past)) tt

-- bytes of numbers begin with as many as there are eights of them
many : (bytes : List ℕ) (ids : List ℕ) → AllByRecursion IsNumber ids → bytes ≡ ids_bytes ids
    → Begins (all_bytes number_bytes) (AreMany (length bytes / 8) IsNumber) bytes ids []
many bytes ids are same = record {
  is = record { count_is = omega (arith, ap (λ (l : List ℕ). length l) same, length-ids_bytes ids); each = are };
  bytes_are = same ∙ sym (append-nil (ids_bytes ids));
}

pub numbers_spelled : (bytes ids rest : List ℕ) → IsFront (all_bytes number_bytes) (AreMany (length bytes / 8) IsNumber) bytes ids rest
    → rest ≡ []
    → Spells ids_bytes (AllByRecursion IsNumber) bytes ids
numbers_spelled bytes ids rest front none = record {
  is = front.begins.is.each;
  bytes_are = front.begins.bytes_are ∙ ap (λ (l : List ℕ). ids_bytes ids ++ l) none ∙ append-nil (ids_bytes ids);
  alone = λ other are same. (front.alone other [] (many bytes other are same)).0;
}

pub numbers_refused : (bytes : List ℕ) → IsFrontless (all_bytes number_bytes) (AreMany (length bytes / 8) IsNumber) bytes
    → IsNoValue ids_bytes (AllByRecursion IsNumber) bytes
numbers_refused bytes none ids are same = none ids [] (many bytes ids are same)

pub numbers_behind : (bytes ids rest : List ℕ) → IsFront (all_bytes number_bytes) (AreMany (length bytes / 8) IsNumber) bytes ids rest
    → rest ≢ []
    → IsNoValue ids_bytes (AllByRecursion IsNumber) bytes
numbers_behind bytes ids rest front some other are same = some (sym (front.alone other [] (many bytes other are same)).1)

-- no bytes are left
pub nothing_left : (bytes : List ℕ) → true ≡ (length bytes == 0) → bytes ≡ []
nothing_left [] same = refl
nothing_left (byte ∷ bytes) same = absurd (omega (arith, eqb-true (suc (length bytes)) 0 (sym same)))
