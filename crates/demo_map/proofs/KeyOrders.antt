-- Keys that rise from square to square.
use Rattle.std.proofs.Common.{◌≡◌, ◌<◌, ◌≤◌, ℕ, ◌+◌, ◌*◌, ◌/◌, true, false, Option, None, Some, refl, ap, subst, arith}
use Rattle.std.specs.declared.cmp.Ordering.{Ordering}
use Rattle.std.specs.declared.cmp.Ordering.TheVariants.{Less, Equal, Greater}
use Rattle.std.specs.Ordering.{is_lt, nat_cmp}
use Rattle.std.proofs.lemmas.Bool.Decides.{nat_tests}
use Rattle.osm_base.proofs.KeyLaws.{key_cmp_total}
use Rattle.osm_base.specs.values.Key.{IsId, KeyOf, node_key, way_key, relation_key}
use Rattle.osm_base.specs.values.KeyOrder.{is_below, key_cmp}
use Rattle.object_fold.specs.Change.{Follows, IsProper}
use Rattle.demo_map.specs.declared.parts.Part.{Part}
use Rattle.demo_map.specs.declared.parts.Part.TheVariants.{Ways, Routes, Moved, Gone}
use Rattle.demo_map.specs.Parts.{entry_of, first_of, takes_square}

less_is : (order : Ordering) → is_lt order ≡ true → order ≡ Less
less_is Less e = refl
less_is Equal e = absurd (cc)
less_is Greater e = absurd (cc)

below_all : (first second third : KeyOf) → is_below first second ≡ true → is_below second third ≡ true → is_below first third ≡ true
below_all first second third one other =
    ap is_lt (key_cmp_total.trans first second third (less_is (key_cmp first second) one) (less_is (key_cmp second third) other))

-- ids that rise, of one kind
lower : (id other : ℕ) → id < other → is_lt (nat_cmp id other) ≡ true
lower id other less = grind (arith, nat_tests)

pub nodes_rise : (id other : ℕ) → id < other → is_below (node_key id) (node_key other) ≡ true
nodes_rise id other less = lower id other less

pub ways_rise : (id other : ℕ) → id < other → is_below (way_key id) (way_key other) ≡ true
ways_rise id other less = lower id other less

pub relations_rise : (id other : ℕ) → id < other → is_below (relation_key id) (relation_key other) ≡ true
relations_rise id other less = lower id other less

-- what may come next may come later too
pub follows_later : (last : Option KeyOf) (key later : KeyOf) → is_below key later ≡ true → Follows last key → Follows last later
follows_later None key later below follows = tt
follows_later (Some own) key later below follows = below_all own key later follows below

-- where a square has no entry, the next one may come in its place
pub passes_over : (part : Part) (square : ℕ) (last : Option KeyOf) → takes_square part square ≡ false
    → Follows last (first_of part square) → Follows last (first_of part (square + 1))
unfolding first_of
passes_over Ways square last none follows = absurd (cc)
passes_over Routes square last none follows =
    let same : (square + 9) / 10 ≡ (square + 1 + 9) / 10 = grind (arith, nat_tests, none) in
    subst (λ tens. Follows last (relation_key (tens + 1))) same follows
passes_over Moved square last none follows =
    follows_later last (node_key (4 * square + 3)) (node_key (4 * (square + 1) + 3))
    (nodes_rise (4 * square + 3) (4 * (square + 1) + 3) (omega arith)) follows
passes_over Gone square last none follows =
    follows_later last (node_key (4 * square + 1)) (node_key (4 * (square + 1) + 1))
    (nodes_rise (4 * square + 1) (4 * (square + 1) + 1) (omega arith)) follows

-- where it has one, that may come, and behind it that of the next square
pub first_is : (part : Part) (count square : ℕ) → takes_square part square ≡ true
    → (entry_of part count square).key ≡ first_of part square
unfolding entry_of first_of
first_is Ways count square taken = refl
first_is Routes count square taken =
    let same : square / 10 ≡ (square + 9) / 10 = grind (arith, nat_tests, taken) in
    ap (λ tens. relation_key (tens + 1)) same
first_is Moved count square taken = refl
first_is Gone count square taken = refl

pub rises : (part : Part) (count square : ℕ) → takes_square part square ≡ true
    → is_below (entry_of part count square).key (first_of part (square + 1)) ≡ true
unfolding entry_of first_of
rises Ways count square taken = ways_rise (square + 1) (square + 1 + 1) (omega arith)
rises Routes count square taken =
    let less : square / 10 + 1 < (square + 1 + 9) / 10 + 1 = grind (arith, nat_tests, taken) in
    relations_rise (square / 10 + 1) ((square + 1 + 9) / 10 + 1) less
rises Moved count square taken = nodes_rise (4 * square + 3) (4 * (square + 1) + 3) (omega arith)
rises Gone count square taken = nodes_rise (4 * square + 1) (4 * (square + 1) + 1) (omega arith)

-- each entry is of its key's kind
pub an_id : (id : ℕ) → 1 ≤ id → id ≤ 1000000 → IsId id
an_id id least few = record { least = least; greatest = omega (arith, few) }

pub proper : (part : Part) (count square : ℕ) → square < 100000 → IsProper (entry_of part count square)
unfolding entry_of
proper Ways count square few =
    let own : (corner : ℕ) → 1 ≤ corner → corner ≤ 4 → IsId (4 * square + corner) =
    λ corner least most. an_id (4 * square + corner) (omega (arith, least)) (omega (arith, most, few)) in
    let first : IsId (4 * square + 1) = own 1 (omega arith) (omega arith) in
    (first, (own 2 (omega arith) (omega arith), (own 3 (omega arith) (omega arith), (own 4 (omega arith) (omega arith), (first, tt)))))
proper Routes count square few = tt
proper Moved count square few = tt
proper Gone count square few = tt

-- behind all nodes the ways may come, and behind all ways the relations
pub ways_behind : (count : ℕ) (last : Option KeyOf) → Follows last (node_key (4 * count + 1)) → Follows last (first_of Ways 0)
unfolding first_of
ways_behind count last follows = follows_later last (node_key (4 * count + 1)) (way_key 1) refl follows

pub routes_behind : (count : ℕ) (last : Option KeyOf) → Follows last (first_of Ways count) → Follows last (first_of Routes 0)
unfolding first_of
routes_behind count last follows = follows_later last (way_key (count + 1)) (relation_key 1) refl follows
