-- The entries of the map and of its changes rise, and are as few as a file may have.
use Rattle.std.proofs.Common.{◌≡◌, ◌≤◌, ℕ, zero, suc, ◌+◌, ◌*◌, Option, None, Some, List, [], ◌∷◌, ◌++◌, length, map, refl, sym, ap, subst, ◌∙◌, arith, inl, inr}
use Rattle.std.specs.Prelude.{flat_map}
use Rattle.std.specs.List.{range_with_len}
use Rattle.std.proofs.lemmas.Bool.{cases_Bool}
use Rattle.std.proofs.lemmas.List.{length-append}
use Rattle.osm_base.specs.declared.bounds.limits.TheConstants.{MAX_ENTRIES}
use Rattle.osm_base.specs.declared.values.object.Entry.{Entry}
use Rattle.osm_base.specs.values.Key.{KeyOf, node_key}
use Rattle.object_fold.specs.Change.{Follows, IsChange, RiseFrom, last_key}
use Rattle.demo_map.specs.declared.parts.Part.{Part}
use Rattle.demo_map.specs.declared.parts.Part.TheVariants.{Ways, Routes, Moved, Gone}
use Rattle.demo_map.specs.Demo.{demo_first, demo_input, demo_second, nodes_of, squares, way_of}
use Rattle.demo_map.specs.Parts.{entry_of, first_of, made_by, takes_square}
use Rattle.demo_map.proofs.KeyOrders.{first_is, nodes_rise, passes_over, proper, rises, routes_behind, ways_behind}
use Rattle.demo_map.proofs.PartLists.{few_in_all, few_nodes, gone_by, moved_by, routes_by, ways_by}

-- these entries rise behind this key, and behind them that one may come
record Rise (last : Option KeyOf) (entries : List Entry) (next : KeyOf) : Type 0 where
  own : RiseFrom last entries
  later : Follows (last_key last entries) next

rise_both : (last : Option KeyOf) (front rest : List Entry) → RiseFrom last front → RiseFrom (last_key last front) rest
    → RiseFrom last (front ++ rest)
rise_both last [] rest one other = other
rise_both last (entry ∷ front) rest one other = (one.0, one.1, rise_both (Some entry.key) front rest one.2 other)

last_both : (last : Option KeyOf) (front rest : List Entry) → last_key last (front ++ rest) ≡ last_key (last_key last front) rest
last_both last [] rest = refl
last_both last (entry ∷ front) rest = last_both (Some entry.key) front rest

-- of one part, the squares from this one on
part_rises : (part : Part) (count square many past : ℕ) (last : Option KeyOf) → square + many ≡ past → past ≤ 100000
    → Follows last (first_of part square) → Rise last (made_by part count (range_with_len square many)) (first_of part past)
part_rises part count square zero past last all few follows =
    record { own = tt; later = subst (λ at. Follows last (first_of part at)) (omega (arith, all)) follows }
part_rises part count square (suc many) past last all few follows = elim (cases_Bool (takes_square part square)) [
  | inl taken ↦ (
      let entry = entry_of part count square in
      let rest = part_rises part count (square + 1) many past (Some entry.key) (omega (arith, all)) few (rises part count square taken) in
      rw taken (record {
        own = (
          proper part count square (omega (arith, all, few)),
          subst (Follows last) (sym (first_is part count square taken)) follows,
          rest.own,
        );
        later = rest.later;
      }))
  | inr none ↦ (
      let rest = part_rises part count (square + 1) many past last (omega (arith, all)) few (passes_over part square last none follows) in
      rw none (record { own = rest.own; later = rest.later }))
]

all_rise : (square many past : ℕ) (last : Option KeyOf) → square + many ≡ past → Follows last (node_key (4 * square + 1))
    → Rise last (flat_map nodes_of (range_with_len square many)) (node_key (4 * past + 1))
all_rise square zero past last all follows =
    record { own = tt; later = subst (λ at. Follows last (node_key (4 * at + 1))) (omega (arith, all)) follows }
all_rise square (suc many) past last all follows =
    let rest = all_rise (square + 1) many past (Some (node_key (4 * square + 4))) (omega (arith, all))
    (nodes_rise (4 * square + 4) (4 * (square + 1) + 1) (omega arith)) in
    record {
      own = (
        tt,
        follows,
        (
          tt,
          nodes_rise (4 * square + 1) (4 * square + 2) (omega arith),
          (
            tt,
            nodes_rise (4 * square + 2) (4 * square + 3) (omega arith),
            (tt, nodes_rise (4 * square + 3) (4 * square + 4) (omega arith), rest.own),
          ),
        ),
      );
      later = rest.later;
    }

-- the map as its three parts
abbrev its_nodes : ℕ → List Entry
its_nodes count = flat_map nodes_of (squares count)

abbrev its_parts : ℕ → List Entry
its_parts count = its_nodes count ++ made_by Ways count (squares count) ++ made_by Routes count (squares count)

parts_are : (count : ℕ) → its_parts count ≡ demo_input count
parts_are count =
    ap (λ ways. its_nodes count ++ ways ++ made_by Routes count (squares count)) (ways_by count (squares count))
    ∙ ap (λ routes. its_nodes count ++ map way_of (squares count) ++ routes) (routes_by count (squares count))

parts_rise : (count : ℕ) → count ≤ 100000 → IsChange (its_parts count)
parts_rise count few =
    let whole : 0 + count ≡ count = omega arith in
    let nodes = all_rise 0 count count None whole tt in
    let behind = last_key None (its_nodes count) in
    let ways = part_rises Ways count 0 count count behind whole few (ways_behind count behind nodes.later) in
    let behind_ways = last_key behind (made_by Ways count (squares count)) in
    let routes = part_rises Routes count 0 count count behind_ways whole few (routes_behind count behind_ways ways.later) in
    rise_both None (its_nodes count ++ made_by Ways count (squares count)) (made_by Routes count (squares count))
    (rise_both None (its_nodes count) (made_by Ways count (squares count)) nodes.own ways.own)
    (subst (λ last. RiseFrom last (made_by Routes count (squares count)))
    (sym (last_both None (its_nodes count) (made_by Ways count (squares count)))) routes.own)

pub input_rises : (count : ℕ) → count ≤ 100000 → IsChange (demo_input count)
input_rises count few = subst IsChange (parts_are count) (parts_rise count few)

pub first_rises : (count : ℕ) → count ≤ 100000 → IsChange (demo_first count)
first_rises count few = subst IsChange (moved_by count (squares count)) (part_rises Moved count 0 count count None (omega arith) few tt).own

pub second_rises : (count : ℕ) → count ≤ 100000 → IsChange (demo_second count)
second_rises count few = subst IsChange (gone_by count (squares count)) (part_rises Gone count 0 count count None (omega arith) few tt).own

-- how many there are

abbrev AreFew : List Entry → Type 0
AreFew entries = length entries ≤ MAX_ENTRIES

pub input_few : (count : ℕ) → count ≤ 100000 → AreFew (demo_input count)
input_few count few =
    let nodes = few_nodes count in
    let ways = few_in_all Ways count count in
    let routes = few_in_all Routes count count in
    subst AreFew (parts_are count) (
    rw (
      length-append (its_nodes count ++ made_by Ways count (squares count)) (made_by Routes count (squares count)),
      length-append (its_nodes count) (made_by Ways count (squares count)),
    )
    (omega (arith, nodes, ways, routes, few)))

pub first_few : (count : ℕ) → count ≤ 100000 → AreFew (demo_first count)
first_few count few =
    let moved = few_in_all Moved count count in
    subst AreFew (moved_by count (squares count)) (omega (arith, moved, few))

pub second_few : (count : ℕ) → count ≤ 100000 → AreFew (demo_second count)
second_few count few =
    let gone = few_in_all Gone count count in
    subst AreFew (gone_by count (squares count)) (omega (arith, gone, few))
