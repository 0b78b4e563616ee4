-- What a change leaves of a way that it does not make due.
use Rattle.std.proofs.Common.{◌≡◌, ℕ, true, false, ◌||◌, List, [], ◌∷◌, Option, Some, None, refl, sym, ap, subst, ◌∙◌, nat_eq, arith}
use mathlib.Core.Bool.{false≢true}
use Rattle.std.specs.List.{AllByRecursion, dedup}
use Rattle.std.specs.FinMap as finite
use Rattle.std.proofs.lemmas.Bool.Decides.{nat_tests}
use Rattle.osm_base.specs.declared.values.key.Kind.TheVariants as kinds
use Rattle.osm_base.specs.declared.values.object.Entry.{Entry}
use Rattle.osm_base.specs.declared.values.object.Object.{Object}
use Rattle.osm_base.specs.declared.values.object.Object.TheVariants.{Node, Way, Relation}
use Rattle.osm_base.specs.values.Key.{IsId, way_key}
use Rattle.piece_ends.specs.Pieces.{same_place}
use Rattle.piece_ends.specs.Points.{line_through}
use Rattle.osm_base.specs.map.Objects.{ObjectSet, folded_all}
use Rattle.osm_base.specs.map.Listers.{lists, index_of, known_of}
use Rattle.osm_base.specs.values.Ids.{has}
use Rattle.dep_closure.specs.PendingSet.{is_moved}
use Rattle.row_rules.specs.Shape.{line_in}
use Rattle.dep_closure.specs.Ways.{is_due, Leaves}
use Rattle.dep_closure.proofs.Anys.{filter_map-same, or-true, tied_self}
use Rattle.dep_closure.proofs.Bridge.{is_due-is_moved}
use Rattle.dep_closure.proofs.Stays.{object-stays, place-stays}

module _ (objects : ObjectSet) (change : List Entry) (way : ℕ)
    (not_moved : is_moved (folded_all objects change) change (way_key way) ≡ false) where
  abbrev after : ObjectSet
  after = folded_all objects change

  line-left : (object : Option Object) → finite.get after (way_key way) ≡ object
      → line_in (known_of after).place object ≡ line_in (known_of objects).place object
  line-left None is = refl
  line-left (Some (Node place tags)) is = refl
  line-left (Some (Relation members tags)) is = refl
  line-left (Some (Way nodes tags)) is =
      ap (λ places. line_through (dedup same_place places)) (filter_map-same (known_of after).place (known_of objects).place nodes
      (λ id there. place-stays objects change (way_key way) not_moved id (ap (lists kinds.Node id) is ∙ there)))

  leaves : Leaves change objects way
  leaves = record {
    object = object-stays objects change (way_key way) not_moved;
    line = line-left (finite.get after (way_key way)) refl
        ∙ ap (line_in (known_of objects).place) (object-stays objects change (way_key way) not_moved);
  }

pub left : (objects : ObjectSet) (change : List Entry) (way : ℕ) → is_due (index_of (folded_all objects change)) change way ≡ false
    → Leaves change objects way
left objects change way not_due = leaves objects change way (sym (is_due-is_moved objects change way) ∙ not_due)

-- ids among ids
same_id : (id own : ℕ) → nat_eq id own ≡ true → id ≡ own
same_id id own same = grind (arith, nat_tests)

is_id : (ids : List ℕ) → AllByRecursion IsId ids → (id : ℕ) → has ids id ≡ true → IsId id
is_id [] all id there = absurd (false≢true there)
is_id (first ∷ ids) all id there =
    elim (nat_eq first id) as (λ b. nat_eq first id ≡ b → (b || has ids id) ≡ true → IsId id) [
      | true ↦ λ same _. subst IsId (same_id first id same) all.0
      | false ↦ λ differs there. is_id ids all.1 id there
    ] refl there

pub same-ids : (ids others : List ℕ) → ((id : ℕ) → has others id ≡ has ids id) → AllByRecursion IsId ids → AllByRecursion IsId others
same-ids ids others same all = from_each others (λ id there. is_id ids all id (sym (same id) ∙ there))
  where
    from_each : (others : List ℕ) → ((id : ℕ) → has others id ≡ true → IsId id) → AllByRecursion IsId others
    from_each [] each = tt
    from_each (first ∷ others) each = (
      each first (ap (λ b. b || has others first) (tied_self first)),
      from_each others (λ id there. each id (or-true (nat_eq first id) (has others id) there)),
    )
