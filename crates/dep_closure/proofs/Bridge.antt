-- What is due by the index of the objects after a change, and by the forms that are at hand, is what is pending of the objects.
use Rattle.std.proofs.Common.{◌≡◌, ℕ, Bool, true, false, ◌&&◌, ◌||◌, List, [], ◌∷◌, Option, Some, None, refl, sym, ap, ◌∙◌}
use Rattle.std.specs.Ordering.{eq_by_cmp}
use Rattle.std.specs.List.{AllByRecursion, list_any}
use Rattle.std.specs.FinMap as finite
use Rattle.osm_base.specs.declared.values.key.Kind.{Kind}
use Rattle.osm_base.specs.declared.values.key.Kind.TheVariants as kinds
use Rattle.osm_base.specs.declared.values.object.Entry.{Entry}
use Rattle.osm_base.specs.declared.values.object.Object.{Object}
use Rattle.osm_base.specs.values.Key.{node_key, way_key, relation_key}
use Rattle.osm_base.specs.values.KeyOrder.{key_cmp}
use Rattle.osm_base.specs.map.Known.{Index}
use Rattle.osm_base.specs.map.Pending.{PendingOf}
use Rattle.style_read.specs.Style.{StyleOf}
use Rattle.object_fold.specs.Change.{IsChange}
use Rattle.osm_base.specs.map.Objects.{ObjectSet, folded_all}
use Rattle.osm_base.specs.map.Listers.{is_kind, lists, index_of}
use Rattle.object_fold.proofs.Listers.{has-ids_of}
use Rattle.osm_base.specs.values.Ids.{has}
use Rattle.dep_closure.specs.Gathered.{IsGathered}
use Rattle.dep_closure.specs.PendingSet.{HasOldForms, IsPendingOf, is_moved, is_named, is_reselected, moves, ways_in}
use Rattle.row_rules.specs.Condition.{reaches_nodes}
use Rattle.dep_closure.specs.Relations.{makes_relation, is_along}
use Rattle.dep_closure.specs.Selecting.{reselects, selects_again}
use Rattle.dep_closure.specs.Ways.{makes_due, is_due}
use Rattle.dep_closure.proofs.Anys.{list_any-same, list_any-same_there, has-swap, or-swap}
use Rattle.dep_closure.proofs.Forms.{forms-after}

has-ways_in : (id : ℕ) (object : Option Object) → lists kinds.Way id object ≡ has (ways_in object) id
has-ways_in id None = refl
has-ways_in id (Some object) = refl

-- the forms of a relation matter in an entry of one alone
on_relation : (is : Bool) (one other : Bool) → (is ≡ true → one ≡ other) → (is && one) ≡ (is && other)
on_relation true one other same = same refl
on_relation false one other same = refl

module _ (objects : ObjectSet) (change : List Entry) where
  abbrev after : ObjectSet
  after = folded_all objects change

  abbrev index : Index
  index = index_of after

  pub is_due-is_moved : (way : ℕ) → is_due index change way ≡ is_moved after change (way_key way)
  is_due-is_moved way =
      list_any-same (makes_due index way) (moves after (way_key way)) change
      (λ entry. ap (λ b. eq_by_cmp key_cmp (way_key way) entry.key || (is_kind kinds.Node entry.key.kind && b))
      (has-ids_of after kinds.Way kinds.Node entry.key.id way))

  makes_relation-is_moved : (id : ℕ) → list_any (makes_relation index id) change ≡ is_moved after change (relation_key id)
  makes_relation-is_moved id =
      list_any-same (makes_relation index id) (moves after (relation_key id)) change
      (λ entry. ap (λ b. eq_by_cmp key_cmp (relation_key id) entry.key || (is_kind kinds.Node entry.key.kind && b))
      (has-ids_of after kinds.Relation kinds.Node entry.key.id id))

  is_along-ways_in : (moved : List ℕ) → ((way : ℕ) → has moved way ≡ is_due index change way) → (id : ℕ)
      → is_along index moved id ≡ list_any (λ way. is_moved after change (way_key way)) (ways_in (finite.get after (relation_key id)))
  is_along-ways_in moved are id =
      list_any-same (λ way. has (index.relations_of_way way) id) (has (ways_in (finite.get after (relation_key id)))) moved
      (λ way. has-ids_of after kinds.Relation kinds.Way way id ∙ has-ways_in way (finite.get after (relation_key id)))
      ∙ has-swap moved (ways_in (finite.get after (relation_key id)))
      ∙ list_any-same (has moved) (λ way. is_moved after change (way_key way)) (ways_in (finite.get after (relation_key id)))
      (λ way. are way ∙ is_due-is_moved way)

  module _ (style : StyleOf) (old : ObjectSet) (kind : Kind) (id : ℕ) where
    abbrev again : Entry → Bool
    again entry = is_kind kinds.Relation entry.key.kind && reselects style kind id (finite.get objects entry.key)
        (finite.get after entry.key)

    again-there : (entries : List Entry) → AllByRecursion (λ (entry : Entry). finite.get after entry.key ≡ entry.object) entries
        → HasOldForms old objects entries → AllByRecursion (λ (entry : Entry). selects_again style old kind id entry ≡ again entry) entries
    again-there [] forms has_old = tt
    again-there (entry ∷ entries) forms has_old = (
      on_relation (is_kind kinds.Relation entry.key.kind) _ _ (λ is i. reselects style kind id (has_old.0 is i) (sym forms.0 i)),
      again-there entries forms.1 has_old.1,
    )

    selects_again-is_reselected : IsChange change → HasOldForms old objects change
        → list_any (selects_again style old kind id) change ≡ is_reselected style objects change kind id
    selects_again-is_reselected rise has_old =
        list_any-same_there (selects_again style old kind id) again change
        (again-there change (forms-after objects None change rise) has_old)

  pub gathered-pending : (style : StyleOf) (old : ObjectSet) (set : PendingOf) → IsChange change → HasOldForms old objects change
      → IsGathered style old index change set → IsPendingOf style objects change set
  gathered-pending style old set rise has_old gathered = record {
    nodes = λ id. gathered.nodes id ∙ ap (λ b. is_named change (node_key id) || (reaches_nodes style && b))
        (selects_again-is_reselected style old kinds.Node id rise has_old);
    ways = λ id.
        gathered.ways id
        ∙ or-swap (list_any (selects_again style old kinds.Way id) change) (is_due index change id)
        ∙ (λ i. is_due-is_moved id i || selects_again-is_reselected style old kinds.Way id rise has_old i);
    relations = λ id.
        gathered.relations.2 id
        ∙ (λ i. makes_relation-is_moved id i || is_along-ways_in gathered.relations.0 gathered.relations.1 id i);
    rising = gathered.rising;
  }
