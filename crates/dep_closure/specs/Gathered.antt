-- What is pending, by an index of the objects after the change.
use Rattle.std.specs.Prelude.{◌≡◌, ℕ, ◌&&◌, ◌||◌, List}
use Rattle.std.specs.List.{list_any}
use Rattle.osm_base.specs.declared.values.key.Kind.TheVariants as kinds
use Rattle.osm_base.specs.declared.values.object.Entry.{Entry}
use Rattle.osm_base.specs.values.Ids.{AreRisingIds}
use Rattle.osm_base.specs.values.Key.{node_key}
use Rattle.osm_base.specs.map.Known.{Index}
use Rattle.osm_base.specs.map.Pending.{PendingOf}
use Rattle.style_read.specs.Style.{StyleOf}
use Rattle.osm_base.specs.map.Objects.{ObjectSet}
use Rattle.osm_base.specs.values.Ids.{has}
use Rattle.dep_closure.specs.PendingSet.{is_named}
use Rattle.row_rules.specs.Condition.{reaches_nodes}
use Rattle.dep_closure.specs.Relations.{is_due_relation}
use Rattle.dep_closure.specs.Selecting.{selects_again}
use Rattle.dep_closure.specs.Ways.{is_due}

-- ways that a change makes due, of which relations are told
abbrev pub AreMoved : Index → List Entry → List ℕ → Type 0
AreMoved index change ways = (way : ℕ) → has ways way ≡ is_due index change way

-- the rising ids of what an index tells, and of what the old forms and the change select
pub record IsGathered (style : StyleOf) (old : ObjectSet) (index : Index) (change : List Entry) (set : PendingOf) : Type 0 where
  pub nodes : (id : ℕ) → has set.nodes id ≡
      (is_named change (node_key id) || (reaches_nodes style && list_any (selects_again style old kinds.Node id) change))
  pub ways : (id : ℕ) → has set.ways id ≡ (list_any (selects_again style old kinds.Way id) change || is_due index change id)
  pub relations : (moved : List ℕ) × AreMoved index change moved × ((id : ℕ) → has set.relations id ≡ is_due_relation index change moved id)
  pub rising : AreRisingIds set.nodes × AreRisingIds set.ways × AreRisingIds set.relations
