-- Maps in which the tags of some nodes are not known, and what a change leaves of these nodes.
-- docs/FILES.md, "Buckets, and the eight maps": of a node that an old store had before it was migrated the place is known, and no tags are.
-- Its rows were built of tags that the store does not keep, so that no object explains them.
use Rattle.std.specs.Prelude.{◌≡◌, ◌≤◌, ℕ, List, Option, None, Some, Result, IfErr, IfSome, OnOk}
use Rattle.std.specs.FinMap as finite
use Rattle.std.specs.List.{AllByRecursion}
use Rattle.osm_base.specs.declared.values.key.Kind.TheVariants as kinds
use Rattle.osm_base.specs.declared.values.object.Entry.{Entry}
use Rattle.osm_base.specs.declared.values.row.RowChange.{RowChange}
use Rattle.osm_base.specs.map.Objects.{ObjectSet, folded_all}
use Rattle.osm_base.specs.map.Pending.{PendingOf}
use Rattle.osm_base.specs.values.Key.{KeyOf, node_key}
use Rattle.style_read.specs.Style.{StyleOf}
use Rattle.value_bytes.specs.declared.nodes.NodeRecord.{NodeRecord}
use Rattle.row_rules.specs.Condition.{reaches_nodes}
use Rattle.row_rules.specs.Rows.{rows_in}
use Rattle.dep_closure.specs.PendingSet.{IsPendingOf, size}
use Rattle.store_maps.specs.Maps.{Maps, rows_at, unless_empty}
use Rattle.store_maps.specs.Named.{place_in}
use Rattle.store_maps.specs.Rows.{AreKept}
use Rattle.store_maps.specs.Stands.{StandsOn}
use Rattle.update_step.specs.Ends.{MayRefuse}
use Rattle.update_step.specs.declared.fault.StepFault.{StepFault}

-- a node is kept whose tags nobody knows
abbrev pub IsUnknown : Option NodeRecord → Type 0
IsUnknown None = ⊥
IsUnknown (Some kept) = kept.tags ≡ None

-- what is kept of a key, where it is that of a node
abbrev pub record_at : Maps → KeyOf → Option NodeRecord
record_at maps own = elim own.kind as (λ _. Option NodeRecord) [ kinds.Node ↦ finite.get maps.nodes own.id | _ ↦ None ]

-- of these keys those of nodes whose tags nobody knows have no place
abbrev pub IsUnplaced : Maps → KeyOf → Type 0
IsUnplaced maps own = IsUnknown (record_at maps own) → place_in (record_at maps own) ≡ None

abbrev pub AreUnplaced : Maps → List KeyOf → Type 0
AreUnplaced maps keys = AllByRecursion (IsUnplaced maps) keys

-- the maps stand for these objects, but for the rows of nodes whose tags nobody knows: such a node has any that the tables may have, and
-- none where it has no place
pub record StandsKnown (style : StyleOf) (maps : Maps) (objects : ObjectSet) : Type 0 where
  pub on : StandsOn (reaches_nodes style) maps objects
  pub rows : (own : KeyOf) → ¬ IsUnknown (record_at maps own) → rows_at maps own.kind own.id ≡ unless_empty (rows_in style objects own)
  pub kept : (id : ℕ) → IsUnknown (finite.get maps.nodes id) → IfSome (finite.get maps.node_rows id) (AreKept style.tables)
  pub placed : (id : ℕ) → IsUnknown (finite.get maps.nodes id) → place_in (finite.get maps.nodes id) ≡ None
      → finite.get maps.node_rows id ≡ None

-- a node is kept as before, of the same object and with the same rows
pub record IsLeft (old new : Maps) (objects later : ObjectSet) (id : ℕ) : Type 0 where
  pub kept : finite.get new.nodes id ≡ finite.get old.nodes id
  pub object : finite.get later (node_key id) ≡ finite.get objects (node_key id)
  pub rows : finite.get new.node_rows id ≡ finite.get old.node_rows id

-- the store holds such maps now, and they stand so for the objects after the entries. A node whose tags nobody knows then was left alone.
-- No more keys were pending than the limit, and a refusal is one that may be.
pub record KeepsKnown {E : Type 0} (Now : Maps → Type 0) (MayBe : E → Type 0) (style : StyleOf) (limit : ℕ) (maps : Maps)
    (objects : ObjectSet) (entries : List Entry) (result : Result (List RowChange) (StepFault E)) : Type 0 where
  pub stands : OnOk result ((after : Maps) × Now after × StandsKnown style after (folded_all objects entries)
      × ((id : ℕ) → IsUnknown (finite.get after.nodes id) → IsLeft maps after objects (folded_all objects entries) id))
  pub few : OnOk result ((set : PendingOf) → IsPendingOf style objects entries set → size set ≤ limit)
  pub allowed : IfErr result (MayRefuse MayBe)
