-- Maps in bytes stay maps of values where one value changes.
use Rattle.std.proofs.Common.{◌≡◌, ◌≢◌, ◌<◌, ℕ, List, Option, Some, None, refl, sym, subst, arith}
use Rattle.std.specs.Option.{option_map}
use Rattle.std.specs.Ordering.{nat_cmp}
use Rattle.std.specs.FinMap as finite
use Rattle.osm_base.specs.declared.values.key.Kind.TheVariants as kinds
use Rattle.osm_base.specs.declared.values.object.Object.{Object}
use Rattle.osm_base.specs.declared.values.row.TableRow.{TableRow}
use Rattle.style_read.specs.declared.style.TableDef.{TableDef}
use Rattle.bucket_records.specs.Records.{BucketMap}
use Rattle.bucket_store.specs.Image.{Image, with_entry, with_value}
use Rattle.bucket_store.proofs.Images.{maps_beside, maps_here}
use Rattle.value_bytes.specs.Maps.{HoldsMap}
use Rattle.value_bytes.proofs.MapLaws.{held_empty, held_insert, held_remove}
use Rattle.value_bytes.specs.Nodes.{record_bytes, IsRecord}
use Rattle.value_bytes.specs.declared.nodes.NodeRecord.{NodeRecord}
use Rattle.value_bytes.specs.Objects.{object_bytes, IsStored}
use Rattle.row_store.specs.Rows.{rows_bytes, AreRows}
use Rattle.back_index.specs.Ids.{ids_bytes, AreListed}
use Rattle.store_maps.specs.Maps.{Maps, empty_maps, set}
use Rattle.store_check.specs.Kept.{HoldsMaps}

-- the value, if there is one, is such a value
abbrev pub IfIs : {V : Type 0} → (V → Type 0) → Option V → Type 0
IfIs Is None = Unit {0}
IfIs Is (Some value) = Is value

held_set : {V : Type 0} (spell : V → List ℕ) (Is : V → Type 0) (bytes : BucketMap) (values : finite.FinMap nat_cmp V) (key : ℕ)
    (value : Option V)
    → HoldsMap spell Is bytes values → IfIs Is value
    → HoldsMap spell Is (with_entry key (option_map spell value) bytes) (set values key value)
held_set spell Is bytes values key None held is = held_remove spell Is bytes values key held
held_set spell Is bytes values key (Some value) held is = held_insert spell Is bytes values key value held is

-- the map of the value
here : {V : Type 0} (spell : V → List ℕ) (Is : V → Type 0) (image : Image) (m : ℕ) (values : finite.FinMap nat_cmp V) (key : ℕ)
    (value : Option V)
    → HoldsMap spell Is (image.maps m) values → IfIs Is value
    → HoldsMap spell Is ((with_value m key (option_map spell value) image).maps m) (set values key value)
here spell Is image m values key value held is =
    subst (λ (b : BucketMap). HoldsMap spell Is b (set values key value)) (sym (maps_here m key (option_map spell value) image m refl))
    (held_set spell Is (image.maps m) values key value held is)

-- and each other one
beside : {V : Type 0} (spell : V → List ℕ) (Is : V → Type 0) (image : Image) (m : ℕ) (key : ℕ) (change : Option (List ℕ)) (k : ℕ)
    (values : finite.FinMap nat_cmp V) → k ≢ m → HoldsMap spell Is (image.maps k) values
    → HoldsMap spell Is ((with_value m key change image).maps k) values
beside spell Is image m key change k values apart held =
    subst (λ (b : BucketMap). HoldsMap spell Is b values) (sym (maps_beside m key change image k apart)) held

module _ (definitions : List TableDef) (image : Image) (maps : Maps) (key : ℕ) (held : HoldsMaps definitions image.maps maps) where
  pub node_kept : (value : Option NodeRecord) → IfIs IsRecord value
      → HoldsMaps definitions (with_value 0 key (option_map record_bytes value) image).maps
      (record maps { nodes = set maps.nodes key value })
  node_kept value is = record {
    nodes = here record_bytes IsRecord image 0 maps.nodes key value held.nodes is;
    ways = beside object_bytes (IsStored kinds.Way) image 0 key (option_map record_bytes value) 1 maps.ways (omega arith) held.ways;
    relations = beside object_bytes (IsStored kinds.Relation) image 0 key (option_map record_bytes value) 2 maps.relations
        (omega arith) held.relations;
    ways_of_blocks = beside ids_bytes AreListed image 0 key (option_map record_bytes value) 3 maps.ways_of_blocks
        (omega arith) held.ways_of_blocks;
    relations_of_nodes = beside ids_bytes AreListed image 0 key (option_map record_bytes value) 4 maps.relations_of_nodes
        (omega arith) held.relations_of_nodes;
    relations_of_ways = beside ids_bytes AreListed image 0 key (option_map record_bytes value) 5 maps.relations_of_ways
        (omega arith) held.relations_of_ways;
    node_rows = beside rows_bytes (AreRows definitions) image 0 key (option_map record_bytes value) 6 maps.node_rows
        (omega arith) held.node_rows;
    other_rows = beside rows_bytes (AreRows definitions) image 0 key (option_map record_bytes value) 7 maps.other_rows
        (omega arith) held.other_rows;
  }

  pub way_kept : (value : Option Object) → IfIs (IsStored kinds.Way) value
      → HoldsMaps definitions (with_value 1 key (option_map object_bytes value) image).maps (record maps { ways = set maps.ways key value })
  way_kept value is = record {
    nodes = beside record_bytes IsRecord image 1 key (option_map object_bytes value) 0 maps.nodes (omega arith) held.nodes;
    ways = here object_bytes (IsStored kinds.Way) image 1 maps.ways key value held.ways is;
    relations = beside object_bytes (IsStored kinds.Relation) image 1 key (option_map object_bytes value) 2 maps.relations
        (omega arith) held.relations;
    ways_of_blocks = beside ids_bytes AreListed image 1 key (option_map object_bytes value) 3 maps.ways_of_blocks
        (omega arith) held.ways_of_blocks;
    relations_of_nodes = beside ids_bytes AreListed image 1 key (option_map object_bytes value) 4 maps.relations_of_nodes
        (omega arith) held.relations_of_nodes;
    relations_of_ways = beside ids_bytes AreListed image 1 key (option_map object_bytes value) 5 maps.relations_of_ways
        (omega arith) held.relations_of_ways;
    node_rows = beside rows_bytes (AreRows definitions) image 1 key (option_map object_bytes value) 6 maps.node_rows
        (omega arith) held.node_rows;
    other_rows = beside rows_bytes (AreRows definitions) image 1 key (option_map object_bytes value) 7 maps.other_rows
        (omega arith) held.other_rows;
  }

  pub relation_kept : (value : Option Object) → IfIs (IsStored kinds.Relation) value
      → HoldsMaps definitions (with_value 2 key (option_map object_bytes value) image).maps
      (record maps { relations = set maps.relations key value })
  relation_kept value is = record {
    nodes = beside record_bytes IsRecord image 2 key (option_map object_bytes value) 0 maps.nodes (omega arith) held.nodes;
    ways = beside object_bytes (IsStored kinds.Way) image 2 key (option_map object_bytes value) 1 maps.ways (omega arith) held.ways;
    relations = here object_bytes (IsStored kinds.Relation) image 2 maps.relations key value held.relations is;
    ways_of_blocks = beside ids_bytes AreListed image 2 key (option_map object_bytes value) 3 maps.ways_of_blocks
        (omega arith) held.ways_of_blocks;
    relations_of_nodes = beside ids_bytes AreListed image 2 key (option_map object_bytes value) 4 maps.relations_of_nodes
        (omega arith) held.relations_of_nodes;
    relations_of_ways = beside ids_bytes AreListed image 2 key (option_map object_bytes value) 5 maps.relations_of_ways
        (omega arith) held.relations_of_ways;
    node_rows = beside rows_bytes (AreRows definitions) image 2 key (option_map object_bytes value) 6 maps.node_rows
        (omega arith) held.node_rows;
    other_rows = beside rows_bytes (AreRows definitions) image 2 key (option_map object_bytes value) 7 maps.other_rows
        (omega arith) held.other_rows;
  }

  pub node_rows_kept : (value : Option (List TableRow)) → IfIs (AreRows definitions) value
      → HoldsMaps definitions (with_value 6 key (option_map rows_bytes value) image).maps
      (record maps { node_rows = set maps.node_rows key value })
  node_rows_kept value is = record {
    nodes = beside record_bytes IsRecord image 6 key (option_map rows_bytes value) 0 maps.nodes (omega arith) held.nodes;
    ways = beside object_bytes (IsStored kinds.Way) image 6 key (option_map rows_bytes value) 1 maps.ways (omega arith) held.ways;
    relations = beside object_bytes (IsStored kinds.Relation) image 6 key (option_map rows_bytes value) 2 maps.relations
        (omega arith) held.relations;
    ways_of_blocks = beside ids_bytes AreListed image 6 key (option_map rows_bytes value) 3 maps.ways_of_blocks
        (omega arith) held.ways_of_blocks;
    relations_of_nodes = beside ids_bytes AreListed image 6 key (option_map rows_bytes value) 4 maps.relations_of_nodes
        (omega arith) held.relations_of_nodes;
    relations_of_ways = beside ids_bytes AreListed image 6 key (option_map rows_bytes value) 5 maps.relations_of_ways
        (omega arith) held.relations_of_ways;
    node_rows = here rows_bytes (AreRows definitions) image 6 maps.node_rows key value held.node_rows is;
    other_rows = beside rows_bytes (AreRows definitions) image 6 key (option_map rows_bytes value) 7 maps.other_rows
        (omega arith) held.other_rows;
  }

  pub other_rows_kept : (value : Option (List TableRow)) → IfIs (AreRows definitions) value
      → HoldsMaps definitions (with_value 7 key (option_map rows_bytes value) image).maps
      (record maps { other_rows = set maps.other_rows key value })
  other_rows_kept value is = record {
    nodes = beside record_bytes IsRecord image 7 key (option_map rows_bytes value) 0 maps.nodes (omega arith) held.nodes;
    ways = beside object_bytes (IsStored kinds.Way) image 7 key (option_map rows_bytes value) 1 maps.ways (omega arith) held.ways;
    relations = beside object_bytes (IsStored kinds.Relation) image 7 key (option_map rows_bytes value) 2 maps.relations
        (omega arith) held.relations;
    ways_of_blocks = beside ids_bytes AreListed image 7 key (option_map rows_bytes value) 3 maps.ways_of_blocks
        (omega arith) held.ways_of_blocks;
    relations_of_nodes = beside ids_bytes AreListed image 7 key (option_map rows_bytes value) 4 maps.relations_of_nodes
        (omega arith) held.relations_of_nodes;
    relations_of_ways = beside ids_bytes AreListed image 7 key (option_map rows_bytes value) 5 maps.relations_of_ways
        (omega arith) held.relations_of_ways;
    node_rows = beside rows_bytes (AreRows definitions) image 7 key (option_map rows_bytes value) 6 maps.node_rows
        (omega arith) held.node_rows;
    other_rows = here rows_bytes (AreRows definitions) image 7 maps.other_rows key value held.other_rows is;
  }

-- maps without values
none_held : {V : Type 0} (spell : V → List ℕ) (Is : V → Type 0) (bytes : BucketMap) → bytes ≡ finite.empty
    → HoldsMap spell Is bytes finite.empty
none_held {V} spell Is bytes none = subst (λ (b : BucketMap). HoldsMap spell Is b (finite.empty {X = V})) (sym none) (held_empty spell Is)

pub empty_kept : (definitions : List TableDef) (kept : ℕ → BucketMap) → ((m : ℕ) → m < 8 → kept m ≡ finite.empty)
    → HoldsMaps definitions kept empty_maps
empty_kept definitions kept none = record {
  nodes = none_held record_bytes IsRecord (kept 0) (none 0 (omega arith));
  ways = none_held object_bytes (IsStored kinds.Way) (kept 1) (none 1 (omega arith));
  relations = none_held object_bytes (IsStored kinds.Relation) (kept 2) (none 2 (omega arith));
  ways_of_blocks = none_held ids_bytes AreListed (kept 3) (none 3 (omega arith));
  relations_of_nodes = none_held ids_bytes AreListed (kept 4) (none 4 (omega arith));
  relations_of_ways = none_held ids_bytes AreListed (kept 5) (none 5 (omega arith));
  node_rows = none_held rows_bytes (AreRows definitions) (kept 6) (none 6 (omega arith));
  other_rows = none_held rows_bytes (AreRows definitions) (kept 7) (none 7 (omega arith));
}

-- maps that are equal hold the same
pub kept_same : (definitions : List TableDef) (one other : ℕ → BucketMap) (maps : Maps) → ((m : ℕ) → other m ≡ one m)
    → HoldsMaps definitions one maps → HoldsMaps definitions other maps
kept_same definitions one other maps same held =
    subst (λ (kept : ℕ → BucketMap). HoldsMaps definitions kept maps) (λ i m. sym (same m) i) held
