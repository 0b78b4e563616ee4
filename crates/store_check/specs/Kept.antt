-- The eight maps of a store, each value in its bytes.
-- docs/FILES.md, "Buckets": the keys of the maps, and what the bytes of each value are.
use Rattle.std.specs.Prelude.{ℕ, List}
use Rattle.osm_base.specs.declared.values.key.Kind.TheVariants as kinds
use Rattle.style_read.specs.declared.style.TableDef.{TableDef}
use Rattle.bucket_records.specs.Records.{BucketMap}
use Rattle.value_bytes.specs.Maps.{HoldsMap}
use Rattle.value_bytes.specs.StoreMap.{map_number}
use Rattle.value_bytes.specs.declared.store_map.StoreMap.TheVariants as stored
use Rattle.value_bytes.specs.Nodes.{record_bytes, IsRecord}
use Rattle.middle_nodes.specs.Old.{old_record_bytes, IsOldRecord}
use Rattle.value_bytes.specs.Objects.{object_bytes, IsStored}
use Rattle.row_store.specs.Rows.{rows_bytes, AreRows}
use Rattle.back_index.specs.Ids.{ids_bytes, AreListed}
use Rattle.store_maps.specs.Maps.{Maps}

-- the rows of these tables and all else that is kept, map by map
pub record HoldsMaps (definitions : List TableDef) (kept : ℕ → BucketMap) (maps : Maps) : Type 0 where
  pub nodes : HoldsMap record_bytes IsRecord (kept (map_number stored.Nodes)) maps.nodes
  pub ways : HoldsMap object_bytes (IsStored kinds.Way) (kept (map_number stored.Ways)) maps.ways
  pub relations : HoldsMap object_bytes (IsStored kinds.Relation) (kept (map_number stored.Relations)) maps.relations
  pub ways_of_blocks : HoldsMap ids_bytes AreListed (kept (map_number stored.WaysOfBlocks)) maps.ways_of_blocks
  pub relations_of_nodes : HoldsMap ids_bytes AreListed (kept (map_number stored.RelationsOfNodes)) maps.relations_of_nodes
  pub relations_of_ways : HoldsMap ids_bytes AreListed (kept (map_number stored.RelationsOfWays)) maps.relations_of_ways
  pub node_rows : HoldsMap rows_bytes (AreRows definitions) (kept (map_number stored.NodeRows)) maps.node_rows
  pub other_rows : HoldsMap rows_bytes (AreRows definitions) (kept (map_number stored.OtherRows)) maps.other_rows

-- the same of a store of the old format: of its nodes it has places alone
pub record HoldsOldMaps (definitions : List TableDef) (kept : ℕ → BucketMap) (maps : Maps) : Type 0 where
  pub nodes : HoldsMap old_record_bytes IsOldRecord (kept (map_number stored.Nodes)) maps.nodes
  pub ways : HoldsMap object_bytes (IsStored kinds.Way) (kept (map_number stored.Ways)) maps.ways
  pub relations : HoldsMap object_bytes (IsStored kinds.Relation) (kept (map_number stored.Relations)) maps.relations
  pub ways_of_blocks : HoldsMap ids_bytes AreListed (kept (map_number stored.WaysOfBlocks)) maps.ways_of_blocks
  pub relations_of_nodes : HoldsMap ids_bytes AreListed (kept (map_number stored.RelationsOfNodes)) maps.relations_of_nodes
  pub relations_of_ways : HoldsMap ids_bytes AreListed (kept (map_number stored.RelationsOfWays)) maps.relations_of_ways
  pub node_rows : HoldsMap rows_bytes (AreRows definitions) (kept (map_number stored.NodeRows)) maps.node_rows
  pub other_rows : HoldsMap rows_bytes (AreRows definitions) (kept (map_number stored.OtherRows)) maps.other_rows
