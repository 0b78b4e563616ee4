-- The index that is filled in buckets is filled in the maps that these have.
use Rattle.std.proofs.Common.{◌≡◌, ◌≢◌, ℕ, List, Result, Ok, Err, IfErr, sym, ◌∙◌, subst, arith}
use Rattle.outside.specs.declared.disk.Disk.{Ghosts}
use Rattle.page_journal.specs.declared.fault.StoreFault.{StoreFault}
use Rattle.osm_base.specs.declared.values.key.Kind.TheVariants as kinds
use Rattle.osm_base.specs.declared.values.object.Entry.{Entry}
use Rattle.osm_base.specs.map.Listers.{listed}
use Rattle.style_read.specs.declared.style.TableDef.{TableDef}
use Rattle.bucket_records.specs.Records.{BucketMap}
use Rattle.bucket_store.specs.Image.{Has, Image, IsSoundAnswer}
use Rattle.bucket_store.specs.declared.buckets.Buckets.{Buckets}
use Rattle.value_bytes.specs.Nodes.{record_bytes, IsRecord}
use Rattle.value_bytes.specs.Objects.{object_bytes, IsStored}
use Rattle.row_store.specs.Rows.{rows_bytes, AreRows}
use Rattle.value_bytes.specs.Maps.{HoldsMap}
use Rattle.store_maps.specs.Filling.{HasNoLists, all_listed_on, entries_tell}
use Rattle.store_maps.specs.Maps.{Maps}
use Rattle.store_maps.specs.Turns.{blocks_in}
use Rattle.store_maps.proofs.Fillings.{filled_listing, filled_lists, lists_apart}
use Rattle.back_index.specs.Filling.{Fills, HasNoIndex}
use Rattle.back_index.specs.Visits.{Refuses}
use Rattle.back_index.proofs.Filled.{told_held, void_held}
use Rattle.update_flow.specs.maps.Held.{Beside, HasMaps}
use Rattle.store_check.specs.Kept.{HoldsMaps}
use Rattle.update_flow.proofs.Settings.{sound_none}

pub fill_sound : (result : Result (Unit {0}) StoreFault) → IfErr result (Refuses (λ at. ⊥)) → IsSoundAnswer result
fill_sound (Ok done) stops = tt
fill_sound (Err fault) stops = sound_none (Unit {0}) fault stops

module _ (definitions : List TableDef) (entries : List Entry) (now after : Image) (maps : Maps) (none : HasNoLists maps)
    (held : HoldsMaps definitions now.maps maps) where
  no_index : HasNoIndex now
  no_index = record {
    ways_of_blocks = void_held (now.maps 3) maps.ways_of_blocks held.ways_of_blocks none.ways_of_blocks;
    relations_of_nodes = void_held (now.maps 4) maps.relations_of_nodes held.relations_of_nodes none.relations_of_nodes;
    relations_of_ways = void_held (now.maps 5) maps.relations_of_ways held.relations_of_ways none.relations_of_ways;
  }

  -- the index is filled, and all else stays
  fills_kept : Fills entries now after → HoldsMaps definitions after.maps (all_listed_on maps entries)
  fills_kept fills =
      let beside : (m : ℕ) → m ≢ 3 → m ≢ 4 → m ≢ 5 → now.maps m ≡ after.maps m =
      λ m blocks nodes ways. sym (fills.maps m blocks nodes ways) in
      subst (λ (m : Maps). HoldsMaps definitions after.maps m) (sym (lists_apart entries maps))
      (record {
        nodes = subst (λ (b : BucketMap). HoldsMap record_bytes IsRecord b maps.nodes)
            (beside 0 (omega arith) (omega arith) (omega arith)) held.nodes;
        ways = subst (λ (b : BucketMap). HoldsMap object_bytes (IsStored kinds.Way) b maps.ways)
            (beside 1 (omega arith) (omega arith) (omega arith)) held.ways;
        relations = subst (λ (b : BucketMap). HoldsMap object_bytes (IsStored kinds.Relation) b maps.relations)
            (beside 2 (omega arith) (omega arith) (omega arith)) held.relations;
        ways_of_blocks = told_held (entries_tell kinds.Way blocks_in entries) (after.maps 3)
            (filled_listing kinds.Way blocks_in maps.ways_of_blocks entries)
            fills.ways_of_blocks (filled_lists kinds.Way blocks_in entries maps.ways_of_blocks none.ways_of_blocks);
        relations_of_nodes = told_held (entries_tell kinds.Relation (listed kinds.Node) entries) (after.maps 4)
            (filled_listing kinds.Relation (listed kinds.Node) maps.relations_of_nodes entries)
            fills.relations_of_nodes (filled_lists kinds.Relation
            (listed kinds.Node) entries maps.relations_of_nodes none.relations_of_nodes);
        relations_of_ways = told_held (entries_tell kinds.Relation (listed kinds.Way) entries) (after.maps 5)
            (filled_listing kinds.Relation (listed kinds.Way) maps.relations_of_ways entries)
            fills.relations_of_ways (filled_lists kinds.Relation (listed kinds.Way) entries maps.relations_of_ways none.relations_of_ways);
        node_rows = subst (λ (b : BucketMap). HoldsMap rows_bytes (AreRows definitions) b maps.node_rows)
            (beside 6 (omega arith) (omega arith) (omega arith)) held.node_rows;
        other_rows = subst (λ (b : BucketMap). HoldsMap rows_bytes (AreRows definitions) b maps.other_rows)
            (beside 7 (omega arith) (omega arith) (omega arith)) held.other_rows;
      })

pub fills_set : {D : Type 0} {g : Ghosts D} (old new : Buckets D g) (definitions : List TableDef) (entries : List Entry) (under : Beside)
    (maps : Maps)
    → ((rest now : Image) → Has rest now old → HasNoIndex now → (after : Image) × Has rest after new × Fills entries now after)
    → HasMaps definitions under maps old → HasNoLists maps → HasMaps definitions under (all_listed_on maps entries) new
fills_set old new definitions entries under maps fills had none =
    let filled = fills under.rest had.now had.has (no_index definitions entries had.now had.now maps none had.kept) in
    record {
      now = filled.0;
      has = filled.1;
      root = filled.2.root ∙ had.root;
      texts = λ n below. filled.2.texts n ∙ had.texts n below;
      kept = fills_kept definitions entries had.now filled.0 maps none had.kept filled.2;
    }
