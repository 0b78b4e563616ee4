-- Values that are set in buckets are set in the maps that these have.
use Rattle.std.proofs.Common.{◌≡◌, ◌≢◌, ◌+◌, ◌*◌, ℕ, suc, true, ◌==◌, List, [], ◌∷◌, length, Option, Some, None, Result, Ok, Err, IfErr}
use Rattle.std.proofs.Common.{IfOk}
use Rattle.std.proofs.Common.{OnOk, refl, sym, ◌∙◌, subst, arith}
use Rattle.std.specs.Option.{option_map}
use Rattle.std.proofs.lemmas.Bool.{eqb-true}
use Rattle.outside.specs.declared.disk.Disk.{Ghosts}
use Rattle.page_journal.specs.declared.fault.StoreFault.{StoreFault}
use Rattle.page_journal.specs.declared.fault.StoreFault.TheVariants.{NotFormatted, NotEmpty, BadStore, DiskFault, StoreFull, Broken}
use Rattle.page_journal.specs.declared.fault.StoreFault.TheVariants.{OutOfMemory}
use Rattle.osm_base.specs.declared.values.key.Kind.{Kind}
use Rattle.osm_base.specs.declared.values.key.Kind.TheVariants as kinds
use Rattle.osm_base.specs.declared.values.object.Object.{Object}
use Rattle.osm_base.specs.declared.values.object.Object.TheVariants.{Node, Way, Relation}
use Rattle.osm_base.specs.values.Place.{PlaceOf}
use Rattle.osm_base.specs.values.Tags.{TagMap}
use Rattle.object_fold.specs.Change.{IsOfKind}
use Rattle.store_maps.specs.Append.{MayKeep}
use Rattle.osm_base.specs.declared.values.row.TableRow.{TableRow}
use Rattle.style_read.specs.declared.style.TableDef.{TableDef}
use Rattle.bucket_records.specs.Records.{BucketMap}
use Rattle.bucket_store.specs.Image.{Has, Image, IsSoundAnswer, with_value}
use Rattle.bucket_store.specs.declared.buckets.Buckets.{Buckets}
use Rattle.bucket_store.proofs.Images.{root_with_value, texts_with_value}
use Rattle.value_bytes.specs.Nodes.{record_bytes, IsRecord}
use Rattle.value_bytes.specs.declared.nodes.NodeRecord.{NodeRecord}
use Rattle.middle_objs.specs.Maps.{map_of}
use Rattle.value_bytes.specs.Objects.{object_bytes, IsKept, IsStored}
use Rattle.store_maps.specs.Asked.{row_key}
use Rattle.row_store.specs.Maps.{map_of as rows_map_of}
use Rattle.row_store.specs.Rows.{rows_bytes, AreRows}
use Rattle.store_maps.specs.Rows.{AreKept}
use Rattle.store_maps.specs.Maps.{Maps, set, set_object, set_rows, unless_empty}
use Rattle.value_bytes.specs.Maps.{HoldsMap}
use Rattle.back_index.specs.Index.{Relists, all_visits}
use Rattle.back_index.specs.Calls.{page_at}
use Rattle.back_index.specs.Visits.{IsFine, Refuses, StopsAt}
use Rattle.back_index.proofs.Allowed.{relist_allowed}
use Rattle.back_index.proofs.Held.{turned_held}
use Rattle.back_index.specs.Index.{listed_for}
use Rattle.value_bytes.specs.declared.store_map.StoreMap.TheVariants as stored
use Rattle.osm_base.specs.values.Key.{KeyOf, IsId}
use Rattle.store_maps.specs.Step.{AreTold, relisted_to}
use Rattle.update_flow.specs.maps.Held.{Beside, HasMaps}
use Rattle.update_flow.specs.maps.Laws.{index_held}
use Rattle.store_check.specs.Kept.{HoldsMaps}
use Rattle.update_flow.proofs.MapsKept.{IfIs, node_kept, way_kept, relation_kept, node_rows_kept, other_rows_kept}

-- what follows of two facts of an answer
pub both_ok : {T : Type 0} (A B C : Type 0) (result : Result T StoreFault) → (A → B → C) → OnOk result A → OnOk result B → OnOk result C
both_ok A B C (Ok value) follows one other = follows one other
both_ok A B C (Err fault) follows one other = tt

-- what follows of what a call answers
pub taken_ok : {T : Type 0} (A : T → Type 0) (result : Result T StoreFault) (C : Type 0) → ((value : T) → A value → C) → IfOk result A
    → OnOk result C
taken_ok A (Ok value) C follows one = follows value one
taken_ok A (Err fault) C follows one = tt

-- an object of the kind of a node is one, and others are kept as they are
pub node_kind : (kind : Kind) (place : Option PlaceOf) (tags : TagMap) → IsOfKind kind (Node place tags) → kind ≡ kinds.Node
node_kind kinds.Node place tags is = refl
node_kind kinds.Way place tags is = absurd is
node_kind kinds.Relation place tags is = absurd is

pub form_kept : (kind : Kind) (object : Object) → ((place : Option PlaceOf) (tags : TagMap) → object ≡ Node place tags → ⊥)
    → IsOfKind kind object
    → IsKept kind object
form_kept kind (Node place tags) apart is = absurd (apart place tags refl)
form_kept kinds.Node (Way nodes tags) apart is = absurd is
form_kept kinds.Node (Relation members tags) apart is = absurd is
form_kept kinds.Way (Way nodes tags) apart is = is
form_kept kinds.Way (Relation members tags) apart is = absurd is
form_kept kinds.Relation (Way nodes tags) apart is = absurd is
form_kept kinds.Relation (Relation members tags) apart is = tt

-- what has no length is empty
pub no_rows : (rows : List TableRow) → true ≡ (length rows == 0) → rows ≡ []
no_rows [] none = refl
no_rows (row ∷ rest) none = absurd (omega (arith, eqb-true (suc (length rest)) 0 (sym none)))

-- rows that there are may be kept
pub some_kept : (definitions : List TableDef) (rows : List TableRow) → rows ≢ [] → MayKeep definitions rows → AreKept definitions rows
some_kept definitions [] some may = absurd (some refl)
some_kept definitions (row ∷ rest) some may = may

-- a refusal for the disk or for want of memory is one of a sound store
pub sound_none : (T : Type 0) (fault : StoreFault) → Refuses (λ at. ⊥) fault → IsSoundAnswer {T = T} (Err fault)
sound_none T NotFormatted refuses = refuses
sound_none T NotEmpty refuses = refuses
sound_none T (BadStore page) refuses = refuses
sound_none T DiskFault refuses = tt
sound_none T (StoreFull pages) refuses = refuses
sound_none T Broken refuses = refuses
sound_none T OutOfMemory refuses = tt

module _ {D : Type 0} {g : Ghosts D} (old new : Buckets D g) where
  -- one value of one map is another
  abbrev pub Sets : ℕ → ℕ → Option (List ℕ) → Type 0
  Sets m key change = (rest now : Image) → Has rest now old → Has rest (with_value m key change now) new

  set_in : (definitions : List TableDef) (under : Beside) (maps after : Maps) (m key : ℕ) (change : Option (List ℕ)) → Sets m key change
      → (had : HasMaps definitions under maps old) → HoldsMaps definitions (with_value m key change had.now).maps after
      → HasMaps definitions under after new
  set_in definitions under maps after m key change sets had kept = record {
    now = with_value m key change had.now;
    has = sets under.rest had.now had.has;
    root = root_with_value m key change had.now ∙ had.root;
    texts = λ n below. texts_with_value m key change had.now n ∙ had.texts n below;
    kept = kept;
  }

  pub node_set : (definitions : List TableDef) (under : Beside) (maps : Maps) (id : ℕ) (value : Option NodeRecord) → IfIs IsRecord value
      → Sets 0 id (option_map record_bytes value) → HasMaps definitions under maps old
      → HasMaps definitions under (record maps { nodes = set maps.nodes id value }) new
  node_set definitions under maps id value is sets had =
      set_in definitions under maps (record maps { nodes = set maps.nodes id value }) 0 id (option_map record_bytes value) sets had
      (node_kept definitions had.now maps id had.kept value is)

  pub object_set : (definitions : List TableDef) (under : Beside) (maps : Maps) (id : ℕ) (object : Object) (kind : Kind)
      → IsStored kind object
      → Sets (map_of kind) id (Some (object_bytes object)) → HasMaps definitions under maps old
      → HasMaps definitions under (set_object maps kind id (Some object)) new
  unfolding IsStored
  object_set definitions under maps id object kinds.Node is sets had = absurd is
  object_set definitions under maps id object kinds.Way is sets had =
      set_in definitions under maps (record maps { ways = set maps.ways id (Some object) }) 1 id (Some (object_bytes object)) sets had
      (way_kept definitions had.now maps id had.kept (Some object) is)
  object_set definitions under maps id object kinds.Relation is sets had =
      set_in definitions under maps (record maps { relations = set maps.relations id (Some object) }) 2 id
      (Some (object_bytes object)) sets had
      (relation_kept definitions had.now maps id had.kept (Some object) is)

  -- a node is set by what is kept of it
  pub node_object : (definitions : List TableDef) (under : Beside) (maps : Maps) (key inside : KeyOf) (object : Object)
      (place : Option PlaceOf) (tags : TagMap)
      → inside ≡ key → object ≡ Node place tags → IsOfKind key.kind object
      → HasMaps definitions under (record maps { nodes = set maps.nodes inside.id (Some (record { place = place; tags = Some tags })) }) new
      → HasMaps definitions under (set_object maps key.kind key.id (Some object)) new
  node_object definitions under maps key inside object place tags view is proper puts =
      let kind_is = node_kind key.kind place tags (subst (λ (o : Object). IsOfKind key.kind o) is proper) in
      let back = sym view in
      let same : set_object maps key.kind key.id (Some object) ≡ set_object maps kinds.Node inside.id (Some (Node place tags)) =
      λ i. set_object maps (kind_is i) (back i).id (Some (is i)) in
      subst (λ (m : Maps). HasMaps definitions under m new) (sym same) puts

  pub node_taken : (definitions : List TableDef) (under : Beside) (maps : Maps) (key inside : KeyOf) → inside ≡ key
      → inside.kind ≡ kinds.Node
      → HasMaps definitions under (record maps { nodes = set maps.nodes inside.id None }) new
      → HasMaps definitions under (set_object maps key.kind key.id None) new
  node_taken definitions under maps key inside view is takes =
      let same : set_object maps inside.kind inside.id None ≡ set_object maps kinds.Node inside.id None =
      λ i. set_object maps (is i) inside.id None in
      subst (λ (k : KeyOf). HasMaps definitions under (set_object maps k.kind k.id None) new) view
      (subst (λ (m : Maps). HasMaps definitions under m new) (sym same) takes)

  pub object_taken : (definitions : List TableDef) (under : Beside) (maps : Maps) (id : ℕ) (kind : Kind) → (kind ≡ kinds.Node → ⊥)
      → Sets (map_of kind) id None → HasMaps definitions under maps old → HasMaps definitions under (set_object maps kind id None) new
  object_taken definitions under maps id kinds.Node apart sets had = absurd (apart refl)
  object_taken definitions under maps id kinds.Way apart sets had =
      set_in definitions under maps (record maps { ways = set maps.ways id None }) 1 id None sets had
      (way_kept definitions had.now maps id had.kept None tt)
  object_taken definitions under maps id kinds.Relation apart sets had =
      set_in definitions under maps (record maps { relations = set maps.relations id None }) 2 id None sets had
      (relation_kept definitions had.now maps id had.kept None tt)

  pub rows_set : (definitions : List TableDef) (under : Beside) (maps : Maps) (kind : Kind) (id : ℕ) (rows : List TableRow)
      → IfIs (AreRows definitions) (unless_empty rows)
      → Sets (rows_map_of kind) (row_key kind id) (option_map rows_bytes (unless_empty rows))
      → HasMaps definitions under maps old → HasMaps definitions under (set_rows maps kind id rows) new
  rows_set definitions under maps kinds.Node id rows are sets had =
      set_in definitions under maps (set_rows maps kinds.Node id rows) 6 id (option_map rows_bytes (unless_empty rows)) sets had
      (node_rows_kept definitions had.now maps id had.kept (unless_empty rows) are)
  rows_set definitions under maps kinds.Way id rows are sets had =
      set_in definitions under maps (set_rows maps kinds.Way id rows) 7 (2 * id) (option_map rows_bytes (unless_empty rows)) sets had
      (other_rows_kept definitions had.now maps (2 * id) had.kept (unless_empty rows) are)
  rows_set definitions under maps kinds.Relation id rows are sets had =
      set_in definitions under maps (set_rows maps kinds.Relation id rows) 7 (2 * id + 1)
      (option_map rows_bytes (unless_empty rows)) sets had
      (other_rows_kept definitions had.now maps (2 * id + 1) had.kept (unless_empty rows) are)

  pub rows_put : (definitions : List TableDef) (under : Beside) (maps : Maps) (kind : Kind) (id : ℕ) (rows : List TableRow)
      → AreRows definitions rows
      → Sets (rows_map_of kind) (row_key kind id) (Some (rows_bytes rows))
      → HasMaps definitions under maps old → HasMaps definitions under (set_rows maps kind id rows) new
  rows_put definitions under maps kind id [] are sets had = absurd (omega (arith, are.some))
  rows_put definitions under maps kind id (row ∷ rest) are sets had = rows_set definitions under maps kind id (row ∷ rest) are sets had

  -- the index is turned, and all else stays
  module _ (definitions : List TableDef) (key : KeyOf) (was is : Option Object) where
    relists_kept : (now after : Image) (maps : Maps) → IsId key.id → Relists key was is now after → HoldsMaps definitions now.maps maps
        → HoldsMaps definitions after.maps (relisted_to maps key was is)
    relists_kept now after maps proper relists held =
        let beside : (m : ℕ) → m ≢ 3 → m ≢ 4 → m ≢ 5 → now.maps m ≡ after.maps m =
        λ m blocks nodes ways. sym (relists.maps m blocks nodes ways) in
        record {
          nodes = subst (λ (b : BucketMap). HoldsMap record_bytes IsRecord b maps.nodes)
              (beside 0 (omega arith) (omega arith) (omega arith)) held.nodes;
          ways = subst (λ (b : BucketMap). HoldsMap object_bytes (IsStored kinds.Way) b maps.ways)
              (beside 1 (omega arith) (omega arith) (omega arith)) held.ways;
          relations = subst (λ (b : BucketMap). HoldsMap object_bytes (IsStored kinds.Relation) b maps.relations)
              (beside 2 (omega arith) (omega arith) (omega arith)) held.relations;
          ways_of_blocks = turned_held key.id (listed_for stored.WaysOfBlocks key was) (listed_for stored.WaysOfBlocks key is) (now.maps 3)
              (after.maps 3) maps.ways_of_blocks proper held.ways_of_blocks relists.ways_of_blocks;
          relations_of_nodes =
              turned_held key.id (listed_for stored.RelationsOfNodes key was) (listed_for stored.RelationsOfNodes key is) (now.maps 4)
              (after.maps 4) maps.relations_of_nodes proper held.relations_of_nodes relists.relations_of_nodes;
          relations_of_ways =
              turned_held key.id (listed_for stored.RelationsOfWays key was) (listed_for stored.RelationsOfWays key is) (now.maps 5)
              (after.maps 5) maps.relations_of_ways proper held.relations_of_ways relists.relations_of_ways;
          node_rows = subst (λ (b : BucketMap). HoldsMap rows_bytes (AreRows definitions) b maps.node_rows)
              (beside 6 (omega arith) (omega arith) (omega arith)) held.node_rows;
          other_rows = subst (λ (b : BucketMap). HoldsMap rows_bytes (AreRows definitions) b maps.other_rows)
              (beside 7 (omega arith) (omega arith) (omega arith)) held.other_rows;
        }

    pub relists_set : (under : Beside) (maps : Maps) → IsId key.id
        → ((rest now : Image) → Has rest now old → (after : Image) × Has rest after new × Relists key was is now after)
        → HasMaps definitions under maps old → HasMaps definitions under (relisted_to maps key was is) new
    relists_set under maps proper relists had =
        let turned = relists under.rest had.now had.has in
        record {
          now = turned.0;
          has = turned.1;
          root = turned.2.root ∙ had.root;
          texts = λ n below. turned.2.texts n ∙ had.texts n below;
          kept = relists_kept had.now turned.0 maps proper turned.2 had.kept;
        }

    pub relist_sound : (result : Result (Unit {0}) StoreFault)
        → ((rest now : Image) → Has rest now old
        → IfErr result (Refuses (StopsAt (IsFine now key.id) (page_at old) (all_visits key was is))))
        → (under : Beside) (maps : Maps) → HasMaps definitions under maps old → AreTold maps key was → IsSoundAnswer result
    relist_sound (Ok done) stops under maps had told = tt
    relist_sound (Err fault) stops under maps had told =
        sound_none (Unit {0}) fault
        (relist_allowed key was is had.now maps (page_at old) fault (index_held definitions had.now maps had.kept) told
        (stops under.rest had.now had.has))
