-- What a change touches of the maps of a store.
-- osm2pgsql manual, "Updating an Existing Database": what depends on a changed object is processed again, and all else stays. What is
-- processed again is read with all that its rows are built of, and who lists what is put right for what the change names.
use Rattle.std.specs.Prelude.{◌≡◌, ℕ, ◌+◌, ◌*◌, Bool, true, ◌||◌, List}
use Rattle.std.specs.FinMap as finite
use Rattle.std.specs.List.{AllByRecursion}
use Rattle.osm_base.specs.declared.values.key.Kind.{Kind}
use Rattle.osm_base.specs.declared.values.key.Kind.TheVariants as kinds
use Rattle.osm_base.specs.declared.values.object.Entry.{Entry}
use Rattle.osm_base.specs.map.Listers.{lists}
use Rattle.osm_base.specs.map.Objects.{ObjectSet, folded_all}
use Rattle.osm_base.specs.values.Ids.{has}
use Rattle.osm_base.specs.values.Key.{KeyOf, node_key, relation_key, way_key}
use Rattle.style_read.specs.Style.{StyleOf}
use Rattle.row_rules.specs.Condition.{reaches_nodes}
use Rattle.dep_closure.specs.PendingSet.{is_named, is_pending_node, is_pending_relation, is_pending_way}
use Rattle.store_maps.specs.Asked.{May, MayList, MayObject, MayRows}
use Rattle.store_maps.specs.Maps.{block_of}
use Rattle.store_maps.specs.Turns.{blocks_in, listed_by}
use Rattle.update_step.specs.Gather.{AlongWay, AroundNode, AtNode, Ask, OfKey}

-- an object of this kind is in the list of the object of a key after a change
abbrev pub is_listed_after : ObjectSet → List Entry → Kind → ℕ → KeyOf → Bool
is_listed_after objects change kind id own = lists kind id (finite.get (folded_all objects change) own)

-- it is in that before the change or in that after it
abbrev pub is_in_lists : ObjectSet → List Entry → Kind → ℕ → KeyOf → Bool
is_in_lists objects change kind id own = lists kind id (finite.get objects own) || is_listed_after objects change kind id own

-- so is a node of this block, of a way
abbrev pub is_block_in_lists : ObjectSet → List Entry → ℕ → ℕ → Bool
is_block_in_lists objects change block way =
    has (listed_by blocks_in (finite.get objects (way_key way))) block || has
    (listed_by blocks_in (finite.get (folded_all objects change) (way_key way))) block

-- the keys of the maps that a change of these objects touches, by the number of the map
pub data Touch (style : StyleOf) (objects : ObjectSet) (change : List Entry) : ℕ → ℕ → Type 0 where
  -- of the nodes those that are pending, those that a pending way lists, and those that a way lists which is a member of a pending relation
  node : (id : ℕ) → is_pending_node style objects change id ≡ true → Touch style objects change 0 id
  node_of_way : (way id : ℕ) → is_pending_way style objects change way ≡ true
      → is_listed_after objects change kinds.Node id (way_key way) ≡ true → Touch style objects change 0 id
  node_of_member : (relation way id : ℕ) → is_pending_relation objects change relation ≡ true
      → is_listed_after objects change kinds.Way way (relation_key relation) ≡ true
      → is_listed_after objects change kinds.Node id (way_key way) ≡ true → Touch style objects change 0 id
  -- of the ways those that are pending, the members of pending relations, and those that list a node of the block of a node of the change
  way : (id : ℕ) → is_pending_way style objects change id ≡ true → Touch style objects change 1 id
  member : (relation id : ℕ) → is_pending_relation objects change relation ≡ true
      → is_listed_after objects change kinds.Way id (relation_key relation) ≡ true → Touch style objects change 1 id
  way_of_block : (node id : ℕ) → is_named change (node_key node) ≡ true → is_block_in_lists objects change (block_of node) id ≡ true
      → Touch style objects change 1 id
  -- of the relations those that are pending, those with a pending way as a member, and, where selections reach nodes, those with a pending
  -- node
  relation : (id : ℕ) → is_pending_relation objects change id ≡ true → Touch style objects change 2 id
  relation_of_way : (way id : ℕ) → is_pending_way style objects change way ≡ true
      → is_listed_after objects change kinds.Way way (relation_key id) ≡ true → Touch style objects change 2 id
  relation_of_node : (node id : ℕ) → reaches_nodes style ≡ true → is_pending_node style objects change node ≡ true
      → is_listed_after objects change kinds.Node node (relation_key id) ≡ true
      → Touch style objects change 2 id
  -- of the ways by blocks those of the nodes of the change, and of the nodes in the lists of its ways
  block : (node : ℕ) → is_named change (node_key node) ≡ true → Touch style objects change 3 (block_of node)
  block_of_list : (way node : ℕ) → is_named change (way_key way) ≡ true → is_in_lists objects change kinds.Node node (way_key way) ≡ true
      → Touch style objects change 3 (block_of node)
  -- of the relations by nodes those of pending nodes, and of the nodes in the lists of its relations
  around : (node : ℕ) → is_pending_node style objects change node ≡ true → Touch style objects change 4 node
  around_member : (relation node : ℕ) → is_named change (relation_key relation) ≡ true
      → is_in_lists objects change kinds.Node node (relation_key relation) ≡ true → Touch style objects change 4 node
  -- so of the relations by ways
  along : (way : ℕ) → is_pending_way style objects change way ≡ true → Touch style objects change 5 way
  along_member : (relation way : ℕ) → is_named change (relation_key relation) ≡ true
      → is_in_lists objects change kinds.Way way (relation_key relation) ≡ true → Touch style objects change 5 way
  -- and the rows of all that is pending
  rows_of_node : (id : ℕ) → is_pending_node style objects change id ≡ true → Touch style objects change 6 id
  rows_of_way : (id : ℕ) → is_pending_way style objects change id ≡ true → Touch style objects change 7 (2 * id)
  rows_of_relation : (id : ℕ) → is_pending_relation objects change id ≡ true → Touch style objects change 7 (2 * id + 1)

-- all that it touches may be asked
abbrev pub MayTouch : StyleOf → ObjectSet → List Entry → May → Type 0
MayTouch style objects change may = (number key : ℕ) → Touch style objects change number key → may number key ≡ true

-- what rows are built of may be asked
abbrev pub MayAsk : May → Ask → Type 0
MayAsk may (AtNode id) = may 0 id ≡ true
MayAsk may (OfKey own) = MayObject may own
MayAsk may (AlongWay id) = may 5 id ≡ true
MayAsk may (AroundNode id) = may 4 id ≡ true

abbrev pub MayAskAll : May → List Ask → Type 0
MayAskAll may asks = AllByRecursion (MayAsk may) asks

abbrev pub MayAllRows : May → List KeyOf → Type 0
MayAllRows may keys = AllByRecursion (MayRows may) keys

-- the objects of entries
abbrev pub MayEntries : May → List Entry → Type 0
MayEntries may entries = AllByRecursion (λ (entry : Entry). MayObject may entry.key) entries

-- the object of an entry may be asked, and who lists what it lists, as it was before the change and as it is after it
pub record MayTurn (objects : ObjectSet) (may : May) (entry : Entry) : Type 0 where
  pub object : MayObject may entry.key
  pub old : MayList may entry.key (finite.get objects entry.key)
  pub new : MayList may entry.key entry.object

abbrev pub MayTurnAll : ObjectSet → May → List Entry → Type 0
MayTurnAll objects may change = AllByRecursion (MayTurn objects may) change
