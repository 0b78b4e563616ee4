-- What a change makes due: the objects whose rows may be others after it.
-- osm2pgsql manual, "Updating an Existing Database": "When a node changes, all ways that this node is in are processed again", and so
-- is a relation when a member of it changes. "The Flex Output", "Stages": what a changed relation selects is processed again, as what
-- it had selected before; by this profile's own choice nodes too, where a table of nodes asks for it.
use Rattle.std.specs.Prelude.{◌≡◌, ◌<◌, ℕ, ◌+◌, length, Bool, true, false, ◌&&◌, ◌||◌, List, [], Option, None, Some}
use Rattle.std.specs.List.{AllByRecursion, list_any}
use Rattle.std.specs.Ordering.{eq_by_cmp}
use Rattle.std.specs.FinMap as finite
use Rattle.osm_base.specs.values.Ids.{AreRisingIds}
use Rattle.osm_base.specs.values.Key.{KeyOf, node_key, way_key, relation_key}
use Rattle.osm_base.specs.values.KeyOrder.{key_cmp}
use Rattle.osm_base.specs.map.Pending.{PendingOf}
use Rattle.osm_base.specs.declared.values.key.Kind.{Kind}
use Rattle.osm_base.specs.declared.values.key.Kind.TheVariants as kinds
use Rattle.osm_base.specs.declared.values.object.Entry.{Entry}
use Rattle.osm_base.specs.declared.values.object.Object.{Object}
use Rattle.style_read.specs.Style.{StyleOf}
use Rattle.osm_base.specs.map.Objects.{ObjectSet, folded_all}
use Rattle.osm_base.specs.map.Known.{Index}
use Rattle.osm_base.specs.map.Listers.{index_of, is_kind, listed, lists}
use Rattle.osm_base.specs.values.Ids.{has}
use Rattle.row_rules.specs.Condition.{reaches_nodes}
use Rattle.row_rules.specs.Row.{row}
use Rattle.dep_closure.specs.Selecting.{reselects}

-- a change has an entry of this key
abbrev pub is_named : List Entry → KeyOf → Bool
is_named change key = list_any (λ entry. eq_by_cmp key_cmp key entry.key) change

-- an entry is of this key, or of a node that its object lists
abbrev pub moves : ObjectSet → KeyOf → Entry → Bool
moves after key entry = eq_by_cmp key_cmp key entry.key ||
    (is_kind kinds.Node entry.key.kind && lists kinds.Node entry.key.id (finite.get after key))

-- so is some entry of a change, after which the objects are these
abbrev pub is_moved : ObjectSet → List Entry → KeyOf → Bool
is_moved after change key = list_any (moves after key) change

-- the ids of the ways that an object, if there is one, lists
abbrev pub ways_in : Option Object → List ℕ
ways_in None = []
ways_in (Some object) = listed kinds.Way object

-- a relation of the change has a form, before or after it, that meets a selection, and this object is a member of one of the two forms
abbrev pub is_reselected : StyleOf → ObjectSet → List Entry → Kind → ℕ → Bool
is_reselected style objects change kind id =
    list_any (λ entry. is_kind kinds.Relation entry.key.kind && reselects style kind id (finite.get objects entry.key)
    (finite.get (folded_all objects change) entry.key)) change

-- a node is pending where the change names it, and, where the style reaches nodes, where a relation of the change selects it
abbrev pub is_pending_node : StyleOf → ObjectSet → List Entry → ℕ → Bool
is_pending_node style objects change id =
    is_named change (node_key id) || (reaches_nodes style && is_reselected style objects change kinds.Node id)

-- a way is, where the change names it or a node that it lists, and where a relation of the change selects it
abbrev pub is_pending_way : StyleOf → ObjectSet → List Entry → ℕ → Bool
is_pending_way style objects change id =
    is_moved (folded_all objects change) change (way_key id) || is_reselected style objects change kinds.Way id

-- a relation is, where the change names it, a node that it has as a member, or a way, or a node that such a way lists
abbrev pub is_pending_relation : ObjectSet → List Entry → ℕ → Bool
is_pending_relation objects change id =
    is_moved (folded_all objects change) change (relation_key id)
    || list_any (λ way. is_moved (folded_all objects change) change (way_key way))
    (ways_in (finite.get (folded_all objects change) (relation_key id)))

-- an object of a key is pending, where the objects before the change are these
abbrev pub is_pending : StyleOf → ObjectSet → List Entry → KeyOf → Bool
is_pending style objects change key = elim key.kind as (λ _. Bool) [
  | kinds.Node ↦ is_pending_node style objects change key.id
  | kinds.Way ↦ is_pending_way style objects change key.id
  | kinds.Relation ↦ is_pending_relation objects change key.id
]

-- the rising ids of all that is pending
pub record IsPendingOf (style : StyleOf) (objects : ObjectSet) (change : List Entry) (set : PendingOf) : Type 0 where
  pub nodes : (id : ℕ) → has set.nodes id ≡ is_pending_node style objects change id
  pub ways : (id : ℕ) → has set.ways id ≡ is_pending_way style objects change id
  pub relations : (id : ℕ) → has set.relations id ≡ is_pending_relation objects change id
  pub rising : AreRisingIds set.nodes × AreRisingIds set.ways × AreRisingIds set.relations

-- how many objects are pending
abbrev pub size : PendingOf → ℕ
size set = length set.nodes + length set.ways + length set.relations

-- a key is among those of a set
abbrev pub is_among : PendingOf → KeyOf → Bool
is_among set key = elim key.kind as (λ _. Bool)
    [ kinds.Node ↦ has set.nodes key.id | kinds.Way ↦ has set.ways key.id | kinds.Relation ↦ has set.relations key.id ]

-- each key outside a set has the same row in each table before a change and after it
abbrev pub LeavesRows : StyleOf → ObjectSet → List Entry → PendingOf → Type 0
LeavesRows style objects change set = (table : ℕ) (key : KeyOf) → is_among set key ≡ false
    → row style (folded_all objects change) table key ≡ row style objects table key

-- of the relations of a change the second objects have the forms that the first ones have
abbrev pub HasOldForms : ObjectSet → ObjectSet → List Entry → Type 0
HasOldForms old objects change = AllByRecursion
    (λ (entry : Entry). is_kind kinds.Relation entry.key.kind ≡ true → finite.get old entry.key ≡ finite.get objects entry.key) change

-- this is so of all objects that had these old forms before a change, and whose index after it is known
abbrev pub OfKnown : (Index → Type 0) → ObjectSet → List Entry → (ObjectSet → Type 0) → Type 0
OfKnown knows old change holds = (objects : ObjectSet) → HasOldForms old objects change → knows (index_of (folded_all objects change))
    → holds objects

-- a set is what is pending, of all such objects
abbrev pub ArePending : (Index → Type 0) → StyleOf → ObjectSet → List Entry → PendingOf → Type 0
ArePending knows style old change set = OfKnown knows old change (λ objects. IsPendingOf style objects change set)

-- more objects are pending than a limit, and this is how many
pub record AreTooMany (limit : ℕ) (are_pending : PendingOf → Type 0) (value : ℕ) : Type 0 where
  pub set : PendingOf
  pub pending : are_pending set
  pub number : value ≡ size set
  pub over : limit < value
