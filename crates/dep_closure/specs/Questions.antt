-- What an index is asked where a change is looked at.
use Rattle.std.specs.Prelude.{◌≡◌, ℕ, true, List, [], ◌∷◌, ◌++◌, map, flat_map, if◌then◌else◌}
use Rattle.osm_base.specs.declared.values.key.Kind.TheVariants as kinds
use Rattle.osm_base.specs.declared.values.object.Entry.{Entry}
use Rattle.osm_base.specs.values.Ids.{AreRisingIds}
use Rattle.osm_base.specs.map.Known.{Index, Question, WaysOfNode, RelationsOfNode, RelationsOfWay}
use Rattle.osm_base.specs.map.Listers.{is_kind}
use Rattle.osm_base.specs.values.Ids.{has}
use Rattle.dep_closure.specs.Ways.{is_due}

-- an entry of a node asks for the ways that list it
abbrev pub of_entry : Entry → List Question
of_entry entry = if is_kind kinds.Node entry.key.kind then WaysOfNode entry.key.id ∷ [] else []

-- of each node of a change, in order, which ways list it
abbrev pub of_nodes : List Entry → List Question
of_nodes change = flat_map of_entry change

-- an entry of a node asks for the relations that it is a member of
abbrev pub of_member : Entry → List Question
of_member entry = if is_kind kinds.Node entry.key.kind then RelationsOfNode entry.key.id ∷ [] else []

-- of each node of a change, in order, which relations it is a member of
abbrev pub of_members : List Entry → List Question
of_members change = flat_map of_member change

-- of each of these ways, in order, which relations it is a member of
abbrev pub of_ways : List ℕ → List Question
of_ways ways = map RelationsOfWay ways

-- first of each node of a change which ways list it, then of each which relations it is a member of, and then the same of each of these
-- ways
abbrev pub of_all : List Entry → List ℕ → List Question
of_all change ways = of_nodes change ++ (of_members change ++ of_ways ways)

-- some first of these questions were asked, and no other
abbrev pub AsksSome : {B : Type 0} → (B → List Question → B → Type 0) → B → List Question → B → Type 0
AsksSome asks old questions new = (front : List Question) × (rest : List Question) × (questions ≡ front ++ rest) × asks old front new

-- these are the rising ids of the ways that a change makes due, by each index that is known
pub record AreDueWays (knows : Index → Type 0) (change : List Entry) (ways : List ℕ) : Type 0 where
  pub due : (index : Index) → knows index → (way : ℕ) → has ways way ≡ is_due index change way
  pub rising : AreRisingIds ways

-- all questions of a change were asked, of ways just those that it makes due
abbrev pub AsksAll : {B : Type 0} → (B → List Question → B → Type 0) → (B → Index → Type 0) → B → List Entry → B → Type 0
AsksAll asks knows old change new = (ways : List ℕ) × AreDueWays (knows old) change ways × asks old (of_all change ways) new

-- some first of them were, of ways only those that it makes due
abbrev pub AsksSomeOf : {B : Type 0} → (B → List Question → B → Type 0) → (B → Index → Type 0) → B → List Entry → B → Type 0
AsksSomeOf asks knows old change new =
    (ways : List ℕ) × ((index : Index) → knows old index → (way : ℕ) → has ways way ≡ true → is_due index change way ≡ true)
    × AsksSome asks old (of_all change ways) new
