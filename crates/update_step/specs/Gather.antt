-- What rows are built of, as it is asked of a store and kept.
-- osm2pgsql manual, "Updating an Existing Database": an object that is processed again is read with all that its rows depend on: the nodes
-- of
-- a way, the ways of a relation, and the relations that it is a member of.
use Rattle.std.specs.Prelude.{◌≡◌, ℕ, Bool, true, List, [], ◌∷◌, ◌++◌, map, if◌then◌else◌, Option, None, Some}
use Rattle.std.specs.FinMap as finite
use Rattle.std.specs.List.{AllByRecursion, flat_map}
use Rattle.std.specs.Option.{is_some, option_map, option_or, unwrap_or}
use Rattle.std.specs.Ordering.{eq_by_cmp, nat_cmp}
use Rattle.std.specs.declared.cmp.Ordering.{Ordering}
use Rattle.osm_base.specs.declared.values.key.Kind.TheVariants as kinds
use Rattle.osm_base.specs.declared.values.object.Entry.{Entry}
use Rattle.osm_base.specs.declared.values.object.Member.{Member}
use Rattle.osm_base.specs.declared.values.object.Object.{Object}
use Rattle.osm_base.specs.declared.values.object.Object.TheVariants.{Way, Relation}
use Rattle.osm_base.specs.map.Known.{Known}
use Rattle.osm_base.specs.map.Listers.{is_kind}
use Rattle.osm_base.specs.map.Objects.{place_in}
use Rattle.osm_base.specs.values.Key.{KeyOf, node_key, relation_key}
use Rattle.osm_base.specs.values.KeyOrder.{key_cmp}
use Rattle.osm_base.specs.values.Place.{PlaceOf}
use Rattle.style_read.specs.Style.{StyleOf}
use Rattle.row_rules.specs.Wanted.{may_have_rows}
use Rattle.update_step.specs.Named.{named_in}
use Rattle.update_step.specs.declared.answers.StoreAnswers.{StoreAnswers}
pub use Rattle.update_step.specs.declared.asks.Ask.{Ask}
pub use Rattle.update_step.specs.declared.asks.Ask.TheVariants.{AlongWay, AroundNode, AtNode, OfKey}

-- the answers that are there: that there is nothing is an answer too
pub record Gathered : Type 0 where
  pub places : ℕ → Option (Option PlaceOf)
  pub forms : KeyOf → Option (Option Object)
  pub along_ways : ℕ → Option (List ℕ)
  pub around_nodes : ℕ → Option (List ℕ)

-- what a change says is an answer, and nothing else is one
abbrev pub said_by : List Entry → Gathered
said_by change = record {
  places = λ id. option_map place_in (named_in change (node_key id));
  forms = named_in change;
  along_ways = λ id. None;
  around_nodes = λ id. None;
}

-- what the change says of a key goes before what is kept in trees
abbrev pub gathered_in : StoreAnswers → Gathered
gathered_in answers = record {
  places = λ id. option_or ((said_by answers.change.now).places id) (finite.get (finite.from_entries {R = nat_cmp} answers.places.entries) id);
  forms = λ own. option_or (named_in answers.change.now own) (finite.get (finite.from_entries {R = key_cmp} answers.forms.entries) own);
  along_ways = finite.get (finite.from_entries {R = nat_cmp} answers.along_ways.entries);
  around_nodes = finite.get (finite.from_entries {R = nat_cmp} answers.around_nodes.entries);
}

abbrev pub flattened : {X : Type 0} → Option (Option X) → Option X
flattened (Some found) = found
flattened None = None

-- what is known by these answers
abbrev pub known_in : Gathered → Known
known_in gathered = record {
  place = λ id. flattened (gathered.places id);
  object = λ own. flattened (gathered.forms own);
  relations_of_way = λ id. unwrap_or (gathered.along_ways id) [];
  relations_of_node = λ id. unwrap_or (gathered.around_nodes id) [];
}

-- two know the same of it
abbrev pub Same : Known → Known → Ask → Type 0
Same one other (AtNode id) = one.place id ≡ other.place id
Same one other (OfKey own) = one.object own ≡ other.object own
Same one other (AlongWay id) = one.relations_of_way id ≡ other.relations_of_way id
Same one other (AroundNode id) = one.relations_of_node id ≡ other.relations_of_node id

-- what needs not be asked any more
abbrev pub was_asked : Gathered → Ask → Bool
was_asked gathered (AtNode id) = is_some (gathered.places id)
was_asked gathered (OfKey own) = is_some (gathered.forms own)
was_asked gathered (AlongWay id) = is_some (gathered.along_ways id)
was_asked gathered (AroundNode id) = is_some (gathered.around_nodes id)

-- each answer is right
abbrev pub IsRight : Gathered → Known → Type 0
IsRight gathered to = (ask : Ask) → was_asked gathered ask ≡ true → Same (known_in gathered) to ask

-- nothing that was asked is forgotten
abbrev pub Grows : Gathered → Gathered → Type 0
Grows old new = (ask : Ask) → was_asked old ask ≡ true → was_asked new ask ≡ true

abbrev pub AreAsked : Gathered → List Ask → Type 0
AreAsked gathered asks = AllByRecursion (λ ask. was_asked gathered ask ≡ true) asks

-- the nodes of an object that is a way
abbrev pub place_asks : Option Object → List Ask
place_asks (Some (Way nodes tags)) = map AtNode nodes
place_asks _ = []

abbrev pub relation_asks : List ℕ → List Ask
relation_asks ids = map (λ id. OfKey (relation_key id)) ids

-- an object, with its nodes if it is a way
abbrev pub form_asks : Known → KeyOf → List Ask
form_asks to own = OfKey own ∷ place_asks (to.object own)

-- so each member that is a way
abbrev pub member_asks : Known → Member → List Ask
member_asks to member = if is_kind kinds.Way member.key.kind then form_asks to member.key else []

abbrev pub way_asks : Known → Option Object → List Ask
way_asks to (Some (Relation members tags)) = flat_map (member_asks to) members
way_asks to _ = []

module _ (reaches : Bool) (to : Known) where
  -- the relations that have it as a member: of a node only where selections reach nodes
  abbrev pub lister_asks : KeyOf → List Ask
  lister_asks own = elim own.kind as (λ _. List Ask) [
    | kinds.Node ↦ if reaches then AroundNode own.id ∷ relation_asks (to.relations_of_node own.id) else []
    | kinds.Way ↦ AlongWay own.id ∷ relation_asks (to.relations_of_way own.id)
    | kinds.Relation ↦ []
  ]

  -- what the rows of an object are built of besides it
  abbrev pub listed_asks : KeyOf → Option Object → List Ask
  listed_asks own form = place_asks form ++ (way_asks to form ++ lister_asks own)

module _ (style : StyleOf) (reaches : Bool) (to : Known) where
  -- nothing of it, where no table may want the object
  abbrev pub part_asks : KeyOf → Option Object → List Ask
  part_asks own form = if may_have_rows style form then listed_asks reaches to own form else []

  -- what the rows of a key are built of
  abbrev pub needs : KeyOf → List Ask
  needs own = OfKey own ∷ part_asks own (to.object own)

  abbrev pub all_needs : List KeyOf → List Ask
  all_needs keys = flat_map needs keys

-- more was asked, of what is known so
pub record Gathers (to : Known) (old new : Gathered) (asks : List Ask) : Type 0 where
  pub right : IsRight old to → IsRight new to
  pub grows : Grows old new
  pub asked : AreAsked new asks

-- one answer more
abbrev pub with_answer : {K X : Type 0} → (K → K → Ordering) → (K → Option X) → K → X → K → Option X
with_answer order answers key value own = if eq_by_cmp order own key then Some value else answers own

abbrev pub with_place : Gathered → ℕ → Option PlaceOf → Gathered
with_place gathered id place = record gathered { places = with_answer nat_cmp gathered.places id place }

abbrev pub with_form : Gathered → KeyOf → Option Object → Gathered
with_form gathered own form = record gathered { forms = with_answer key_cmp gathered.forms own form }

abbrev pub with_along : Gathered → ℕ → List ℕ → Gathered
with_along gathered id ids = record gathered { along_ways = with_answer nat_cmp gathered.along_ways id ids }

abbrev pub with_around : Gathered → ℕ → List ℕ → Gathered
with_around gathered id ids = record gathered { around_nodes = with_answer nat_cmp gathered.around_nodes id ids }
