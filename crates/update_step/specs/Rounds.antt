-- What rows are built of, asked in rounds: the objects of keys, what these are built of, and what the answers to that lead to.
-- Each round is known once the one before it is answered, and together they are all that is needed.
use Rattle.std.specs.Prelude.{List, [], ◌∷◌, ◌++◌, Bool, if◌then◌else◌, Option, Some}
use Rattle.std.specs.List.{flat_map}
use Rattle.osm_base.specs.declared.values.key.Kind.TheVariants as kinds
use Rattle.osm_base.specs.declared.values.object.Member.{Member}
use Rattle.osm_base.specs.declared.values.object.Object.{Object}
use Rattle.osm_base.specs.declared.values.object.Object.TheVariants.{Relation}
use Rattle.osm_base.specs.map.Known.{Known}
use Rattle.osm_base.specs.map.Listers.{is_kind}
use Rattle.osm_base.specs.values.Key.{KeyOf}
use Rattle.style_read.specs.Style.{StyleOf}
use Rattle.row_rules.specs.Wanted.{may_have_rows}
use Rattle.update_step.specs.Gather.{AlongWay, AroundNode, Ask, AtNode, OfKey, place_asks, relation_asks}

-- a member that is a way
abbrev pub member_asked : Member → List Ask
member_asked member = if is_kind kinds.Way member.key.kind then OfKey member.key ∷ [] else []

-- the ways among the members of an object that is a relation
abbrev pub ways_asked : Option Object → List Ask
ways_asked (Some (Relation members tags)) = flat_map member_asked members
ways_asked _ = []

-- who has an object as a member: of a node only where selections reach nodes
abbrev pub lister_asked : Bool → KeyOf → List Ask
lister_asked reaches own = elim own.kind as (λ _. List Ask) [
  | kinds.Node ↦ if reaches then AroundNode own.id ∷ [] else []
  | kinds.Way ↦ AlongWay own.id ∷ []
  | kinds.Relation ↦ []
]

-- what the rows of an object are built of besides it: nothing, where no table may want it
abbrev pub parts_asked : StyleOf → Bool → KeyOf → Option Object → List Ask
parts_asked style reaches own form =
    if may_have_rows style form then place_asks form ++ (ways_asked form ++ lister_asked reaches own) else []

-- those of a key
abbrev pub parts_of : StyleOf → Bool → Known → KeyOf → List Ask
parts_of style reaches to own = parts_asked style reaches own (to.object own)

-- what an answer leads to: of a way its nodes, of a list of relations these
abbrev pub asks_behind : Known → Ask → List Ask
asks_behind to (AtNode id) = []
asks_behind to (OfKey own) = place_asks (to.object own)
asks_behind to (AlongWay id) = relation_asks (to.relations_of_way id)
asks_behind to (AroundNode id) = relation_asks (to.relations_of_node id)
