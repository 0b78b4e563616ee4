-- What rows are made of.
-- osm2pgsql manual, "Stages": in stage two an object gets what the relations that it is a member of hand to it.
use Rattle.std.specs.Prelude.{ℕ, Bool, true, false, List, [], ◌∷◌, Option, None, Some, if◌then◌else◌}
use Rattle.std.specs.List.{filter_map}
use Rattle.osm_base.specs.declared.values.key.Kind.TheVariants as kinds
use Rattle.osm_base.specs.declared.values.object.Object.{Object}
use Rattle.osm_base.specs.declared.values.object.Object.TheVariants.{Relation}
use Rattle.osm_base.specs.map.Known.{Known}
use Rattle.osm_base.specs.map.Listers.{known_of}
use Rattle.osm_base.specs.map.Objects.{ObjectSet}
use Rattle.osm_base.specs.values.Key.{KeyOf, relation_key}
use Rattle.osm_base.specs.values.Place.{PlaceOf}
use Rattle.osm_base.specs.values.Tags.{TagMap}
use Rattle.style_read.specs.declared.style.Selection.{Selection}
use Rattle.style_read.specs.Style.{StyleOf}
use Rattle.row_rules.specs.Condition.{meets_number}

-- the place of each node that has one, the object of each key, and, for the number of each selection, the tags of the relations that
-- meet it and have the object whose row is made as a member, by rising id
pub record Material : Type 0 where
  pub place : ℕ → Option PlaceOf
  pub object : KeyOf → Option Object
  pub selecting : ℕ → List TagMap

-- the tags of a relation, if it meets the selection with a number
abbrev pub selecting_tags : List Selection → ℕ → Option Object → Option TagMap
selecting_tags selections number (Some (Relation members tags)) = if meets_number selections number tags then Some tags else None
selecting_tags selections number _ = None

-- the tags of those among these relations that meet the selection with a number
abbrev pub selecting_among : List Selection → (KeyOf → Option Object) → List ℕ → ℕ → List TagMap
selecting_among selections object ids number = filter_map (λ id. selecting_tags selections number (object (relation_key id))) ids

-- whether one of the relations that select does so by the selection with a number
abbrev pub is_selected : (ℕ → List TagMap) → ℕ → Bool
is_selected selecting number = elim (selecting number) as (λ _. Bool) [ [] ↦ false | tags ∷ more ↦ true ]

-- the relations that have a node or a way as a member. A relation is selected by none.
abbrev pub relations_with : Known → KeyOf → List ℕ
relations_with known key = elim key.kind as (λ _. List ℕ) [
  | kinds.Node ↦ known.relations_of_node key.id
  | kinds.Way ↦ known.relations_of_way key.id
  | kinds.Relation ↦ []
]

-- the tags of the relations that meet the selection with a number and have an object as a member
abbrev pub selected_by : StyleOf → Known → ℕ → KeyOf → List TagMap
selected_by style known number key = selecting_among style.selections known.object (relations_with known key) number

-- what the row of a key is made of, out of what is known of a map, where these relations may select it
abbrev pub material_among : List Selection → Known → List ℕ → Material
material_among selections known ids = record {
  place = known.place;
  object = known.object;
  selecting =
      selecting_among selections known.object ids;
}

-- what the row of a key is made of, out of what is known of a map
abbrev pub material_known : StyleOf → Known → KeyOf → Material
material_known style known key = material_among style.selections known (relations_with known key)

-- `selected`: the tags of the relations of a map that meet the selection with a number and have an object as a member
abbrev pub selected : StyleOf → ObjectSet → ℕ → KeyOf → List TagMap
selected style objects number key = selected_by style (known_of objects) number key

-- what the row of a key is made of, in a map with these objects
abbrev pub material_of : StyleOf → ObjectSet → KeyOf → Material
material_of style objects key = material_known style (known_of objects) key
