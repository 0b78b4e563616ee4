-- Two materials that say the same of all that a row is made of.
-- osm2pgsql manual, "Updating an Existing Database": what an object lists, and which relations select it, is what its rows depend on.
use Rattle.std.specs.Prelude.{◌≡◌, ℕ, true, List, Option, Some, IfSome}
use Rattle.std.specs.List.{AllByRecursion, slice_get}
use Rattle.osm_base.specs.declared.values.object.Object.{Object}
use Rattle.osm_base.specs.declared.values.object.Object.TheVariants.{Way, Relation}
use Rattle.osm_base.specs.values.Key.{KeyOf}
use Rattle.osm_base.specs.map.Known.{Known}
use Rattle.style_read.specs.declared.style.TableDef.{TableDef}
use Rattle.style_read.specs.Style.{StyleOf}
use Rattle.row_rules.specs.Condition.{names_selection}
use Rattle.row_rules.specs.Material.{Material, material_known, material_of}
use Rattle.osm_base.specs.map.Objects.{ObjectSet}
use Rattle.row_rules.specs.Shape.{ways_among}

module _ (one other : Material) where
  -- the nodes have the same places
  abbrev pub SamePlaces : List ℕ → Type 0
  SamePlaces nodes = AllByRecursion (λ id. one.place id ≡ other.place id) nodes

  -- the nodes of a way have the same places
  abbrev pub SameNodes : Option Object → Type 0
  SameNodes (Some (Way nodes tags)) = SamePlaces nodes
  SameNodes _ = Unit {0}

  -- a way is the same, and its nodes have the same places
  pub record IsSameWay (way : KeyOf) : Type 0 where
    pub object : one.object way ≡ other.object way
    pub nodes : SameNodes (one.object way)

  -- the ways of a relation are the same
  abbrev pub SameWays : Option Object → Type 0
  SameWays (Some (Relation members tags)) = AllByRecursion IsSameWay (ways_among members)
  SameWays _ = Unit {0}

-- the object of a key, its nodes, its ways with their nodes and, where the table asks for selections, the relations that select it
pub record Agree (table : TableDef) (key : KeyOf) (one other : Material) : Type 0 where
  pub object : one.object key ≡ other.object key
  pub nodes : SameNodes one other (one.object key)
  pub ways : SameWays one other (one.object key)
  pub selecting : names_selection table ≡ true → (number : ℕ) → one.selecting number ≡ other.selecting number

-- what is known suffices for the row of a key in the table with a number, in a map with these objects: it says the same of all that the
-- row is made of
abbrev pub Suffices : StyleOf → ℕ → KeyOf → Known → ObjectSet → Type 0
Suffices style table key known objects =
    IfSome (slice_get style.tables table) (λ definition.
    Agree definition key (material_known style known key) (material_of style objects key))
