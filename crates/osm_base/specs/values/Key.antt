-- The key of an object, as contracts see it: a kind, and an id from 1 to the greatest.
-- osmium OPL manual, "OPL Format": each line begins with the letter of its kind, and then the id.
use Rattle.std.specs.Prelude.{ℕ, ◌≤◌}
use Rattle.osm_base.specs.declared.values.key.Kind.{Kind}
use Rattle.osm_base.specs.declared.values.key.Kind.TheVariants as kinds
use Rattle.osm_base.specs.declared.values.key.TheConstants.{MAX_ID}

-- a kind and an id
pub record KeyOf : Type 0 where
  pub kind : Kind
  pub id : ℕ

-- the keys of the node, the way and the relation with an id
abbrev pub node_key : ℕ → KeyOf
node_key id = record { kind = kinds.Node; id = id }

abbrev pub way_key : ℕ → KeyOf
way_key id = record { kind = kinds.Way; id = id }

abbrev pub relation_key : ℕ → KeyOf
relation_key id = record { kind = kinds.Relation; id = id }

-- an id that an object may have
pub record IsId (id : ℕ) : Type 0 where
  pub least : 1 ≤ id
  pub greatest : id ≤ MAX_ID
