-- The ways that a change makes due, and what stays of the others.
-- osm2pgsql manual, "Updating an Existing Database": when a node changes, the ways that it is in are processed again.
use Rattle.std.specs.Prelude.{◌≡◌, ℕ, Bool, ◌&&◌, ◌||◌, List, Option, None, Some}
use Rattle.std.specs.List.{list_any}
use Rattle.std.specs.Ordering.{eq_by_cmp}
use Rattle.std.specs.FinMap as map
use Rattle.osm_base.specs.declared.values.object.Entry.{Entry}
use Rattle.osm_base.specs.declared.values.key.Kind.TheVariants as kinds
use Rattle.osm_base.specs.values.Key.{way_key}
use Rattle.osm_base.specs.values.KeyOrder.{key_cmp}
use Rattle.osm_base.specs.map.Known.{Index}
use Rattle.piece_ends.specs.Pieces.{Line}
use Rattle.row_rules.specs.Shape as shape
use Rattle.osm_base.specs.map.Objects.{ObjectSet, folded_all}
use Rattle.osm_base.specs.map.Listers.{is_kind, known_of}
use Rattle.osm_base.specs.values.Ids.{has}

-- an entry makes a way due where it is of the way, or of a node that the way lists
abbrev pub makes_due : Index → ℕ → Entry → Bool
makes_due index way entry =
    eq_by_cmp key_cmp (way_key way) entry.key || (is_kind kinds.Node entry.key.kind && has (index.ways_of_node entry.key.id) way)

-- a way is due where an entry of the change makes it so
abbrev pub is_due : Index → List Entry → ℕ → Bool
is_due index change way = list_any (makes_due index way) change

-- the line of a way among the objects of a map, if there is such a way and it has one
abbrev pub line_in : ObjectSet → ℕ → Option Line
line_in objects way = shape.line_in (known_of objects).place (map.get objects (way_key way))

-- a change leaves a way and its line as they were
pub record Leaves (change : List Entry) (objects : ObjectSet) (way : ℕ) : Type 0 where
  pub object : map.get (folded_all objects change) (way_key way) ≡ map.get objects (way_key way)
  pub line : line_in (folded_all objects change) way ≡ line_in objects way
