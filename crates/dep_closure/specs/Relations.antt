-- The relations that a change makes due, by an index of the objects after it.
use Rattle.std.specs.Prelude.{ℕ, Bool, ◌&&◌, ◌||◌, List}
use Rattle.std.specs.List.{list_any}
use Rattle.std.specs.Ordering.{eq_by_cmp}
use Rattle.osm_base.specs.declared.values.key.Kind.TheVariants as kinds
use Rattle.osm_base.specs.declared.values.object.Entry.{Entry}
use Rattle.osm_base.specs.values.Key.{relation_key}
use Rattle.osm_base.specs.values.KeyOrder.{key_cmp}
use Rattle.osm_base.specs.map.Known.{Index}
use Rattle.osm_base.specs.map.Listers.{is_kind}
use Rattle.osm_base.specs.values.Ids.{has}

-- an entry makes a relation due where it is of the relation, or of a node that is a member of it
abbrev pub makes_relation : Index → ℕ → Entry → Bool
makes_relation index id entry = eq_by_cmp key_cmp (relation_key id) entry.key ||
    (is_kind kinds.Node entry.key.kind && has (index.relations_of_node entry.key.id) id)

-- one of these ways is a member of the relation
abbrev pub is_along : Index → List ℕ → ℕ → Bool
is_along index ways id = list_any (λ way. has (index.relations_of_way way) id) ways

-- a relation is due where an entry of the change makes it so, or has one of these ways as a member
abbrev pub is_due_relation : Index → List Entry → List ℕ → ℕ → Bool
is_due_relation index change ways id = list_any (makes_relation index id) change || is_along index ways id
