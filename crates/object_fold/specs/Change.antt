-- What a file of entries has, whatever it says: each object is of its key's kind, the ids of a way's nodes are ids, and the keys rise.
use Rattle.std.specs.Prelude.{List, [], ◌∷◌, Option, None, Some, IsTrue, IfSome}
use Rattle.std.specs.List.{AllByRecursion}
use Rattle.osm_base.specs.declared.values.key.Kind.{Kind}
use Rattle.osm_base.specs.declared.values.key.Kind.TheVariants as kinds
use Rattle.osm_base.specs.declared.values.object.Entry.{Entry}
use Rattle.osm_base.specs.declared.values.object.Object.{Object}
use Rattle.osm_base.specs.declared.values.object.Object.TheVariants.{Node, Way, Relation}
use Rattle.osm_base.specs.values.Key.{KeyOf, IsId}
use Rattle.osm_base.specs.values.KeyOrder.{is_below}

-- an object of this kind; the nodes of a way have ids
abbrev pub IsOfKind : Kind → Object → Type 0
IsOfKind kinds.Node (Node place tags) = Unit {0}
IsOfKind kinds.Way (Way nodes tags) = AllByRecursion IsId nodes
IsOfKind kinds.Relation (Relation members tags) = Unit {0}
IsOfKind _ _ = ⊥

-- an entry whose object, if it has one, is of its key's kind
abbrev pub IsProper : Entry → Type 0
IsProper entry = IfSome entry.object (λ object. IsOfKind entry.key.kind object)

-- this key comes after that one, if there is one
abbrev pub Follows : Option KeyOf → KeyOf → Type 0
Follows None key = Unit {0}
Follows (Some earlier) key = IsTrue (is_below earlier key)

-- these entries, whose keys rise, come after this key
abbrev pub FollowsAll : Option KeyOf → List Entry → Type 0
FollowsAll last [] = Unit {0}
FollowsAll last (entry ∷ entries) = Follows last entry.key

-- the entries are proper, and their keys rise from this one on
abbrev pub RiseFrom : Option KeyOf → List Entry → Type 0
RiseFrom last [] = Unit {0}
RiseFrom last (entry ∷ entries) = IsProper entry × Follows last entry.key × RiseFrom (Some entry.key) entries

-- the entries are proper, and their keys rise
abbrev pub IsChange : List Entry → Type 0
IsChange entries = RiseFrom None entries

-- the key of the last of these entries
abbrev pub last_key : Option KeyOf → List Entry → Option KeyOf
last_key before [] = before
last_key before (entry ∷ entries) = last_key (Some entry.key) entries
