-- What a change says of a key: its object from then on, or that there is none.
-- osm2pgsql manual, "Updating an Existing Database": a changed object takes the place of the one that was there, and a deleted one is gone.
use Rattle.std.specs.Prelude.{◌≡◌, ℕ, List, [], ◌∷◌, Option, None, Some, IfSome, if◌then◌else◌, slice_index_or}
use Rattle.std.specs.Ordering.{eq_by_cmp}
use Rattle.osm_base.specs.declared.values.key.Kind.{Kind}
use Rattle.osm_base.specs.declared.values.key.Kind.TheVariants as kinds
use Rattle.osm_base.specs.declared.values.object.Entry.{Entry}
use Rattle.osm_base.specs.declared.values.object.Object.{Object}
use Rattle.osm_base.specs.map.Known.{Known}
use Rattle.osm_base.specs.map.Objects.{place_in}
use Rattle.osm_base.specs.values.Key.{KeyOf, node_key}
use Rattle.osm_base.specs.values.KeyOrder.{key_cmp}

-- the key of an object of this kind
abbrev pub key_named : Kind → ℕ → KeyOf
key_named kind id = record { kind = kind; id = id }

-- the key of the entry of this number
abbrev pub no_entry : Entry
no_entry = record { key = node_key 0; object = None }

abbrev pub key_in : List Entry → ℕ → KeyOf
key_in entries place = (slice_index_or entries place no_entry).key

-- what the entries say of a key, where they name it
abbrev pub named_in : List Entry → KeyOf → Option (Option Object)
named_in [] own = None
named_in (entry ∷ entries) own = if eq_by_cmp key_cmp own entry.key then Some entry.object else named_in entries own

-- this is known of the object of a key, and of a node its place
pub record IsKnown (to : Known) (own : KeyOf) (object : Option Object) : Type 0 where
  pub form : to.object own ≡ object
  pub placed : own.kind ≡ kinds.Node → to.place own.id ≡ place_in object

-- of each key that the entries name what they say is known
abbrev pub AreKnown : Known → List Entry → Type 0
AreKnown to entries = (own : KeyOf) → IfSome (named_in entries own) (IsKnown to own)
