-- The order of the keys of a file.
-- osmium manual, "OPL File Format", and osm2pgsql manual, "Preparing OSM Data": nodes come first, then ways, then relations, each
-- by rising id.
use Rattle.std.specs.Prelude.{ℕ, Bool}
use Rattle.std.specs.declared.cmp.Ordering.{Ordering}
use Rattle.std.specs.Ordering.{nat_cmp, is_lt, on, then_cmp}
use Rattle.osm_base.specs.declared.values.key.Kind.{Kind}
use Rattle.osm_base.specs.declared.values.key.Kind.TheVariants.{Node, Way, Relation}
use Rattle.osm_base.specs.values.Key.{KeyOf}

-- the place of a kind in a file
abbrev pub rank : Kind → ℕ
rank Node = 0
rank Way = 1
rank Relation = 2

-- how two keys are ordered: by kind and then by id
abbrev pub key_cmp : KeyOf → KeyOf → Ordering
key_cmp = then_cmp (on (λ key. rank key.kind) nat_cmp) (on (λ key. key.id) nat_cmp)

-- whether the first key is below the second
abbrev pub is_below : KeyOf → KeyOf → Bool
is_below earlier later = is_lt (key_cmp earlier later)
