-- Spots as numbers.
use Rattle.std.specs.Prelude.{ℕ, ◌+◌, ◌*◌, ◌%◌}
use Rattle.osm_base.specs.declared.values.key.Kind.{Kind}
use Rattle.osm_base.specs.declared.values.key.Kind.TheVariants.{Node, Way, Relation}
use Rattle.osm_base.specs.map.Spots.{SpotOf}

abbrev pub kind_number : Kind → ℕ
kind_number Node = 0
kind_number Way = 1
kind_number Relation = 2

-- by table, then by kind, then by id; of a great table or id the lowest digits count
abbrev pub place_number : SpotOf → ℕ
place_number spot = (spot.table % 256 * 4 + kind_number spot.key.kind) * 18014398509481984 + spot.key.id % 18014398509481984
