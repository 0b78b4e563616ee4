-- What a store of the old format keeps of a node: its place alone, if it has one.
-- docs/FILES.md, "Buckets, and the eight maps": the value of a node in an old store.
use Rattle.std.specs.Prelude.{◌≡◌, ℕ, List, Option, None}
use Rattle.osm_base.specs.values.Place.{PlaceOf}
use Rattle.value_bytes.specs.declared.nodes.NodeRecord.{NodeRecord}
use Rattle.value_bytes.specs.Options.{option_bytes, IsOption}
use Rattle.value_bytes.specs.Places.{place_bytes, IsPlace}

-- a byte 0, or a byte 1 and the place
abbrev pub old_bytes : Option PlaceOf → List ℕ
old_bytes place = option_bytes place_bytes place

-- a place that has a spelling
abbrev pub IsOldPlace : Option PlaceOf → Type 0
IsOldPlace place = IsOption IsPlace place

-- what is kept of a node whose tags nobody knows
abbrev pub unknown : Option PlaceOf → NodeRecord
unknown place = record { place = place; tags = None }

-- the bytes of such a record in a store of the old format
abbrev pub old_record_bytes : NodeRecord → List ℕ
old_record_bytes node = old_bytes node.place

-- a record that such a store has
pub record IsOldRecord (node : NodeRecord) : Type 0 where
  pub place : IsOldPlace node.place
  pub tags : node.tags ≡ None
