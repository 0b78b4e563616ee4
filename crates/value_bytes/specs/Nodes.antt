-- What a store keeps of a node: its place, if it has one, and its tags, if they are known.
use Rattle.std.specs.Prelude.{ℕ, List, ◌++◌}
use Rattle.value_bytes.specs.declared.nodes.NodeRecord.{NodeRecord}
use Rattle.value_bytes.specs.Options.{option_bytes, IsOption}
use Rattle.value_bytes.specs.Places.{place_bytes, IsPlace}
use Rattle.value_bytes.specs.Tags.{tags_bytes, AreTags}

-- a byte 0 or a byte 1 and the place; and then a byte 0, or a byte 1 and the tags
unfoldable pub record_bytes : NodeRecord → List ℕ
record_bytes node = option_bytes place_bytes node.place ++ option_bytes tags_bytes node.tags

-- a record that has a spelling
pub record IsRecord (node : NodeRecord) : Type 0 where
  pub place : IsOption IsPlace node.place
  pub tags : IsOption AreTags node.tags
