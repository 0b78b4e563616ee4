-- Tags in bytes: their number, and the text of each key and of its value, by rising keys.
use Rattle.std.specs.Prelude.{ℕ, List}
use Rattle.std.specs.FinMap as map
use Rattle.osm_base.specs.values.Tags.{TagMap}
use Rattle.value_bytes.specs.Forms.{both_bytes, Both}
use Rattle.value_bytes.specs.Lists.{list_bytes, IsList}
use Rattle.value_bytes.specs.Texts.{text_bytes, IsText}

-- a key and its value
abbrev pub tag_bytes : List ℕ × List ℕ → List ℕ
tag_bytes tag = both_bytes text_bytes text_bytes tag

abbrev pub IsTag : List ℕ × List ℕ → Type 0
IsTag tag = Both IsText IsText tag

-- the tags
unfoldable pub tags_bytes : TagMap → List ℕ
tags_bytes tags = list_bytes tag_bytes (map.entries tags)

unfoldable pub AreTags : TagMap → Type 0
AreTags tags = IsList IsTag (map.entries tags)
