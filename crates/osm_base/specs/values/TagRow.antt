-- A row of tags that may be none.
use Rattle.std.specs.Prelude.{ℕ, List, [], Option, None, Some}
use Rattle.std.specs.Global.{Global}
use Rattle.std.specs.declared.boxed.Box.{Box}
use Rattle.osm_base.specs.declared.values.tags.Span.{Span}
use Rattle.osm_base.specs.declared.values.tags.TagRow.{TagRow}
use Rattle.osm_base.specs.values.Tags.{TagPairs}
use Rattle.osm_base.specs.values.TagOrder.{pairs_of}

-- the texts of a row, where there is one
abbrev pub text_in : Option (Box TagRow Global) → List ℕ
text_in None = []
text_in (Some row) = row.value.text.items

-- where its tags stand in them
abbrev pub spans_in : Option (Box TagRow Global) → List Span
spans_in None = []
spans_in (Some row) = row.value.spans.items

-- its tags
abbrev pub pairs_in : Option (Box TagRow Global) → TagPairs
pairs_in row = pairs_of (text_in row) (spans_in row)
