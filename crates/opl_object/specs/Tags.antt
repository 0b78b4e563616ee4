-- The tags of a line.
-- osmium "OPL File Format": T has tags that are separated by commas, each a key, an equals sign and a value.
use Rattle.std.specs.Prelude.{ℕ, if◌then◌else◌, List, [], ◌∷◌, ◌++◌, Option, None, Some, Result, Ok, Err, is_some}
use Rattle.std.specs.List.{slice_split}
use Rattle.std.specs.FinMap as map
use Rattle.osm_base.specs.values.Tags.{TagMap, TagPairs}
use Rattle.opl_object.specs.declared.ascii.TheConstants.{COMMA, EQUALS}
use Rattle.opl_object.specs.declared.why.Why.{Why}
use Rattle.opl_object.specs.declared.why.Why.TheVariants.{Tag, RepeatedKey}
use Rattle.opl_object.specs.Fields.{is, is_empty, cut_at}
use Rattle.opl_object.specs.Text.{text_of}
use Rattle.opl_object.specs.Why.{◌>>=◌, each_piece}

-- one tag more, whose key is not there yet
abbrev pub with_tag : TagMap → List ℕ → List ℕ → Result TagMap Why
with_tag tags key value = if is_some (map.get tags key) then Err RepeatedKey else Ok (map.insert tags key value)

-- what stands before the first equals sign is the key, what stands after it the value
abbrev pub with_pair : TagMap → List ℕ × Option (List ℕ) → Result TagMap Why
with_pair tags (key, None) = Err Tag
with_pair tags (key, Some value) = text_of key >>= λ key. text_of value >>= λ value. with_tag tags key value

-- one piece more
unfoldable pub with_piece : TagMap → List ℕ → Result TagMap Why
with_piece tags piece = with_pair tags (cut_at (is EQUALS) piece)

-- nothing, or tags separated by commas
unfoldable pub tags_of : List ℕ → Result TagMap Why
tags_of text = if is_empty text then Ok map.empty else each_piece with_piece map.empty (slice_split (is COMMA) text)

-- the tag of a piece
abbrev pub tag_in : List ℕ × Option (List ℕ) → Result (List ℕ × List ℕ) Why
tag_in (key, None) = Err Tag
tag_in (key, Some value) = text_of key >>= λ key. text_of value >>= λ value. Ok (key, value)

-- the tag of a piece that is one
abbrev pub tag_or_none : Result (List ℕ × List ℕ) Why → List ℕ × List ℕ
tag_or_none (Ok tag) = tag
tag_or_none (Err why) = ([], [])

unfoldable pub tag_of : List ℕ → List ℕ × List ℕ
tag_of piece = tag_or_none (tag_in (cut_at (is EQUALS) piece))

-- tags in the order of their coming, and that of a piece behind them
unfoldable pub listed : TagPairs → List ℕ → Result TagPairs Why
listed pairs piece = tag_in (cut_at (is EQUALS) piece) >>= λ tag. Ok (pairs ++ tag ∷ [])

-- tags one after the other, none of whose keys is there yet
unfoldable pub with_tags : TagMap → TagPairs → Result TagMap Why
with_tags tags [] = Ok tags
with_tags tags (pair ∷ pairs) = with_tag tags pair.0 pair.1 >>= λ tags. with_tags tags pairs

-- what tags come to, where a piece behind them may have a fault
abbrev pub stopped_by : Option Why → TagMap → Result TagMap Why
stopped_by None tags = Ok tags
stopped_by (Some why) tags = Err why

abbrev pub gathered : TagPairs → Option Why → Result TagMap Why
gathered pairs fault = with_tags map.empty pairs >>= stopped_by fault
