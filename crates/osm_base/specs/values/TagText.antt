-- How `Tags` keeps its texts: all in one row of bytes, cut where the spans say.
use Rattle.std.specs.Prelude.{ℕ, ◌≤◌, List, length, slice_range}
use Rattle.std.specs.Str.{IsUtf8, chars}
use Rattle.std.specs.List.{AllByRecursion}
use Rattle.osm_base.specs.declared.values.tags.Span.{Span}

-- the bytes of a key and of its value
abbrev pub key_bytes : List ℕ → Span → List ℕ
key_bytes text span = slice_range text span.key span.value

abbrev pub value_bytes : List ℕ → Span → List ℕ
value_bytes text span = slice_range text span.value span.end

-- a key and its value
abbrev pub pair_of : List ℕ → Span → List ℕ × List ℕ
pair_of text span = (chars (key_bytes text span), chars (value_bytes text span))

-- a span lies within the text and cuts out two texts
pub record IsSpan (text : List ℕ) (span : Span) : Type 0 where
  pub key_end : span.key ≤ span.value
  pub value_end : span.value ≤ span.end
  pub within : span.end ≤ length text
  pub key_text : IsUtf8 (key_bytes text span)
  pub value_text : IsUtf8 (value_bytes text span)

abbrev pub AreSpans : List ℕ → List Span → Type 0
AreSpans text spans = AllByRecursion (IsSpan text) spans
