-- The order in which `Tags` keeps its tags. It is that of a finite map, by the characters of the keys, and so the one
-- by the bytes of the keys in UTF-8.
use Rattle.std.specs.Prelude.{◌≡◌, ℕ, ◌≤◌, T, List, length, take, drop, map}
use Rattle.std.specs.declared.cmp.Ordering.TheVariants.{Less, Greater}
use Rattle.std.specs.Ordering.{nat_cmp}
use Rattle.std.specs.Cmp.Lexicographic.{slice_cmp}
use Rattle.std.specs.List.{AllByRecursion}
use Rattle.std.specs.FinMap.{is_sorted}
use Rattle.osm_base.specs.declared.values.tags.Span.{Span}
use Rattle.osm_base.specs.values.Tags.{TagPairs}
use Rattle.osm_base.specs.values.TagText.{pair_of, AreSpans}

-- the tags that the spans cut out of a text
abbrev pub pairs_of : List ℕ → List Span → TagPairs
pairs_of text spans = map (pair_of text) spans

-- the spans cut tags out of the text, each key above the one before it
pub record AreTags (text : List ℕ) (spans : List Span) : Type 0 where
  pub cuts : AreSpans text spans
  pub rising : T (is_sorted (slice_cmp nat_cmp) (pairs_of text spans))

-- this key is above all of these
abbrev pub IsAbove : List ℕ → TagPairs → Type 0
IsAbove key pairs = AllByRecursion (λ pair. slice_cmp nat_cmp key pair.0 ≡ Greater) pairs

-- and this one below them
abbrev pub IsBelow : List ℕ → TagPairs → Type 0
IsBelow key pairs = AllByRecursion (λ pair. slice_cmp nat_cmp key pair.0 ≡ Less) pairs

-- a key that is not there belongs at this place
pub record BelongsAt (key : List ℕ) (pairs : TagPairs) (place : ℕ) : Type 0 where
  pub within : place ≤ length pairs
  pub before : IsAbove key (take place pairs)
  pub behind : IsBelow key (drop place pairs)
