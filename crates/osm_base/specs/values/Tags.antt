-- Tags, as contracts see them: a finite map from keys to values, both as lists of characters.
use Rattle.std.specs.Prelude.{ℕ, List, map}
use Rattle.std.specs.Ordering.{nat_cmp, eq_by_cmp}
use Rattle.std.specs.Cmp.Lexicographic.{slice_cmp}
use Rattle.std.specs.FinMap.{FinMap}
use Rattle.std.specs.List.{IsDistinct}

-- from the characters of each key to those of its value
abbrev pub TagMap : Type 0
TagMap = FinMap (slice_cmp nat_cmp) (List ℕ)

-- keys and values, in some order
abbrev pub TagPairs : Type 0
TagPairs = List (List ℕ × List ℕ)

-- no key stands twice
abbrev pub HasEachKeyOnce : TagPairs → Type 0
HasEachKeyOnce pairs = IsDistinct (eq_by_cmp (slice_cmp nat_cmp)) (map (λ pair. pair.0) pairs)
