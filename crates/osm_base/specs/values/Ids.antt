-- Lists of ids.
use Rattle.std.specs.Prelude.{ℕ, Bool, List, nat_eq}
use Rattle.std.specs.Ordering.{nat_cmp}
use Rattle.std.specs.List.{AllByRecursion, list_any}
use Rattle.std.specs.List.Sorted.{IsStrictlySortedBy}
use Rattle.osm_base.specs.values.Key.{IsId}

-- each id is below those after it
abbrev pub IsRising : List ℕ → Type 0
IsRising ids = IsStrictlySortedBy nat_cmp ids

-- ids of objects, each once, from the least to the greatest
abbrev pub AreRisingIds : List ℕ → Type 0
AreRisingIds ids = IsRising ids × AllByRecursion IsId ids

-- whether an id stands in a list
abbrev pub has : List ℕ → ℕ → Bool
has ids id = list_any (λ other. nat_eq other id) ids
