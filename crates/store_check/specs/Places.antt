-- The places of nodes, in lists by the remainders that their ids leave.
use Rattle.std.specs.Prelude.{◌≡◌, ◌≢◌, ◌≤◌, ◌+◌, ◌%◌, ℕ, List, [], ◌∷◌, None, flat_map}
use Rattle.std.specs.FinMap as finite
use Rattle.std.specs.Ordering.{nat_cmp}
use Rattle.osm_base.specs.values.Place.{PlaceOf}

-- the places of nodes by their ids
abbrev pub PlaceMap : Type 0
PlaceMap = finite.FinMap nat_cmp PlaceOf

-- the id of a place that is listed
abbrev pub id_of : ℕ × PlaceOf → ℕ
id_of one = one.0

-- all of these
abbrev pub joined_lists : List PlaceMap → PlaceMap
joined_lists lists = finite.from_entries (flat_map finite.entries lists)

-- these are the lists of the remainders from this one on: each has no other ids
abbrev pub AreOwn : (count number : ℕ) → List PlaceMap → Type 0
AreOwn count number [] = Unit
AreOwn count number (list ∷ lists) =
    ((id : ℕ) → id % count ≢ number → finite.get list id ≡ None) × AreOwn count (number + 1) lists

-- these are lists of remainders by this number
pub record AreLists (count : ℕ) (lists : List PlaceMap) : Type 0 where
  pub some : 1 ≤ count
  pub own : AreOwn count 0 lists
