-- Lists of ids that rise, each id once.
use Rattle.std.specs.Prelude.{◌≡◌, ◌<◌, ◌≤◌, ℕ, not, ◌&&◌, ◌||◌, List, length, slice_index_or, nat_eq}
use Rattle.osm_base.specs.values.Ids.{has}

-- the second list has the ids of the first one, and this one
abbrev pub Joins : ℕ → List ℕ → List ℕ → Type 0
Joins id old new = (other : ℕ) → has new other ≡ (nat_eq id other || has old other)

-- the second list has the ids of the first one but for this one
abbrev pub Leaves : ℕ → List ℕ → List ℕ → Type 0
Leaves id old new = (other : ℕ) → has new other ≡ (not (nat_eq id other) && has old other)

-- the id at this place is that one
pub record StandsAt (ids : List ℕ) (id at : ℕ) : Type 0 where
  pub within : at < length ids
  pub there : slice_index_or ids at 0 ≡ id

-- the ids before this place are less than that one, and the others greater
pub record IsGapAt (ids : List ℕ) (id at : ℕ) : Type 0 where
  pub within : at ≤ length ids
  pub less : (place : ℕ) → place < at → slice_index_or ids place 0 < id
  pub greater : (place : ℕ) → at ≤ place → place < length ids → id < slice_index_or ids place 0
