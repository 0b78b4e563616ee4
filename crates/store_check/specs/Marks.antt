-- Marks of the home pages of a store.
use Rattle.std.specs.Prelude.{◌≡◌, ◌<◌, ◌≤◌, ℕ, Bool, true, false, List, length, slice_index_or}

-- the page with this number has a mark
abbrev pub is_marked : List Bool → ℕ → Bool
is_marked marks page = slice_index_or marks page false

-- the lowest page behind the root page that has none
pub record IsFirstLeft (marks : List Bool) (page : ℕ) : Type 0 where
  pub behind : 2 ≤ page
  pub there : page < length marks
  pub unmarked : is_marked marks page ≡ false
  pub lowest : (other : ℕ) → 2 ≤ other → other < page → is_marked marks other ≡ true
