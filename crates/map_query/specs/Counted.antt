-- The numbers of rows that are kept beside tables.
use Rattle.std.specs.Prelude.{◌≡◌, ℕ, ◌+◌, ◌-◌, ◌==◌, Bool, if◌then◌else◌, List, length, Option, Some}
use Rattle.std.specs.List.{slice_get}
use Rattle.osm_base.specs.map.Spots.{TableMap}
use Rattle.row_text.specs.Numbered.{rows_of}

-- the number that is kept for a table, if there is one, is that of its rows
abbrev pub AreCounts : TableMap → List (Option ℕ) → Type 0
AreCounts tables counts = (table count : ℕ) → slice_get counts table ≡ Some (Some count) → count ≡ length (rows_of tables table)

-- the number of rows of a table behind a change of the row of an object, which it had before or not and has now or not
abbrev pub counted_on : (was is : Bool) → ℕ → ℕ
counted_on was is count = if is then (if was then count else count + 1) else (if was then count - 1 else count)

-- a number that is kept for this table behind such a change is made of the one before, and each other stands as it did
abbrev pub AreNoted : (table : ℕ) → (was is : Bool) → (old new : List (Option ℕ)) → Type 0
AreNoted table was is old new = (other count : ℕ) → slice_get new other ≡ Some (Some count)
    → (before : ℕ) × (slice_get old other ≡ Some (Some before) × (count ≡ (if table == other then counted_on was is before else before)))
