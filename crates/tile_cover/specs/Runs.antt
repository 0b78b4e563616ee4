-- Sets of tiles, as runs of columns.
-- osm2pgsql manual, "Tile Expiry": a tile is named by its zoom, its column x and its row y, both from 0 in the north west.
use Rattle.std.specs.Prelude.{◌≡◌, ℕ, ◌+◌, ◌*◌, ◌<◌, ◌≤◌, ◌^◌, ◌==◌, max, nat_le, Bool, ◌&&◌, ◌||◌, if◌then◌else◌, List, [], ◌∷◌}
use Rattle.std.specs.List.{AllByRecursion, list_any}
use Rattle.tile_cover.specs.declared.runs.Run.{Run}
use Rattle.tile_cover.specs.declared.runs.TheConstants.{MAX_ZOOM}

-- whether a run has a tile
abbrev pub holds : ℕ → ℕ → ℕ → Run → Bool
holds zoom x y run = (run.zoom == zoom) && ((run.y == y) && (nat_le run.first x && nat_le x run.last))

-- whether runs have a tile
abbrev pub has : List Run → ℕ → ℕ → ℕ → Bool
has runs zoom x y = list_any (holds zoom x y) runs

-- at least one column of a row that its zoom has
pub record IsRun (run : Run) : Type 0 where
  pub shallow : run.zoom ≤ MAX_ZOOM
  pub row : run.y < 2 ^ run.zoom
  pub ordered : run.first ≤ run.last
  pub column : run.last < 2 ^ run.zoom

-- the number of a run's first column and of its last one, counted over all rows of all zooms, each of which has room
-- for twice the columns that it may have
abbrev pub run_row : Run → ℕ
run_row run = run.zoom * 65536 + run.y

abbrev pub start_of : Run → ℕ
start_of run = run_row run * 131072 + run.first

abbrev pub end_of : Run → ℕ
end_of run = run_row run * 131072 + run.last

-- a run stands in a later row than another one, or in its row with a column between them
abbrev pub Follows : Run → Run → Type 0
Follows run next = end_of run + 1 < start_of next

-- each run follows those before it
abbrev pub AreApart : List Run → Type 0
AreApart [] = Unit {0}
AreApart (run ∷ runs) = AllByRecursion (Follows run) runs × AreApart runs

-- the list of runs of a set
pub record IsTileSet (runs : List Run) : Type 0 where
  pub each : AllByRecursion IsRun runs
  pub apart : AreApart runs

-- no run begins after this one
abbrev pub BeginsLater : List Run → Run → Type 0
BeginsLater runs next = AllByRecursion (λ run. start_of run ≤ start_of next) runs

-- a set gains the tiles of a run, and what may be added after that run still may
pub record Adds (old new : List Run) (run : Run) : Type 0 where
  pub tiles : (zoom x y : ℕ) → has new zoom x y ≡ (has old zoom x y || holds zoom x y run)
  pub later : (next : Run) → BeginsLater old next → start_of run ≤ start_of next → BeginsLater new next

-- whether a run that begins no earlier than another one overlaps or touches it
abbrev pub joins : Run → Run → Bool
joins run next = (run.zoom == next.zoom) && ((run.y == next.y) && nat_le next.first (run.last + 1))

-- one run of the columns of two that join
abbrev pub joined_runs : Run → Run → Run
joined_runs run next = record { zoom = run.zoom; y = run.y; first = run.first; last = max run.last next.last }

-- runs with one more at their end, joined to the last of them where they overlap or touch
abbrev pub pushed : List Run → Run → List Run
pushed [] next = next ∷ []
pushed (run ∷ []) next = if joins run next then joined_runs run next ∷ [] else run ∷ next ∷ []
pushed (run ∷ other ∷ runs) next = run ∷ pushed (other ∷ runs) next
