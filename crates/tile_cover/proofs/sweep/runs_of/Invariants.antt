use Rattle.std.proofs.Common.{◌≡◌, ◌≤◌, ◌-◌, ◌==◌, ◌&&◌, ◌||◌, ℕ, length, drop}
use Rattle.std.specs.List.{AllByRecursion}
use Rattle.tile_cover.specs.Runs.{has}
use Rattle.tile_cover.specs.Sweep.{StandsBefore, is_odd_row, is_open, is_told}
use Rattle.tile_cover.proofs.sweep.runs_of.Given as goal

-- the tiles so far, and those from the cursor on that the events tell which are left
abbrev pub invariant-loop-at : goal.invariant-loop-at
invariant-loop-at l = record {
  within : l.at ≤ length l.events;
  tiles : (other x y : ℕ) → (has l.set other x y ||
      ((l.zoom == other) && (is_open l.cursor y x && is_told l.filled (drop l.at l.events) y x)))
      ≡ ((l.zoom == other) && is_told l.filled l.events y x);
  before : StandsBefore l.zoom l.cursor l.set;
  odd : l.cursor.odd ≡ is_odd_row l.cursor.row (drop l.at l.events);
  rows : AllByRecursion (λ event. l.cursor.row ≤ event.row) (drop l.at l.events);
  edge : l.cursor.edge ≤ 65536;
}

abbrev pub decreases-loop-at : goal.decreases-loop-at
decreases-loop-at l = length l.events - l.at
