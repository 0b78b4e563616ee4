-- How many tiles the runs of a set have.
use Rattle.std.proofs.Common.{◌+◌, ◌^◌, ◌≤◌, ◌<◌, ℕ, zero, suc, List, [], ◌∷◌, length, get_or, take, arith}
use Rattle.std.specs.List.{AllByRecursion}
use Rattle.std.proofs.lemmas.List.Sums.{sum_by-cons, sum_by-take-le}
use Rattle.std.proofs.Math.Nat.{pow-le-pow_right}
use Rattle.tile_cover.specs.Runs.{AreApart, IsRun, IsTileSet, end_of, start_of}
use Rattle.tile_cover.specs.declared.runs.Run.{Run}
use Rattle.run_promise.specs.Courses.{columns_of, tiles_in}

-- a run ends within its row, and rows are numbered over all zooms
ends_low : (run : Run) → IsRun run → end_of run < 146028888064
ends_low run is =
    let bound : 2 ^ run.zoom ≤ 2 ^ 16 = pow-le-pow_right {n = 2} (omega arith) is.shallow in
    omega (arith, bound, is.shallow, is.row, is.column)

-- runs that follow each other have no more tiles than there are columns from where the first begins
few_from : (run : Run) (runs : List Run) → AllByRecursion IsRun (run ∷ runs) → AreApart (run ∷ runs)
    → tiles_in (run ∷ runs) + start_of run ≤ 146028888064
few_from run [] each apart =
    let one = sum_by-cons columns_of run [] in
    omega (arith, one, each.0.ordered, ends_low run each.0)
few_from run (next ∷ runs) each apart =
    let one = sum_by-cons columns_of run (next ∷ runs) in
    let later = few_from next runs each.1 apart.1 in
    omega (arith, one, later, each.0.ordered, apart.0.0)

few_tiles : (runs : List Run) → IsTileSet runs → tiles_in runs ≤ 146028888064
few_tiles [] set = omega arith
few_tiles (run ∷ runs) set = omega (arith, few_from run runs set.each set.apart)

-- those of the first runs
pub few_so_far : (runs : List Run) (at : ℕ) → IsTileSet runs → tiles_in (take at runs) ≤ 146028888064
few_so_far runs at set = omega (arith, sum_by-take-le columns_of runs at, few_tiles runs set)

pub all_at : (P : Run → Type 0) (runs : List Run) (at : ℕ) (default : Run) → AllByRecursion P runs → at < length runs
    → P (get_or runs at default)
all_at P [] at default all within = absurd (omega (arith, within))
all_at P (run ∷ runs) zero default all within = all.0
all_at P (run ∷ runs) (suc at) default all within = all_at P runs at default all.1 (omega (arith, within))
