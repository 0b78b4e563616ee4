use Rattle.std.proofs.Common.{◌-◌, ◌≤◌, T, length, drop, map}
use Rattle.std.specs.FinMap.{is_sorted}
use Rattle.row_text.specs.Numbered.{by_number, seen}
use Rattle.row_text.proofs.numbered.are_rising.Given as goal

-- if the rows that are left rise, all do
abbrev pub invariant-loop-place : goal.invariant-loop-place
invariant-loop-place l =
    (1 ≤ l.place) × (T (is_sorted (by_number l.of_areas) (drop (l.place - 1) (map seen l.rows)))
    → T (is_sorted (by_number l.of_areas) (map seen l.rows)))

abbrev pub decreases-loop-place : goal.decreases-loop-place
decreases-loop-place l = length l.rows - l.place
