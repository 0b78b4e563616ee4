use Rattle.std.proofs.Common.{◌-◌, ◌≤◌, T, length, drop}
use Rattle.std.specs.FinMap.{is_sorted}
use Rattle.osm_base.specs.values.TagOrder.{pairs_of}
use Rattle.osm_base.proofs.TagPlaces.{order}
use Rattle.osm_base.proofs.values.tags.list.are_rising.Given as goal

-- if the keys that are left rise, all do
abbrev pub invariant-loop-place : goal.invariant-loop-place
invariant-loop-place l =
    (1 ≤ l.place) × (T (is_sorted order (drop (l.place - 1) (pairs_of l.text l.spans))) → T (is_sorted order (pairs_of l.text l.spans)))

abbrev pub decreases-loop-place : goal.decreases-loop-place
decreases-loop-place l = length l.spans - l.place
