use Rattle.std.proofs.Common.{◌≡◌, drop}
use Rattle.std.specs.Prelude.{fold}
use Rattle.std.specs.FinMap as finite
use Rattle.osm_base.specs.map.Spots.{spot_of}
use Rattle.delta_feed.specs.Text.{changes_by_spot}
use Rattle.delta_feed.specs.Writing.{told_by}
use Rattle.delta_feed.proofs.writing.by_spot.Given as goal

-- the changes that are told, and then those that are left, are all of them
abbrev pub invariant-loop-change : goal.invariant-loop-change
invariant-loop-change l =
    fold (λ told change. finite.insert told (spot_of change) change) (told_by l.told) (drop l.change-index l.changes) ≡ changes_by_spot l.changes
