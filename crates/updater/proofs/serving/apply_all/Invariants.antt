use Rattle.std.proofs.Common.{◌≡◌, drop}
use Rattle.osm_base.specs.map.Spots.{changed_all}
use Rattle.updater.proofs.serving.apply_all.Given as goal

-- what the changes that are left make of the tables is what all make of them
abbrev pub invariant-loop-change : goal.invariant-loop-change
invariant-loop-change l = changed_all l.tables (drop l.change-index l.changes) ≡ changed_all l.fn.tables l.changes
