use Rattle.std.proofs.Common.{◌≡◌, ℕ, take}
use Rattle.osm_base.specs.values.Ids.{has}
use Rattle.due_tiles.specs.TileText.{is_listed}
use Rattle.due_tiles.proofs.tile_numbers.listed.Given as goal

-- the numbers of the runs so far
abbrev pub invariant-loop-run : goal.invariant-loop-run
invariant-loop-run l = (number : ℕ) → has l.numbers.items number ≡ is_listed (take l.run-index l.runs) l.zoom.level number
