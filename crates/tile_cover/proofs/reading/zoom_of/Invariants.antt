use Rattle.std.proofs.Common.{◌≢◌, ℕ, ◌<◌, ◌^◌, ◌+◌}
use Rattle.tile_cover.proofs.reading.zoom_of.Given as goal

-- none of the zooms so far has so many
abbrev pub invariant-loop-zoom : goal.invariant-loop-zoom
invariant-loop-zoom l = (other : ℕ) → other < l.zoom → l.count ≢ 2 ^ other + 1
