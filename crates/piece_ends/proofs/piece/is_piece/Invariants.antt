use Rattle.std.proofs.Common.{ℕ, ◌+◌, ◌<◌, ◌≢◌}
use Rattle.std.specs.Prelude.{slice_get}
use Rattle.piece_ends.proofs.piece.is_piece.Given as goal

-- the points so far differ from those before them
abbrev pub invariant-loop-index : goal.invariant-loop-index
invariant-loop-index l = (earlier : ℕ) → earlier + 1 < l.index → slice_get l.line earlier ≢ slice_get l.line (earlier + 1)
