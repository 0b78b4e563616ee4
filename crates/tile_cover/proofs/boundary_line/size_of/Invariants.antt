use Rattle.std.proofs.Common.{◌≡◌, ◌≤◌, drop}
use Rattle.tile_cover.specs.Boundaries.{size_from}
use Rattle.tile_cover.proofs.boundary_line.size_of.Given as goal

-- the digits that are left write all behind those so far
abbrev pub invariant-loop-digit : goal.invariant-loop-digit
invariant-loop-digit l = (size_from l.size (drop l.digit-index l.digits) ≡ size_from 0 l.digits) × (l.size ≤ 900000000)
