use Rattle.std.proofs.Common.{arith, ◌≤◌, ◌^◌}
use Rattle.std.proofs.Math.Nat.{pow-le-pow_right}
use Rattle.tile_cover.proofs.Within.{reached_one}
use Rattle.tile_cover.proofs.bounds.Bounds.rows_from.Goals as goal

pub overflow_add-result : goal.overflow_add-result
overflow_add-result c =
    let bound : 2 ^ c.args.self.now.zoom ≤ 2 ^ 16 = pow-le-pow_right {n = 2} (omega arith) c.sides-south.ensures.table.shallow in
    record { fits = omega (arith, bound, c.requires.row) }

pub returns-then-climb-north-clause-reached : goal.returns-then-climb-north-clause-reached
returns-then-climb-north-clause-reached c = λ other h.
    reached_one c.args.self.now c.args.climb c.args.row other c.sides-south.result.0 c.sides-south.result.1 c.sides-south.ensures.table
    c.requires.row h
    c.sides-south.ensures.south c.sides-south.ensures.north (omega arith) (omega arith) c.requires.climb.climbs
