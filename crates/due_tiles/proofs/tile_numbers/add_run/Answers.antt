use Rattle.std.proofs.Common.{◌<◌, ◌/◌, ◌^◌, ◌-◌, sym, subst, arith}
use Prim.Native.Nat.{ℕ}
use Rattle.due_tiles.proofs.Numbers.{lifted_below}
use Rattle.due_tiles.proofs.tile_numbers.add_run.Goals as goal

pub add_row-requires-clause-row : goal.add_row-requires-clause-row
add_row-requires-clause-row c =
    let run = c.args.run in
    let zoom = c.args.zoom.level in
    subst (λ (side : ℕ). run.y / 2 ^ (run.zoom - zoom) < side) (sym c.side_of.ensures.power)
    (lifted_below run.zoom zoom run.y (omega arith) c.requires.run.row)
