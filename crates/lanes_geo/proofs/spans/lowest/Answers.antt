use Rattle.std.proofs.Common.{arith}
use Rattle.lanes_geo.proofs.Extremes.{bounded}
use Rattle.lanes_geo.proofs.spans.lowest.Goals as goal

pub loop-lane-init : goal.loop-lane-init
loop-lane-init c =
    let b = bounded c.args.lanes in
    (omega arith, omega (arith, b))
