use Rattle.std.proofs.Common.{rules, arith, ◌≡◌, ◌+◌}
use Rattle.lanes_geo.specs.Nesting.{depth, ring_at}
use Rattle.ring_nest.proofs.Marked.{depth_of}
use Rattle.ring_nest.proofs.told.told_depth.Goals as goal

pub returns : goal.returns
returns c =
    let rings = c.args.asked.now.rings.now in
    let all = depth_of rings c.args.asked.now.known.now.marks.items (ring_at rings c.args.asked.now.number) c.args.asked.now.is_known.marked in
    let sum : depth rings (ring_at rings c.args.asked.now.number) ≡ c.in_ok-others.others + c.in-Some.marked =
    omega (arith, all, c.in-Some.ensures, c.in_ok-others.ensures.count) in
    record { depth = rw sum (search rules) }
