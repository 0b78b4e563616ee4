use Rattle.std.proofs.Common.{ap, arith, sym, ◌∙◌}
use Rattle.ring_nest.specs.Edges.{passes}
use Rattle.ring_nest.proofs.Ordered.{parted_back, parted_on}
use Rattle.ring_nest.proofs.row.count_ordered.Goals as goal

pub loop-first-preserved-then-passes : goal.loop-first-preserved-then-passes
loop-first-preserved-then-passes c =
    parted_back c.args.low c.args.high c.args.spot.north c.args.spot.east c.args.edges.now c.loop-first.first c.loop-first.last _ _ c.requires.edges c.requires.west
    c.requires.north.0 c.requires.north.1 (omega arith) (omega arith) c.loop-first.invariant (ap (passes c.args.spot.north c.args.spot.east) (sym c.index-edges-middle.is) ∙ sym c.passes.ensures ∙ c.if-passes.true)

pub loop-first-preserved : goal.loop-first-preserved
loop-first-preserved c =
    parted_on c.args.low c.args.high c.args.spot.north c.args.spot.east c.args.edges.now c.loop-first.first c.loop-first.last _ _ c.requires.edges c.requires.west
    c.requires.north.0 c.requires.north.1 (omega arith) (omega arith) c.loop-first.invariant (ap (passes c.args.spot.north c.args.spot.east) (sym c.index-edges-middle.is) ∙ sym c.passes.ensures ∙ c.if-passes.false)
