use Rattle.std.proofs.Common.{arith, ◌<◌, length}
use Rattle.ring_nest.specs.Slabs.{Counts}
use Rattle.ring_nest.specs.declared.opened.TheConstants.{TOP}
use Rattle.ring_nest.proofs.Counted.{are_counted, counted}
use Rattle.ring_nest.proofs.known.by_slabs.Goals as goal

pub returns : goal.returns
returns c =
    let edges = c.args.edges.items in
    let slabs = c.in_ok-slabs.slabs in
    let counts : Counts 0 TOP edges slabs = λ north east low high. c.in_ok-slabs.ensures.counts north east low high in
    let few : length edges < 18446744073709551616 = omega (arith, c.args.edges.small, c.args.edges.ok.0) in
    record { are = are_counted edges slabs few c.in_ok-slabs.ensures.slabs counts; counted = counted edges slabs counts }
