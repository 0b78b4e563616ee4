use Rattle.std.proofs.Common.{arith}
use Rattle.std.proofs.lemmas.Int.{ints}
use Rattle.ring_nest.proofs.boxes.widened.Goals as goal

pub returns-clause-so_far : goal.returns-clause-so_far
returns-clause-so_far c =
    let w = c.lesser.ensures.one in
    let s = c.lesser-2.ensures.one in
    let e = c.greater.ensures.one in
    let n = c.greater-2.ensures.one in
    record { west = omega (arith, ints); south = omega (arith, ints); east = omega (arith, ints); north = omega (arith, ints) }

pub returns-clause-other : goal.returns-clause-other
returns-clause-other c =
    let w = c.lesser.ensures.other in
    let s = c.lesser-2.ensures.other in
    let e = c.greater.ensures.other in
    let n = c.greater-2.ensures.other in
    record { west = omega (arith, ints); south = omega (arith, ints); east = omega (arith, ints); north = omega (arith, ints) }
