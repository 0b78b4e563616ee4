use Rattle.std.proofs.Common.{arith, drop, length-drop}
use Rattle.lanes_geo.proofs.Level.{thirty_two_more, two_parts, few}
use Rattle.lanes_geo.proofs.crossings.crossings_at.Goals as goal

pub overflow_add-result : goal.overflow_add-result
overflow_add-result c =
    let ring = c.args.ring.now in
    let parts = two_parts ring c.args.place c.args.at c.requires in
    let more = thirty_two_more ring c.args.place c.args.at c.requires in
    let bound = few (drop c.args.at ring) c.args.place in
    let long = length-drop c.args.at ring in
    record { fits = omega (arith, c.crossings_in.ensures, c.crossings_in-else-is_level.ensures, parts, more, bound, long) }

pub returns-else-is_level : goal.returns-else-is_level
returns-else-is_level c =
    let parts = two_parts c.args.ring.now c.args.place c.args.at c.requires in
    omega (arith, c.crossings_in.ensures, c.crossings_in-else-is_level.ensures, parts)
