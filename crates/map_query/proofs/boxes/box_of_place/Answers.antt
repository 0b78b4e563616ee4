use Rattle.std.proofs.Common.{arith}
use Rattle.std.proofs.lemmas.Grind.{common_steps}
use Rattle.map_query.proofs.boxes.box_of_place.Goals as goal

pub returns : goal.returns
returns c = record { sides = grind (arith, common_steps) }
