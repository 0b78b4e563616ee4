use Rattle.std.proofs.Common.{◌∙◌, arith, length-drop, drop}
use Rattle.std.proofs.lemmas.Grind.{common_steps}
use Rattle.ring_nest.proofs.Off.{no_segment}
use Rattle.ring_nest.proofs.rings.lies_on.Goals as goal

pub loop-at-preserved : goal.loop-at-preserved
loop-at-preserved c = (omega arith, grind (arith, common_steps))

pub returns : goal.returns
returns c = no_segment (drop c.loop-at.at c.args.ring.now) c.args.place (rw length-drop (omega arith)) ∙ c.loop-at.invariant.1
