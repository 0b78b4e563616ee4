use Rattle.std.proofs.Common.{◌≡◌, ◌≤◌, ◌∙◌, arith, length, take}
use Rattle.std.proofs.lemmas.List.{take_all}
use Rattle.ring_nest.proofs.Owned.{depths_are}
use Rattle.ring_nest.proofs.holders.holders_of_each.Goals as goal

pub returns : goal.returns
returns c =
    let rings = c.args.tree.now.rings.now in
    let end : length rings ≤ c.loop-at.at = omega (arith, c.loop-at-test.false) in
    let all : take c.loop-at.at rings ≡ rings = take_all c.loop-at.at rings end in
    record {
      depths = rw all at c.loop-at.invariant.counted ∙ depths_are rings c.args.tree.now.root.now c.args.tree.now.whole;
      few = rw all at c.loop-at.invariant.kept;
    }
