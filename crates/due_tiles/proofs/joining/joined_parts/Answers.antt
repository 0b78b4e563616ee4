use Rattle.due_tiles.proofs.Merging.{merged_step}
use Rattle.due_tiles.proofs.joining.joined_parts.Goals as goal

pub loop-left_rest-preserved : goal.loop-left_rest-preserved
loop-left_rest-preserved c =
    let taken = c.next_run.result in
    merged_step c.args.left.runs.now c.args.right.runs.now c.loop-left_rest.left_rest.runs.now c.loop-left_rest.right_rest.runs.now
    c.loop-left_rest.set taken.0
    taken.1.runs.now taken.2.runs.now c.loop-left_rest.invariant c.add.new.self c.next_run.ensures.taken c.in_ok-add.ensures.ok
