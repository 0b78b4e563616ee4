use Rattle.std.proofs.Common.{◌∙◌, ◌++◌, ap, arith, drop, length, take}
use Rattle.std.proofs.lemmas.List.{length-drop}
use Rattle.map_query.specs.Ordered.{met}
use Rattle.map_query.proofs.FarRows.{block_next, found_next}
use Rattle.map_query.proofs.in_order.rows_met.Goals as goal

pub block_at-block-requires : goal.block_at-block-requires
block_at-block-requires c =
    let own = c.args.own.now in
    let same = c.deref-around-items.ensures.value in
    let next = block_next own.blocks.items own.rows.items c.loop-around.around-index c.loop-around.at
    (rw (← same) c.loop-around-test.true) c.loop-around.invariant.blocks in
    let long = length-drop c.loop-around.at own.rows.items in
    record { within = omega (arith, next.0, long, ap length c.deref.ensures.value) }

pub loop-around-preserved : goal.loop-around-preserved
loop-around-preserved c =
    let own = c.args.own.now in
    let same = c.deref-around-items.ensures.value in
    let next = block_next own.blocks.items own.rows.items c.loop-around.around-index c.loop-around.at
    (rw (← same) c.loop-around-test.true) c.loop-around.invariant.blocks in
    record {
      blocks = next.2;
      found = found_next c.args.style.now own.table c.args.asked own.rows.items c.loop-around.at c.loop-around.rows c.push_near.new.rows
          (met c.args.style.now own.table c.args.asked own.rows.items) c.loop-around.invariant.found
          (c.in_ok-push_near.ensures.ok ∙ ap (λ block. c.loop-around.rows ++ met c.args.style.now own.table c.args.asked block)
          (c.block_at-block.ensures.block ∙ ap (λ rows. take 64 (drop c.loop-around.at rows)) c.deref.ensures.value));
    }

pub overflow_add-at : goal.overflow_add-at
overflow_add-at c =
    let own = c.args.own.now in
    let next = block_next own.blocks.items own.rows.items c.loop-around.around-index c.loop-around.at
    (rw (← c.deref-around-items.ensures.value) c.loop-around-test.true) c.loop-around.invariant.blocks in
    let long = length-drop c.loop-around.at own.rows.items in
    let same = ap length c.deref.ensures.value in
    let bound = c.deref.ensures.len in
    omega (arith, next.0, long, same, bound)
