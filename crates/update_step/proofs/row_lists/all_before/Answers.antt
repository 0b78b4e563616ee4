use Rattle.std.proofs.Common.{rules, arith}
use Rattle.std.proofs.lemmas.Grind.{common_steps}
use Rattle.store_maps.specs.Asked.{MayRows}
use Rattle.update_step.proofs.KeyedLists.{all_at}
use Rattle.update_step.proofs.row_lists.all_before.Goals as goal

pub loop-key-preserved : goal.loop-key-preserved
loop-key-preserved g c =
    record {
      kept = λ under maps old held has lacks.
          let was = c.loop-key.invariant.kept under maps old held has lacks in
          let is = c.in_ok-rows.ensures.kept under maps old (c.loop-key.invariant.looks.holds under maps held) has lacks in
          grind (arith, common_steps, was, is);
      count = grind (arith, common_steps);
      within = λ may all before. c.rows_before.ensures.within may
          (all_at (MayRows may) c.args.keys.now c.loop-key.key-index c.key-item.result c.key-item.result all c.loop-key-test.true
          c.key-item.is) (c.loop-key.invariant.within may all before);
      looks = search rules;
    }

pub returns-in_err-rows-clause-within : goal.returns-in_err-rows-clause-within
returns-in_err-rows-clause-within g c may all before =
    c.rows_before.ensures.within may
    (all_at (MayRows may) c.args.keys.now c.loop-key.key-index c.key-item.result c.key-item.result all c.loop-key-test.true c.key-item.is)
    (c.loop-key.invariant.within may all before)

pub returns-in_err-push-clause-within : goal.returns-in_err-push-clause-within
returns-in_err-push-clause-within g c may all before =
    c.rows_before.ensures.within may
    (all_at (MayRows may) c.args.keys.now c.loop-key.key-index c.key-item.result c.key-item.result all c.loop-key-test.true c.key-item.is)
    (c.loop-key.invariant.within may all before)
