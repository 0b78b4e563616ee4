use Rattle.std.proofs.Common.{rules}
use Rattle.store_maps.specs.Named.{known_on}
use Rattle.update_step.specs.Gather.{gathered_in}
use Rattle.update_step.specs.Touch.{MayAsk}
use Rattle.update_step.proofs.Asking.{next-gathers}
use Rattle.update_step.proofs.KeyedLists.{all_at}
use Rattle.update_step.proofs.gathering.ask_all.Goals as goal

pub loop-ask-preserved : goal.loop-ask-preserved
loop-ask-preserved g c =
    record {
      gathers = λ under maps held.
          next-gathers (known_on maps) (gathered_in c.args.answers.now) (gathered_in c.loop-ask.answers)
          (gathered_in c.ask_one.new.answers) c.args.asks.now c.loop-ask.ask-index c.ask-item.result c.ask-item.result
          c.loop-ask-test.true c.ask-item.is (c.loop-ask.invariant.gathers under maps held)
          (c.in_ok-ask_one.ensures.gathers under maps (c.loop-ask.invariant.looks.holds under maps held));
      within = λ may all before.
          c.ask_one.ensures.within may
          (all_at (MayAsk may) c.args.asks.now c.loop-ask.ask-index c.ask-item.result c.ask-item.result all
          c.loop-ask-test.true c.ask-item.is) (c.loop-ask.invariant.within may all before);
      looks = search rules;
    }

pub returns-in_err-ask_one-clause-within : goal.returns-in_err-ask_one-clause-within
returns-in_err-ask_one-clause-within g c may all before =
    c.ask_one.ensures.within may
    (all_at (MayAsk may) c.args.asks.now c.loop-ask.ask-index c.ask-item.result c.ask-item.result all
    c.loop-ask-test.true c.ask-item.is) (c.loop-ask.invariant.within may all before)
