use Rattle.std.proofs.Common.{◌++◌, List, ap, sym, ◌∙◌}
use Rattle.update_step.specs.Gather.{Ask, gathered_in, known_in}
use Rattle.update_step.specs.Rounds.{asks_behind}
use Rattle.update_step.proofs.KeyedLists.{flat-more}
use Rattle.update_step.proofs.asks.behind.Goals as goal

pub loop-ask-preserved : goal.loop-ask-preserved
loop-ask-preserved c =
    let own = c.ask-item.result in
    let of : Ask → List Ask = asks_behind (known_in (gathered_in c.args.answers.now)) in
    c.in_ok-add_behind.ensures.added
    ∙ ap (λ (asks : List Ask). asks ++ of own) c.loop-ask.invariant
    ∙ sym (flat-more of c.args.asks.now c.loop-ask.ask-index own own c.loop-ask-test.true c.ask-item.is)
