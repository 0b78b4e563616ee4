use Rattle.reader_rounds.specs.declared.asker.Asker.{Asker}
use Rattle.reader_rounds.proofs.RoundLaws.{asked_round}
use Rattle.reader_rounds.proofs.asker.Asker.ask_rounds.Goals as goal

pub loop-preserved : goal.loop-preserved
loop-preserved g c = λ style front asked.
    let old : Asker = c.loop.self in
    let new : Asker = c.ask_round.new.self in
    asked_round style front c.args.queries.now c.loop.counter old new
    (c.loop.invariant style front asked) c.ask_round.ensures.style c.ask_round.ensures.told c.ask_round.ensures.seen
    c.if-not-ask_round.ensures.round
