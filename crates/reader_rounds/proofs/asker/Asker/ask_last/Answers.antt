use Rattle.std.proofs.Common.{◌≡◌, None, refl}
use Rattle.reader_rounds.specs.Asking.{AsksRound}
use Rattle.reader_rounds.specs.declared.asker.Asker.{Asker}
use Rattle.reader_rounds.proofs.RoundLaws.{answered_last, round_answered}
use Rattle.reader_rounds.proofs.asker.Asker.ask_last.Goals as goal

pub returns : goal.returns
returns g c =
    let old : Asker = c.args.self.now in
    let mid : Asker = record old { reader = c.learn.new.self } in
    let new : Asker = c.ask_round-answered.new.self in
    record {
      answered = λ style front rounds asked none.
          answered_last style front c.args.told c.args.queries.now rounds old mid new asked refl refl c.learn.ensures.longer
          c.learn.ensures.told
          (round_answered c.ask_round-answered.result (AsksRound c.args.queries.now mid new)
          (new.stopped ≡ None) c.ask_round-answered.ensures.round c.ask_round-answered.ensures.stopped none) none;
    }
