-- What was only read is forgotten, and nothing is lost.
use Rattle.std.proofs.Common.{refl, ap}
use Rattle.page_journal.specs.Journal.{is_broken}
use Rattle.bucket_store.proofs.Holding.{rests_under}
use Rattle.store_check.proofs.ReadingLaws.{begun_stays}
use Rattle.store_check.proofs.reading.Reading.forget.Goals as goal

pub returns : goal.returns
returns g c = record {
  saw = record {
    loan = refl;
    same = c.begin.ensures.same;
    stays = begun_stays c.args.self.now.buckets.now c.begin.new.self c.args.self.now.unchanged.unwritten c.begin.ensures.begun
        c.begin.ensures.same;
    still = ap (λ j. is_broken j) c.begin.ensures.journal;
    has = λ rest had. c.begin.ensures.has had.whole rest (rests_under rest rest c.args.self.now.buckets.now had);
  };
}
