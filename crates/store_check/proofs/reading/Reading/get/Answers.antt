-- What was read is what the store has.
use Rattle.std.proofs.Common.{ℕ, List, Option, refl}
use Rattle.row_store.proofs.LookLaws.{sound_err}
use Rattle.store_check.proofs.ReadingLaws.{peeks_anew, peeks_read}
use Rattle.store_check.proofs.reading.Reading.get.Goals as goal

pub returns-in-Ok : goal.returns-in-Ok
returns-in-Ok g c = record {
  found = record {
    loan = refl;
    so = λ rest had. c.in-Ok.ensures.bytes.found rest rest had;
    has = λ rest had. c.in-Ok.ensures.bytes.keeps.has refl rest rest had;
    sound = λ rest had. tt;
    peeks = peeks_read c.args.self.now.buckets.now c.get.new.self c.in-Ok.bytes c.in-Ok.ensures.touches;
  };
}

pub returns-in-Err : goal.returns-in-Err
returns-in-Err g c = record {
  found = record {
    loan = refl;
    so = tt;
    has = tt;
    sound = λ rest had. sound_err (Option (List ℕ)) c.get.result c.in-Err.fault c.in-Err.is (c.get.ensures.bytes.sound rest rest had);
    peeks = peeks_anew c.args.self.now.buckets.now c.get.new.self c.begin.new.self c.in-Err.fault c.args.self.now.unchanged
        c.in-Err.ensures.touches c.begin.ensures.begun c.begin.ensures.same c.begin.ensures.journal;
  };
}
