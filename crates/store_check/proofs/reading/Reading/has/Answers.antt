-- What the bucket has is what the map has.
use Rattle.std.proofs.Common.{Bool, refl, rules, ◌∙◌}
use Rattle.std.specs.FinMap as finite
use Rattle.value_bytes.specs.StoreMap.{map_number}
use Rattle.row_store.proofs.LookLaws.{sound_err}
use Rattle.store_check.proofs.FindsLaws.{peeks_as, peeks_told}
use Rattle.store_check.proofs.ListsLaws.{is_there}
use Rattle.store_check.proofs.ReadingLaws.{peeks_anew, peeks_read}
use Rattle.store_check.proofs.reading.Reading.has.Goals as goal

pub returns-in-Err : goal.returns-in-Err
returns-in-Err g c = record {
  found = record {
    loan = refl;
    so = tt;
    has = tt;
    sound = λ rest has. sound_err Bool c.bring.result c.in-Err.fault c.in-Err.is (c.bring.ensures.brings.sound rest rest has);
    peeks = peeks_as (Unit {0}) Bool c.args.self.now.buckets.now c.begin.new.self c.in-Err.fault
        (peeks_anew c.args.self.now.buckets.now c.bring.new.self c.begin.new.self c.in-Err.fault c.args.self.now.unchanged
        c.in-Err.ensures.touches c.begin.ensures.begun c.begin.ensures.same c.begin.ensures.journal);
  };
}

pub returns-in-Ok : goal.returns-in-Ok
returns-in-Ok g c = record {
  found = record {
    loan = refl;
    so = λ rest has.
        let whole = c.in-Ok.ensures.brings.keeps.has (search rules) rest rest has in
        c.is_some.ensures
        ∙ is_there c.value.result (finite.get (rest.maps (map_number c.args.map)) c.args.key) (c.value.ensures.found rest rest whole);
    has = λ rest has. c.in-Ok.ensures.brings.keeps.has (search rules) rest rest has;
    sound = λ rest has. tt;
    peeks = peeks_told (Unit {0}) Bool c.args.self.now.buckets.now c.bring.new.self tt c.is_some.result
        (peeks_read c.args.self.now.buckets.now c.bring.new.self tt c.in-Ok.ensures.touches);
  };
}
