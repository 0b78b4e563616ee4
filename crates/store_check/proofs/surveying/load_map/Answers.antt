-- There is a map with each number below 8.
use Rattle.std.proofs.Common.{refl}
use Rattle.page_journal.specs.declared.fault.StoreFault.TheVariants.{OutOfMemory}
use Rattle.store_check.proofs.Steps.{looks_refused}
use Rattle.store_check.proofs.surveying.load_map.Goals as goal

pub returns-in-None : goal.returns-in-None
returns-in-None g c = record {
  loads = record {
    answers = λ pages was. tt;
    opens = tt;
    begun = tt;
    looks = looks_refused c.args.buckets.now c.refuse.new.self OutOfMemory c.refuse.ensures.chains c.refuse.ensures.same
        c.refuse.ensures.refused refl tt;
  };
}
