-- What is listed of the free pages changes no bucket.
use Rattle.std.proofs.Common.{Err, Ok, ap, inl, refl, subst, sym}
use Rattle.chain_store.specs.Known.{Lists}
use Rattle.chain_store.specs.declared.layout.TheConstants.{FREE}
use Rattle.chain_store.specs.declared.root.Root.{Root}
use Rattle.bucket_store.specs.Buckets.{AreRead}
use Rattle.bucket_store.proofs.Frames.{keeps_low, leaves_low}
use Rattle.bucket_store.proofs.Listings.{sound_lists}
use Rattle.bucket_store.proofs.Openings.{buckets_same}
use Rattle.bucket_store.proofs.buckets.Buckets.free_pages.Goals as goal

pub invariant_of-self : goal.invariant_of-self
invariant_of-self g c =
    let self = c.args.self.now in
    record {
      going = λ _. c.in-Ok.ensures.looks.refused;
      own = buckets_same _ _ self.cache (ap (λ (r : Root). r.buckets) (sym c.in-Ok.ensures.looks.stays.root)) self.own;
      once = λ _. subst (λ (read : Lists). AreRead read self.cache) (sym c.in-Ok.ensures.read) (self.once c.requires.going);
    }

pub returns-in-Ok-clause-lists : goal.returns-in-Ok-clause-lists
returns-in-Ok-clause-lists g c =
    let self = c.args.self.now in
    let done = c.in-Ok.ensures in
    record {
      answers = λ pages was. done.answers pages was.open_chains;
      read = done.read;
      reads = done.reads;
      sound = λ rest now has. tt;
      keeps = keeps_low self _ (Ok c.in-Ok.pages) refl done.looks.stays done.looks.opens done.looks.broken;
    }

pub returns-in-Ok-clause-touches : goal.returns-in-Ok-clause-touches
returns-in-Ok-clause-touches g c =
    let self = c.args.self.now in
    let done = c.in-Ok.ensures in
    leaves_low _ self _ (Ok c.in-Ok.pages) refl done.looks.stays done.looks.opens done.looks.alone done.looks.broken done.read refl
    done.looks.cause

pub returns-in-Err-clause-lists : goal.returns-in-Err-clause-lists
returns-in-Err-clause-lists g c =
    let self = c.args.self.now in
    let done = c.in-Err.ensures in
    record {
      answers = λ pages was. done.answers pages was.open_chains;
      read = done.read;
      reads = tt;
      sound = λ rest now has. sound_lists c.in-Err.fault rest now self FREE (inl refl)
          (λ pages was. done.answers pages was.open_chains) done.looks.alone has;
      keeps = keeps_low self _ (Err c.in-Err.fault) refl done.looks.stays done.looks.opens done.looks.broken;
    }

pub returns-in-Err-clause-touches : goal.returns-in-Err-clause-touches
returns-in-Err-clause-touches g c =
    let self = c.args.self.now in
    let done = c.in-Err.ensures in
    leaves_low _ self _ (Err c.in-Err.fault) refl done.looks.stays done.looks.opens done.looks.alone done.looks.broken tt refl
    done.looks.cause
