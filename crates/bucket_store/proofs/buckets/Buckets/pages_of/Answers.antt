-- A chain that is no string's is a bucket's; and what is listed of a string changes no bucket.
use Rattle.std.proofs.Common.{◌<◌, Err, Ok, ap, arith, inl, inr, refl, sym}
use Rattle.chain_store.specs.Chains.{disk_of}
use Rattle.chain_store.specs.declared.root.Root.{Root}
use Rattle.bucket_store.proofs.Frames.{keeps_low, leaves_low}
use Rattle.bucket_store.proofs.Listings.{lists_string, sound_lists}
use Rattle.bucket_store.proofs.Once.{read_string}
use Rattle.bucket_store.proofs.Openings.{buckets_same}
use Rattle.bucket_store.proofs.buckets.Buckets.pages_of.Goals as goal

pub pages_of_bucket-requires : goal.pages_of_bucket-requires
pages_of_bucket-requires g c = record {
  ready = record {
    going = c.requires.going;
    bucket = elim c.requires.chain [
      | inl low ↦ absurd (omega (arith, low, c.if-n-ge16.true))
      | inr bucket ↦ bucket
    ];
  };
}

pub invariant_of-self : goal.invariant_of-self
invariant_of-self g c =
    let self = c.args.self.now in
    let low : c.args.n < 16 = omega (arith, c.if-n-ge16.false) in
    record {
      going = λ _. c.in-Ok.ensures.looks.refused;
      own = buckets_same _ _ self.cache (ap (λ (r : Root). r.buckets) (sym c.in-Ok.ensures.looks.stays.root)) self.own;
      once = λ _. read_string _ c.args.n _ _ self.cache (disk_of self.chains)
          (disk_of c.pages_of.new.self) low c.in-Ok.ensures.reads
          (self.once c.requires.going);
    }

pub returns-in-Ok-clause-lists : goal.returns-in-Ok-clause-lists
returns-in-Ok-clause-lists g c =
    let self = c.args.self.now in
    let done = c.in-Ok.ensures in
    record {
      answers = λ pages was. done.answers pages was.open_chains;
      sound = λ rest now has. tt;
      keeps = keeps_low self _ (Ok c.in-Ok.pages) refl done.looks.stays done.looks.opens done.looks.broken;
    }

pub returns-in-Err-clause-lists : goal.returns-in-Err-clause-lists
returns-in-Err-clause-lists g c =
    let self = c.args.self.now in
    let low : c.args.n < 16 = omega (arith, c.if-n-ge16.false) in
    let done = c.in-Err.ensures in
    record {
      answers = λ pages was. lists_string pages self c.args.n c.in-Err.fault low (done.answers pages was.open_chains);
      sound = λ rest now has.
          sound_lists c.in-Err.fault rest now self c.args.n (inr (omega (arith, low)))
          (λ pages was. done.answers pages was.open_chains) done.looks.alone has;
      keeps = keeps_low self _ (Err c.in-Err.fault) refl done.looks.stays done.looks.opens done.looks.broken;
    }

pub returns-in-Ok-clause-touches : goal.returns-in-Ok-clause-touches
returns-in-Ok-clause-touches g c =
    let self = c.args.self.now in
    let done = c.in-Ok.ensures in
    leaves_low _ self _ (Ok c.in-Ok.pages) refl done.looks.stays done.looks.opens done.looks.alone done.looks.broken done.reads refl
    done.looks.cause

pub returns-in-Err-clause-touches : goal.returns-in-Err-clause-touches
returns-in-Err-clause-touches g c =
    let self = c.args.self.now in
    let done = c.in-Err.ensures in
    leaves_low _ self _ (Err c.in-Err.fault) refl done.looks.stays done.looks.opens done.looks.alone done.looks.broken tt refl
    done.looks.cause
