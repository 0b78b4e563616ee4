-- What is read of a string changes no bucket.
use Rattle.std.proofs.Common.{Err, Ok, ap, arith, inl, refl, sym, ◌∙◌}
use Rattle.std.specs.FinMap as map
use Rattle.chain_store.specs.Chains.{disk_of, kept_of, written_of}
use Rattle.chain_store.specs.declared.root.Root.{Root}
use Rattle.bucket_store.proofs.Frames.{keeps_low, leaves_low}
use Rattle.bucket_store.proofs.Holding.{loaded_string}
use Rattle.bucket_store.proofs.Once.{read_string}
use Rattle.bucket_store.proofs.Openings.{buckets_same}
use Rattle.bucket_store.proofs.Sound.{sound_load}
use Rattle.bucket_store.proofs.buckets.Buckets.load.Goals as goal

pub invariant_of-self : goal.invariant_of-self
invariant_of-self g c =
    let self = c.args.self.now in
    record {
      going = λ _. c.in-Ok.ensures.looks.refused;
      own = buckets_same _ _ self.cache (ap (λ (r : Root). r.buckets) (sym c.in-Ok.ensures.looks.stays.root)) self.own;
      once = λ _. read_string _ c.args.n _ _ self.cache (disk_of self.chains) (disk_of c.load.new.self) (omega (arith, c.requires.string))
          (c.in-Ok.ensures.loads.reads (inl (omega (arith, c.requires.string)))) (self.once c.requires.going);
    }

pub returns-in-Ok-clause-text : goal.returns-in-Ok-clause-text
returns-in-Ok-clause-text g c =
    let self = c.args.self.now in
    let done = c.in-Ok.ensures in
    record {
      found = λ rest now has.
          loaded_string has.pages (kept_of self.chains) rest.root has.strings has.opens.open_chains.keeps has.state c.args.n
          (map.get (written_of self.chains) c.args.n)
          c.in-Ok.bytes (inl c.requires.string) (omega (arith, c.requires.string)) (done.loads.answers has.pages has.opens.open_chains)
          ∙ has.texts c.args.n c.requires.string;
      answers = λ pages was. done.loads.answers pages was.open_chains;
      sound = λ rest now has. tt;
      keeps = keeps_low self _ (Ok c.in-Ok.bytes) refl done.looks.stays done.looks.opens done.looks.broken;
    }

pub returns-in-Err-clause-text : goal.returns-in-Err-clause-text
returns-in-Err-clause-text g c =
    let self = c.args.self.now in
    let done = c.in-Err.ensures in
    record {
      found = tt;
      answers = λ pages was. done.loads.answers pages was.open_chains;
      sound = λ rest now has. sound_load (Err c.in-Err.fault) rest now self c.args.n c.requires.string
          (λ pages was. done.loads.answers pages was.open_chains) done.looks.alone has;
      keeps = keeps_low self _ (Err c.in-Err.fault) refl done.looks.stays done.looks.opens done.looks.broken;
    }

pub returns-in-Ok-clause-touches : goal.returns-in-Ok-clause-touches
returns-in-Ok-clause-touches g c =
    let self = c.args.self.now in
    let done = c.in-Ok.ensures in
    leaves_low _ self _ (Ok c.in-Ok.bytes) refl done.looks.stays done.looks.opens done.looks.alone done.looks.broken
    (done.loads.reads (inl (omega (arith, c.requires.string)))) refl done.looks.cause

pub returns-in-Err-clause-touches : goal.returns-in-Err-clause-touches
returns-in-Err-clause-touches g c =
    let self = c.args.self.now in
    let done = c.in-Err.ensures in
    leaves_low _ self _ (Err c.in-Err.fault) refl done.looks.stays done.looks.opens done.looks.alone done.looks.broken tt refl
    done.looks.cause
