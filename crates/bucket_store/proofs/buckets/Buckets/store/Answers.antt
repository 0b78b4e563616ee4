-- A string is written beside the buckets.
use Rattle.std.proofs.Common.{◌||◌, Bool, false, Err, refl, sym, ap, ◌∙◌, arith}
use Rattle.std.specs.FinMap as map
use Rattle.chain_store.specs.Chains.{disk_of}
use Rattle.chain_store.specs.declared.root.Root.{Root}
use Rattle.bucket_store.proofs.Once.{read_string}
use Rattle.bucket_store.proofs.Meanings.{has_text}
use Rattle.bucket_store.proofs.Openings.{buckets_same, open_like}
use Rattle.bucket_store.proofs.Sound.{sound_store}
use Rattle.bucket_store.proofs.Texts.{match_like, match_text, open_text}
use Rattle.bucket_store.proofs.buckets.Buckets.store.Goals as goal

pub returns-in-Ok-clause-touches : goal.returns-in-Ok-clause-touches
returns-in-Ok-clause-touches g c =
    let self = c.args.self.now in
    let done = c.in-Ok.ensures in
    record {
      opens = λ pages was.
          open_text pages self.chains c.store.new.self c.args.n c.args.bytes c.requires.string done.changes.kept done.changes.root
          done.puts.written self.cache self.own
          (done.open pages was.open_chains) was;
      content = λ pages was other values above has.
          match_text pages self.chains c.store.new.self c.args.n c.args.bytes c.requires.string done.changes.kept done.changes.root
          done.puts.written (map.get self.cache other)
          other values above has;
      cached = refl;
      root = done.changes.root;
      alone = done.changes.alone;
      broken = done.changes.broken;
      reads = done.brings.reads;
      refused = refl;
      cause = done.changes.cause;
      same = record { looked = done.changes.looked; kept = done.changes.kept; later = done.changes.cause.later };
    }

pub invariant_of-self : goal.invariant_of-self
invariant_of-self g c =
    let self = c.args.self.now in
    record {
      going = λ _. c.in-Ok.ensures.changes.refused;
      own = buckets_same _ _ self.cache (ap (λ (r : Root). r.buckets) (sym c.in-Ok.ensures.changes.root)) self.own;
      once = λ _. read_string _ c.args.n _ _ self.cache (disk_of self.chains) (disk_of c.store.new.self) (omega (arith, c.requires.string))
          c.in-Ok.ensures.brings.reads (self.once c.requires.going);
    }

pub returns-in-Ok-clause-text : goal.returns-in-Ok-clause-text
returns-in-Ok-clause-text g c =
    let done = c.in-Ok.ensures in
    let touches = returns-in-Ok-clause-touches g c in
    record {
      written = done.puts.written;
      answers = λ pages was. tt;
      has = λ rest now has.
          has_text rest now c.args.self.now _ c.args.n c.args.bytes c.requires.string done.changes.root done.puts.written
          (done.changes.broken ∙ ap (λ (b : Bool). b || false) has.whole) touches.opens touches.content has;
      sound = λ rest now has. tt;
    }

pub returns-in-Err-clause-text : goal.returns-in-Err-clause-text
returns-in-Err-clause-text g c =
    let done = c.in-Err.ensures in
    record {
      written = tt;
      answers = λ pages was. done.brings.answers pages was.open_chains;
      has = tt;
      sound = λ rest now has.
          sound_store (Err c.in-Err.fault) rest now c.args.self.now c.args.n c.requires.string
          (λ pages was. done.brings.answers pages was.open_chains) done.changes.alone has;
    }

pub returns-in-Err-clause-touches : goal.returns-in-Err-clause-touches
returns-in-Err-clause-touches g c =
    let self = c.args.self.now in
    let done = c.in-Err.ensures in
    record {
      opens = λ pages was.
          open_like pages self.chains c.store.new.self self.cache (done.open pages was.open_chains) done.changes.kept done.puts.err
          (ap (λ (r : Root). r.buckets) done.changes.root) was;
      content = λ pages was other values above has.
          match_like (map.get self.cache other) pages self.chains c.store.new.self other values done.changes.kept done.puts.err
          (ap (λ (r : Root). r.buckets) done.changes.root) has;
      cached = refl;
      root = done.changes.root;
      alone = done.changes.alone;
      broken = done.changes.broken;
      reads = tt;
      refused = refl;
      cause = done.changes.cause;
      same = record { looked = done.changes.looked; kept = done.changes.kept; later = done.changes.cause.later };
    }
