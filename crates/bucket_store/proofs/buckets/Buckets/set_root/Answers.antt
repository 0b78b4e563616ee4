-- The fields tell no bucket's chain, and their number of buckets stays.
use Rattle.std.proofs.Common.{ap, refl, ◌∙◌}
use Rattle.chain_store.specs.declared.root.Root.{Root}
use Rattle.bucket_store.proofs.Frames.{looks_fields}
use Rattle.bucket_store.proofs.Openings.{open_like}
use Rattle.std.specs.FinMap as map
use Rattle.bucket_store.proofs.Meanings.{has_root}
use Rattle.bucket_store.proofs.Texts.{match_like}
use Rattle.bucket_store.proofs.buckets.Buckets.set_root.Goals as goal

pub returns-clause-fields : goal.returns-clause-fields
returns-clause-fields g c =
    let done = c.set_root.ensures in
    let self = c.args.self.now in
    record {
      root = done.root;
      opens = λ pages was.
          open_like pages self.chains c.set_root.new.self self.cache (done.open pages was.open_chains) done.kept done.written
          (ap (λ (r : Root). r.buckets) done.root ∙ c.requires.same) was;
      cached = refl;
      journal = done.journal;
      kept = done.kept;
      read = done.read;
      written = done.written;
      going = c.requires.going;
      same = looks_fields self _ done.journal done.kept;
    }

pub returns-clause-has : goal.returns-clause-has
returns-clause-has g c rest now has =
    has_root rest now c.args.self.now _ c.args.root c.requires.same c.set_root.ensures.root c.set_root.ensures.journal
    c.set_root.ensures.written
    (returns-clause-fields g c).opens
    (λ pages other values content.
    match_like (map.get c.args.self.now.cache other) pages c.args.self.now.chains c.set_root.new.self other values c.set_root.ensures.kept
    c.set_root.ensures.written (ap (λ (r : Root). r.buckets) c.set_root.ensures.root ∙ c.requires.same) content) has
