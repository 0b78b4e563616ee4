-- A store without buckets has none that could stay.
use Rattle.std.proofs.Common.{inr, refl, ap, ◌∙◌, arith}
use Rattle.chain_store.specs.declared.root.Root.{Root}
use Rattle.bucket_store.specs.Image.{with_buckets}
use Rattle.bucket_store.proofs.Frames.{looks_fields}
use Rattle.bucket_store.proofs.Numbered.{all_empty, has_buckets}
use Rattle.bucket_store.proofs.buckets.Buckets.set_buckets.Goals as goal

pub set_root-requires-clause-root : goal.set_root-requires-clause-root
set_root-requires-clause-root g c = inr (c.requires.power, c.requires.few, all_empty c.args.self.now.chains c.requires.none)

pub returns-clause-fields : goal.returns-clause-fields
returns-clause-fields g c =
    let done = c.set_root.ensures in
    let self = c.args.self.now in
    record {
      root = done.root ∙ ap (λ (r : Root). with_buckets c.args.buckets r) c.root-root.ensures;
      opens = λ pages was. record {
        open_chains = done.open pages was.open_chains;
        had = λ n own there same. absurd (omega (arith, (self.own n own there).0.2, c.requires.none));
        origins = λ n own there. absurd (omega (arith, (self.own n own there).0.2, c.requires.none));
      };
      cached = refl;
      journal = done.journal;
      kept = done.kept;
      read = done.read;
      written = done.written;
      going = c.requires.going;
      same = looks_fields self _ done.journal done.kept;
    }

pub returns-clause-has : goal.returns-clause-has
returns-clause-has g c rest now has =
    let fields = returns-clause-fields g c in
    has_buckets rest now c.args.self.now _ c.args.buckets c.requires.none c.requires.few c.set_root.ensures.journal c.set_root.ensures.kept
    c.set_root.ensures.written refl fields.root fields.opens has
