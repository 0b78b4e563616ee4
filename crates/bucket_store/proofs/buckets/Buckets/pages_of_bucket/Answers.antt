-- A bucket that was brought is read, and what was read of its chain is what it has.
use Rattle.std.proofs.Common.{Err, length, refl, subst, ◌+◌}
use Rattle.page_journal.specs.declared.fault.StoreFault.TheVariants.{OutOfMemory}
use Rattle.chain_store.specs.Chain.{HasPages}
use Rattle.chain_store.specs.Links.{page_in}
use Rattle.chain_store.specs.Store.{kept_first}
use Rattle.chain_store.specs.declared.kept.Kept.{Kept}
use Rattle.bucket_store.proofs.Frames.{keeps_after}
use Rattle.bucket_store.proofs.buckets.Buckets.pages_of_bucket.Goals as goal

pub known_pages-requires : goal.known_pages-requires
known_pages-requires g c = record {
  there =
      (c.bring_chain.new.self.once c.in_default.ensures.only.touches.refused).all c.args.n c.in_default.ensures.only.brings.there;
}

pub returns-in-Ok-clause-lists : goal.returns-in-Ok-clause-lists
returns-in-Ok-clause-lists g c =
    let done = c.in_default.ensures.only in
    record {
      answers = λ pages was.
          subst (λ (kept : Kept). HasPages (page_in pages) (length pages + 1) c.args.n (kept_first kept c.args.n) c.in-Ok.pages)
          done.touches.stays.kept
          ((done.touches.opens pages was).open_chains.known c.args.n c.in-Ok.pages c.in-Ok.ensures.pages);
      sound = λ rest now has. tt;
      keeps = record { content = done.brings.keeps.content; has = λ quiet. done.brings.keeps.has refl };
    }

pub returns-in-Err-known_pages-clause-lists : goal.returns-in-Err-known_pages-clause-lists
returns-in-Err-known_pages-clause-lists g c = record {
  answers = λ pages was. tt;
  sound = λ rest now has. tt;
  keeps = keeps_after c.args.self.now c.bring_chain.new.self _ _ (Err OutOfMemory) c.in_default.ensures.only.brings.keeps refl refl;
}
