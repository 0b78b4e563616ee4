-- A bucket that was brought has records, and its pages are told.
use Rattle.std.proofs.Common.{Err, Ok, List, ℕ, subst}
use Rattle.bucket_store.specs.Calls.{TouchesChain}
use Rattle.bucket_store.specs.Listing.{ListsChainOf}
use Rattle.store_check.proofs.BucketSteps.{is_told, is_untold, unbrought}
use Rattle.store_check.proofs.surveying.bucket_pages.Goals as goal

pub returns-in-Err : goal.returns-in-Err
returns-in-Err g c = record {
  lists = unbrought c.args.map c.args.bucket c.args.buckets.now c.requires.fresh.begun c.requires.bucket c.bring.new.self c.in-Err.fault
      c.in-Err.ensures.brings c.in-Err.ensures.touches;
}

pub returns-in-Ok : goal.returns-in-Ok
returns-in-Ok g c =
    let mid = c.bring.new.self in
    let new = c.pages_of.new.self in
    record {
      lists = is_told c.args.map c.args.bucket c.args.buckets.now c.requires.fresh.begun c.requires.bucket mid new c.in_default.field-0
          c.in_default.ensures.brings c.in_default.ensures.touches c.in-Ok.pages
          (subst (λ (n : ℕ). ListsChainOf n mid new (Ok c.in-Ok.pages)) c.chain_of-n.ensures c.in-Ok.ensures.lists)
          (subst (λ (n : ℕ). TouchesChain {T = List ℕ} n mid new (Ok c.in-Ok.pages)) c.chain_of-n.ensures c.in-Ok.ensures.touches);
    }

pub returns-in-Err-pages_of : goal.returns-in-Err-pages_of
returns-in-Err-pages_of g c =
    let mid = c.bring.new.self in
    let new = c.pages_of.new.self in
    let fault = c.in-Err-pages_of.fault in
    record {
      lists = is_untold c.args.map c.args.bucket c.args.buckets.now c.requires.fresh.begun c.requires.bucket mid new c.in_default.field-0
          c.in_default.ensures.brings c.in_default.ensures.touches fault
          (subst (λ (n : ℕ). ListsChainOf n mid new (Err fault)) c.chain_of-n.ensures c.in-Err-pages_of.ensures.lists)
          (subst (λ (n : ℕ). TouchesChain {T = List ℕ} n mid new (Err fault)) c.chain_of-n.ensures c.in-Err-pages_of.ensures.touches);
    }
