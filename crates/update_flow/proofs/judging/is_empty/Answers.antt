-- A text is loaded.
use Rattle.std.proofs.Common.{◌∙◌, ℕ, List, Err, Bool, subst, sym}
use Rattle.chain_store.specs.Chains.{Loads, first_of, written_of}
use Rattle.page_journal.specs.declared.fault.StoreFault.{StoreFault}
use Rattle.std.specs.FinMap as finite
use Rattle.bucket_store.specs.Transaction.{chains_of}
use Rattle.update_flow.specs.Judged.{IsEmptyText}
use Rattle.update_flow.proofs.Judgements.{fault_at, loaded_unwritten, refused_at}
use Rattle.update_flow.proofs.judging.is_empty.Goals as goal

pub returns-in-Ok-clause-tells : goal.returns-in-Ok-clause-tells
returns-in-Ok-clause-tells g c = λ rest was.
    subst (λ (bytes : List ℕ). IsEmptyText c.has_none.result bytes) (c.as_slice.ensures.items ∙ c.in-Ok.ensures.text.found rest rest was)
    c.has_none.ensures

pub returns-in-Ok-clause-chain : goal.returns-in-Ok-clause-chain
returns-in-Ok-clause-chain g c = λ pages opens none. (
  c.in-Ok.bytes,
  loaded_unwritten pages c.args.n (first_of (chains_of c.args.buckets.now) c.args.n) (written_of (chains_of c.args.buckets.now)) c.in-Ok.bytes
      none (c.in-Ok.ensures.text.answers pages opens),
)

pub returns-in-Err-clause-refused : goal.returns-in-Err-clause-refused
returns-in-Err-clause-refused g c = λ at is pages opens.
    let same = refused_at c.in-Err.fault at (sym c.store_fault.ensures ∙ fault_at Bool c.store_fault.result at is) in
    (subst (λ (f : StoreFault). Loads pages c.args.n (first_of (chains_of c.args.buckets.now) c.args.n)
    (finite.get (written_of (chains_of c.args.buckets.now)) c.args.n) (Err f)) same (c.in-Err.ensures.text.answers pages opens)).1
