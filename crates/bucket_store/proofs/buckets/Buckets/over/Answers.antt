-- With no bucket there is nothing to show of one.
use Rattle.bucket_store.proofs.Once.{read_none}
use Rattle.bucket_store.proofs.Caches.{nothing}
use Rattle.bucket_store.proofs.buckets.Buckets.over.Goals as goal

pub invariant_of-result : goal.invariant_of-result
invariant_of-result g c = record {
  going = λ _. c.requires.going;
  own = λ n own there. absurd (nothing c.new.result n own c.new.ensures.empty there);
  once = λ _. read_none _ c.new.result c.requires.unread c.new.ensures.empty;
}

pub returns-clause-open : goal.returns-clause-open
returns-clause-open g c pages opens = record {
  open_chains = opens;
  had = λ n own there same. absurd (nothing c.new.result n own c.new.ensures.empty there);
  origins = λ n own there. absurd (nothing c.new.result n own c.new.ensures.empty there);
}
