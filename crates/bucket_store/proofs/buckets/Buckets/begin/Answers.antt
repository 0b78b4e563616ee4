-- With no bucket there is nothing to show of one.
use Rattle.bucket_store.proofs.Once.{read_none}
use Rattle.bucket_store.proofs.Caches.{nothing}
use Rattle.std.proofs.Common.{◌∙◌, ap}
use Rattle.chain_store.specs.Directories.{root_in}
use Rattle.page_journal.specs.Journal.{is_broken}
use Rattle.bucket_store.proofs.Holding.{has_anew}
use Rattle.bucket_store.proofs.buckets.Buckets.begin.Goals as goal

pub invariant_of-self : goal.invariant_of-self
invariant_of-self g c =
    record {
      going = λ _. c.begin.ensures.going;
      own = λ n own there. absurd (nothing c.new.result n own c.new.ensures.empty there);
      once = λ _. read_none _ c.new.result c.begin.ensures.read c.new.ensures.empty;
    }

pub returns-clause-open : goal.returns-clause-open
returns-clause-open g c pages was = record {
  open_chains = c.begin.ensures.open pages was.open_chains;
  had = λ n own there same. absurd (nothing c.new.result n own c.new.ensures.empty there);
  origins = λ n own there. absurd (nothing c.new.result n own c.new.ensures.empty there);
}

pub returns-clause-has : goal.returns-clause-has
returns-clause-has g c whole rest rests =
    has_anew rest _ rests.pages rests.strings
    (record {
      open_chains = c.begin.ensures.anew rests.pages rests.rests rests.keeps;
      had = λ n own there same. absurd (nothing c.new.result n own c.new.ensures.empty there);
      origins = λ n own there. absurd (nothing c.new.result n own c.new.ensures.empty there);
    })
    rests.state rests.spells (ap (λ j. is_broken j) c.begin.ensures.journal ∙ whole)
    (c.begin.ensures.root ∙ ap (λ page. root_in page) rests.keeps.front ∙ rests.state.fields) c.begin.ensures.written c.new.ensures.empty
