use Rattle.std.proofs.Common.{ap, arith}
use Rattle.chain_store.specs.declared.root.Root.{Root}
use Rattle.chain_store.proofs.Puts.{held_none, known_none, stored_none}
use Rattle.chain_store.proofs.Taking.{begun}
use Rattle.chain_store.proofs.chains.Chains.over.Goals as goal

pub invariant_of-result : goal.invariant_of-result
invariant_of-result g c = record {
  known = known_none c.new.result c.new.ensures.empty _;
  behind = c.requires;
  held = held_none c.new.result c.new-4.result c.new.ensures.empty;
  stored = stored_none c.new.result c.new-2.result c.root-root.result.buckets c.new-2.ensures.empty;
  gone = λ other. absurd (other (ap (λ (root : Root). root.buckets) c.root-root.ensures.root));
  few = omega (arith, ap (λ (root : Root). root.buckets) c.root-root.ensures.root, c.args.kept.few);
  count = λ other. absurd (other (ap (λ (root : Root). root.buckets) c.root-root.ensures.root));
}

pub returns-clause-open : goal.returns-clause-open
returns-clause-open g c = λ pages rests keeps.
    begun pages c.args.journal c.args.kept c.new.result c.new-4.result c.new-2.result c.new-3.result rests keeps
    c.new.ensures.empty c.new-4.ensures.empty c.new-3.ensures.empty
