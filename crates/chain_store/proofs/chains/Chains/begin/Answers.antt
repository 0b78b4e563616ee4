use Rattle.std.proofs.Common.{ap, arith}
use Rattle.chain_store.specs.declared.root.Root.{Root}
use Rattle.chain_store.proofs.Puts.{held_none, known_none, stored_none}
use Rattle.chain_store.proofs.Taking.{begun}
use Rattle.chain_store.proofs.chains.Chains.begin.Goals as goal

pub invariant_of-self : goal.invariant_of-self
invariant_of-self g c = record {
  known = known_none c.new-2.result c.new-2.ensures.empty _;
  behind = c.args.self.now.behind;
  held = held_none c.new-2.result c.new-4.result c.new-2.ensures.empty;
  stored = stored_none c.new-2.result c.new.result c.root-root.result.buckets c.new.ensures.empty;
  gone = λ other. absurd (other (ap (λ (root : Root). root.buckets) c.root-root.ensures.root));
  few = omega (arith, ap (λ (root : Root). root.buckets) c.root-root.ensures.root, c.args.self.now.kept.few);
  count = λ other. absurd (other (ap (λ (root : Root). root.buckets) c.root-root.ensures.root));
}

pub returns-clause-open : goal.returns-clause-open
returns-clause-open g c = λ pages opened.
    begun pages c.args.self.now.journal c.args.self.now.kept c.new-2.result c.new-4.result c.new.result c.new-3.result opened.rests
    opened.keeps
    c.new-2.ensures.empty c.new-4.ensures.empty c.new-3.ensures.empty

pub returns-clause-anew : goal.returns-clause-anew
returns-clause-anew g c = λ pages rests keeps.
    begun pages c.args.self.now.journal c.args.self.now.kept c.new-2.result c.new-4.result c.new.result c.new-3.result rests keeps
    c.new-2.ensures.empty c.new-4.ensures.empty c.new-3.ensures.empty
