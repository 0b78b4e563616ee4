use Rattle.std.proofs.Common.{ap, ◌∙◌, arith}
use Rattle.chain_store.specs.declared.root.Root.{Root}
use Rattle.chain_store.proofs.Puts.{held_none, known_none, stored_none}
use Rattle.chain_store.proofs.chains.Chains.take.Goals as goal

pub invariant_of-self : goal.invariant_of-self
invariant_of-self g c =
    let written = c.replace.ensures.after ∙ c.new.ensures.empty in
    let read = c.replace-2.ensures.after ∙ c.new-2.ensures.empty in
    record {
      known = known_none c.replace-2.new.dest read _;
      behind = c.args.self.now.behind;
      held = held_none c.replace-2.new.dest c.new-4.result read;
      stored = stored_none c.replace-2.new.dest c.replace.new.dest c.root-root.result.buckets written;
      gone = λ other. absurd (other (ap (λ (root : Root). root.buckets) c.root-root.ensures.root));
      few = omega (arith, ap (λ (root : Root). root.buckets) c.root-root.ensures.root, c.args.self.now.kept.few);
      count = λ other. absurd (other (ap (λ (root : Root). root.buckets) c.root-root.ensures.root));
    }
