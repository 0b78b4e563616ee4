use Rattle.std.specs.Ordering.{nat_cmp}
use Rattle.osm_base.specs.values.KeyOrder.{key_cmp}
use Rattle.update_step.specs.Gather.{said_by}
use Rattle.update_step.specs.Named.{named_in}
use Rattle.update_step.proofs.Trees.{nothing-kept, nothing-more}
use Rattle.update_step.proofs.answers.StoreAnswers.new.Goals as goal

pub returns : goal.returns
returns c =
    let change = c.args.change.now in
    record {
      said = λ i. record {
        places = λ id. nothing-more ((said_by change).places id) _ (nothing-kept nat_cmp c.new.result.entries c.new.ensures.empty id) i;
        forms = λ own. nothing-more (named_in change own) _ (nothing-kept key_cmp c.new-2.result.entries c.new-2.ensures.empty own) i;
        along_ways = λ id. nothing-kept nat_cmp c.new-3.result.entries c.new-3.ensures.empty id i;
        around_nodes = λ id. nothing-kept nat_cmp c.new-4.result.entries c.new-4.ensures.empty id i;
      };
    }
