use Rattle.std.proofs.Common.{ap}
use Rattle.update_step.specs.Gather.{gathered_in}
use Rattle.update_step.proofs.Trees.{put_id}
use Rattle.update_step.proofs.answers.StoreAnswers.put_around.Goals as goal

pub returns : goal.returns
returns c =
    record {
      ok = ap (λ around_nodes. record (gathered_in c.args.self.now) { around_nodes = around_nodes })
          (λ i other. put_id c.args.self.now.around_nodes c.insert.new.self c.args.id c.args.ids c.in_ok-insert.ensures.updates other i);
    }
