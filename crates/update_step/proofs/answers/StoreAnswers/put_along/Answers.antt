use Rattle.std.proofs.Common.{ap}
use Rattle.update_step.specs.Gather.{gathered_in}
use Rattle.update_step.proofs.Trees.{put_id}
use Rattle.update_step.proofs.answers.StoreAnswers.put_along.Goals as goal

pub returns : goal.returns
returns c =
    record {
      ok = ap (λ along_ways. record (gathered_in c.args.self.now) { along_ways = along_ways })
          (λ i other. put_id c.args.self.now.along_ways c.insert.new.self c.args.id c.args.ids c.in_ok-insert.ensures.updates other i);
    }
