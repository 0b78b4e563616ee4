use Rattle.std.proofs.Common.{◌≤◌, ◌-◌, None}
use Rattle.update_flow.specs.Follower.{handle_of}
use Rattle.update_flow.specs.State.{State}
use Rattle.run_promise.specs.Progress.{Progress}
use Rattle.run_promise.specs.Runs.{AsksOnly}
use Rattle.run_promise.specs.World.{Before}
use Rattle.updater.specs.FileReads.{Among}
use Rattle.updater.specs.Following.{IsFollowing, KeepsFollower, MayFollow}
use Rattle.updater.specs.Heads.{IsHead}
use Rattle.updater.proofs.following.follow_files.Given as goal

-- the files so far are followed, and the rest of the course leads on
abbrev pub invariant-loop-file : goal.invariant-loop-file
invariant-loop-file g l = record {
  least : l.fn.files.first ≤ l.file;
  within : l.file ≤ l.end;
  asked : AsksOnly (λ asked. g.I.Inputs.reads l.fn.inputs asked l.inputs) (Among l.fn.files.first l.fn.files.count);
  keeps : KeepsFollower None l.fn.store l.store;
  turn : (old : Before) (start done : Progress) (state : State) → MayFollow state
      → IsHead start done state l.fn.files.first old (g.I.Inputs.view l.fn.inputs) (handle_of l.fn.store) (g.S.Sink.view l.fn.out)
      → IsFollowing l.fn.files.first l.fn.files.count start done state l.file (l.end - l.file) old (g.I.Inputs.view l.inputs)
      (handle_of l.store) (g.S.Sink.view l.out);
}

abbrev pub decreases-loop-file : goal.decreases-loop-file
decreases-loop-file g l = l.end - l.file
