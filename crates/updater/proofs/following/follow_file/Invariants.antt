use Rattle.std.proofs.Common.{◌-◌, None}
use Rattle.osm_base.specs.bounds.Limits.{standard}
use Rattle.outside.specs.Reads.{ReadsNoOther}
use Rattle.update_flow.specs.Follower.{handle_of}
use Rattle.update_flow.specs.State.{State}
use Rattle.run_promise.specs.Progress.{Progress}
use Rattle.run_promise.specs.World.{Before}
use Rattle.updater.specs.Following.{IsReadingOn, IsWithin, KeepsFollower, MayFollow}
use Rattle.updater.specs.Heads.{IsHead}
use Rattle.updater.proofs.following.follow_file.Given as goal

-- the blocks so far are taken and told, and those that are left lead on
abbrev pub invariant-loop-reader : goal.invariant-loop-reader
invariant-loop-reader g l = record {
  reading : IsReadingOn l.fn.file l.reader;
  read : ReadsNoOther l.fn.file (λ asked. g.I.Inputs.reads l.fn.inputs asked l.inputs) (g.I.Inputs.view l.fn.inputs) (g.I.Inputs.view
      l.inputs);
  keeps : KeepsFollower None l.fn.store l.store;
  turn : (old : Before) (start done : Progress) (state : State) → MayFollow state
      → IsHead start done state l.fn.file old (g.I.Inputs.view l.fn.inputs) (handle_of l.fn.store) (g.S.Sink.view l.fn.out)
      → IsWithin l.fn.file start done state old (g.I.Inputs.view l.fn.inputs) l.reader (g.I.Inputs.view l.inputs) (handle_of l.store)
      (g.S.Sink.view l.out);
}

abbrev pub decreases-loop-reader : goal.decreases-loop-reader
decreases-loop-reader g l = standard.lines - l.reader.lines.number
