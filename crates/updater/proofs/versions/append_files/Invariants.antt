use Rattle.std.proofs.Common.{◌≤◌, ◌-◌, ℕ, List, None}
use Rattle.page_journal.specs.Crash.{IsAtRest}
use Rattle.update_flow.specs.Handle.{IsOpen, view_of}
use Rattle.update_flow.specs.State.{Holding, imported}
use Rattle.update_flow.specs.Updater.{handle_of}
use Rattle.updater.specs.Heads.{IsHead, IsVersion}
use Rattle.updater.specs.Versions.{AppendsSoFar}
use Rattle.run_promise.specs.Progress.{Progress}
use Rattle.updater.specs.FileReads.{Among}
use Rattle.run_promise.specs.Runs.{AsksOnly}
use Rattle.run_promise.specs.World.{Before}
use Rattle.updater.specs.Works.{KeepsOpen}
use Rattle.updater.proofs.versions.append_files.Given as goal

-- the files so far are appended and told, and the rest of the course leads on
abbrev pub invariant-loop-file : goal.invariant-loop-file
invariant-loop-file g l = record {
  least : l.fn.files.first ≤ l.file;
  within : l.file ≤ l.end;
  asked : AsksOnly (λ asked. g.I.Inputs.reads l.fn.inputs asked l.inputs) (Among l.fn.files.first l.fn.files.count);
  keeps : KeepsOpen None l.fn.store l.store;
  turn : (old : Before) (start done : Progress) (held : Holding)
      → IsHead start done (imported held) l.fn.files.first old (g.I.Inputs.view l.fn.inputs) (handle_of l.fn.store) (g.S.Sink.view l.fn.out)
      → IsVersion l.fn.bounds held l.fn.files.first l.fn.files.count start done l.file (l.end - l.file) old (g.I.Inputs.view l.inputs)
      (handle_of l.store) (g.S.Sink.view l.out);
  local : (held : Holding) (pages : List (List ℕ)) → IsOpen (imported held) (handle_of l.fn.store)
      → IsAtRest pages (view_of (handle_of l.fn.store))
      → AppendsSoFar l.fn.bounds held pages l.fn.files.first l.file (g.I.Inputs.view l.fn.inputs) (g.I.Inputs.view l.inputs)
      (handle_of l.fn.store) (handle_of l.store);
}

abbrev pub decreases-loop-file : goal.decreases-loop-file
decreases-loop-file g l = l.end - l.file
