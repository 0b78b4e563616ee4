use Rattle.std.proofs.Common.{◌≡◌, ◌≤◌, ◌-◌, ℕ, List, None}
use Rattle.map_query.specs.declared.query.Query.{Query}
use Rattle.reader_rounds.specs.Asking.{begin_of}
use Rattle.update_flow.specs.Handle.{changes_of}
use Rattle.update_flow.specs.State.{Holding, imported}
use Rattle.update_flow.specs.Updater.{handle_of}
use Rattle.updater.specs.Heads.{IsHead}
use Rattle.run_promise.specs.Progress.{Progress}
use Rattle.updater.specs.FileReads.{Among}
use Rattle.run_promise.specs.Runs.{AsksOnly}
use Rattle.updater.specs.Serving.{IsServing, ShowsFront}
use Rattle.run_promise.specs.World.{Before}
use Rattle.updater.specs.Works.{KeepsOpen}
use Rattle.updater.proofs.serving.publish_files.Given as goal

-- the files so far are appended, told and shown, and the rest of the course leads on
abbrev pub invariant-loop-file : goal.invariant-loop-file
invariant-loop-file g l = record {
  least : l.fn.files.first ≤ l.file;
  within : l.file ≤ l.end;
  asked : AsksOnly (λ asked. g.I.Inputs.reads l.fn.inputs asked l.inputs) (Among l.fn.files.first l.fn.files.count);
  keeps : KeepsOpen None l.fn.store l.store;
  begin : begin_of l.publisher.front ≡ begin_of l.fn.publisher.front;
  shown : ShowsFront (changes_of (handle_of l.store)) l.tables l.publisher.front;
  turn : (old : Before) (start done : Progress) (held : Holding) (asked : List Query) (readers : ℕ)
      → IsHead start done (imported held) l.fn.files.first old (g.I.Inputs.view l.fn.inputs) (handle_of l.fn.store) (g.S.Sink.view l.fn.out)
      → IsServing l.fn.bounds asked readers held l.fn.files.first l.fn.files.count start done l.file (l.end - l.file) old
      (g.I.Inputs.view l.inputs) (handle_of l.store) (g.S.Sink.view l.out) l.fn.publisher.front l.publisher.front;
}

abbrev pub decreases-loop-file : goal.decreases-loop-file
decreases-loop-file g l = l.end - l.file
