use Rattle.std.proofs.Common.{◌≡◌, ◌≤◌, ◌+◌, ◌-◌, length, None}
use Rattle.outside.specs.Inputs.{FilesView}
use Rattle.update_flow.specs.Updater.{handle_of}
use Rattle.updater.specs.Ahead.{AreTaken, TakesChanges}
use Rattle.updater.proofs.AheadRuns.{AheadSoFar}
use Rattle.updater.specs.Works.{KeepsOpen}
use Rattle.updater.proofs.ahead.append_taken.Given as goal

-- the files so far are taken, appended and told
abbrev pub invariant-loop-file : goal.invariant-loop-file
invariant-loop-file g l = record {
  least : l.fn.files.first ≤ l.file;
  within : l.file ≤ l.end;
  ours : l.taker.home ≡ l.pipe.home;
  many : l.fn.files.first + length l.taker.list ≡ l.file;
  keeps : KeepsOpen None l.fn.store l.store;
  takes : TakesChanges (handle_of l.store);
  so_far : (own now : FilesView) → AreTaken l.fn.files.first l.fn.files.count own now l.taker.list
      → AheadSoFar l.fn.bounds l.fn.files.first l.fn.files.count l.file (l.end - l.file) own now (handle_of l.fn.store) (handle_of l.store)
      (g.S.Sink.view l.fn.out) (g.S.Sink.view l.out);
}

abbrev pub decreases-loop-file : goal.decreases-loop-file
decreases-loop-file g l = l.end - l.file
