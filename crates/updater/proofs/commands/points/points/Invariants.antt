use Rattle.std.proofs.Common.{◌≤◌, ◌-◌}
use Rattle.std.specs.Str.{chars}
use Rattle.run_promise.specs.CommandOf.{Names, points_of}
use Rattle.run_promise.specs.Course.{ends, writes_text}
use Rattle.run_promise.specs.Courses.{course_of}
use Rattle.tag_rows.specs.PointRows.{after_entry, no_rows}
use Rattle.tag_rows.specs.Points.{points_text_of}
use Rattle.run_promise.specs.Runs.{AsksOnly}
use Rattle.updater.specs.Turns.{IsTurn}
use Rattle.run_promise.specs.World.{remembered, world}
use Rattle.updater.proofs.commands.points.points.Given as goal

-- the files so far are read, and the rest of the course leads on
abbrev pub invariant-loop-file : goal.invariant-loop-file
invariant-loop-file g l = record {
  least : l.fn.files.first ≤ l.file;
  within : l.file ≤ l.end;
  asked : AsksOnly (λ asked. g.I.Inputs.reads l.fn.inputs asked l.inputs) (Names (points_of l.fn.key l.fn.files));
  turn : IsTurn after_entry (no_rows (chars l.fn.key)) (λ entries. writes_text (points_text_of l.fn.key entries) ends)
      (course_of (points_of l.fn.key l.fn.files)) l.file (l.end - l.file)
      (remembered (world (g.I.Inputs.view l.fn.inputs) (g.D.Disk.view l.fn.disk) (g.S.Sink.view l.fn.out))) l.rows
      (g.I.Inputs.view l.inputs);
}

abbrev pub decreases-loop-file : goal.decreases-loop-file
decreases-loop-file g l = l.end - l.file
