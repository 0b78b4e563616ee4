use Rattle.std.proofs.Common.{◌-◌, ◌+◌, ◌∙◌, [], ap, arith, subst}
use Rattle.std.specs.Result.{result_err}
use Rattle.std.specs.Str.{chars}
use Rattle.osm_base.specs.declared.bounds.limits.LimitNumbers.{LimitNumbers}
use Rattle.opl_files.specs.Reading.{IsFaultOf, ReadsAll}
use Rattle.opl_files.specs.Stops.{Stops}
use Rattle.outside.specs.Causes.{Rose}
use Rattle.run_promise.specs.CommandOf.{Names, points_of}
use Rattle.run_promise.specs.Course.{ends, writes_text}
use Rattle.run_promise.specs.Courses.{course_of, gathers}
use Rattle.tag_rows.specs.PointRows.{after_entry, no_rows, rows_text}
use Rattle.tag_rows.specs.Points.{points_text_of}
use Rattle.tag_rows.proofs.PointLaw.{rows_are_points}
use Rattle.updater.proofs.Asked.{asked_more, asked_none}
use Rattle.updater.proofs.Deeds.{no_memory}
use Rattle.updater.proofs.Turns.{first_turn, next_turn, ends_in_file, ends_short, ends_told}
use Rattle.updater.proofs.commands.points.points.Goals as goal

pub loop-file-init : goal.loop-file-init
loop-file-init g c =
    let laws = g.met.I.Inputs g.world.𝓛 g.world.𝓜 g.world.𝓡 ((λ s x. x), (λ x. x), (λ x. x), λ x. x) in
    let key = c.args.key.now in
    let files = c.args.files in
    record {
      least = omega arith;
      asked = asked_none g.I.Inputs.reads (Names (points_of key files)) c.args.inputs.now (laws.reads_none c.args.inputs.now);
      within = omega arith;
      turn = first_turn after_entry (no_rows (chars key)) (λ entries. writes_text (points_text_of key entries) ends)
          (course_of (points_of key files))
          (g.I.Inputs.view c.args.inputs.now) (g.D.Disk.view c.args.disk.now) (g.S.Sink.view c.args.out.now) files.first
          (files.first + files.count - files.first)
          c.new-rows.result c.new-rows.ensures.start
          (ap (λ count. gathers files.first count [] (λ entries. writes_text (points_text_of key entries) ends)) (omega arith));
    }

pub returns-in-Err : goal.returns-in-Err
returns-in-Err g c =
    let laws = g.met.I.Inputs g.world.𝓛 g.world.𝓜 g.world.𝓡 ((λ s x. x), (λ x. x), (λ x. x), λ x. x) in
    let key = c.args.key.now in
    let files = c.args.files in
    let file = c.loop-file.file in
    rw c.in_file.ensures.fault (record {
      course = ends_in_file after_entry (no_rows (chars key)) (λ entries. writes_text (points_text_of key entries) ends)
          (course_of (points_of key files))
          (g.I.Inputs.view c.args.inputs.now) (g.D.Disk.view c.args.disk.now) (g.S.Sink.view c.args.out.now) file
          (files.first + files.count - file) (files.first + files.count - (file + 1)) (omega (arith, c.loop-file-test.true))
          c.loop-file.rows (g.I.Inputs.view c.loop-file.inputs)
          (g.I.Inputs.view c.scan_parallel-read.new.inputs) c.loop-file.invariant.turn c.scan_parallel-read.ensures.read.alone.others
          c.scan_parallel-read.ensures.read.alone.later c.in-Err.fault
          (subst (λ (limits : LimitNumbers). Stops (IsFaultOf limits ((g.I.Inputs.view c.loop-file.inputs).left file))
          (Rose (g.I.Inputs.view c.loop-file.inputs).faults (g.I.Inputs.view c.scan_parallel-read.new.inputs).faults) c.in-Err.fault)
          c.standard-limits.ensures.numbers c.in-Err.ensures.stopped);
      asked = asked_more g.I.Inputs.reads laws.reads_then
          (Names (points_of key files)) c.args.inputs.now c.loop-file.inputs c.scan_parallel-read.new.inputs file c.loop-file.invariant.asked
          c.scan_parallel-read.ensures.read.asked (c.loop-file.invariant.least, omega (arith, c.loop-file-test.true));
    })

pub loop-file-preserved : goal.loop-file-preserved
loop-file-preserved g c =
    let laws = g.met.I.Inputs g.world.𝓛 g.world.𝓜 g.world.𝓡 ((λ s x. x), (λ x. x), (λ x. x), λ x. x) in
    let key = c.args.key.now in
    let files = c.args.files in
    let file = c.loop-file.file in
    record {
      least = omega (arith, c.loop-file.invariant.least);
      asked = asked_more g.I.Inputs.reads laws.reads_then
          (Names (points_of key files)) c.args.inputs.now c.loop-file.inputs c.scan_parallel-read.new.inputs file c.loop-file.invariant.asked
          c.scan_parallel-read.ensures.read.asked (c.loop-file.invariant.least, omega (arith, c.loop-file-test.true));
      within = omega (arith, c.loop-file-test.true);
      turn = next_turn after_entry (no_rows (chars key)) (λ entries. writes_text (points_text_of key entries) ends)
          (course_of (points_of key files))
          (g.I.Inputs.view c.args.inputs.now) (g.D.Disk.view c.args.disk.now) (g.S.Sink.view c.args.out.now) file
          (files.first + files.count - file) (files.first + files.count - (file + 1)) (omega (arith, c.loop-file-test.true))
          c.loop-file.rows (g.I.Inputs.view c.loop-file.inputs)
          (g.I.Inputs.view c.scan_parallel-read.new.inputs) c.loop-file.invariant.turn c.scan_parallel-read.ensures.read.alone.others
          c.scan_parallel-read.ensures.read.alone.later c.scan_parallel-read.new.keeper
          (subst (λ (limits : LimitNumbers). ReadsAll after_entry limits c.loop-file.rows c.scan_parallel-read.new.keeper
          ((g.I.Inputs.view c.loop-file.inputs).left file) ((g.I.Inputs.view c.scan_parallel-read.new.inputs).left file))
          c.standard-limits.ensures.numbers c.in_default.ensures.ok);
    }

pub returns-in_err-text : goal.returns-in_err-text
returns-in_err-text g c =
    let key = c.args.key.now in
    let files = c.args.files in
    let file = c.loop-file.file in
    record {
      course = ends_short after_entry (no_rows (chars key)) (points_text_of key) rows_text (rows_are_points (chars key))
          (course_of (points_of key files))
          (g.I.Inputs.view c.args.inputs.now) (g.D.Disk.view c.args.disk.now) (g.S.Sink.view c.args.out.now) file
          (files.first + files.count - file) (omega (arith, c.loop-file-test.false))
          c.loop-file.rows (g.I.Inputs.view c.loop-file.inputs) c.loop-file.invariant.turn
          (result_err c.from_residual.result) (no_memory c.from_residual.result c.from_residual.ensures);
      asked = c.loop-file.invariant.asked;
    }

pub returns : goal.returns
returns g c =
    let key = c.args.key.now in
    let files = c.args.files in
    let file = c.loop-file.file in
    record {
      course = ends_told after_entry (no_rows (chars key)) (points_text_of key) rows_text (rows_are_points (chars key))
          (course_of (points_of key files))
          (g.I.Inputs.view c.args.inputs.now) (g.D.Disk.view c.args.disk.now) (g.S.Sink.view c.args.out.now) file
          (files.first + files.count - file) (omega (arith, c.loop-file-test.false))
          c.loop-file.rows (g.I.Inputs.view c.loop-file.inputs) c.loop-file.invariant.turn
          c.deref.result.now (g.S.Sink.view c.tell.new.out) c.tell.result (c.deref.ensures.value ∙ c.in_ok-text.ensures.text)
          c.tell.ensures.ok c.tell.ensures.err c.tell.ensures.alone c.tell.ensures.cause;
      asked = c.loop-file.invariant.asked;
    }
