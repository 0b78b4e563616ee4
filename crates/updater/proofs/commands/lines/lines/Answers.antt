use Rattle.std.proofs.Common.{◌-◌, ◌+◌, ◌∙◌, arith, refl, subst}
use Rattle.std.specs.Result.{result_err}
use Rattle.std.specs.Str.{chars}
use Rattle.osm_base.specs.declared.bounds.limits.LimitNumbers.{LimitNumbers}
use Rattle.opl_files.specs.Reading.{IsFaultOf, ReadsAll}
use Rattle.opl_files.specs.Stops.{Stops}
use Rattle.outside.specs.Causes.{Rose}
use Rattle.run_promise.specs.CommandOf.{Names, lines_of}
use Rattle.run_promise.specs.Course.{ends, writes_text}
use Rattle.run_promise.specs.Courses.{course_of}
use Rattle.tag_rows.specs.WayRows.{WaysRead, after_way, no_ways}
use Rattle.tag_rows.specs.Lines.{lines_text, lines_text_of}
use Rattle.tag_rows.proofs.TrimmedLaws.{ways-are}
use Rattle.updater.proofs.Asked.{asked_more, asked_none}
use Rattle.updater.proofs.Deeds.{no_memory}
use Rattle.updater.proofs.Turns.{first_turn, next_turn, ends_in_file, ends_short, ends_told}
use Rattle.updater.proofs.commands.lines.lines.Goals as goal

pub returns-then-files-eq1 : goal.returns-then-files-eq1
returns-then-files-eq1 g c = record { course = c.lines_alone.ensures.course; asked = c.lines_alone.ensures.asked }

pub returns-in-Err : goal.returns-in-Err
returns-in-Err g c =
    let laws = g.met.I.Inputs g.world.𝓛 g.world.𝓜 g.world.𝓡 ((λ s x. x), (λ x. x), (λ x. x), λ x. x) in
    let key = c.args.key.now in
    let files = c.args.files in
    let file = files.first in
    rw c.in_file.ensures.fault (record {
      course = ends_in_file after_way (no_ways (chars key)) (λ entries. writes_text (lines_text_of key entries) ends)
          (course_of (lines_of key files))
          (g.I.Inputs.view c.args.inputs.now) (g.D.Disk.view c.args.disk.now) (g.S.Sink.view c.args.out.now) file files.count
          (files.count - 1) (omega (arith, c.requires.fits.some))
          (no_ways (chars key)) (g.I.Inputs.view c.args.inputs.now) (g.I.Inputs.view c.import.new.inputs)
          (first_turn after_way (no_ways (chars key)) (λ entries. writes_text (lines_text_of key entries) ends)
          (course_of (lines_of key files))
          (g.I.Inputs.view c.args.inputs.now) (g.D.Disk.view c.args.disk.now) (g.S.Sink.view c.args.out.now) files.first files.count
          (no_ways (chars key)) refl refl) c.import.ensures.read.alone.others c.import.ensures.read.alone.later c.in-Err.fault
          (subst (λ (limits : LimitNumbers). Stops (IsFaultOf limits ((g.I.Inputs.view c.args.inputs.now).left file))
          (Rose (g.I.Inputs.view c.args.inputs.now).faults (g.I.Inputs.view c.import.new.inputs).faults) c.in-Err.fault)
          c.standard-limits.ensures.numbers c.in-Err.ensures.stopped);
      asked = asked_more g.I.Inputs.reads laws.reads_then
          (Names (lines_of key files)) c.args.inputs.now c.args.inputs.now c.import.new.inputs file
          (asked_none g.I.Inputs.reads (Names (lines_of key files)) c.args.inputs.now (laws.reads_none c.args.inputs.now))
          c.import.ensures.read.asked (omega arith, omega (arith, c.requires.fits.some));
    })

pub loop-file-init : goal.loop-file-init
loop-file-init g c =
    let laws = g.met.I.Inputs g.world.𝓛 g.world.𝓜 g.world.𝓡 ((λ s x. x), (λ x. x), (λ x. x), λ x. x) in
    let key = c.args.key.now in
    let files = c.args.files in
    let file = files.first in
    record {
      least = omega arith;
      asked = asked_more g.I.Inputs.reads laws.reads_then
          (Names (lines_of key files)) c.args.inputs.now c.args.inputs.now c.import.new.inputs file
          (asked_none g.I.Inputs.reads (Names (lines_of key files)) c.args.inputs.now (laws.reads_none c.args.inputs.now))
          c.import.ensures.read.asked (omega arith, omega (arith, c.requires.fits.some));
      within = omega (arith, c.requires.fits.some);
      turn = next_turn after_way (no_ways (chars key)) (λ entries. writes_text (lines_text_of key entries) ends)
          (course_of (lines_of key files))
          (g.I.Inputs.view c.args.inputs.now) (g.D.Disk.view c.args.disk.now) (g.S.Sink.view c.args.out.now) file files.count
          (files.first + files.count - (files.first + 1)) (omega (arith, c.requires.fits.some))
          (no_ways (chars key)) (g.I.Inputs.view c.args.inputs.now) (g.I.Inputs.view c.import.new.inputs)
          (first_turn after_way (no_ways (chars key)) (λ entries. writes_text (lines_text_of key entries) ends)
          (course_of (lines_of key files))
          (g.I.Inputs.view c.args.inputs.now) (g.D.Disk.view c.args.disk.now) (g.S.Sink.view c.args.out.now) files.first files.count
          (no_ways (chars key)) refl refl) c.import.ensures.read.alone.others c.import.ensures.read.alone.later c.in-Ok.rows
          (subst (λ (limits : LimitNumbers). ReadsAll after_way limits (no_ways (chars key)) c.in-Ok.rows
          ((g.I.Inputs.view c.args.inputs.now).left file) ((g.I.Inputs.view c.import.new.inputs).left file))
          c.standard-limits.ensures.numbers c.in-Ok.ensures.ok);
    }

pub returns-in-Err-change : goal.returns-in-Err-change
returns-in-Err-change g c =
    let laws = g.met.I.Inputs g.world.𝓛 g.world.𝓜 g.world.𝓡 ((λ s x. x), (λ x. x), (λ x. x), λ x. x) in
    let key = c.args.key.now in
    let files = c.args.files in
    let file = c.loop-file.file in
    rw c.in_file-in-Err-change.ensures.fault (record {
      course = ends_in_file after_way (no_ways (chars key)) (λ entries. writes_text (lines_text_of key entries) ends)
          (course_of (lines_of key files))
          (g.I.Inputs.view c.args.inputs.now) (g.D.Disk.view c.args.disk.now) (g.S.Sink.view c.args.out.now) file
          (files.first + files.count - file) (files.first + files.count - (file + 1)) (omega (arith, c.loop-file-test.true))
          c.loop-file.rows (g.I.Inputs.view c.loop-file.inputs)
          (g.I.Inputs.view c.change.new.inputs) c.loop-file.invariant.turn c.change.ensures.read.alone.others
          c.change.ensures.read.alone.later c.in-Err-change.fault
          (subst (λ (limits : LimitNumbers). Stops (IsFaultOf limits ((g.I.Inputs.view c.loop-file.inputs).left file))
          (Rose (g.I.Inputs.view c.loop-file.inputs).faults (g.I.Inputs.view c.change.new.inputs).faults) c.in-Err-change.fault)
          c.standard-limits.ensures.numbers c.in-Err-change.ensures.stopped);
      asked = asked_more g.I.Inputs.reads laws.reads_then
          (Names (lines_of key files)) c.args.inputs.now c.loop-file.inputs c.change.new.inputs file c.loop-file.invariant.asked
          c.change.ensures.read.asked (c.loop-file.invariant.least, omega (arith, c.loop-file-test.true));
    })

pub loop-file-preserved : goal.loop-file-preserved
loop-file-preserved g c =
    let laws = g.met.I.Inputs g.world.𝓛 g.world.𝓜 g.world.𝓡 ((λ s x. x), (λ x. x), (λ x. x), λ x. x) in
    let key = c.args.key.now in
    let files = c.args.files in
    let file = c.loop-file.file in
    record {
      least = omega (arith, c.loop-file.invariant.least);
      asked = asked_more g.I.Inputs.reads laws.reads_then
          (Names (lines_of key files)) c.args.inputs.now c.loop-file.inputs c.change.new.inputs file c.loop-file.invariant.asked
          c.change.ensures.read.asked (c.loop-file.invariant.least, omega (arith, c.loop-file-test.true));
      within = omega (arith, c.loop-file-test.true);
      turn = next_turn after_way (no_ways (chars key)) (λ entries. writes_text (lines_text_of key entries) ends)
          (course_of (lines_of key files))
          (g.I.Inputs.view c.args.inputs.now) (g.D.Disk.view c.args.disk.now) (g.S.Sink.view c.args.out.now) file
          (files.first + files.count - file) (files.first + files.count - (file + 1)) (omega (arith, c.loop-file-test.true))
          c.loop-file.rows (g.I.Inputs.view c.loop-file.inputs)
          (g.I.Inputs.view c.change.new.inputs) c.loop-file.invariant.turn c.change.ensures.read.alone.others
          c.change.ensures.read.alone.later c.change.new.rows
          (subst (λ (limits : LimitNumbers). ReadsAll after_way limits c.loop-file.rows c.change.new.rows
          ((g.I.Inputs.view c.loop-file.inputs).left file) ((g.I.Inputs.view c.change.new.inputs).left file))
          c.standard-limits.ensures.numbers c.in_default.ensures.ok);
    }

pub returns-in_err-text : goal.returns-in_err-text
returns-in_err-text g c =
    let key = c.args.key.now in
    let files = c.args.files in
    let file = c.loop-file.file in
    record {
      course = ends_short after_way (no_ways (chars key)) (lines_text_of key) (λ (own : WaysRead). lines_text own.key own.objects)
          (ways-are key) (course_of (lines_of key files))
          (g.I.Inputs.view c.args.inputs.now) (g.D.Disk.view c.args.disk.now) (g.S.Sink.view c.args.out.now) file
          (files.first + files.count - file) (omega (arith, c.loop-file-test.false))
          c.loop-file.rows (g.I.Inputs.view c.loop-file.inputs) c.loop-file.invariant.turn
          (result_err c.from_residual.result) (no_memory c.from_residual.result c.from_residual.ensures);
      asked = c.loop-file.invariant.asked;
    }

pub returns : goal.returns
returns g c =
    let key = c.args.key.now in
    let files = c.args.files in
    let file = c.loop-file.file in
    record {
      course = ends_told after_way (no_ways (chars key)) (lines_text_of key) (λ (own : WaysRead). lines_text own.key own.objects)
          (ways-are key) (course_of (lines_of key files))
          (g.I.Inputs.view c.args.inputs.now) (g.D.Disk.view c.args.disk.now) (g.S.Sink.view c.args.out.now) file
          (files.first + files.count - file) (omega (arith, c.loop-file-test.false))
          c.loop-file.rows (g.I.Inputs.view c.loop-file.inputs) c.loop-file.invariant.turn
          c.deref.result.now (g.S.Sink.view c.tell.new.out) c.tell.result (c.deref.ensures.value ∙ c.in_ok-text.ensures.text)
          c.tell.ensures.ok c.tell.ensures.err c.tell.ensures.alone c.tell.ensures.cause;
      asked = c.loop-file.invariant.asked;
    }
