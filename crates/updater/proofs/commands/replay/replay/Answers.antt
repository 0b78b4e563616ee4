use Rattle.std.proofs.Common.{◌≡◌, List, ℕ, Some, [], ◌∷◌, ◌+◌, ◌-◌, arith, subst}
use Rattle.std.specs.Result.{result_err}
use Rattle.style_read.specs.Style.{StyleOf}
use Rattle.run_promise.specs.Course.{formats, looks, reads}
use Rattle.run_promise.specs.Courses.{fills}
use Rattle.run_promise.specs.Files.{IsBounds, IsStyle}
use Rattle.updater.specs.Heads.{IsSoFar}
use Rattle.run_promise.specs.Making.{reading_alone}
use Rattle.run_promise.specs.Progress.{begun, unused}
use Rattle.updater.specs.FileReads.{Among}
use Rattle.run_promise.specs.World.{remembered, world}
use Rattle.updater.proofs.Asked.{asked_among, asked_more, asked_none, asked_then}
use Rattle.updater.proofs.MakeRuns.{found_empty, goes_empty, not_empty}
use Rattle.updater.proofs.SoFarLaws.{leads_file, past_file, stops_in_file}
use Rattle.updater.proofs.VersionRuns.{goes_back}
use Rattle.updater.proofs.commands.replay.replay.Goals as goal

pub returns-in-Err-clause-course : goal.returns-in-Err-clause-course
returns-in-Err-clause-course g c =
    let files = c.args.files in
    not_empty (g.I.Inputs.view c.args.inputs.now) (g.D.Disk.view c.args.disk.now) (g.D.Disk.view c.wants_empty.new.disk)
    (g.S.Sink.view c.args.out.now)
    c.wants_empty.ensures.stays.content c.wants_empty.ensures.later c.in-Err.fault
    (reads files.first (IsStyle files.first)
    (λ style. reads (files.first + 1) (IsBounds (files.first + 1))
    (λ bounds. formats (looks (fills style bounds (files.first + 2) (files.count - 3)))))) c.in-Err.ensures.err

pub returns-in-Err-read_style_file-clause-course : goal.returns-in-Err-read_style_file-clause-course
returns-in-Err-read_style_file-clause-course g c =
    let first = c.args.files.first in
    let count = c.args.files.count in
    let files = g.I.Inputs.view c.args.inputs.now in
    let view = g.D.Disk.view c.args.disk.now in
    let now = g.D.Disk.view c.wants_empty.new.disk in
    let output = g.S.Sink.view c.args.out.now in
    let same = c.wants_empty.ensures.stays.content in
    let later = c.wants_empty.ensures.later in
    let read = g.I.Inputs.view c.read_style_file.new.inputs in
    goes_empty files view now output same later
    (reads first (IsStyle first) (λ style. reads (first + 1) (IsBounds (first + 1))
    (λ bounds. formats (looks (fills style bounds (first + 2) (count - 3)))))) (Some c.in-Err-read_style_file.fault)
    (world read now output) c.in_default.ensures.empty
    (stops_in_file (begun unused 0) (reading_alone []) first (remembered (world files view output)) files now output
    (found_empty files view now output same later first) (IsStyle first) first (omega arith) read
    c.in-Err-read_style_file.fault c.in-Err-read_style_file.ensures.reads.err
    (λ style. reads (first + 1) (IsBounds (first + 1)) (λ bounds. formats (looks (fills style bounds (first + 2) (count - 3))))))

pub returns-in-Err-read_bounds_file-clause-course : goal.returns-in-Err-read_bounds_file-clause-course
returns-in-Err-read_bounds_file-clause-course g c =
    let first = c.args.files.first in
    let count = c.args.files.count in
    let files = g.I.Inputs.view c.args.inputs.now in
    let view = g.D.Disk.view c.args.disk.now in
    let now = g.D.Disk.view c.wants_empty.new.disk in
    let output = g.S.Sink.view c.args.out.now in
    let same = c.wants_empty.ensures.stays.content in
    let later = c.wants_empty.ensures.later in
    let old = remembered (world files view output) in
    let style : StyleOf × List ℕ = (c.in-Ok.style.style, c.in-Ok.style.bytes) in
    let read = g.I.Inputs.view c.read_style_file.new.inputs in
    let last = g.I.Inputs.view c.read_bounds_file.new.inputs in
    let head = found_empty files view now output same later first in
    let further = past_file (begun unused 0) (reading_alone []) first old files now output head (IsStyle first) first
    (omega arith) read style c.in-Ok.ensures.reads.ok in
    goes_empty files view now output same later
    (reads first (IsStyle first) (λ style. reads (first + 1) (IsBounds (first + 1))
    (λ bounds. formats (looks (fills style bounds (first + 2) (count - 3)))))) (Some c.in-Err-read_bounds_file.fault)
    (world last now output) c.in_default.ensures.empty
    (goes_back (reads first (IsStyle first) (λ style.
    reads (first + 1) (IsBounds (first + 1)) (λ bounds. formats (looks (fills style bounds (first + 2) (count - 3))))))
    (reads (first + 1) (IsBounds (first + 1)) (λ bounds. formats (looks (fills style bounds (first + 2) (count - 3)))))
    (begun unused 0) (reading_alone []) (reading_alone (first ∷ [])) (Some c.in-Err-read_bounds_file.fault) old
    (world last now output)
    (stops_in_file (begun unused 0) (reading_alone (first ∷ [])) (first + 1) old read now output further (IsBounds (first + 1)) (first + 1)
    (omega arith) last
    c.in-Err-read_bounds_file.fault c.in-Err-read_bounds_file.ensures.reads.err
    (λ bounds. formats (looks (fills style bounds (first + 2) (count - 3)))))
    (leads_file (begun unused 0) (reading_alone []) first old files now output head (IsStyle first) first
    (omega arith) read style c.in-Ok.ensures.reads.ok
    (λ style. reads (first + 1) (IsBounds (first + 1)) (λ bounds. formats (looks (fills style bounds (first + 2) (count - 3)))))))

pub returns-clause-course : goal.returns-clause-course
returns-clause-course g c =
    let first = c.args.files.first in
    let count = c.args.files.count in
    let files = g.I.Inputs.view c.args.inputs.now in
    let view = g.D.Disk.view c.args.disk.now in
    let now = g.D.Disk.view c.wants_empty.new.disk in
    let output = g.S.Sink.view c.args.out.now in
    let same = c.wants_empty.ensures.stays.content in
    let later = c.wants_empty.ensures.later in
    let old = remembered (world files view output) in
    let style : StyleOf × List ℕ = (c.in-Ok.style.style, c.in-Ok.style.bytes) in
    let bounds = c.in-Ok-read_bounds_file.bounds in
    let read = g.I.Inputs.view c.read_style_file.new.inputs in
    let last = g.I.Inputs.view c.read_bounds_file.new.inputs in
    let new = world (g.I.Inputs.view c.make_store.new.inputs) (g.D.Disk.view c.make_store.new.disk) (g.S.Sink.view c.make_store.new.out) in
    let fault = result_err c.make_store.result in
    let head = found_empty files view now output same later first in
    let further = past_file (begun unused 0) (reading_alone []) first old files now output head (IsStyle first) first
    (omega arith) read style c.in-Ok.ensures.reads.ok in
    let here = past_file (begun unused 0) (reading_alone (first ∷ [])) (first + 1) old read now output further (IsBounds (first + 1))
    (first + 1) (omega arith) last bounds c.in-Ok-read_bounds_file.ensures.reads.ok in
    let two : first + 1 + 1 ≡ first + 2 = omega arith in
    goes_empty files view now output same later
    (reads first (IsStyle first) (λ style. reads (first + 1) (IsBounds (first + 1))
    (λ bounds. formats (looks (fills style bounds (first + 2) (count - 3)))))) fault new c.in_default.ensures.empty
    (goes_back (reads first (IsStyle first) (λ style.
    reads (first + 1) (IsBounds (first + 1)) (λ bounds. formats (looks (fills style bounds (first + 2) (count - 3))))))
    (reads (first + 1) (IsBounds (first + 1)) (λ bounds. formats (looks (fills style bounds (first + 2) (count - 3)))))
    (begun unused 0) (reading_alone []) (reading_alone (first ∷ [])) fault old new
    (goes_back (reads (first + 1) (IsBounds (first + 1)) (λ bounds. formats (looks (fills style bounds (first + 2) (count - 3)))))
    (formats (looks (fills style bounds (first + 2) (count - 3)))) (begun unused 0) (reading_alone (first ∷ []))
    (reading_alone ((first + 1) ∷ first ∷ [])) fault old new
    (c.make_store.ensures.goes_on old ((first + 1) ∷ first ∷ [])
    (subst (λ (next : ℕ). IsSoFar (begun unused 0) (reading_alone ((first + 1) ∷ first ∷ [])) next old last now output) two here))
    (leads_file (begun unused 0) (reading_alone (first ∷ [])) (first + 1) old read now output further (IsBounds (first + 1)) (first + 1)
    (omega arith) last bounds c.in-Ok-read_bounds_file.ensures.reads.ok
    (λ bounds. formats (looks (fills style bounds (first + 2) (count - 3))))))
    (leads_file (begun unused 0) (reading_alone []) first old files now output head (IsStyle first) first
    (omega arith) read style c.in-Ok.ensures.reads.ok
    (λ style. reads (first + 1) (IsBounds (first + 1)) (λ bounds. formats (looks (fills style bounds (first + 2) (count - 3)))))))

pub returns-in-Err-read_style_file-clause-asked : goal.returns-in-Err-read_style_file-clause-asked
returns-in-Err-read_style_file-clause-asked g c =
    let laws = g.met.I.Inputs g.world.𝓛 g.world.𝓜 g.world.𝓡 ((λ s x. x), (λ x. x), (λ x. x), λ x. x) in
    let among = Among c.args.files.first c.args.files.count in
    let three = c.requires.fits.least in
    asked_more g.I.Inputs.reads laws.reads_then among c.args.inputs.now c.args.inputs.now c.read_style_file.new.inputs c.args.files.first
    (asked_none g.I.Inputs.reads among c.args.inputs.now (laws.reads_none c.args.inputs.now)) c.read_style_file.ensures.reads.asked
    (omega arith, omega (arith, three))

pub overflow_add-files : goal.overflow_add-files
overflow_add-files g c =
    let few = c.requires.fits.fit.few in
    let three = c.requires.fits.least in
    omega (arith, few, three)

pub returns-in-Err-read_bounds_file-clause-asked : goal.returns-in-Err-read_bounds_file-clause-asked
returns-in-Err-read_bounds_file-clause-asked g c =
    let laws = g.met.I.Inputs g.world.𝓛 g.world.𝓜 g.world.𝓡 ((λ s x. x), (λ x. x), (λ x. x), λ x. x) in
    let among = Among c.args.files.first c.args.files.count in
    let three = c.requires.fits.least in
    asked_more g.I.Inputs.reads laws.reads_then among c.args.inputs.now c.read_style_file.new.inputs c.read_bounds_file.new.inputs
    (c.args.files.first + 1)
    (asked_more g.I.Inputs.reads laws.reads_then among c.args.inputs.now c.args.inputs.now c.read_style_file.new.inputs c.args.files.first
    (asked_none g.I.Inputs.reads among c.args.inputs.now (laws.reads_none c.args.inputs.now)) c.read_style_file.ensures.reads.asked
    (omega arith, omega (arith, three)))
    c.read_bounds_file.ensures.reads.asked (omega arith, omega (arith, three))

pub overflow_add-files-2 : goal.overflow_add-files-2
overflow_add-files-2 g c =
    let few = c.requires.fits.fit.few in
    let three = c.requires.fits.least in
    omega (arith, few, three)

pub overflow_sub-files : goal.overflow_sub-files
overflow_sub-files g c = let three = c.requires.fits.least in omega (arith, three)

pub make_store-requires-clause-fits : goal.make_store-requires-clause-fits
make_store-requires-clause-fits g c κs within =
    let few = c.requires.fits.fit.few in
    let three = c.requires.fits.least in
    omega (arith, few, three)

pub returns-clause-asked : goal.returns-clause-asked
returns-clause-asked g c =
    let laws = g.met.I.Inputs g.world.𝓛 g.world.𝓜 g.world.𝓡 ((λ s x. x), (λ x. x), (λ x. x), λ x. x) in
    let first = c.args.files.first in
    let among = Among first c.args.files.count in
    let three = c.requires.fits.least in
    asked_then g.I.Inputs.reads laws.reads_then among c.args.inputs.now c.read_bounds_file.new.inputs c.make_store.new.inputs
    (asked_more g.I.Inputs.reads laws.reads_then among c.args.inputs.now c.read_style_file.new.inputs c.read_bounds_file.new.inputs
    (first + 1)
    (asked_more g.I.Inputs.reads laws.reads_then among c.args.inputs.now c.args.inputs.now c.read_style_file.new.inputs first
    (asked_none g.I.Inputs.reads among c.args.inputs.now (laws.reads_none c.args.inputs.now)) c.read_style_file.ensures.reads.asked
    (omega arith, omega (arith, three)))
    c.read_bounds_file.ensures.reads.asked (omega arith, omega (arith, three)))
    (asked_among (λ asked. g.I.Inputs.reads c.read_bounds_file.new.inputs asked c.make_store.new.inputs)
    (Among (first + 2) (c.args.files.count - 3 + 1)) among
    (λ file own. let low = own.0 in let high = own.1 in (omega (arith, low), omega (arith, high, three))) c.make_store.ensures.asked)
