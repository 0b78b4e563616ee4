-- A run of each command, by its course.
use Rattle.std.proofs.Common.{◌≡◌, ◌≢◌, ℕ, List, Option, Some, length, inl, refl, sym, ◌∙◌, subst, arith}
use Rattle.outside.specs.Bytes.{IfTold}
use Rattle.outside.specs.Disk.{DiskView, Stays}
use Rattle.outside.specs.Inputs.{FilesView}
use Rattle.run_promise.specs.declared.fault.Fault.{Fault}
use Rattle.run_promise.specs.declared.fault.Fault.TheVariants as faults
use Rattle.run_promise.specs.Ahead.{IsReadAhead, MayBeAhead}
use Rattle.run_promise.specs.Causes.{Cause}
use Rattle.run_promise.specs.Checking.{IsCheckedRun, IsTrusted}
use Rattle.run_promise.specs.CommandOf.{CommandOf, Names, Use, no_store, new_store, old_store, use_of}
use Rattle.run_promise.specs.Course.{Course}
use Rattle.run_promise.specs.Courses.{course_of}
use Rattle.run_promise.specs.Leaves.{HasCause}
use Rattle.run_promise.specs.Locality.{IsLocalRun}
use Rattle.run_promise.specs.Progress.{Standing, unused, unknown, Progress, begun}
use Rattle.run_promise.specs.Reading.{HasItsFiles}
use Rattle.run_promise.specs.Runs.{AsksOnly, Begins, GoesBy, IsSpared, Runs}
use Rattle.run_promise.specs.World.{World, remembered, with_files}
use Rattle.run_promise.proofs.AheadLaws.{ahead_named, cause_ahead, none_ahead}
use Rattle.run_promise.proofs.BlameLaws.{Blame}
use Rattle.run_promise.proofs.TurnLaws.{cause_of, terms_of, told_of}

-- what a run may begin with whatever the disk is
abbrev start_of : Use → Standing
start_of no_store = unused
start_of new_store = unused
start_of old_store = unknown

begins_so : (way : Use) (old : World) → Begins way old (begun (start_of way) 0)
begins_so no_store old = refl
begins_so new_store old = refl
begins_so old_store old = inl refl

only_old : (way : Use) → start_of way ≡ unknown → way ≡ old_store
only_old no_store is = absurd (cc)
only_old new_store is = absurd (cc)
only_old old_store is = refl

-- a run by the course of its command, over the files as it has seen them
pub runs_ahead : (command : CommandOf) (asks : List ℕ → Type 0) (fault : Option Fault) (old new : World) (seen : FilesView)
    → IsReadAhead (MayBeAhead command fault) seen new.files → HasItsFiles command → AsksOnly asks (Names command)
    → ((start : Progress) → Begins (use_of command) old start → GoesBy (course_of command) start fault old (with_files seen new))
    → (use_of command ≡ no_store → IsSpared old.disk new.disk)
    → (use_of command ≢ old_store → IfTold old.disk.content (λ bytes. length bytes ≢ 0 → Stays old.disk new.disk))
    → (fault ≡ Some faults.NotFormatted → Stays old.disk new.disk)
    → IsLocalRun command old new fault
    → IsCheckedRun command old fault
    → (use_of command ≡ old_store → IsTrusted old.disk.content fault)
    → Runs command asks old new fault
runs_ahead command asks fault old new seen ahead its asked course spared looked unformatted local checked trusted =
    let run = course (begun (start_of (use_of command)) 0) (begins_so (use_of command) old) in
    let told = told_of command (remembered old) (start_of (use_of command)) 0 run.0 its (only_old (use_of command)) run.2 in
    let cause : (own : Fault) → fault ≡ Some own → Cause command (remembered old) new own = λ own own_is.
    let same : run.0.fault ≡ Some own = run.1 ∙ own_is in
    cause_of command (remembered old) new own (subst (Blame (terms_of command) (remembered old)) same told.blame)
    (subst (HasCause (remembered old) new) same
    (cause_ahead (remembered old) seen new run.0.fault ahead.later run.3.cause)) in
    record {
      seen = seen;
      ahead = ahead;
      course = course;
      cause = cause;
      asked = asked;
      unnamed = λ file not. ahead.others file (λ may. not (ahead_named command fault file may))
          ∙ run.3.others file (λ read. let own = told.up_to.only file read in
          not (own.0, omega (arith, own.1, told.up_to.high)))
          (λ reading. let next = told.reading file reading in
          not (omega (arith, next.same, told.up_to.low), omega (arith, next.same, next.within)));
      spared = spared;
      looked = looked;
      unformatted = unformatted;
      local = local;
      checked = checked;
      -- of a store that was made on a disk that tells its bytes no damaged page is told
      trusted = λ page is bytes held. trusted ((cause (faults.BadStore page) is).1 bytes held) page is bytes held;
    }

-- a run that reads each file in its turn
pub runs_by : (command : CommandOf) (asks : List ℕ → Type 0) (fault : Option Fault) (old new : World) → HasItsFiles command
    → AsksOnly asks (Names command)
    → ((start : Progress) → Begins (use_of command) old start → GoesBy (course_of command) start fault old new)
    → (use_of command ≡ no_store → IsSpared old.disk new.disk)
    → (use_of command ≢ old_store → IfTold old.disk.content (λ bytes. length bytes ≢ 0 → Stays old.disk new.disk))
    → (fault ≡ Some faults.NotFormatted → Stays old.disk new.disk)
    → IsLocalRun command old new fault
    → IsCheckedRun command old fault
    → (use_of command ≡ old_store → IsTrusted old.disk.content fault)
    → Runs command asks old new fault
runs_by command asks fault old new its asked course spared looked unformatted local checked trusted =
    runs_ahead command asks fault old new new.files (none_ahead (MayBeAhead command fault) new.files) its asked course spared looked
    unformatted local checked trusted

-- a run that begins in one way only
pub from_unused : (way : Use) (old new : World) (course : Course) (fault : Option Fault) → way ≢ old_store
    → GoesBy course (begun unused 0) fault old new
    → (start : Progress) → Begins way old start → GoesBy course start fault old new
from_unused no_store old new course fault not run start is = subst (λ (own : Progress). GoesBy course own fault old new) (sym is) run
from_unused new_store old new course fault not run start is = subst (λ (own : Progress). GoesBy course own fault old new) (sym is) run
from_unused old_store old new course fault not run start is = absurd (not refl)

-- a disk that nobody touched
pub spared_same : (view : DiskView) → IsSpared view view
spared_same view = record { content = refl; moment = refl; crash = λ left now. now; faults = refl; reads = refl }

pub stays_same : (view : DiskView) → Stays view view
stays_same view = record {
  content = refl;
  runs =
      record { later = omega arith; each = λ since left le before. inl before; now = λ left now. now };
}
