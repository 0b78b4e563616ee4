-- A run that makes a store.
use Rattle.std.proofs.Common.{◌≡◌, ◌≢◌, ◌≤◌, ℕ, Option, Some, None, List, [], ◌∷◌, length, Result, Ok, Err, OnErr, OnOk, IfErr, refl, sym}
use Rattle.std.proofs.Common.{◌∙◌, ap, subst, arith, inl, inr}
use Rattle.std.specs.Prelude.{codes, IsErrOf}
use Rattle.std.specs.Result.{result_err}
use Rattle.std.specs.Io.KnownBytes.{Appends}
use Rattle.outside.specs.Bytes.{AppendsPrefix, IfTold}
use Rattle.outside.specs.Causes.{HasCause as HasCauseOf}
use Rattle.outside.specs.Disk.{DiskView, Stays, Tells}
use Rattle.outside.specs.Inputs.{FilesView}
use Rattle.outside.specs.Sink.{SinkView}
use Rattle.page_journal.specs.Answers.{Formats, HasDiskCause, IsFormatAnswer}
use Rattle.page_journal.specs.Crash.{IsSettled}
use Rattle.page_journal.specs.Home.{IsFresh}
use Rattle.page_journal.specs.declared.fault.StoreFault.{StoreFault}
use Rattle.page_journal.specs.declared.fault.StoreFault.TheVariants as stores
use Rattle.run_promise.specs.declared.fault.Fault.{Fault}
use Rattle.run_promise.specs.declared.fault.Fault.TheVariants as faults
use Rattle.run_promise.specs.Courses.{init_course}
use Rattle.run_promise.specs.Faults.{fault_of}
use Rattle.run_promise.specs.Keeps.{IsOneOf, blank, whole}
use Rattle.update_flow.proofs.Blank.{blank_stands}
use Rattle.run_promise.specs.Leaves.{HasCause, Leaves, StandsOn}
use Rattle.run_promise.specs.Progress.{Standing, unused, half_made, begun, at, at_text, made, plus, with_store}
use Rattle.run_promise.specs.Runs.{GoesBy}
use Rattle.run_promise.specs.World.{Before, world, remembered, Took}
use Rattle.updater.proofs.Deeds.{took_nothing, took_all, took_front}

abbrev line : List ℕ
line = codes "formatted\n"

-- it is not for want of a store that none was made
pub never_unformatted : (fault : StoreFault) (P : Type 0) → IsFormatAnswer (Err fault) → Some (fault_of fault) ≡ Some faults.NotFormatted
    → P
never_unformatted stores.NotEmpty P alone is = absurd (cc)
never_unformatted stores.DiskFault P alone is = absurd (cc)
never_unformatted stores.NotFormatted P alone is = absurd alone
never_unformatted (stores.BadStore page) P alone is = absurd alone
never_unformatted (stores.StoreFull pages) P alone is = absurd alone
never_unformatted stores.Broken P alone is = absurd alone
never_unformatted stores.OutOfMemory P alone is = absurd alone

pub never_untold : (result : Result (Unit {0}) Fault) (P : Type 0) → IfErr result (λ fault. fault ≡ faults.WriteFault)
    → result_err result ≡ Some faults.NotFormatted → P
never_untold (Ok value) P alone is = absurd (cc)
never_untold (Err fault) P alone is = absurd
    (let own : fault ≡ faults.NotFormatted = cc in let two : faults.WriteFault ≡ faults.NotFormatted = sym alone ∙ own in cc)

module _ (files : FilesView) (old new : DiskView) (output : SinkView) where
  abbrev before : Before
  before = remembered (world files old output)

  -- nothing was read, and so much was written
  leaves : (store : Standing) (written half : List ℕ) (fault : Option Fault) (after : SinkView)
      → Took written half before (world files new after)
      → StandsOn fault store before new → HasCause before (world files new after) fault → old.faults ≤ new.faults
      → output.faults ≤ after.faults
      → Leaves (begun unused 0) (record {
        done = record { store = store; cut = 0; read = []; written = written };
        reading = None;
        writing =
            half;
        fault = fault;
      }) before (world files new after)
  leaves store written half fault after took stands cause disk writes = record {
    output = took;
    at_end = λ file read. absurd read;
    others = λ file _ _. refl;
    store = stands;
    moments = tt;
    cause = cause;
    reads = omega arith;
    writes = writes;
    disk = disk;
  }

  not_empty : (told : Option (List ℕ)) → old.content ≡ told → IfTold old.content (λ bytes. length bytes ≢ 0) → new.content ≡ old.content
      → old.faults ≤ new.faults
      → GoesBy init_course (begun unused 0) (Some faults.NotEmpty) (world files old output) (world files new output)
  not_empty told is some same later = (
    at (begun unused 0) (Some faults.NotEmpty),
    refl,
    inr (inl (some, refl)),
    leaves unused [] [] (Some faults.NotEmpty) output (took_nothing output.taken) same tt later (omega arith),
  )

  -- the disk failed while the store was made
  half : IfTold old.content (λ bytes. length bytes ≡ 0) → HasCause before (world files new output) (Some faults.DiskFault)
      → old.faults ≤ new.faults
      → GoesBy init_course (begun unused 0) (Some faults.DiskFault) (world files old output) (world files new output)
  half empty cause later = (
    at (with_store half_made (begun unused 0)) (Some faults.DiskFault),
    refl,
    inr (inr (empty, inr (inl refl))),
    leaves half_made [] [] (Some faults.DiskFault) output (took_nothing output.taken) tt cause later (omega arith),
  )

  -- the disk failed at a look
  looked_at : new.content ≡ old.content → HasCause before (world files new output) (Some faults.DiskFault) → old.faults ≤ new.faults
      → GoesBy init_course (begun unused 0) (Some faults.DiskFault) (world files old output) (world files new output)
  looked_at same cause later = (
    at (begun unused 0) (Some faults.DiskFault),
    refl,
    inl refl,
    leaves unused [] [] (Some faults.DiskFault) output (took_nothing output.taken) same cause later (omega arith),
  )

  failed : (told : Option (List ℕ)) → old.content ≡ told
      → ((bytes : List ℕ) → told ≡ Some bytes → length bytes ≢ 0 → new.content ≡ old.content)
      → HasCause before (world files new output) (Some faults.DiskFault) → old.faults ≤ new.faults
      → GoesBy init_course (begun unused 0) (Some faults.DiskFault) (world files old output) (world files new output)
  failed None is same cause later = half (λ bytes told. absurd (let none : None ≡ Some bytes = cc in cc)) cause later
  failed (Some []) is same cause later = half (λ bytes told. let none : [] ≡ bytes = cc in ap length (sym none)) cause later
  failed (Some (byte ∷ bytes)) is same cause later =
      looked_at (same (byte ∷ bytes) refl (λ zero_is. absurd (omega (arith, zero_is)))) cause later

  -- the store was not made
  pub ends_unmade : (fault : StoreFault) → IsFormatAnswer (Err fault) → ((bytes : List ℕ) → Tells old bytes → Formats bytes (Err fault))
      → IfTold old.content (λ bytes. length bytes ≢ 0 → Stays old new)
      → (IsErrOf {T = Unit {0}} (Err fault) stores.NotEmpty → new.content ≡ old.content)
      → HasDiskCause {T = Unit {0}} old.faults new.faults (Err fault)
      → GoesBy init_course (begun unused 0) (Some (fault_of fault)) (world files old output) (world files new output)
  ends_unmade stores.NotEmpty alone answers looked unchanged cause = not_empty old.content refl answers (unchanged refl) cause.later
  ends_unmade stores.DiskFault alone answers looked unchanged cause =
      failed old.content refl (λ bytes told some. (looked bytes told some).content) (cause.failed refl) cause.later
  ends_unmade stores.NotFormatted alone answers looked unchanged cause = absurd alone
  ends_unmade (stores.BadStore page) alone answers looked unchanged cause = absurd alone
  ends_unmade (stores.StoreFull pages) alone answers looked unchanged cause = absurd alone
  ends_unmade stores.Broken alone answers looked unchanged cause = absurd alone
  ends_unmade stores.OutOfMemory alone answers looked unchanged cause = absurd alone

  module _ (pages : List ℕ → List (List ℕ))
      (makes : (bytes : List ℕ) → Tells old bytes → (now : List ℕ) × IsFresh now × IsSettled (pages now) now new)
      (empty : IfTold old.content (λ bytes. length bytes ≡ 0)) (later : old.faults ≤ new.faults) where
    stands_made : (fault : Option Fault) (told : Option (List ℕ)) → old.content ≡ told → StandsOn fault (made told) before new
    stands_made fault None is = tt
    stands_made fault (Some bytes) is =
        let m = makes bytes is in
        let own : IsOneOf (whole blank) m.0 = (
          0,
          omega arith,
          omega arith,
          record { within = omega arith; stands = blank_stands m.0 m.1 },
        ) in
        ((λ left out. subst (IsOneOf (whole blank)) (sym (m.2.only left out)) own), λ _. (m.0, m.2.told))

    stands : (fault : Option Fault) → StandsOn fault (made old.content) before new
    stands fault = stands_made fault old.content refl

    -- the store was made, and that is told or the output fails
    pub ends_made : (after : SinkView) (result : Result (Unit {0}) Fault) → OnOk result (Appends output.taken after.taken line)
        → OnErr result (AppendsPrefix output.taken after.taken line) → IfErr result (λ fault. fault ≡ faults.WriteFault)
        → HasCauseOf output.faults after.faults result
        → GoesBy init_course (begun unused 0) (result_err result) (world files old output) (world files new after)
    ends_made after (Ok value) all front alone cause = (
      at (plus line (with_store (made old.content) (begun unused 0))) None,
      refl,
      inr (inr (empty, inr (inr (inr refl)))),
      leaves (made old.content) line [] None after (took_all output.taken after.taken line all) (stands None) tt later cause.later,
    )
    ends_made after (Err fault) all front alone cause = (
      at_text line (with_store (made old.content) (begun unused 0)) faults.WriteFault,
      ap Some (sym alone),
      inr (inr (empty, inr (inr (inl refl)))),
      leaves (made old.content) [] line (Some faults.WriteFault) after (took_front output.taken after.taken line front)
          (stands (Some faults.WriteFault)) cause.failed later cause.later,
    )
