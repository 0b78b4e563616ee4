-- A run that makes its store, and goes on over it.
use Rattle.std.proofs.Common.{◌≡◌, ◌≤◌, ℕ, true, Option, Some, None, List, [], length, Err, ⊎_elim, inl, inr, refl, sym, ◌∙◌, ap, subst}
use Rattle.std.proofs.Common.{arith, false}
use Rattle.std.specs.Prelude.{IsErrOf}
use Rattle.std.proofs.lemmas.Option.{same_Some}
use Rattle.osm_base.specs.bounds.Limits.{standard}
use Rattle.outside.specs.Bytes.{IfTold, IsTold}
use Rattle.outside.specs.Disk.{DiskView, Tells}
use Rattle.outside.specs.Inputs.{FilesView}
use Rattle.outside.specs.Sink.{SinkView}
use Rattle.outside.specs.declared.disk.Disk.{Ghosts}
use Rattle.page_journal.specs.Answers.{Formats, HasDiskCause, IsFormatAnswer}
use Rattle.page_journal.specs.Crash.{IsSettled}
use Rattle.page_journal.specs.Home.{Home, IsFresh}
use Rattle.page_journal.specs.Pages.{gate}
use Rattle.page_journal.specs.declared.layout.TheConstants.{OPEN}
use Rattle.page_journal.proofs.Uniqueness.{one_home}
use Rattle.page_journal.proofs.Moments.{stays_call}
use Rattle.page_journal.specs.declared.fault.StoreFault.{StoreFault}
use Rattle.page_journal.specs.declared.fault.StoreFault.TheVariants as stores
use Rattle.update_flow.specs.AtRest.{HasFlowCause, IsAt, IsAtEither, IsOfEither, Opens}
use Rattle.update_flow.specs.Handle.{Handle, is_follower, IsOpen, is_whole, limits_of, view_of}
use Rattle.update_flow.specs.Needed.{HasStood}
use Rattle.update_flow.specs.Refusals.{IsNoDiskFault, IsOpenFault}
use Rattle.update_flow.specs.Stands.{StandsFor}
use Rattle.update_flow.specs.State.{State, following, follows, formatted, imported, outdated}
use Rattle.update_flow.specs.Updater.{disk_of, handle_of}
use Rattle.update_flow.specs.declared.fault.FlowFault.{FlowFault}
use Rattle.update_flow.specs.declared.fault.FlowFault.TheVariants as flow
use Rattle.update_flow.specs.declared.updater.Updater.{Updater}
use Rattle.update_flow.proofs.Blank.{blank_stands}
use Rattle.run_promise.specs.declared.fault.Fault.{Fault}
use Rattle.run_promise.specs.declared.fault.Fault.TheVariants as faults
use Rattle.run_promise.specs.Comes.{Comes, IsCertain}
use Rattle.run_promise.specs.Course.{Course, wants_empty, formats, looks}
use Rattle.run_promise.specs.Courses.{if_blank}
use Rattle.run_promise.specs.Faults.{fault_of, flow_fault}
use Rattle.updater.specs.Heads.{GoesOn, IsHead, IsHere, IsSoFar}
use Rattle.run_promise.specs.Keeps.{IsOneOf, blank, whole}
use Rattle.run_promise.specs.Leaves.{HasCause, Leaves, StandsOn}
use Rattle.run_promise.specs.Making.{IsNotEmpty, of_made, reading_alone}
use Rattle.run_promise.specs.Progress.{Standing, unused, unknown, keeps, half_made, Progress, Ending, at, begun, made, with_store}
use Rattle.run_promise.specs.World.{Before, World, remembered, world}
use Rattle.updater.proofs.Deeds.{took_nothing}
use Rattle.updater.proofs.OpenDeeds.{TellsNone, shows_state, state_shown}

-- the disk is looked at first
module _ (files : FilesView) (view now : DiskView) (output : SinkView) (same : now.content ≡ view.content)
    (later : view.faults ≤ now.faults) where
  abbrev Old : Before
  Old = remembered (world files view output)

  looked_leaves : (fault : Option Fault) → HasCause Old (world files now output) fault
      → Leaves (begun unused 0) (at (begun unused 0) fault) Old (world files now output)
  looked_leaves fault cause = record {
    output = took_nothing output.taken;
    at_end = λ file read. absurd read;
    others = λ file _ _. refl;
    store = same;
    moments = tt;
    cause = cause;
    reads = omega arith;
    writes = omega arith;
    disk = later;
  }

  -- it is not empty
  pub not_empty : (fault : Fault) (rest : Course) → IsNotEmpty view now fault
      → GoesOn (wants_empty rest) (begun unused 0) (begun unused 0) (Some fault) Old (world files now output)
  not_empty faults.NotEmpty rest why = (
    at (begun unused 0) (Some faults.NotEmpty),
    refl,
    inr (inl (why, refl)),
    looked_leaves (Some faults.NotEmpty) tt,
  )
  not_empty faults.DiskFault rest why = (
    at (begun unused 0) (Some faults.DiskFault),
    refl,
    inl refl,
    looked_leaves (Some faults.DiskFault) why,
  )
  not_empty faults.Usage rest why = absurd why
  not_empty (faults.Malformed file line cause) rest why = absurd why
  not_empty (faults.BadStyle file cause part) rest why = absurd why
  not_empty (faults.BadBounds file line) rest why = absurd why
  not_empty (faults.BadQuery file line cause) rest why = absurd why
  not_empty (faults.BadFeed file line cause) rest why = absurd why
  not_empty (faults.Gap file have got) rest why = absurd why
  not_empty (faults.Limit which value) rest why = absurd why
  not_empty (faults.ReadFault file) rest why = absurd why
  not_empty faults.NotFormatted rest why = absurd why
  not_empty faults.NotImported rest why = absurd why
  not_empty faults.AlreadyImported rest why = absurd why
  not_empty faults.OldFormat rest why = absurd why
  not_empty faults.Follower rest why = absurd why
  not_empty faults.UnknownTable rest why = absurd why
  not_empty (faults.BadStore page) rest why = absurd why
  not_empty faults.WriteFault rest why = absurd why
  not_empty faults.OutOfMemory rest why = absurd why

  -- or it is, and the run goes on
  pub found_empty : (next : ℕ) → IsSoFar (begun unused 0) (reading_alone []) next Old files now output
  found_empty next = record { unread = λ file above read. read; so_far = looked_leaves None tt }

  pub goes_empty : (rest : Course) (fault : Option Fault) (new : World) → IfTold view.content (λ bytes. length bytes ≡ 0)
      → GoesOn rest (begun unused 0) (reading_alone []) fault Old new
      → GoesOn (wants_empty rest) (begun unused 0) (begun unused 0) fault Old new
  goes_empty rest fault new empty goes = (goes.0, goes.1, inr (inr (empty, goes.2)), goes.3)

module _ (read : List ℕ) (next : ℕ) (old : Before) (files : FilesView) (view : DiskView) (output : SinkView)
    (head : IsSoFar (begun unused 0) (reading_alone read) next old files view output) where
  same_content : view.content ≡ old.content
  same_content = head.so_far.store

  -- the disk stands otherwise
  stands_so : (store : Standing) (fault : Option Fault) (now : DiskView) → StandsOn fault store old now
      → HasCause old (world files now output) fault → view.faults ≤ now.faults
      → Leaves (begun unused 0) (at (with_store store (reading_alone read)) fault) old (world files now output)
  stands_so store fault now stands cause later = record {
    output = head.so_far.output;
    at_end = head.so_far.at_end;
    others = head.so_far.others;
    store = stands;
    moments = tt;
    cause = cause;
    reads = head.so_far.reads;
    writes = head.so_far.writes;
    disk = omega (arith, head.so_far.disk, later);
  }

  -- no store was made
  pub unmade : (fault : StoreFault) (now : DiskView) (rest : Course) → IsFormatAnswer (Err fault)
      → ((bytes : List ℕ) → Tells view bytes → Formats bytes (Err fault))
      → (IsErrOf {T = Unit {0}} (Err fault) stores.NotEmpty → now.content ≡ view.content)
      → HasDiskCause {T = Unit {0}} view.faults now.faults (Err fault)
      → GoesOn (formats rest) (begun unused 0) (reading_alone read) (Some (fault_of fault)) old (world files now output)
  unmade stores.NotEmpty now rest alone answers unchanged cause = (
    at (reading_alone read) (Some faults.NotEmpty),
    refl,
    inl ((λ bytes told. answers bytes (same_content ∙ told)), refl),
    stands_so unused (Some faults.NotEmpty) now (unchanged refl ∙ same_content) tt cause.later,
  )
  unmade stores.DiskFault now rest alone answers unchanged cause = (
    at (with_store half_made (reading_alone read)) (Some faults.DiskFault),
    refl,
    inr (inl refl),
    stands_so half_made (Some faults.DiskFault) now tt (let rose = cause.failed refl in omega (arith, head.so_far.disk, rose)) cause.later,
  )
  unmade stores.NotFormatted now rest alone answers unchanged cause = absurd alone
  unmade (stores.BadStore page) now rest alone answers unchanged cause = absurd alone
  unmade (stores.StoreFull pages) now rest alone answers unchanged cause = absurd alone
  unmade stores.Broken now rest alone answers unchanged cause = absurd alone
  unmade stores.OutOfMemory now rest alone answers unchanged cause = absurd alone

  -- it was made
  module _ (pages : List ℕ → List (List ℕ)) (between : DiskView)
      (makes : (bytes : List ℕ) → Tells view bytes → (now : List ℕ) × IsFresh now × IsSettled (pages now) now between)
      (later : view.faults ≤ between.faults) where
    abbrev Done : Option (List ℕ) → Progress
    Done told = with_store (made told) (reading_alone read)

    made_at : (bytes : List ℕ) → old.content ≡ Some bytes → IsAtEither formatted formatted between
    made_at bytes is =
        let own = makes bytes (same_content ∙ is) in
        record {
          told = (own.0, own.2.told);
          only =
              λ left out. inl (subst (λ (bytes : List ℕ). StandsFor bytes formatted) (sym (own.2.only left out))
              (blank_stands own.0 own.1));
        }

    blank_is : (left : List ℕ) → StandsFor left formatted → IsOneOf (whole blank) left
    blank_is left stands = (0, omega arith, omega arith, record { within = omega arith; stands = stands })

    blank_one : (left : List ℕ) → IsOfEither formatted formatted left → IsOneOf (whole blank) left
    blank_one left (inl stands) = blank_is left stands
    blank_one left (inr stands) = blank_is left stands

    lifts : (told : Option (List ℕ)) → old.content ≡ told → (rest : Course) (ending : Ending) → Comes old rest (Done told) ending
        → Comes old (formats rest) (reading_alone read) ending
    lifts told is rest ending comes = inr (inr
        (subst (λ (own : Option (List ℕ)). Comes old rest (with_store (made own) (reading_alone read)) ending) (sym is) comes))

    rose_since : (now : DiskView) (fault : FlowFault) → HasFlowCause (Some fault) between now → fault ≡ flow.Store stores.DiskFault
        → HasCause old (world files now output) (Some faults.DiskFault)
    rose_since now fault cause is =
        let rose = (subst (λ (own : FlowFault). HasFlowCause (Some own) between now) is cause).failed refl in
        omega (arith, head.so_far.disk, later, rose)

    -- and is not opened
    module _ (now : DiskView) (rest : Course) where
      abbrev Ends : Fault → Type 0
      Ends fault = GoesOn (formats (looks rest)) (begun unused 0) (reading_alone read) (Some fault) old (world files now output)

      known : (bytes : List ℕ) → old.content ≡ Some bytes → (fault : FlowFault) → Opens formatted formatted (Some fault) between now
          → (IsNoDiskFault (Some fault) → IsTold now.content) → HasFlowCause (Some fault) between now
          → Ends (flow_fault (of_made fault))
      known bytes is (flow.Store stores.DiskFault) opened told cause = (
        at (Done (Some bytes)) (Some faults.DiskFault),
        refl,
        lifts (Some bytes) is (looks rest) (at (Done (Some bytes)) (Some faults.DiskFault)) (inl (inl refl)),
        stands_so (keeps (whole blank)) (Some faults.DiskFault) now
            ((λ left out. blank_one left (opened.moments.now left out)), λ not. absurd (not refl))
            (rose_since now (flow.Store stores.DiskFault) cause refl) (omega (arith, later, cause.later)),
      )
      known bytes is flow.OutOfMemory opened told cause = (
        at (Done (Some bytes)) (Some faults.OutOfMemory),
        refl,
        lifts (Some bytes) is (looks rest) (at (Done (Some bytes)) (Some faults.OutOfMemory)) (inl (inr refl)),
        stands_so (keeps (whole blank)) (Some faults.OutOfMemory) now
            ((λ left out. blank_one left (opened.moments.now left out)), λ _. told tt) tt (omega (arith, later, cause.later)),
      )
      known bytes is (flow.Store stores.NotFormatted) opened told cause =
          absurd (let none : Some (flow.Store stores.NotFormatted) ≡ None = opened.answer in cc)
      known bytes is (flow.Store stores.NotEmpty) opened told cause =
          absurd (let none : Some (flow.Store stores.NotEmpty) ≡ None = opened.answer in cc)
      known bytes is (flow.Store (stores.BadStore page)) opened told cause =
          absurd (let none : Some (flow.Store (stores.BadStore page)) ≡ None = opened.answer in cc)
      known bytes is (flow.Store (stores.StoreFull pages)) opened told cause =
          absurd (let none : Some (flow.Store (stores.StoreFull pages)) ≡ None = opened.answer in cc)
      known bytes is (flow.Store stores.Broken) opened told cause =
          absurd (let none : Some (flow.Store stores.Broken) ≡ None = opened.answer in cc)
      known bytes is (flow.Store stores.OutOfMemory) opened told cause =
          absurd (let none : Some (flow.Store stores.OutOfMemory) ≡ None = opened.answer in cc)
      known bytes is flow.NotImported opened told cause = absurd (let none : Some flow.NotImported ≡ None = opened.answer in cc)
      known bytes is flow.AlreadyImported opened told cause = absurd (let none : Some flow.AlreadyImported ≡ None = opened.answer in cc)
      known bytes is flow.OldFormat opened told cause = absurd (let none : Some flow.OldFormat ≡ None = opened.answer in cc)
      known bytes is flow.LastChange opened told cause = absurd (let none : Some flow.LastChange ≡ None = opened.answer in cc)
      known bytes is (flow.TooMany value) opened told cause = absurd (let none : Some (flow.TooMany value) ≡ None = opened.answer in cc)

      -- where the disk does not tell what it holds
      bad : old.content ≡ None → (page : ℕ) (fault : FlowFault) → HasFlowCause (Some fault) between now → Ends (faults.BadStore page)
      bad is page fault cause = (
        at (Done None) (Some (faults.BadStore page)),
        refl,
        lifts None is (looks rest) (at (Done None) (Some (faults.BadStore page))) (inr (inl (flow.Store (stores.BadStore page), tt, refl))),
        stands_so unknown (Some (faults.BadStore page)) now tt tt (omega (arith, later, cause.later)),
      )

      vague : old.content ≡ None → (fault : FlowFault) → IsOpenFault fault → HasFlowCause (Some fault) between now
          → Ends (flow_fault (of_made fault))
      vague is (flow.Store stores.NotFormatted) alone cause = bad is 0 (flow.Store stores.NotFormatted) cause
      vague is (flow.Store (stores.BadStore page)) alone cause = bad is page (flow.Store (stores.BadStore page)) cause
      vague is (flow.Store stores.DiskFault) alone cause = (
        at (Done None) (Some faults.DiskFault),
        refl,
        lifts None is (looks rest) (at (Done None) (Some faults.DiskFault)) (inl (inl refl)),
        stands_so unknown (Some faults.DiskFault) now tt (rose_since now (flow.Store stores.DiskFault) cause refl)
            (omega (arith, later, cause.later)),
      )
      vague is flow.OutOfMemory alone cause = (
        at (Done None) (Some faults.OutOfMemory),
        refl,
        lifts None is (looks rest) (at (Done None) (Some faults.OutOfMemory)) (inl (inr refl)),
        stands_so unknown (Some faults.OutOfMemory) now tt tt (omega (arith, later, cause.later)),
      )
      vague is (flow.Store stores.NotEmpty) alone cause = absurd alone
      vague is (flow.Store (stores.StoreFull pages)) alone cause = absurd alone
      vague is (flow.Store stores.Broken) alone cause = absurd alone
      vague is (flow.Store stores.OutOfMemory) alone cause = absurd alone
      vague is flow.NotImported alone cause = absurd alone
      vague is flow.AlreadyImported alone cause = absurd alone
      vague is flow.OldFormat alone cause = absurd alone
      vague is flow.LastChange alone cause = absurd alone
      vague is (flow.TooMany value) alone cause = absurd alone

      pub unopened : (fault : FlowFault) → ((one other : State) → IsAtEither one other between → Opens one other (Some fault) between now)
          → (IsTold between.content → IsNoDiskFault (Some fault) → IsTold now.content)
          → IsOpenFault fault → HasFlowCause (Some fault) between now → Ends (flow_fault (of_made fault))
      unopened fault opened told alone cause = by old.content refl
        where
          by : (content : Option (List ℕ)) → old.content ≡ content → Ends (flow_fault (of_made fault))
          by None is = vague is fault alone cause
          by (Some bytes) is = known bytes is fault (opened formatted formatted (made_at bytes is)) (told (made_at bytes is).told) cause

      -- or is told to be that of a follower, where the disk does not tell what it holds
      pub taken_made : ((one other : State) → IsAtEither one other between → Opens one other None between now)
          → (IsTold between.content → (state : State) → IsAt state now → follows state ≡ true) → HasFlowCause None between now
          → Ends faults.AlreadyImported
      taken_made opened own cause = by old.content refl
        where
          by : (content : Option (List ℕ)) → old.content ≡ content → Ends faults.AlreadyImported
          by None is = (
            at (Done None) (Some faults.AlreadyImported),
            refl,
            lifts None is (looks rest) (at (Done None) (Some faults.AlreadyImported)) (inr (inl (flow.AlreadyImported, tt, refl))),
            stands_so unknown (Some faults.AlreadyImported) now tt tt (omega (arith, later, cause.later)),
          )
          by (Some bytes) is =
              let place = made_at bytes is in
              let none : follows formatted ≡ true =
              ⊎_elim (λ (one : IsAt formatted now). own place.told formatted one)
              (λ (other : IsAt formatted now). own place.told formatted other)
              ((opened formatted formatted place).found refl) in
              absurd (cc (none))

    -- or the run goes on over the open store
    module _ (updater : Handle) (opened : (one other : State) → IsAtEither one other between
        → Opens one other None between (view_of updater))
        (open_so : IsTold between.content → (state : State) → IsAt state (view_of updater) → IsOpen state updater)
        (limits : limits_of updater ≡ standard) (sound : is_whole updater ≡ true) (own_is : is_follower updater ≡ false)
        (none : TellsNone updater) (cause : HasFlowCause None between (view_of updater)) (one : (now : List ℕ) → length (pages now) ≡ 1)
        (as_told : (bytes : List ℕ) → between.content ≡ Some bytes → (gate bytes ≡ OPEN → ⊥) → (view_of updater).content ≡ between.content)
      where
        made_head : (told : Option (List ℕ)) (state : State) → IsHere (made told) 0 state updater
            → StandsOn None (made told) old (view_of updater) → (IsCertain (made told) → HasStood standard old.content (view_of updater))
            → IsHead (begun unused 0) (Done told) state next old files updater output
        made_head told state here stands stood = record {
          here = here;
          vague = λ _. tt;
          limits = limits;
          stood = stood;
          unread = head.unread;
          so_far = stands_so (made told) None (view_of updater) stands tt (omega (arith, later, cause.later));
        }

        -- it has a home page besides page 0
        stood_made : (bytes : List ℕ) → old.content ≡ Some bytes → HasStood standard old.content (view_of updater)
        stood_made bytes is = λ now told has home.
            let own = makes bytes (same_content ∙ is) in
            let here : own.0 ≡ now = same_Some own.0 now (sym (as_told own.0 own.2.told own.2.shut ∙ own.2.told) ∙ told) in
            let same : has ≡ pages own.0 = one_home has (pages own.0) own.0
            (subst (λ (bytes : List ℕ). Home has bytes) (sym here) home) own.2.home in
            let few : length has ≡ 1 = ap (λ (own : List (List ℕ)). length own) same ∙ one own.0 in
            inl (omega (arith, few))

        vague_comes : (rest : Course) (state : State) (ending : Ending) → Comes old (if_blank rest state) (Done None) ending
            → Comes old (looks rest) (Done None) ending
        vague_comes rest formatted ending comes = inr (inr comes)
        vague_comes rest (imported held) ending is = inr (inl (flow.AlreadyImported, tt, is))
        vague_comes rest (outdated held) ending is = inr (inl (flow.AlreadyImported, tt, is))
        vague_comes rest (following held) ending is = inr (inl (flow.AlreadyImported, tt, is))

        module _ (rest : Course) (fault : Option Fault) (new : World)
            (goes : (old : Before) (start done : Progress) (state : State) → IsHead start done state next old files updater output
            → GoesOn (if_blank rest state) start done fault old new) where
          goes_known : (bytes : List ℕ) → old.content ≡ Some bytes
              → GoesOn (formats (looks rest)) (begun unused 0) (reading_alone read) fault old new
          goes_known bytes is =
              let place = made_at bytes is in
              let own = opened formatted formatted place in
              let rests : IsAt formatted (view_of updater) =
              ⊎_elim (λ (one : IsAt formatted (view_of updater)). one) (λ (other : IsAt formatted (view_of updater)). other)
              (own.found refl) in
              let went = goes old (begun unused 0) (Done (Some bytes)) formatted (made_head (Some bytes) formatted
              (record { all = refl; cut_within = omega arith; stands = refl; rests = open_so place.told formatted rests })
              ((λ left out. blank_one left (own.moments.now left out)), λ _. (rests.bytes, rests.told)) (λ _. stood_made bytes is)) in
              (went.0, went.1, lifts (Some bytes) is (looks rest) went.0 (inr (inr went.2)), went.3)

          goes_vague : old.content ≡ None → GoesOn (formats (looks rest)) (begun unused 0) (reading_alone read) fault old new
          goes_vague is =
              let state = state_shown updater in
              let went = goes old (begun unused 0) (Done None) state
              (made_head None state (record { shows = shows_state updater own_is none; whole = sound }) tt (λ certain. absurd certain)) in
              (went.0, went.1, lifts None is (looks rest) went.0 (vague_comes rest state went.0 went.2), went.3)

          pub goes_made : GoesOn (formats (looks rest)) (begun unused 0) (reading_alone read) fault old new
          goes_made = by old.content refl
            where
              by : (content : Option (List ℕ)) → old.content ≡ content
                  → GoesOn (formats (looks rest)) (begun unused 0) (reading_alone read) fault old new
              by None is = goes_vague is
              by (Some bytes) is = goes_known bytes is

-- the same over the disk that was opened, and that is handed back
pub goes_over_made : {D : Type 0} {g : Ghosts D} (read : List ℕ) (next : ℕ) (old : Before) (files : FilesView) (view : DiskView)
    (output : SinkView)
    (head : IsSoFar (begun unused 0) (reading_alone read) next old files view output)
    (pages : List ℕ → List (List ℕ)) (between : DiskView)
    (makes : (bytes : List ℕ) → Tells view bytes → (now : List ℕ) × IsFresh now × IsSettled (pages now) now between)
    (later : view.faults ≤ between.faults)
    (disk : D) (updater : Updater D g) → disk_of updater ≡ disk
    → ((one other : State) → IsAtEither one other between → Opens one other None between (g.view disk))
    → (IsTold between.content → (state : State) → IsAt state (g.view disk) → IsOpen state (handle_of updater))
    → limits_of (handle_of updater) ≡ standard → is_whole (handle_of updater) ≡ true → TellsNone (handle_of updater)
    → HasFlowCause None between (g.view disk)
    → ((now : List ℕ) → length (pages now) ≡ 1)
    → ((bytes : List ℕ) → between.content ≡ Some bytes → (gate bytes ≡ OPEN → ⊥) → (g.view disk).content ≡ between.content)
    → (rest : Course) (fault : Option Fault) (final : Updater D g) (last : D) → last ≡ disk_of final → (now : FilesView) (told : SinkView)
    → ((old : Before) (start done : Progress) (state : State) → IsHead start done state next old files (handle_of updater) output
    → GoesOn (if_blank rest state) start done fault old (world now (view_of (handle_of final)) told))
    → GoesOn (formats (looks rest)) (begun unused 0) (reading_alone read) fault old (world now (g.view last) told)
goes_over_made {D} {g} read next old files view output head pages between makes later disk updater same opened open_so limits sound none
    cause one as_told rest fault final last closed now told goes =
    subst (λ (own : D). GoesOn (formats (looks rest)) (begun unused 0) (reading_alone read) fault old (world now (g.view own) told))
    (sym closed)
    (goes_made read next old files view output head pages between makes later (handle_of updater)
    (λ one other at. subst (λ (own : D). Opens one other None between (g.view own)) (sym same) (opened one other at))
    (λ told_before state at. open_so told_before state (subst (λ (own : D). IsAt state (g.view own)) same at))
    limits sound refl none (subst (λ (own : D). HasFlowCause None between (g.view own)) (sym same) cause) one
    (λ bytes here shut. ap (λ (own : D). (g.view own).content) same ∙ as_told bytes here shut) rest fault
    (world now (view_of (handle_of final)) told) goes)

-- a look at the disk
pub ruleset disk_looks = (stays_call)
