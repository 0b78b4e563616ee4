-- A version is committed, of entries that are there or of those of a file, and told.
use Rattle.std.proofs.Common.{◌≡◌, ◌+◌, ℕ, ◌≤◌, false, Option, Some, None, List, Result, Ok, Err, OnOk, OnErr, IfErr, inl, inr, sym, subst}
use Rattle.std.proofs.Common.{arith}
use Rattle.std.specs.Result.{result_err}
use Rattle.std.specs.Io.KnownBytes.{Appends}
use Rattle.osm_base.specs.declared.values.object.Entry.{Entry}
use Rattle.outside.specs.Bytes.{AppendsPrefix}
use Rattle.outside.specs.Causes.{HasCause as HasCauseOf}
use Rattle.outside.specs.Inputs.{FilesView}
use Rattle.outside.specs.Sink.{SinkView}
use Rattle.update_flow.specs.AtRest.{HasFlowCause}
use Rattle.update_flow.specs.State.{Holding, State, imported, Step, after, was_old}
use Rattle.update_flow.specs.Handle.{Handle, IsOpen, Shows, Takes, is_whole, limits_of, view_of}
use Rattle.update_flow.specs.Needed.{Writes}
use Rattle.update_flow.specs.declared.fault.FlowFault.{FlowFault}
use Rattle.run_promise.specs.declared.fault.Fault.{Fault}
use Rattle.run_promise.specs.declared.fault.Fault.TheVariants as faults
use Rattle.run_promise.specs.Comes.{Comes, IsCertain}
use Rattle.run_promise.specs.Course.{Course, reads, commits, tells}
use Rattle.run_promise.specs.Courses.{Onward, onward}
use Rattle.updater.specs.FileReads.{IsRead, IsUnread}
use Rattle.run_promise.specs.Faults.{flow_fault}
use Rattle.run_promise.specs.Files.{IsChange}
use Rattle.updater.specs.Heads.{GoesOn, IsHead, Leads}
use Rattle.run_promise.specs.Progress.{Progress, Ending, past, plus}
use Rattle.run_promise.specs.World.{Before, World, world}
use Rattle.updater.proofs.HeadLaws.{leads_file, past_file, past_text, refuses_here, stops_in_file, stops_in_line}
use Rattle.updater.proofs.StoreDeeds.{IsRefusedSo, IsStepped, Suits, not_outdated, refused_step, taken}

-- a run that goes on by the rest of a course goes by the course
pub goes_back : (course rest : Course) (start done further : Progress) (fault : Option Fault) (old : Before) (new : World)
    → GoesOn rest start further fault old new
    → ((ending : Ending) → Comes old rest further ending → Comes old course done ending) → GoesOn course start done fault old new
goes_back course rest start done further fault old new goes leads = (goes.0, goes.1, leads goes.0 goes.2, goes.3)

-- what a part of a course leads to, the course leads to
pub leads_behind : (course rest : Onward → Course) (fault : Option Fault) (start done further : Progress) (next : ℕ) (old : Before)
    (files : FilesView) (updater : Handle) (output : SinkView)
    → ((last : Onward) (ending : Ending) → Comes old (rest last) further ending → Comes old (course last) done ending)
    → Leads rest fault start further next old files updater output → Leads course fault start done next old files updater output
leads_behind course rest None start done further next old files updater output leads own =
    (own.0, own.1, own.2, λ last ending comes. leads last ending (own.3 last ending comes))
leads_behind course rest (Some fault) start done further next old files updater output leads own = λ last.
    goes_back (course last) (rest last) start done further (Some fault) old (world files (view_of updater) output) (own last) (leads last)

-- one version after another
pub leads_then : (course : Onward → Course) (more : Onward → Onward) (start done : Progress) (next : ℕ) (old : Before)
    (files : FilesView) (updater : Handle) (output : SinkView)
    → Leads course None start done next old files updater output → (fault : Option Fault) (now : Handle) (new : SinkView)
    → ((further : Progress) (held : Holding) → IsHead start further (imported held) next old files updater output
    → Leads (λ last. onward (more last) held) fault start further next old files now new)
    → Leads (λ last. course (more last)) fault start done next old files now new
leads_then course more start done next old files updater output made fault now new goes =
    leads_behind (λ last. course (more last)) (λ last. onward (more last) made.1) fault start done made.0 next old files now new
    (λ last ending comes. made.3 (more last) ending comes) (goes made.0 made.1 made.2)

-- a version is committed of entries that are there, and told; `held` is what the store holds then
module _ (start done : Progress) (state : State) (next : ℕ) (old : Before) (files : FilesView) (before : Handle) (output : SinkView)
    (head : IsHead start done state next old files before output) (step : Step) (line : List ℕ) (held : Holding)
    (law : after state step ≡ imported held) (writes : Writes state step) where
  abbrev these : Onward → Course
  these last = commits step (tells line (onward last held))

  -- there is no memory for what is to be committed
  pub these_short : Leads these (Some faults.OutOfMemory) start done next old files before output
  these_short last =
      let own = refuses_here start done state next old files before output head faults.OutOfMemory tt in
      (own.0, own.1, inl (inr own.2), own.3)

  module _ (now : Handle) where
    pub these_refused : (fault : FlowFault) → ((own : State) → IsOpen own before → Takes own step (Some fault) before now)
        → was_old state ≡ false → Suits state (Some step) → IsRefusedSo (Some step) fault before now
        → Leads these (Some (flow_fault fault)) start done next old files now output
    these_refused fault takes new suits so last =
        refused_step start done state next old files before now output head step suits fault takes so
        (not_outdated start done state next old files before now output head new fault so.not_old) (tells line (onward last held))

    module _ (takes : (own : State) → IsOpen own before → Takes own step None before now)
        (shows : Shows state before → Shows (after state step) now)
        (sound : is_whole now ≡ is_whole before) (same : limits_of now ≡ limits_of before)
        (cause : HasFlowCause None (view_of before) (view_of now)) where
      stepped : IsStepped start done state next old files now output step
      stepped = taken start done state next old files before now output head step writes takes shows sound same cause

      leads_stepped : (last : Onward) (ending : Ending) → Comes old (tells line (onward last held)) stepped.further ending
          → Comes old (these last) done ending
      leads_stepped last ending comes = stepped.leads (tells line (onward last held)) ending comes

      told_head : (text : List ℕ) (new : SinkView) → text ≡ line → Appends output.taken new.taken text → output.faults ≤ new.faults
          → IsHead start (plus line stepped.further) (imported held) next old files now new
      told_head text new is all later =
          subst (λ (own : State). IsHead start (plus line stepped.further) own next old files now new) law
          (past_text start stepped.further (after state step) next old files now output stepped.head line new
          (subst (λ (own : List ℕ). Appends output.taken new.taken own) is all) later)

      -- the version is told, and what is so of it and of the one before is known where the store is
      pub these_done : (Next : Holding → Type 0) (text : List ℕ) (new : SinkView) → text ≡ line → Appends output.taken new.taken text
          → output.faults ≤ new.faults → (IsCertain done.store → Next held)
          → (further : Progress) × (now_held : Holding) × IsHead start further (imported now_held) next old files now new
          × ((last : Onward) (ending : Ending) → Comes old (onward last now_held) further ending → Comes old (these last) done ending)
          × (IsCertain further.store → IsCertain done.store × Next now_held)
      these_done Next text new is all later so = (
        plus line stepped.further,
        held,
        told_head text new is all later,
        λ last ending comes. leads_stepped last ending (inr comes),
        λ certain. let before = stepped.certain certain in (before, so before),
      )

      pub these_told : (text : List ℕ) (new : SinkView) (result : Result (Unit {0}) Fault) → text ≡ line
          → OnOk result (Appends output.taken new.taken text) → OnErr result (AppendsPrefix output.taken new.taken text)
          → IfErr result (λ fault. fault ≡ faults.WriteFault) → HasCauseOf output.faults new.faults result
          → Leads these (result_err result) start done next old files now new
      these_told text new (Ok value) is all front alone cause = (
        plus line stepped.further,
        held,
        told_head text new is all cause.later,
        λ last ending comes. leads_stepped last ending (inr comes),
      )
      these_told text new (Err fault) is all front alone cause = λ last.
          subst (λ (own : Fault). GoesOn (these last) start done (Some own) old (world files (view_of now) new)) (sym alone)
          (goes_back (these last) (tells line (onward last held)) start done stepped.further (Some faults.WriteFault) old
          (world files (view_of now) new)
          (stops_in_line start stepped.further (after state step) next old files now output stepped.head line new (onward last held)
          (subst (λ (own : List ℕ). AppendsPrefix output.taken new.taken own) is front) cause.later cause.failed) (leads_stepped last))

-- the same of what a file holds; `next` is what the store holds then
module _ (start done : Progress) (state : State) (file : ℕ) (old : Before) (files read : FilesView) (before : Handle) (output : SinkView)
    (head : IsHead start done state file old files before output) (step : List Entry → Step) (line : List ℕ) (next : List Entry → Holding)
    (law : (entries : List Entry) → after state (step entries) ≡ imported (next entries))
    (writes : (entries : List Entry) → Writes state (step entries)) where
  abbrev course : Onward → Course
  course last = reads file (IsChange file) (λ entries. commits (step entries) (tells line (onward last (next entries))))

  pub file_unread : (fault : Fault) → IsUnread (IsChange file) file fault files read
      → Leads course (Some fault) start done (file + 1) old read before output
  file_unread fault stop last = stops_in_file start done state file old files before output head (IsChange file) file
      (omega arith) read fault stop (λ entries. commits (step entries) (tells line (onward last (next entries))))

  module _ (entries : List Entry) (found : IsRead (IsChange file) file entries files read) where
    abbrev rest : Onward → Course
    rest last = commits (step entries) (tells line (onward last (next entries)))

    head_read : IsHead start (past file done) state (file + 1) old read before output
    head_read = past_file start done state file old files before output head (IsChange file) file (omega arith) read entries found

    leads_read : (last : Onward) (ending : Ending) → Comes old (rest last) (past file done) ending → Comes old (course last) done ending
    leads_read last ending comes =
        leads_file start done state file old files before output head (IsChange file) file (omega arith) read entries found
        (λ entries. commits (step entries) (tells line (onward last (next entries)))) ending comes

    pub file_read : (fault : Option Fault) (now : Handle) (new : SinkView)
        → (IsHead start (past file done) state (file + 1) old read before output
        → Leads rest fault start (past file done) (file + 1) old read now new)
        → Leads course fault start done (file + 1) old read now new
    file_read fault now new goes =
        leads_behind course rest fault start done (past file done) (file + 1) old read now new leads_read (goes head_read)

    module _ (now : Handle) where
      pub step_refused : (fault : FlowFault) → ((own : State) → IsOpen own before → Takes own (step entries) (Some fault) before now)
          → was_old state ≡ false → Suits state (Some (step entries)) → IsRefusedSo (Some (step entries)) fault before now
          → Leads course (Some (flow_fault fault)) start done (file + 1) old read now output
      step_refused fault takes new suits so = file_read (Some (flow_fault fault)) now output (λ head.
          these_refused start (past file done) state (file + 1) old read before output head (step entries) line (next entries)
          (law entries) (writes entries) now fault takes new suits so)

      module _ (takes : (own : State) → IsOpen own before → Takes own (step entries) None before now)
          (shows : Shows state before → Shows (after state (step entries)) now)
          (sound : is_whole now ≡ is_whole before) (same : limits_of now ≡ limits_of before)
          (cause : HasFlowCause None (view_of before) (view_of now)) where
        pub version_done : (Next : Holding → Type 0) (text : List ℕ) (new : SinkView) → text ≡ line → Appends output.taken new.taken text
            → output.faults ≤ new.faults → (IsCertain done.store → Next (next entries))
            → (further : Progress) × (now_held : Holding) × IsHead start further (imported now_held) (file + 1) old read now new
            × ((last : Onward) (ending : Ending) → Comes old (onward last now_held) further ending → Comes old (course last) done ending)
            × (IsCertain further.store → IsCertain done.store × Next now_held)
        version_done Next text new is all later so =
            let own = these_done start (past file done) state (file + 1) old read before output head_read (step entries) line (next entries)
            (law entries) (writes entries) now takes shows sound same cause Next text new is all later so in
            (own.0, own.1, own.2, (λ last ending comes. leads_read last ending (own.3 last ending comes)), own.4)

        pub version_told : (text : List ℕ) (new : SinkView) (result : Result (Unit {0}) Fault) → text ≡ line
            → OnOk result (Appends output.taken new.taken text) → OnErr result (AppendsPrefix output.taken new.taken text)
            → IfErr result (λ fault. fault ≡ faults.WriteFault) → HasCauseOf output.faults new.faults result
            → Leads course (result_err result) start done (file + 1) old read now new
        version_told text new result is all front alone faulted = file_read (result_err result) now new (λ head.
            these_told start (past file done) state (file + 1) old read before output head (step entries) line (next entries)
            (law entries) (writes entries) now takes shows sound same cause text new result is all front alone faulted)
