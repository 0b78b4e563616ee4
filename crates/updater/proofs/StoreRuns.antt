-- The commands over a store that is there, once it is open.
use Rattle.std.proofs.Common.{◌≡◌, ◌≤◌, ◌+◌, ℕ, true, false, Option, Some, None, List, Result, Ok, Err, OnOk, OnErr, IfErr, inr, refl, sym}
use Rattle.std.proofs.Common.{◌∙◌, ap, subst, arith}
use Rattle.std.specs.Result.{result_err}
use Rattle.std.specs.Io.KnownBytes.{Appends}
use Rattle.outside.specs.Bytes.{AppendsPrefix}
use Rattle.outside.specs.Causes.{HasCause as HasCauseOf}
use Rattle.outside.specs.Inputs.{FilesView}
use Rattle.outside.specs.Sink.{SinkView}
use Rattle.style_read.specs.Style.{StyleOf, table_of}
use Rattle.update_flow.specs.AtRest.{HasFlowCause}
use Rattle.update_flow.specs.State.{Holding, State, formatted, imported, outdated, following, Clear, after}
use Rattle.update_flow.specs.Handle.{Handle, IsOpen, Looks, Shows, Takes, TellsAs, is_imported, is_follower, is_old, is_whole, limits_of, style_of}
use Rattle.update_flow.specs.Handle.{view_of}
use Rattle.update_flow.specs.declared.fault.FlowFault.{FlowFault}
use Rattle.run_promise.specs.declared.fault.Fault.{Fault}
use Rattle.run_promise.specs.declared.fault.Fault.TheVariants as faults
use Rattle.run_promise.specs.Comes.{AreTold, IsCertain}
use Rattle.run_promise.specs.Course.{Course, ends, reads, looks, writes}
use Rattle.run_promise.specs.Courses.{Onward, clears, export_from, exports, finished, if_blank, if_formatted, if_imported}
use Rattle.updater.specs.FileReads.{IsRead, IsUnread}
use Rattle.run_promise.specs.Faults.{flow_fault}
use Rattle.updater.specs.Heads.{GoesOn, IsHead, IsHere, Leads}
use Rattle.run_promise.specs.Progress.{Standing, unused, unknown, keeps, half_made, Progress, past, plus}
use Rattle.run_promise.specs.World.{Before, World, world}
use Rattle.updater.proofs.HeadLaws.{ends_here, leads_file, past_file, past_text, refuses_here, stops_in_file, stops_in_text, stops_short}
use Rattle.updater.proofs.StoreDeeds.{IsRefusedSo, looked_at, not_outdated, refused_step, shows_here, taken, unlooked}
use Rattle.updater.proofs.VersionRuns.{goes_back}

pub true_not : (P : Type 0) → true ≡ false → P
true_not P is = absurd (cc)

-- what tells the same tells what is so of the same state
pub tells_still : (state : State) (before now : Handle) → TellsAs before now → Shows state before → Shows state now
tells_still state before now tells shows = record {
  changes_are = tells.changes_same ∙ shows.changes_are;
  imported_is = tells.imported_same ∙ shows.imported_is;
  old_is = tells.old_same ∙ shows.old_is;
  style_is = tells.style_same ∙ shows.style_is;
  follower_is = tells.follower_same ∙ shows.follower_is;
}

-- what comes behind a look comes of it
pub behind_look : (rest : Course) (start done : Progress) (fault : Option Fault) (old : Before) (new : World)
    → GoesOn rest start done fault old new → GoesOn (looks rest) start done fault old new
behind_look rest start done fault old new goes =
    goes_back (looks rest) rest start done done fault old new goes (λ ending comes. inr (inr comes))

-- where nothing comes behind, the next head is the end
pub leads_ends : (course : Onward → Course) (fault : Option Fault) (start done : Progress) (next : ℕ) (old : Before) (files : FilesView)
    (updater : Handle) (output : SinkView)
    → Leads course fault start done next old files updater output
    → GoesOn (course finished) start done fault old (world files (view_of updater) output)
leads_ends course None start done next old files updater output own =
    goes_back (course finished) ends start done own.0 None old (world files (view_of updater) output)
    (ends_here start own.0 (imported own.1) next old files updater output own.2) (own.3 finished)
leads_ends course (Some fault) start done next old files updater output own = own finished

module _ (start done : Progress) (next : ℕ) (old : Before) (files : FilesView) (updater : Handle) (output : SinkView) where
  abbrev Here : State → Type 0
  Here state = IsHead start done state next old files updater output

  abbrev Now : World
  Now = world files (view_of updater) output

  shown : (state : State) → Here state → Shows state updater
  shown state head = shows_here done.store done.cut state updater head.here

  -- the store is one of the old format
  pub outdated_new : (rest : Course) (state : State) → Here state → is_old updater ≡ true
      → GoesOn (if_formatted rest state) start done (Some faults.OldFormat) old Now
  outdated_new rest formatted head is = true_not _ (sym is ∙ (shown formatted head).old_is)
  outdated_new rest (imported held) head is = true_not _ (sym is ∙ (shown (imported held) head).old_is)
  outdated_new rest (following held) head is = true_not _ (sym is ∙ (shown (following held) head).old_is)
  outdated_new rest (outdated held) head is = refuses_here start done (outdated held) next old files updater output head faults.OldFormat tt

  pub outdated_there : (rest : Holding → Course) (state : State) → Here state → is_old updater ≡ true
      → GoesOn (if_imported rest state) start done (Some faults.OldFormat) old Now
  outdated_there rest formatted head is = true_not _ (sym is ∙ (shown formatted head).old_is)
  outdated_there rest (imported held) head is = true_not _ (sym is ∙ (shown (imported held) head).old_is)
  outdated_there rest (following held) head is = true_not _ (sym is ∙ (shown (following held) head).old_is)
  outdated_there rest (outdated held) head is =
      refuses_here start done (outdated held) next old files updater output head faults.OldFormat tt

  -- something was imported before
  pub already : (rest : Course) (state : State) → Here state → is_old updater ≡ false → is_follower updater ≡ false → is_imported updater ≡ true
      → GoesOn (if_formatted rest state) start done (Some faults.AlreadyImported) old Now
  already rest formatted head new own is = true_not _ (sym is ∙ (shown formatted head).imported_is)
  already rest (imported held) head new own is =
      refuses_here start done (imported held) next old files updater output head faults.AlreadyImported tt
  already rest (outdated held) head new own is = true_not _ (sym (shown (outdated held) head).old_is ∙ new)
  already rest (following held) head new own is = true_not _ (sym (shown (following held) head).follower_is ∙ own)

  -- into a store that was just made
  pub never_blank : (rest : Course) (state : State) → Here state → is_imported updater ≡ true
      → GoesOn (if_blank rest state) start done (Some faults.AlreadyImported) old Now
  never_blank rest formatted head is = true_not _ (sym is ∙ (shown formatted head).imported_is)
  never_blank rest (imported held) head is =
      refuses_here start done (imported held) next old files updater output head faults.AlreadyImported tt
  never_blank rest (following held) head is =
      refuses_here start done (following held) next old files updater output head faults.AlreadyImported tt
  never_blank rest (outdated held) head is =
      refuses_here start done (outdated held) next old files updater output head faults.AlreadyImported tt

  -- nothing was
  pub not_yet : (rest : Holding → Course) (state : State) → Here state → is_old updater ≡ false → is_imported updater ≡ false
      → GoesOn (if_imported rest state) start done (Some faults.NotImported) old Now
  not_yet rest formatted head new is = refuses_here start done formatted next old files updater output head faults.NotImported tt
  not_yet rest (imported held) head new is = true_not _ (sym (shown (imported held) head).imported_is ∙ is)
  not_yet rest (outdated held) head new is = true_not _ (sym (shown (outdated held) head).old_is ∙ new)
  not_yet rest (following held) head new is = true_not _ (sym (shown (following held) head).imported_is ∙ is)

  -- what is so where nothing was imported, or where something was
  pub if_new : (rest : Course) (fault : Option Fault) (new : World) (state : State) → Here state → is_old updater ≡ false
      → is_imported updater ≡ false → (Here formatted → GoesOn rest start done fault old new)
      → GoesOn (if_formatted rest state) start done fault old new
  if_new rest fault new formatted head current is goes = goes head
  if_new rest fault new (imported held) head current is goes = true_not _ (sym (shown (imported held) head).imported_is ∙ is)
  if_new rest fault new (outdated held) head current is goes = true_not _ (sym (shown (outdated held) head).old_is ∙ current)
  if_new rest fault new (following held) head current is goes = true_not _ (sym (shown (following held) head).imported_is ∙ is)

  pub if_made : (rest : Course) (fault : Option Fault) (new : World) (state : State) → Here state → is_imported updater ≡ false
      → (Here formatted → GoesOn rest start done fault old new) → GoesOn (if_blank rest state) start done fault old new
  if_made rest fault new formatted head is goes = goes head
  if_made rest fault new (imported held) head is goes = true_not _ (sym (shown (imported held) head).imported_is ∙ is)
  if_made rest fault new (outdated held) head is goes = true_not _ (sym (shown (outdated held) head).imported_is ∙ is)
  if_made rest fault new (following held) head is goes = true_not _ (sym (shown (following held) head).imported_is ∙ is)

  pub if_there : (rest : Holding → Course) (fault : Option Fault) (new : World) (state : State) → Here state → is_old updater ≡ false
      → is_follower updater ≡ false → is_imported updater ≡ true
      → ((held : Holding) → Here (imported held) → GoesOn (rest held) start done fault old new)
      → GoesOn (if_imported rest state) start done fault old new
  if_there rest fault new formatted head current own is goes = true_not _ (sym is ∙ (shown formatted head).imported_is)
  if_there rest fault new (imported held) head current own is goes = goes held head
  if_there rest fault new (outdated held) head current own is goes = true_not _ (sym (shown (outdated held) head).old_is ∙ current)
  if_there rest fault new (following held) head current own is goes = true_not _ (sym (shown (following held) head).follower_is ∙ own)

  -- a table of a store that follows no other
  pub exports_own : (table : List ℕ) (state : State) → Here state → is_follower updater ≡ false → (fault : Option Fault) (new : World)
      → GoesOn (if_imported (λ held. exports held (table_of held.style.tables table)) state) start done fault old new
      → GoesOn (export_from table state) start done fault old new
  exports_own table formatted head own fault new goes = goes
  exports_own table (imported held) head own fault new goes = goes
  exports_own table (outdated held) head own fault new goes = goes
  exports_own table (following held) head own fault new goes = true_not _ (sym (shown (following held) head).follower_is ∙ own)

  -- a file is read first, and then the run goes on
  module _ {A : Type 0} (Reads : List ℕ → Result A Fault → Type 0) (rest : A → Course) (state : State) (head : Here state)
      (read : FilesView) where
    pub first_unread : (fault : Fault) → IsUnread Reads next fault files read
        → GoesOn (reads next Reads rest) start done (Some fault) old (world read (view_of updater) output)
    first_unread fault stop = stops_in_file start done state next old files updater output head Reads next
        (omega arith) read fault stop rest

    pub first_read : (found : A) → IsRead Reads next found files read → (fault : Option Fault) (new : World)
        → (IsHead start (past next done) state (next + 1) old read updater output
        → GoesOn (rest found) start (past next done) fault old new) → GoesOn (reads next Reads rest) start done fault old new
    first_read found own fault new goes =
        goes_back (reads next Reads rest) (rest found) start done (past next done) fault old new
        (goes (past_file start done state next old files updater output head Reads next (omega arith) read found own))
        (leads_file start done state next old files updater output head Reads next (omega arith) read found own rest)

  -- a text is written at last
  module _ (state : State) (head : Here state) (Fits : List ℕ → Type 0) (rest : Course) where
    pub short_text : GoesOn (writes Fits rest) start done (Some faults.OutOfMemory) old Now
    short_text = stops_short start done state next old files updater output head Fits rest

    pub untold_text : (text : List ℕ) (new : SinkView) → (AreTold old done.read → IsCertain done.store → Fits text)
        → AppendsPrefix output.taken new.taken text
        → HasCauseOf {T = Unit {0}} {E = Fault} output.faults new.faults (Err faults.WriteFault)
        → GoesOn (writes Fits rest) start done (Some faults.WriteFault) old (world files (view_of updater) new)
    untold_text text new fits front cause = stops_in_text start done state next old files updater output head Fits text new rest fits front
        cause.later cause.failed

    pub told_text : (text : List ℕ) (new : SinkView) → (AreTold old done.read → IsCertain done.store → Fits text)
        → Appends output.taken new.taken text
        → HasCauseOf {T = Unit {0}} {E = Fault} output.faults new.faults (Ok tt) → (fault : Option Fault) (world_new : World)
        → (IsHead start (plus text done) state next old files updater new → GoesOn rest start (plus text done) fault old world_new)
        → GoesOn (writes Fits rest) start done fault old world_new
    told_text text new fits all cause fault world_new goes =
        goes_back (writes Fits rest) rest start done (plus text done) fault old world_new
        (goes (past_text start done state next old files updater output head text new all cause.later))
        (λ ending comes. inr (text, fits, inr comes))

  -- or at the end
  pub text_ends : (state : State) → Here state → (Fits : List ℕ → Type 0) (text : List ℕ) (new : SinkView)
      (result : Result (Unit {0}) Fault) → (AreTold old done.read → IsCertain done.store → Fits text)
      → OnOk result (Appends output.taken new.taken text) → OnErr result (AppendsPrefix output.taken new.taken text)
      → IfErr result (λ fault. fault ≡ faults.WriteFault) → HasCauseOf output.faults new.faults result
      → GoesOn (writes Fits ends) start done (result_err result) old (world files (view_of updater) new)
  text_ends state head Fits text new (Ok value) fits all front alone cause =
      told_text state head Fits ends text new fits all (record { later = cause.later; failed = tt }) None (world files (view_of updater) new)
      (λ further. ends_here start (plus text done) state next old files updater new further)
  text_ends state head Fits text new (Err fault) fits all front alone cause =
      subst (λ (own : Fault). GoesOn (writes Fits ends) start done (Some own) old (world files (view_of updater) new)) (sym alone)
      (untold_text state head Fits ends text new fits front (record { later = cause.later; failed = cause.failed }))

-- what the store holds is certain where it is known
pub open_certain : (done : Progress) (state : State) (updater : Handle) → IsHere done.store done.cut state updater
    → IsCertain done.store → IsOpen state updater
open_certain done state updater here certain = by done.store here certain
  where
    by : (store : Standing) → IsHere store done.cut state updater → IsCertain store → IsOpen state updater
    by unused here certain = absurd here
    by unknown here certain = absurd certain
    by (keeps kept) here certain = here.rests
    by half_made here certain = absurd here

pub held_certain : (done : Progress) (held : Holding) (updater : Handle) → IsHere done.store done.cut (imported held) updater
    → IsCertain done.store → IsOpen (imported held) updater
held_certain done held updater here certain = open_certain done (imported held) updater here certain

-- the store is looked at, and what it holds is written
module _ (start done : Progress) (held : Holding) (next : ℕ) (old : Before) (files : FilesView) (before now : Handle) (output : SinkView)
    (head : IsHead start done (imported held) next old files before output) where
  pub look_refused : (fault : FlowFault) → ((own : State) → IsOpen own before → Looks own (Some fault) before now)
      → IsRefusedSo None fault before now → (rest : Course)
      → GoesOn (looks rest) start done (Some (flow_fault fault)) old (world files (view_of now) output)
  look_refused fault looked so rest = unlooked start done (imported held) next old files before now output head tt fault looked so rest

  pub look_done : ((own : State) → IsOpen own before → Looks own None before now) → TellsAs before now → is_whole now ≡ is_whole before
      → limits_of now ≡ limits_of before → HasFlowCause None (view_of before) (view_of now)
      → IsHead start done (imported held) next old files now output
  look_done looked tells sound same cause = looked_at start done (imported held) next old files before now output head looked
      (tells_still (imported held) before now tells) sound same cause

  -- the text of what was looked at
  module _ (Fits : List ℕ → Type 0) (rest : Course) (sure : IsHead start done (imported held) next old files now output) where
    looks_on : (fault : Option Fault) (new : World) → GoesOn (writes Fits rest) start done fault old new
        → GoesOn (looks (writes Fits rest)) start done fault old new
    looks_on fault new goes = behind_look (writes Fits rest) start done fault old new goes

    pub look_short : GoesOn (looks (writes Fits rest)) start done (Some faults.OutOfMemory) old (world files (view_of now) output)
    look_short = looks_on (Some faults.OutOfMemory) (world files (view_of now) output)
        (short_text start done next old files now output (imported held) sure Fits rest)

    pub look_untold : (text : List ℕ) (new : SinkView) (fault : Fault) → (AreTold old done.read → IsCertain done.store → Fits text)
        → AppendsPrefix output.taken new.taken text → fault ≡ faults.WriteFault
        → HasCauseOf {T = Unit {0}} {E = Fault} output.faults new.faults (Err fault)
        → GoesOn (looks (writes Fits rest)) start done (Some fault) old (world files (view_of now) new)
    look_untold text new fault fits front is cause =
        subst (λ (own : Fault). GoesOn (looks (writes Fits rest)) start done (Some own) old (world files (view_of now) new)) (sym is)
        (looks_on (Some faults.WriteFault) (world files (view_of now) new)
        (untold_text start done next old files now output (imported held) sure Fits rest text new fits front
        (record { later = cause.later; failed = cause.failed })))

    pub look_told : (text : List ℕ) (new : SinkView) → (AreTold old done.read → IsCertain done.store → Fits text)
        → Appends output.taken new.taken text → output.faults ≤ new.faults → (fault : Option Fault) (after_all : World)
        → (IsHead start (plus text done) (imported held) next old files now new → GoesOn rest start (plus text done) fault old after_all)
        → GoesOn (looks (writes Fits rest)) start done fault old after_all
    look_told text new fits all later fault after_all goes = looks_on fault after_all
        (told_text start done next old files now output (imported held) sure Fits rest text new fits all
        (record { later = later; failed = tt }) fault after_all goes)

  -- a text at the end
  pub look_ends : (Fits : List ℕ → Type 0) → IsHead start done (imported held) next old files now output
      → (text : List ℕ) (new : SinkView) (result : Result (Unit {0}) Fault) → (AreTold old done.read → IsCertain done.store → Fits text)
      → OnOk result (Appends output.taken new.taken text) → OnErr result (AppendsPrefix output.taken new.taken text)
      → IfErr result (λ fault. fault ≡ faults.WriteFault) → HasCauseOf output.faults new.faults result
      → GoesOn (looks (writes Fits ends)) start done (result_err result) old (world files (view_of now) new)
  look_ends Fits sure text new result fits all front alone cause =
      looks_on Fits ends sure (result_err result) (world files (view_of now) new)
      (text_ends start done next old files now output (imported held) sure Fits text new result fits all front alone cause)

-- the table that is asked for, by the style that the store tells
module _ (start done : Progress) (held : Holding) (next : ℕ) (old : Before) (files : FilesView) (updater : Handle) (output : SinkView)
    (head : IsHead start done (imported held) next old files updater output) where
  pub same_style : (style : StyleOf) → Some style ≡ style_of updater → style ≡ held.style
  same_style style is = let two : Some style ≡ Some held.style =
      is ∙ (shows_here done.store done.cut (imported held) updater head.here).style_is in cc

  pub found_table : (style : StyleOf) (table : List ℕ) (found : Option ℕ) → Some style ≡ style_of updater
      → found ≡ table_of style.tables table → found ≡ table_of held.style.tables table
  found_table style table found is named = named ∙ ap (λ (own : StyleOf). table_of own.tables table) (same_style style is)

  pub exports_found : (table : List ℕ) (found : Option ℕ) → found ≡ table_of held.style.tables table → (fault : Option Fault) (new : World)
      → GoesOn (exports held found) start done fault old new
      → GoesOn (exports held (table_of held.style.tables table)) start done fault old new
  exports_found table found is fault new goes = subst (λ (own : Option ℕ). GoesOn (exports held own) start done fault old new) is goes

  pub unknown_table : (table : List ℕ) → None ≡ table_of held.style.tables table
      → GoesOn (exports held (table_of held.style.tables table)) start done (Some faults.UnknownTable) old
      (world files (view_of updater) output)
  unknown_table table is = exports_found table None is (Some faults.UnknownTable) (world files (view_of updater) output)
      (refuses_here start done (imported held) next old files updater output head faults.UnknownTable tt)

-- no tile is due any more
module _ (start done : Progress) (held : Holding) (next : ℕ) (old : Before) (files : FilesView) (before now : Handle) (output : SinkView)
    (head : IsHead start done (imported held) next old files before output) where
  pub clear_done : ((own : State) → IsOpen own before → Takes own Clear None before now) → TellsAs before now
      → is_whole now ≡ is_whole before → limits_of now ≡ limits_of before → HasFlowCause None (view_of before) (view_of now)
      → GoesOn (clears true) start done None old (world files (view_of now) output)
  clear_done takes tells sound same cause =
      let own = taken start done (imported held) next old files before now output head Clear tt takes
      (λ shows. record {
        changes_are = tells.changes_same ∙ shows.changes_are;
        imported_is = tells.imported_same ∙ shows.imported_is;
        old_is = tells.old_same ∙ shows.old_is;
        style_is = tells.style_same ∙ shows.style_is;
        follower_is = tells.follower_same ∙ shows.follower_is;
      }) sound same cause in
      goes_back (clears true) ends start done own.further None old (world files (view_of now) output)
      (ends_here start own.further (after (imported held) Clear) next old files now output own.head) (own.leads ends)

  pub clear_refused : (fault : FlowFault) → ((own : State) → IsOpen own before → Takes own Clear (Some fault) before now)
      → IsRefusedSo (Some Clear) fault before now
      → GoesOn (clears true) start done (Some (flow_fault fault)) old (world files (view_of now) output)
  clear_refused fault takes so =
      refused_step start done (imported held) next old files before now output head Clear tt fault takes so
      (not_outdated start done (imported held) next old files before now output head refl fault so.not_old) ends
