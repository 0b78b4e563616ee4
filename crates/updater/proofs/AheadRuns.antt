-- Change files that one thread reads while another appends what they hold, turn by turn.
use Rattle.std.proofs.Common.{◌≡◌, ◌≢◌, ◌<◌, ◌≤◌, ◌⊎◌, inl, inr, ⊎_elim, ◌+◌, ℕ, suc, true, false, Bool, cond, eqb, eq-eqb, ne_eqb}
use Rattle.std.proofs.Common.{Option, Some, None, List, [], ◌∷◌, ◌++◌, length, length-append, Result, Ok, Err, IfSome, OnOk, refl, sym, ◌∙◌, ap}
use Rattle.std.proofs.Common.{subst, arith}
use Rattle.std.specs.Result.{result_err}
use Rattle.std.proofs.lemmas.Bool.Decides.{eqb_tells, leb_tells}
use Rattle.osm_base.specs.bounds.Limits.{standard}
use Rattle.osm_base.specs.declared.bounds.limits.LimitNumbers.{LimitNumbers}
use Rattle.osm_base.specs.declared.values.object.Entry.{Entry}
use Rattle.outside.specs.Bytes.{BothKnown, IfTold}
use Rattle.outside.specs.Causes.{Rose}
use Rattle.outside.specs.Inputs.{FilesView}
use Rattle.outside.specs.Sink.{SinkView}
use Rattle.outside.specs.declared.disk.Disk.{Ghosts}
use Rattle.opl_files.specs.Entries.{entries_of}
use Rattle.opl_files.specs.Reading.{HasEntries, IsFaultOf}
use Rattle.outside.specs.Reads.{IsReadAlone}
use Rattle.opl_files.specs.Stops.{Stops}
use Rattle.opl_files.specs.declared.fault.FileFault.{FileFault}
use Rattle.opl_files.specs.declared.fault.FileFault.TheVariants as file_faults
use Rattle.change_pipe.specs.Files.{AreRead, ReadsAmong}
use Rattle.change_pipe.specs.Parcels.{HasFailed, IsAtEnd, IsReadAs, IsReadFault, IsWhole, IsWholeBody}
use Rattle.change_pipe.specs.declared.parcel.Parcel.{Parcel}
use Rattle.change_pipe.specs.declared.parcel.ParcelBody.{ParcelBody}
use Rattle.change_pipe.specs.declared.parcel.ParcelBody.TheVariants.{Whole, Refused}
use Rattle.change_pipe.proofs.ParcelLaws.{all_last, parcels_last, read_front}
use Rattle.tile_cover.specs.Table.{BoundsOf}
use Rattle.page_journal.specs.Crash.{IsAtRest}
use Rattle.page_journal.specs.declared.fault.StoreFault.TheVariants as stores
use Rattle.update_flow.specs.Handle.{Handle, IsOpen, is_imported, is_old, view_of}
use Rattle.update_flow.specs.State.{Append, Holding, changed, imported}
use Rattle.update_flow.specs.Updater.{handle_of}
use Rattle.update_flow.specs.declared.updater.Updater.{Updater}
use Rattle.update_flow.specs.declared.fault.FlowFault.{FlowFault}
use Rattle.update_flow.specs.declared.fault.FlowFault.TheVariants as flow
use Rattle.run_promise.specs.declared.fault.Fault.{Fault}
use Rattle.run_promise.specs.declared.fault.Fault.TheVariants as faults
use Rattle.run_promise.specs.Ahead.{IsOwnFault, IsReadAhead}
use Rattle.run_promise.specs.Course.{Course, commits, tells}
use Rattle.run_promise.specs.Courses.{appends, appends_one, onward, version_line}
use Rattle.run_promise.specs.Faults.{flow_fault}
use Rattle.run_promise.specs.Files.{IsChange}
use Rattle.run_promise.specs.Progress.{Progress}
use Rattle.run_promise.specs.World.{Before, world}
use Rattle.run_promise.proofs.AheadLaws.{none_ahead}
use Rattle.updater.specs.Ahead.{AppendsAhead, AppendsLocally, AppendsTaken, AreTaken, EndsBy, HasBecome, IsSeen, SeesAhead, TakesChanges}
use Rattle.updater.specs.FileReads.{Among}
use Rattle.updater.specs.Heads.{GoesOn, IsHead, IsVersion, Leads}
use Rattle.updater.specs.Versions.{AppendsHere, AppendsSoFar}
use Rattle.updater.proofs.AppendRuns.{appends-step, ends_in_version, first_version, last_version, next_version}
use Rattle.updater.proofs.FileLaws.{change_read, change_unread}
use Rattle.updater.proofs.HeadLaws.{stops_in_file}
use Rattle.updater.proofs.LocalLaws.{appends_begin, appends_end, appends_next}
use Rattle.updater.proofs.StoreDeeds.{IsRefusedSo}

-- something was imported into a store, in the format of today
pub takes_changes : (store : Handle) → is_imported store ≡ true → is_old store ≡ false → TakesChanges store
takes_changes store begun current = record { begun = begun; current = current }

-- a store that takes changes refuses one for no fault of a file
pub own_refusal : (bounds : BoundsOf) (change : List Entry) (fault : FlowFault) (before now : Handle)
    → IsRefusedSo (Some (Append bounds change)) fault before now → TakesChanges before → IsOwnFault (Some (flow_fault fault))
own_refusal bounds change (flow.Store stores.NotFormatted) before now so takes = absurd so.alone
own_refusal bounds change (flow.Store stores.NotEmpty) before now so takes = absurd so.alone
own_refusal bounds change (flow.Store stores.OutOfMemory) before now so takes = tt
own_refusal bounds change (flow.Store (stores.BadStore page)) before now so takes = tt
own_refusal bounds change (flow.Store (stores.StoreFull pages)) before now so takes = tt
own_refusal bounds change (flow.Store stores.DiskFault) before now so takes = tt
own_refusal bounds change (flow.Store stores.Broken) before now so takes = tt
own_refusal bounds change flow.NotImported before now so takes =
    let is = so.unbegun refl in let begun = takes.begun in absurd (cc)
own_refusal bounds change flow.AlreadyImported before now so takes = absurd so.told
own_refusal bounds change flow.OldFormat before now so takes = let is = so.not_old refl in let current = takes.current in absurd (cc)
own_refusal bounds change flow.LastChange before now so takes = tt
own_refusal bounds change (flow.TooMany value) before now so takes = tt
own_refusal bounds change flow.OutOfMemory before now so takes = tt

-- a file that was read to its end, and what it holds
has_entries : (entries : List Entry) (left rest : Option (List ℕ)) → IfTold left (λ bytes. entries_of standard bytes ≡ Ok entries)
    → BothKnown left rest (λ bytes later. later ≡ []) → HasEntries standard entries left rest
has_entries entries None rest told end = tt
has_entries entries (Some bytes) None told end = end
has_entries entries (Some bytes) (Some later) told end = (told bytes refl, end)

-- why one was not
stops_so : (R : Type 0) (fault : FileFault) (left : Option (List ℕ)) → Stops (IsFaultOf standard left) (Unit {0}) fault
    → (IsReadFault (Refused fault) → R) → Stops (IsFaultOf standard left) R fault
stops_so R (file_faults.Malformed line why) left stops rose = stops
stops_so R (file_faults.Limit which value) left stops rose = stops
stops_so R file_faults.ReadFault left stops rose = rose tt
stops_so R file_faults.OutOfMemory left stops rose = tt

-- the count of faults behind a file
abbrev pub faults_after : FilesView → FilesView → ParcelBody → ℕ
faults_after own now (Whole entries) = own.faults
faults_after own now (Refused fault) = now.faults

pub faults_whole : (own now : FilesView) (body : ParcelBody) → IsWholeBody body → faults_after own now body ≡ own.faults
faults_whole own now (Whole entries) whole = refl
faults_whole own now (Refused fault) whole = absurd whole

faults_within : (own now : FilesView) (body : ParcelBody) → own.faults ≤ now.faults
    → (own.faults ≤ faults_after own now body) × (faults_after own now body ≤ now.faults)
faults_within own now (Whole entries) later = (omega arith, later)
faults_within own now (Refused fault) later = (later, omega arith)

-- a parcel whose file could not be read is one of all
failed_last : (parcels : List Parcel) (parcel : Parcel) → IsReadFault parcel.body → HasFailed (parcels ++ parcel ∷ [])
failed_last [] parcel failed = inl failed
failed_last (one ∷ parcels) parcel failed = inr (failed_last parcels parcel failed)

-- no file is taken yet
pub seen_none : (first : ℕ) (own now : FilesView) → own.faults ≤ now.faults → IsSeen first first own now own
seen_none first own now later = record {
  below = λ file low. refl;
  taken = λ file low high. absurd (omega (arith, low, high));
  behind = λ file high. refl;
  rises = omega arith;
  later = later;
}

-- those that were taken before the last one
pub taken_front : (first count : ℕ) (own now : FilesView) (parcels : List Parcel) (parcel : Parcel)
    → AreTaken first count own now (parcels ++ parcel ∷ []) → AreTaken first count own now parcels
taken_front first count own now parcels parcel taken = record {
  read = read_front standard first (first + count) own now (parcels ++ parcel ∷ []) parcels parcels (parcel ∷ []) refl refl taken.read;
  later = taken.later;
}

-- one file more is taken
module _ (first count file : ℕ) (own now seen : FilesView) (parcels : List Parcel) (parcel : Parcel) (many : first + length parcels ≡ file)
    (taken : AreTaken first count own now (parcels ++ parcel ∷ [])) (is : IsSeen first file own now seen)
    (still : seen.faults ≡ own.faults) where
  -- the files as they are seen then
  abbrev pub seen_next : FilesView
  seen_next = record {
    left = λ other. cond (eqb other file) (now.left file) (seen.left other);
    faults = faults_after own now parcel.body;
  }

  within : (own.faults ≤ faults_after own now parcel.body) × (faults_after own now parcel.body ≤ now.faults)
  within = faults_within own now parcel.body taken.later

  here : seen_next.left file ≡ now.left file
  here = ap (λ (b : Bool). cond b (now.left file) (seen.left file)) (eq-eqb file file refl)

  elsewhere : (other : ℕ) → other ≢ file → seen_next.left other ≡ seen.left other
  elsewhere other apart = ap (λ (b : Bool). cond b (now.left file) (seen.left other)) (ne_eqb other file apart)

  alone : IsReadAlone file seen seen_next
  alone = record { others = elsewhere; later = let low = within.0 in omega (arith, still, low) }

  pub seen_more : IsSeen first (file + 1) own now seen_next
  seen_more = record {
    below = λ other low. elsewhere other (λ same. omega (arith, same, low, many)) ∙ is.below other low;
    taken = λ other low high. ⊎_elim
        (λ same. subst (λ (at : ℕ). seen_next.left at ≡ now.left at) (sym same.1) here)
        (λ apart. elsewhere other apart.1 ∙ is.taken other low
        (let not : other ≢ file = apart.1 in ⊎_elim (λ le. absurd (not (omega (arith, high, le.1)))) (λ lt. lt.1) (leb_tells file other)))
        (eqb_tells other file);
    behind = λ other high. elsewhere other (λ same. omega (arith, same, high)) ∙ is.behind other (omega (arith, high));
    rises = within.0;
    later = within.1;
  }

  own_is : (parcel.file ≡ file) × IsReadAs standard (own.left file) parcel.body
  own_is = let last = parcels_last standard own parcel parcels first file many taken.read.are in (last.0, last.1)

  at_end : IsWhole parcel → BothKnown (own.left file) (now.left file) (λ bytes later. later ≡ [])
  at_end whole = subst (λ (at : ℕ). BothKnown (own.left at) (now.left at) (λ bytes later. later ≡ [])) own_is.0
      (all_last (IsAtEnd own now) parcels parcel taken.read.at_end whole)

  rose : IsReadFault parcel.body → Rose seen.faults now.faults
  rose failed = let rose = taken.read.rose (failed_last parcels parcel failed) in omega (arith, still, rose)

  was : own.left file ≡ seen.left file
  was = sym (is.behind file (omega arith))

  abbrev Become : ParcelBody → FilesView → Type 0
  Become body next = HasBecome file body seen next

  become_so : (body : ParcelBody) (next : FilesView) → IsReadAs standard (own.left file) body
      → (IsWholeBody body → BothKnown (own.left file) (next.left file) (λ bytes later. later ≡ []))
      → (IsReadFault body → Rose seen.faults next.faults) → IsReadAlone file seen next → Become body next
  become_so (Whole entries) next read end rose alone = change_read file entries seen next
      (subst (λ (left : Option (List ℕ)). HasEntries standard entries left (next.left file)) was
      (has_entries entries (own.left file) (next.left file) read (end tt))) alone
  become_so (Refused fault) next read end rose alone = change_unread file fault seen next
      (subst (λ (left : Option (List ℕ)). Stops (IsFaultOf standard left) (Rose seen.faults next.faults) fault) was
      (stops_so (Rose seen.faults next.faults) fault (own.left file) read rose)) alone

  failed_after : (body : ParcelBody) → IsReadFault body → faults_after own now body ≡ now.faults
  failed_after (Whole entries) failed = absurd failed
  failed_after (Refused fault) failed = refl

  -- the file has become what it was read as
  pub become_next : HasBecome file parcel.body seen seen_next
  become_next = become_so parcel.body seen_next own_is.1
      (λ whole. subst (λ (rest : Option (List ℕ)). BothKnown (own.left file) rest (λ bytes later. later ≡ [])) (sym here) (at_end whole))
      (λ failed. let rose = rose failed in let same = failed_after parcel.body failed in omega (arith, rose, same)) alone

-- Of the files that were read ahead none was touched that may not be.
module _ (first count : ℕ) (asks : List ℕ → Type 0) (own now seen : FilesView) (parcels : List Parcel)
    (read : AreRead standard first (first + count) own now parcels) (among : ReadsAmong first (first + count) asks own now)
    (is : IsSeen first (first + length parcels) own now seen) where
  unseen : (file : ℕ) → first + length parcels ≤ file → now.left file ≡ own.left file → now.left file ≡ seen.left file
  unseen file high same = same ∙ sym (is.behind file high)

  behind : (fault : Option Fault) → EndsBy fault count parcels → (file : ℕ) → first + length parcels ≤ file → file < first + count
      → ¬ (IsOwnFault fault × Among first count file) → now.left file ≡ own.left file
  behind None ends file high low not = absurd (let many : length parcels ≡ count = ends in omega (arith, high, low, many))
  behind (Some fault) ends file high low not = ⊎_elim (λ (by : IsOwnFault (Some fault)). absurd (not (by, (omega (arith, high), low))))
      (λ refused. read.last refused file high) ends

  others : (fault : Option Fault) → EndsBy fault count parcels → (file : ℕ) → ¬ (IsOwnFault fault × Among first count file)
      → now.left file ≡ seen.left file
  others fault ends file not = ⊎_elim
      (λ le. ⊎_elim (λ far. unseen file le.1 (among.others file (inr far.1)))
      (λ near. unseen file le.1 (behind fault ends file le.1 near.1 not)) (leb_tells (first + count) file))
      (λ lt. ⊎_elim (λ from. sym (is.taken file from.1 lt.1))
      (λ below. among.others file (inl below.1) ∙ sym (is.below file below.1)) (leb_tells first file))
      (leb_tells (first + length parcels) file)

  ended : (file : ℕ) → seen.left file ≡ Some [] → now.left file ≡ Some []
  ended file empty = ⊎_elim
      (λ le. among.ended file (sym (is.behind file le.1) ∙ empty))
      (λ lt. ⊎_elim (λ from. sym (is.taken file from.1 lt.1) ∙ empty)
      (λ below. among.ended file (sym (is.below file below.1) ∙ empty)) (leb_tells first file))
      (leb_tells (first + length parcels) file)

  pub ahead_so : (ahead : ℕ) (fault : Option Fault) → EndsBy fault count parcels → 1 ≤ ahead
      → IsReadAhead (λ file. (0 < ahead) × IsOwnFault fault × Among first count file) seen now
  ahead_so ahead fault ends some = record {
    others = λ file not. others fault ends file (λ may. not (omega (arith, some), may.0, may.1));
    ended = ended;
    later = is.later;
  }

-- the files so far are appended and told, over the files as they are seen
pub record AheadSoFar (bounds : BoundsOf) (first count file left : ℕ) (own now : FilesView) (before store : Handle)
    (output told : SinkView) : Type 0 where
  pub seen : FilesView
  pub still : seen.faults ≡ own.faults
  pub is : IsSeen first file own now seen
  pub turn : (old : Before) (start done : Progress) (held : Holding) → IsHead start done (imported held) first old own before output
      → IsVersion bounds held first count start done file left old seen store told
  pub local : (held : Holding) (pages : List (List ℕ)) → IsOpen (imported held) before → IsAtRest pages (view_of before)
      → AppendsSoFar bounds held pages first file own seen before store

-- none is yet
pub so_far_none : (bounds : BoundsOf) (first count left : ℕ) → left ≡ count → (own now : FilesView) (store : Handle) (output : SinkView)
    → own.faults ≤ now.faults → AheadSoFar bounds first count first left own now store store output output
so_far_none bounds first count left all own now store output later = record {
  seen = own;
  still = refl;
  is = seen_none first own now later;
  turn = λ old start done held head. first_version bounds held first count start done old left all own store output head;
  local = λ held pages is rests. appends_begin bounds held pages first own store is rests;
}

-- a file comes behind those so far
module _ (bounds : BoundsOf) (first count file left less : ℕ) (more : left ≡ suc less) (own now : FilesView) (before store after : Handle)
    (output told then : SinkView) (parcels : List Parcel) (parcel : Parcel) (many : first + length parcels ≡ file)
    (taken : AreTaken first count own now (parcels ++ parcel ∷ []))
    (so : AheadSoFar bounds first count file left own now before store output told) where
  -- the files as they are seen then
  abbrev next : FilesView
  next = seen_next first count file own now so.seen parcels parcel many taken so.is so.still

  abbrev becomes : HasBecome file parcel.body so.seen next
  becomes = become_next first count file own now so.seen parcels parcel many taken so.is so.still

  abbrev more_seen : IsSeen first (file + 1) own now next
  more_seen = seen_more first count file own now so.seen parcels parcel many taken so.is so.still

  -- and is appended and told
  pub so_far_next : IsWholeBody parcel.body
      → ((files read : FilesView) (old : Before) (start done : Progress) (held : Holding) → HasBecome file parcel.body files read
      → IsHead start done (imported held) file old files store told
      → Leads (λ last. appends_one bounds held file (onward last)) None start done (file + 1) old read after then)
      → ((files read : FilesView) (held : Holding) (pages : List (List ℕ)) → HasBecome file parcel.body files read
      → IsOpen (imported held) store → IsAtRest pages (view_of store) → AppendsHere bounds held pages file files read store after)
      → AheadSoFar bounds first count (file + 1) less own now before after output then
  so_far_next whole leads local = record {
    seen = next;
    still = faults_whole own now parcel.body whole;
    is = more_seen;
    turn = λ old start done held head.
        next_version bounds held first count start done old file left less more so.seen store told
        (so.turn old start done held head) next after
        then (λ old start done held head. leads so.seen next old start done held becomes head);
    local = λ held pages is rests.
        appends_next bounds held pages first file own so.seen next before store after (so.local held pages is rests)
        (λ at here is rests. local so.seen next at here becomes is rests);
  }

  -- or the run ends in it
  pub so_far_ends : (fault : Fault)
      → ((files read : FilesView) (old : Before) (start done : Progress) (held : Holding) → HasBecome file parcel.body files read
      → IsHead start done (imported held) file old files store told
      → Leads (λ last. appends_one bounds held file (onward last)) (Some fault) start done (file + 1) old read after then)
      → SeesAhead bounds first count (file + 1) (Some fault) own now before after output then
  so_far_ends fault leads = (
    next,
    more_seen,
    λ old start done held head.
        ends_in_version bounds held first count start done old file left less more so.seen store told
        (so.turn old start done held head) next
        after then fault (first + count) (λ old start done held head. leads so.seen next old start done held becomes head),
  )

-- all are
pub so_far_all : (bounds : BoundsOf) (first count file left : ℕ) → left ≡ 0 → file ≡ first + count → (own now : FilesView)
    (before store : Handle) (output told : SinkView) → AheadSoFar bounds first count file left own now before store output told
    → SeesAhead bounds first count file None own now before store output told
so_far_all bounds first count file left none end own now before store output told so = (
  so.seen,
  so.is,
  λ old start done held head.
      last_version bounds held first count start done old file left (first + count) none end so.seen store told
      (so.turn old start done held head),
)

whole_or : (body : ParcelBody) → IsWholeBody body ⊎ ¬ IsWholeBody body
whole_or (Whole entries) = inl tt
whole_or (Refused fault) = inr (λ whole. whole)

-- the run ended by the last one taken
pub ends_last : (fault : Fault) (count : ℕ) (parcels : List Parcel) (parcel : Parcel)
    → (IsWholeBody parcel.body → IsOwnFault (Some fault)) → EndsBy (Some fault) count (parcels ++ parcel ∷ [])
ends_last fault count parcels parcel own = ⊎_elim (λ whole. inl (own whole))
    (λ not. inr (λ all. not (all_last IsWhole parcels parcel all))) (whole_or parcel.body)

-- the same of a list of parcels that ends with this one
module _ (bounds : BoundsOf) (first count file left less : ℕ) (more : left ≡ suc less) (before store after : Handle)
    (output told then : SinkView) (parcels : List Parcel) (parcel : Parcel) (many : first + length parcels ≡ file)
    (so : (own now : FilesView) → AreTaken first count own now parcels
    → AheadSoFar bounds first count file left own now before store output told)
    (list : List Parcel) (is : list ≡ parcels ++ parcel ∷ []) where
  length_is : first + length list ≡ file + 1
  length_is = let size = ap length is ∙ length-append parcels (parcel ∷ []) in omega (arith, many, size)

  all : (own now : FilesView) → AreTaken first count own now list → AreTaken first count own now (parcels ++ parcel ∷ [])
  all own now taken = subst (AreTaken first count own now) is taken

  earlier : (own now : FilesView) → AreTaken first count own now list
      → AheadSoFar bounds first count file left own now before store output told
  earlier own now taken = so own now (taken_front first count own now parcels parcel (all own now taken))

  pub taken_more : IsWholeBody parcel.body
      → ((files read : FilesView) (old : Before) (start done : Progress) (held : Holding) → HasBecome file parcel.body files read
      → IsHead start done (imported held) file old files store told
      → Leads (λ last. appends_one bounds held file (onward last)) None start done (file + 1) old read after then)
      → ((files read : FilesView) (held : Holding) (pages : List (List ℕ)) → HasBecome file parcel.body files read
      → IsOpen (imported held) store → IsAtRest pages (view_of store) → AppendsHere bounds held pages file files read store after)
      → (own now : FilesView) → AreTaken first count own now list
      → AheadSoFar bounds first count (file + 1) less own now before after output then
  taken_more whole leads local own now taken =
      so_far_next bounds first count file left less more own now before store after output told then parcels parcel many (all own now taken)
      (earlier own now taken) whole leads local

  pub taken_ends : (fault : Fault) → (IsWholeBody parcel.body → IsOwnFault (Some fault))
      → ((files read : FilesView) (old : Before) (start done : Progress) (held : Holding) → HasBecome file parcel.body files read
      → IsHead start done (imported held) file old files store told
      → Leads (λ last. appends_one bounds held file (onward last)) (Some fault) start done (file + 1) old read after then)
      → AppendsTaken bounds first count (Some fault) list before after output then
  taken_ends fault own leads = record {
    leads = λ before_all now taken.
        subst (λ (at : ℕ). SeesAhead bounds first count at (Some fault) before_all now before after output then) (sym length_is)
        (so_far_ends bounds first count file left less more before_all now before store after output told then parcels parcel many
        (all before_all now taken) (earlier before_all now taken) fault leads);
    local = λ none. absurd (cc);
    ends = subst (EndsBy (Some fault) count) (sym is) (ends_last fault count parcels parcel own);
  }

-- all were taken
pub taken_all : (bounds : BoundsOf) (first count file left : ℕ) → left ≡ 0 → file ≡ first + count → (before store : Handle)
    (output told : SinkView) (parcels : List Parcel) → first + length parcels ≡ file
    → ((own now : FilesView) → AreTaken first count own now parcels
    → AheadSoFar bounds first count file left own now before store output told)
    → AppendsTaken bounds first count None parcels before store output told
taken_all bounds first count file left none end before store output told parcels many so = record {
  leads = λ own now taken.
      subst (λ (at : ℕ). SeesAhead bounds first count at None own now before store output told) (sym many)
      (so_far_all bounds first count file left none end own now before store output told (so own now taken));
  local = λ is own now taken held pages opened rests.
      appends_end bounds held pages first count file own (so own now taken).seen before store end
      ((so own now taken).local held pages opened rests);
  ends = omega (arith, many, end);
}

-- memory may run out before a file is read
short_appends : (bounds : BoundsOf) (held : Holding) (first count less : ℕ) → count ≡ suc less → (start done : Progress) (old : Before)
    (files : FilesView) (store : Handle) (output : SinkView) → IsHead start done (imported held) first old files store output
    → Leads (λ last. appends bounds held first count (onward last)) (Some faults.OutOfMemory) start done
    (first + count) old files store output
short_appends bounds held first count less is start done old files store output head last =
    subst (λ (own : Course). GoesOn own start done (Some faults.OutOfMemory) old (world files (view_of store) output))
    (sym (appends-step bounds held first count less (onward last) is))
    (stops_in_file start done (imported held) first old files store output head (IsChange first) first
    (omega arith) files faults.OutOfMemory
    (record { why = tt; alone = record { others = λ other apart. refl; later = omega arith } })
    (λ change. commits (Append bounds change)
    (tells (version_line (held.changes + 1)) (appends bounds (changed bounds change held) (first + 1) less (onward last)))))

-- no file was asked for
pub among_none : (first end : ℕ) (asks : List ℕ → Type 0) (files : FilesView) → asks [] → ReadsAmong first end asks files files
among_none first end asks files none = record {
  asked = ([], none, tt);
  others = λ other beside. refl;
  ended = λ file end. end;
  later = omega arith;
}

module _ (bounds : BoundsOf) (first count ahead : ℕ) (some : 1 ≤ ahead) (own now : FilesView) where
  -- no pipe could be made, or nobody took: files may be read, and none was appended
  pub short_ahead : {D S : Type 0} {g : Ghosts D} (view : S → SinkView) (less : ℕ) → count ≡ suc less → (asks : List ℕ → Type 0)
      (store after : Updater D g) (output told : S) → ReadsAmong first (first + count) asks own now → after ≡ store → told ≡ output
      → AppendsAhead bounds first count ahead (Some faults.OutOfMemory) own now (handle_of store) (handle_of after) (view output)
      (view told)
  short_ahead {D} {S} {g} view less is asks store after output told among same_store same_output =
      subst (λ (last : Updater D g).
      AppendsAhead bounds first count ahead (Some faults.OutOfMemory) own now (handle_of store) (handle_of last) (view output) (view told))
      (sym same_store)
      (subst (λ (last : S).
      AppendsAhead bounds first count ahead (Some faults.OutOfMemory) own now (handle_of store) (handle_of store) (view output) (view last))
      (sym same_output) (record {
        seen = own;
        read = record {
          others = λ file not. ⊎_elim
              (λ far. among.others file (inr far.1))
              (λ near. ⊎_elim
              (λ from. absurd (not (omega (arith, some), tt, (from.1, near.1))))
              (λ below. among.others file (inl below.1)) (leb_tells first file))
              (leb_tells (first + count) file);
          ended = among.ended;
          later = among.later;
        };
        leads = λ old start done held head. short_appends bounds held first count less is start done old own (handle_of store)
            (view output) head;
      }))

  -- what was taken is a front of what was read
  pub appends_front : (limits : LimitNumbers) → limits ≡ standard → (fault : Option Fault) (asks : List ℕ → Type 0)
      (put got rest : List Parcel)
      → put ≡ got ++ rest → AreRead limits first (first + count) own now put → ReadsAmong first (first + count) asks own now
      → (before after : Handle) (output told : SinkView) → AppendsTaken bounds first count fault got before after output told
      → AppendsAhead bounds first count ahead fault own now before after output told
      × (fault ≡ None → AppendsLocally bounds first count own before after)
  appends_front limits is fault asks put got rest order read among before after output told appends =
      let taken : AreTaken first count own now got = record {
        read = read_front standard first (first + count) own now put got got rest order refl
            (subst (λ (numbers : LimitNumbers). AreRead numbers first (first + count) own now put) is read);
        later = among.later;
      } in
      let led = appends.leads own now taken in (
        record {
          seen = led.0;
          read = ahead_so first count asks own now led.0 got taken.read among led.1 ahead fault appends.ends some;
          leads = led.2;
        },
        λ none. appends.local none own now taken,
      )

-- where a run ends well
pub where_none : {T E : Type 0} (result : Result T E) (P : Type 0) → (result_err result ≡ None → P) → OnOk result P
where_none (Ok value) P own = own refl
where_none (Err fault) P own = tt

-- nobody read ahead, and each file is read in its turn
pub each_in_turn : {I D S : Type 0} {g : Ghosts D} (files : I → FilesView) (view : S → SinkView) (bounds : BoundsOf) (first count ahead : ℕ)
    (fault : Option Fault) (inputs again : I) (last : FilesView) (store same : Updater D g) (after : Handle) (output told : S)
    (then : SinkView) → again ≡ inputs → same ≡ store → told ≡ output
    → ((old : Before) (start done : Progress) (held : Holding)
    → IsHead start done (imported held) first old (files again) (handle_of same) (view told)
    → Leads (λ last. appends bounds held first count (onward last)) fault start done (first + count) old last after then)
    → AppendsAhead bounds first count ahead fault (files inputs) last (handle_of store) after (view output) then
each_in_turn {I} {D} {S} {g} files view bounds first count ahead fault inputs again last store same after output told then is_inputs is_store
    is_output leads = record {
      seen = last;
      read = none_ahead _ last;
      leads = λ old start done held head. leads old start done held
          (subst (λ (own : I). IsHead start done (imported held) first old (files own) (handle_of same) (view told)) (sym is_inputs)
          (subst (λ (own : Updater D g). IsHead start done (imported held) first old (files inputs) (handle_of own) (view told))
          (sym is_store)
          (subst (λ (own : S). IsHead start done (imported held) first old (files inputs) (handle_of store) (view own))
          (sym is_output) head)));
    }

-- what was taken, by what is known of it behind the join
pub taken_so : {D : Type 0} {g : Ghosts D} (bounds : BoundsOf) (first count : ℕ) (found : Option (Option Fault)) (fault : Option Fault)
    → found ≡ Some fault → (list own : List Parcel) (before : Handle) (after now : Updater D g) (output told then : SinkView)
    → IfSome found (λ fault. AppendsTaken bounds first count fault list before (handle_of after) output told)
    → own ≡ list → now ≡ after → then ≡ told
    → AppendsTaken bounds first count fault own before (handle_of now) output then
taken_so {D} {g} bounds first count found fault is list own before after now output told then taken same_list same_after same_told =
    subst (λ (list : List Parcel). AppendsTaken bounds first count fault list before (handle_of now) output then) (sym same_list)
    (subst (λ (store : Updater D g). AppendsTaken bounds first count fault list before (handle_of store) output then) (sym same_after)
    (subst (λ (output_now : SinkView). AppendsTaken bounds first count fault list before (handle_of after) output output_now)
    (sym same_told)
    (subst (λ (told_found : Option (Option Fault)).
    IfSome told_found (λ fault. AppendsTaken bounds first count fault list before (handle_of after) output told)) is taken)))
