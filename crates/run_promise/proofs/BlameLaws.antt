-- What each ending of a course tells: of files that are read in turn, and of something that is to blame.
use Rattle.std.proofs.Common.{◌≡◌, ◌≢◌, ◌≤◌, ◌<◌, ◌+◌, ◌⊎◌, ℕ, zero, suc, Option, Some, None, List, [], ◌∷◌, ◌++◌, length, Result, Ok}
use Rattle.std.proofs.Common.{Err, ⊎_elim, inl, inr, refl, sym, ◌∙◌, ap, subst, arith}
use Rattle.std.proofs.lemmas.Bool.{cases_lt}
use Rattle.osm_base.specs.declared.values.object.Entry.{Entry}
use Rattle.osm_base.specs.declared.bounds.limits.LimitKind.{LimitKind}
use Rattle.osm_base.specs.declared.bounds.limits.LimitKind.TheVariants as kinds
use Rattle.outside.specs.Bytes.{IfTold}
use Rattle.page_journal.specs.Home.{IsFormatted}
use Rattle.run_promise.specs.declared.fault.Fault.{Fault}
use Rattle.run_promise.specs.declared.fault.Fault.TheVariants as faults
use Rattle.osm_base.specs.bounds.Limits.{standard}
use Rattle.page_journal.specs.declared.fault.StoreFault.TheVariants as stores
use Rattle.update_flow.specs.History.{state_after}
use Rattle.update_flow.specs.Opening.{MayOpenAs}
use Rattle.update_flow.specs.Refusals.{OrFull, Refuses}
use Rattle.delta_feed.specs.declared.block.Block.{Block}
use Rattle.delta_feed.specs.declared.block.Block.TheVariants as blocks
use Rattle.update_flow.specs.State.{State, formatted, imported, outdated, following, Step, Import, Append, Clear, Migrate, Follow}
use Rattle.update_flow.specs.State.{after, changes_in}
use Rattle.update_flow.specs.declared.fault.FlowFault.{FlowFault}
use Rattle.update_flow.specs.declared.fault.FlowFault.TheVariants as flow
use Rattle.run_promise.specs.Causes.{IsStoreLimit}
use Rattle.run_promise.specs.Comes.{Breaks, BreaksIn, BreaksWithin, Comes, FollowsTo, HoldsBytes, IsBadStore, IsBroken, IsNoStore, IsOfFeed}
use Rattle.run_promise.specs.Comes.{IsOfFile, IsRefusal, IsRefusedFor, IsRefusedWithin, IsStepFault, MayTake, TakesWithin, TellsWithin}
use Rattle.run_promise.specs.Comes.{refused, short, unread}
use Rattle.run_promise.specs.Course.{Course, ends, refuses, reads, wants_empty, formats, opens, looks, commits, tells, writes, feeds}
use Rattle.run_promise.specs.Course.{follows}
use Rattle.run_promise.specs.Courses.{gathers, version_line}
use Rattle.run_promise.specs.Faults.{flow_fault}
use Rattle.run_promise.specs.Files.{IsChange}
use Rattle.run_promise.specs.Followed.{FeedEnd, IsFeed, over, stopped, unseen}
use Rattle.run_promise.specs.InTurn.{FaultNames}
use Rattle.run_promise.specs.Keeps.{first, perhaps, whole, with_step}
use Rattle.run_promise.specs.Progress.{Standing, unknown, keeps, half_made, Progress, Ending, at, at_file, at_text, past, plus, with_store}
use Rattle.run_promise.specs.Progress.{made, opened, committed, in_doubt, within_file, IsIn}
use Rattle.run_promise.specs.World.{Before}
use Rattle.run_promise.proofs.CourseLaws.{of_store, of_unknown, of_unused, three}

-- What a command asks of its files and its disk: the files are those from one number to before another; each is accepted, or has
-- such faults; it writes nothing before all are read, or may; and it has a store, which it makes or opens, and of which it may want
-- this format.
pub record Terms : Type 1 where
  pub from : ℕ
  pub end : ℕ
  pub accepts : ℕ → List ℕ → Type 0
  pub faulty : ℕ → List ℕ → Fault → Type 0
  pub early : Type 0
  pub store : Type 0
  pub makes : Type 0
  pub opening : Type 0
  pub uses : Type 0
  pub owns : makes → store

-- a fault that tells of a damaged page is one that names it
is_bad : (fault : FlowFault) → IsBadStore fault → (page : ℕ) × (fault ≡ flow.Store (stores.BadStore page))
is_bad (flow.Store (stores.BadStore page)) bad = (page, refl)
is_bad (flow.Store stores.NotFormatted) bad = absurd bad
is_bad (flow.Store stores.NotEmpty) bad = absurd bad
is_bad (flow.Store stores.DiskFault) bad = absurd bad
is_bad (flow.Store (stores.StoreFull pages)) bad = absurd bad
is_bad (flow.Store stores.Broken) bad = absurd bad
is_bad (flow.Store stores.OutOfMemory) bad = absurd bad
is_bad flow.NotImported bad = absurd bad
is_bad flow.AlreadyImported bad = absurd bad
is_bad flow.OldFormat bad = absurd bad
is_bad flow.LastChange bad = absurd bad
is_bad (flow.TooMany value) bad = absurd bad
is_bad flow.OutOfMemory bad = absurd bad

bad_step : (call : Option Step) (fault : FlowFault) → IsBadStore fault → IsStepFault call fault
bad_step call fault bad = let is = is_bad fault bad in subst (IsStepFault call) (sym is.1) tt

-- no state refuses a step for that
page_refuses : (state : State) (step : Step) (page : ℕ) (P : Type 0)
    → Refuses standard state step (Some (flow.Store (stores.BadStore page))) → P
page_refuses formatted (Import style bytes buckets entries) page P h = absurd (cc)
page_refuses formatted (Append bounds change) page P h = absurd (cc)
page_refuses formatted Clear page P h = absurd (cc)
page_refuses formatted Migrate page P h = absurd (cc)
page_refuses (imported held) (Import style bytes buckets entries) page P h = absurd (cc)
page_refuses (imported held) (Append bounds change) page P h = absurd h
page_refuses (imported held) Clear page P h = absurd (cc)
page_refuses (imported held) Migrate page P h = absurd (cc)
page_refuses (outdated held) (Import style bytes buckets entries) page P h = absurd (cc)
page_refuses (outdated held) (Append bounds change) page P h = absurd (cc)
page_refuses (outdated held) Clear page P h = absurd (cc)
page_refuses (outdated held) Migrate page P h = absurd (cc)
page_refuses formatted (Follow (blocks.Full version style_bytes style rows)) page P h = absurd (cc)
page_refuses formatted (Follow (blocks.Delta delta)) page P h = absurd (cc)
page_refuses (imported held) (Follow block) page P h = absurd h
page_refuses (outdated held) (Follow block) page P h = absurd h
page_refuses (following held) (Import style bytes buckets entries) page P h = absurd h
page_refuses (following held) (Append bounds change) page P h = absurd h
page_refuses (following held) Clear page P h = absurd h
page_refuses (following held) Migrate page P h = absurd h
page_refuses (following held) (Follow block) page P h = absurd (cc)

bad_refuses : (state : State) (step : Step) (fault : FlowFault) (P : Type 0) → IsBadStore fault
    → OrFull standard (Some fault) (Refuses standard state step (Some fault)) → P
bad_refuses state step fault P bad h =
    let is = is_bad fault bad in
    page_refuses state step is.0 P (subst (λ (own : FlowFault). OrFull standard (Some own) (Refuses standard state step (Some own))) is.1 h)

-- a fault of the state of a store
abbrev pub IsOfState : Terms → Fault → Type 0
IsOfState terms faults.NotImported = terms.store
IsOfState terms faults.AlreadyImported = terms.store
IsOfState terms faults.OldFormat = terms.uses
IsOfState terms faults.Follower = terms.opening
IsOfState terms faults.UnknownTable = terms.opening
IsOfState terms _ = ⊥

-- A course reads these files in turn, from this one on; as long as `quiet` holds, nothing was written.
abbrev pub KeepsTo : Terms → (file : ℕ) → (quiet : Type 0) → Course → Type 0
KeepsTo terms file quiet ends = Unit {0}
KeepsTo terms file quiet (refuses fault) = IsOfState terms fault
KeepsTo terms file quiet (reads {A} own Reads rest) = (own ≡ file) × (file < terms.end) × (terms.early → quiet)
    × ((bytes : List ℕ) (fault : Fault) → Reads bytes (Err fault) → terms.faulty own bytes fault)
    × ((bytes : List ℕ) (found : A) → Reads bytes (Ok found) → terms.accepts own bytes)
    × ((found : A) → KeepsTo terms (file + 1) quiet (rest found))
KeepsTo terms file quiet (wants_empty rest) = terms.makes × KeepsTo terms file quiet rest
KeepsTo terms file quiet (formats rest) = terms.makes × terms.store × KeepsTo terms file quiet rest
KeepsTo terms file quiet (opens rest) = terms.opening × terms.store × ((state : State) → KeepsTo terms file quiet (rest state))
KeepsTo terms file quiet (looks rest) = terms.store × KeepsTo terms file quiet rest
KeepsTo terms file quiet (commits step rest) = terms.store × KeepsTo terms file quiet rest
KeepsTo terms file quiet (tells text rest) = KeepsTo terms file ⊥ rest
KeepsTo terms file quiet (writes Fits rest) = KeepsTo terms file ⊥ rest
KeepsTo terms file quiet (feeds Fits rest) = KeepsTo terms file ⊥ rest
-- each block of a feed is told before the next one is read
KeepsTo terms file quiet (follows own state rest) = (own ≡ file) × (file < terms.end) × (terms.early → ⊥) × terms.store
    × ((bytes : List ℕ) (told : List Block) (fault : Fault) → IsFeed own state bytes told (stopped fault) → terms.faulty own bytes fault)
    × ((bytes : List ℕ) (told : List Block) → IsFeed own state bytes told over → terms.accepts own bytes)
    × ((next : State) → KeepsTo terms (file + 1) ⊥ (rest next))

-- a file of the terms has this fault, where it is told
abbrev pub FileHas : Terms → Before → ℕ → Fault → Type 0
FileHas terms old file fault = (terms.from ≤ file) × (file < terms.end) × IfTold (old.left file) (λ bytes. terms.faulty file bytes fault)

abbrev pub IsOver : Terms → Before → LimitKind → ℕ → Type 0
IsOver terms old which value = (IsStoreLimit which × terms.store) ⊎ ((file : ℕ) × FileHas terms old file (faults.Limit which value))

-- what a fault blames, as the bytes that are told and the words show it
abbrev pub Blame : Terms → Before → Option Fault → Type 0
Blame terms old None = Unit {0}
Blame terms old (Some faults.Usage) = ⊥
Blame terms old (Some (faults.Malformed file line why)) = FileHas terms old file (faults.Malformed file line why)
Blame terms old (Some (faults.BadStyle file why part)) = FileHas terms old file (faults.BadStyle file why part)
Blame terms old (Some (faults.BadBounds file line)) = FileHas terms old file (faults.BadBounds file line)
Blame terms old (Some (faults.BadQuery file line why)) = FileHas terms old file (faults.BadQuery file line why)
Blame terms old (Some (faults.BadFeed file line why)) = FileHas terms old file (faults.BadFeed file line why)
Blame terms old (Some (faults.Gap file have got)) = FileHas terms old file (faults.Gap file have got)
Blame terms old (Some (faults.Limit which value)) = IsOver terms old which value
Blame terms old (Some (faults.ReadFault file)) = (terms.from ≤ file) × (file < terms.end)
Blame terms old (Some faults.NotFormatted) = terms.opening × IfTold old.content (λ bytes. ¬ IsFormatted bytes)
Blame terms old (Some faults.NotImported) = terms.store
Blame terms old (Some faults.AlreadyImported) = terms.store
Blame terms old (Some faults.OldFormat) = terms.uses
Blame terms old (Some faults.Follower) = terms.opening
Blame terms old (Some faults.UnknownTable) = terms.opening
Blame terms old (Some (faults.BadStore page)) = terms.store × IfTold old.content (λ _. terms.opening)
Blame terms old (Some faults.NotEmpty) = terms.makes × IfTold old.content (λ bytes. length bytes ≢ 0)
Blame terms old (Some faults.WriteFault) = Unit {0}
Blame terms old (Some faults.DiskFault) = terms.store
Blame terms old (Some faults.OutOfMemory) = Unit {0}

-- the files before this one were read, and are accepted where they are told; and no other was
pub record IsUpTo (terms : Terms) (old : Before) (file : ℕ) (quiet : Type 0) (done : Progress) : Type 0 where
  pub low : terms.from ≤ file
  pub high : file ≤ terms.end
  pub read : (other : ℕ) → terms.from ≤ other → other < file → IsIn done.read other
  pub accepted : (other : ℕ) → terms.from ≤ other → other < file → IfTold (old.left other) (terms.accepts other)
  pub only : (other : ℕ) → IsIn done.read other → (terms.from ≤ other) × (other < file)
  pub unwritten : quiet → done.written ≡ []
  -- a store of which nothing is known, though its disk tells what it holds, was there
  pub vague : done.store ≡ unknown → IfTold old.content (λ _. terms.opening)

-- the file that an ending was reading comes next, and nothing was written but by a command that may; a text is told by half only where the
-- output failed
pub record IsNext (terms : Terms) (file : ℕ) (ending : Ending) (other : ℕ) : Type 0 where
  pub same : other ≡ file
  pub within : file < terms.end
  pub unwritten : terms.early → ending.done.written ≡ []
  pub unbegun : ending.fault ≢ Some faults.WriteFault → ending.writing ≡ []

-- what an ending tells
pub record Tells (terms : Terms) (old : Before) (ending : Ending) : Type 0 where
  pub file : ℕ
  pub up_to : IsUpTo terms old file ⊥ ending.done
  pub reading : (other : ℕ) → Some other ≡ ending.reading → IsNext terms file ending other
  pub blame : Blame terms old ending.fault
  pub names : (other : ℕ) → FaultNames ending.fault other → ending.reading ≡ Some other

module _ (terms : Terms) (old : Before) where
  abbrev UpTo : ℕ → Type 0 → Progress → Type 0
  UpTo file quiet done = IsUpTo terms old file quiet done

  is_told : (ending own : Ending) → ending ≡ own → Tells terms old own → Tells terms old ending
  is_told ending own is told = subst (Tells terms old) (sym is) told

  -- at the end something may have been written
  loud : (file : ℕ) (quiet : Type 0) (done : Progress) → UpTo file quiet done → UpTo file ⊥ done
  loud file quiet done up = record {
    low = up.low;
    high = up.high;
    read = up.read;
    accepted = up.accepted;
    only = up.only;
    unwritten =
        λ h. absurd h;
    vague = up.vague;
  }

  -- a text was written
  written : (file : ℕ) (quiet : Type 0) (text : List ℕ) (done : Progress) → UpTo file quiet done → UpTo file ⊥ (plus text done)
  written file quiet text done up = record {
    low = up.low;
    high = up.high;
    read = up.read;
    accepted = up.accepted;
    only = up.only;
    unwritten = λ h. absurd h;
    vague = up.vague;
  }

  -- the disk stands otherwise
  stood : (file : ℕ) (quiet : Type 0) (store : Standing) (cut : ℕ) (done : Progress)
      → (store ≡ unknown → IfTold old.content (λ _. terms.opening)) → UpTo file quiet done
      → UpTo file quiet (record { store = store; cut = cut; read = done.read; written = done.written })
  stood file quiet store cut done vague up =
      record {
        low = up.low;
        high = up.high;
        read = up.read;
        accepted = up.accepted;
        only = up.only;
        unwritten = up.unwritten;
        vague =
            vague;
      }

  told_at : (file : ℕ) (quiet : Type 0) (done : Progress) (fault : Option Fault) → UpTo file quiet done → Blame terms old fault
      → ((other : ℕ) → FaultNames fault other → ⊥) → Tells terms old (at done fault)
  told_at file quiet done fault up blame none = record {
    file = file;
    up_to = loud file quiet done up;
    reading = λ other e. absurd (cc);
    blame = blame;
    names = λ other names. absurd (none other names);
  }

  told_at_text : (file : ℕ) (quiet : Type 0) (text : List ℕ) (done : Progress) → UpTo file quiet done
      → Tells terms old (at_text text done faults.WriteFault)
  told_at_text file quiet text done up = record {
    file = file;
    up_to = loud file quiet done up;
    reading = λ other e. absurd (cc);
    blame = tt;
    names = λ other names. absurd names;
  }

  told_at_file : (file own : ℕ) (quiet : Type 0) (done : Progress) (fault : Fault) → own ≡ file → file < terms.end → (terms.early → quiet)
      → UpTo file quiet done
      → Blame terms old (Some fault) → ((other : ℕ) → FaultNames (Some fault) other → own ≡ other)
      → Tells terms old (at_file own done fault)
  told_at_file file own quiet done fault same within early up blame names = record {
    file = file;
    up_to = loud file quiet done up;
    reading = λ other e. record {
      same = (let here : other ≡ own = cc in here ∙ same);
      within = within;
      unwritten = λ h. up.unwritten (early h);
      unbegun = λ _. refl;
    };
    blame = blame;
    names = λ other h. ap Some (names other h);
  }

  -- a fault of the bytes of a file
  blamed_file : (file : ℕ) (fault : Fault) → IsOfFile file fault → terms.from ≤ file → file < terms.end
      → IfTold (old.left file) (λ bytes. terms.faulty file bytes fault)
      → Blame terms old (Some fault) × ((other : ℕ) → FaultNames (Some fault) other → file ≡ other)
  blamed_file file (faults.Malformed own line why) of_file low high told = (
    subst (λ (at : ℕ). FileHas terms old at (faults.Malformed own line why)) (sym of_file) (low, high, told),
    λ other names. sym of_file
        ∙ names,
  )
  blamed_file file (faults.BadStyle own why part) of_file low high told = (
    subst (λ (at : ℕ). FileHas terms old at (faults.BadStyle own why part)) (sym of_file) (low, high, told),
    λ other names. sym of_file
        ∙ names,
  )
  blamed_file file (faults.BadBounds own line) of_file low high told = (
    subst (λ (at : ℕ). FileHas terms old at (faults.BadBounds own line)) (sym of_file) (low, high, told),
    λ other names. sym of_file
        ∙ names,
  )
  blamed_file file (faults.BadQuery own line why) of_file low high told = (
    subst (λ (at : ℕ). FileHas terms old at (faults.BadQuery own line why)) (sym of_file) (low, high, told),
    λ other names. sym of_file
        ∙ names,
  )
  blamed_file file (faults.BadFeed own line why) of_file low high told = absurd of_file
  blamed_file file (faults.Gap own have got) of_file low high told = absurd of_file
  blamed_file file (faults.Limit which value) of_file low high told = (inr (file, (low, high, told)), λ other names. absurd names)
  blamed_file file faults.Usage of_file low high told = absurd of_file
  blamed_file file (faults.ReadFault own) of_file low high told = absurd of_file
  blamed_file file faults.NotFormatted of_file low high told = absurd of_file
  blamed_file file faults.NotEmpty of_file low high told = absurd of_file
  blamed_file file faults.NotImported of_file low high told = absurd of_file
  blamed_file file faults.AlreadyImported of_file low high told = absurd of_file
  blamed_file file faults.OldFormat of_file low high told = absurd of_file
  blamed_file file faults.Follower of_file low high told = absurd of_file
  blamed_file file faults.UnknownTable of_file low high told = absurd of_file
  blamed_file file (faults.BadStore page) of_file low high told = absurd of_file
  blamed_file file faults.WriteFault of_file low high told = absurd of_file
  blamed_file file faults.DiskFault of_file low high told = absurd of_file
  blamed_file file faults.OutOfMemory of_file low high told = absurd of_file

  told_in : (A : Type 0) (file own : ℕ) (quiet : Type 0) (Reads : List ℕ → Result A Fault → Type 0) (done : Progress) (ending : Ending)
      → own ≡ file → file < terms.end → (terms.early → quiet)
      → ((bytes : List ℕ) (fault : Fault) → Reads bytes (Err fault) → terms.faulty own bytes fault) → UpTo file quiet done
      → BreaksIn A own (old.left own) Reads done ending → Tells terms old ending
  told_in A file own quiet Reads done ending same high early faulty up (unread is) =
      is_told ending _ is (told_at_file file own quiet done (faults.ReadFault own) same high early up
      (omega (arith, same, up.low), omega (arith, same, high)) (λ other names. names))
  told_in A file own quiet Reads done ending same high early faulty up (short is) =
      is_told ending _ is (told_at_file file own quiet done faults.OutOfMemory same high early up tt (λ other names. absurd names))
  told_in A file own quiet Reads done ending same high early faulty up (refused fault of_file told is) =
      let blame = blamed_file own fault of_file (omega (arith, same, up.low)) (omega (arith, same, high))
      (λ bytes here. faulty bytes fault (told bytes here)) in
      is_told ending _ is (told_at_file file own quiet done fault same high early up blame.0 blame.1)

  told_breaks : (file : ℕ) (quiet : Type 0) (done : Progress) (ending : Ending) → terms.store → UpTo file quiet done → Breaks done ending
      → Tells terms old ending
  told_breaks file quiet done ending store up (inl is) =
      is_told ending _ is (told_at file quiet done (Some faults.DiskFault) up store (λ other names. names))
  told_breaks file quiet done ending store up (inr is) =
      is_told ending _ is (told_at file quiet done (Some faults.OutOfMemory) up tt (λ other names. names))

  told_full : (file : ℕ) (quiet : Type 0) (done : Progress) (ending : Ending) → terms.makes → UpTo file quiet done
      → HoldsBytes old done ending → Tells terms old ending
  told_full file quiet done ending makes up full =
      is_told ending _ full.1 (told_at file quiet done (Some faults.NotEmpty) up (makes, full.0) (λ other names. names))

  told_state : (file : ℕ) (quiet : Type 0) (done : Progress) (fault : Fault) → IsOfState terms fault → UpTo file quiet done
      → Tells terms old (at done (Some fault))
  told_state file quiet done faults.NotImported store up = told_at file quiet done (Some faults.NotImported) up store (λ other names. names)
  told_state file quiet done faults.AlreadyImported store up =
      told_at file quiet done (Some faults.AlreadyImported) up store (λ other names. names)
  told_state file quiet done faults.OldFormat uses up = told_at file quiet done (Some faults.OldFormat) up uses (λ other names. names)
  told_state file quiet done faults.Follower opening up = told_at file quiet done (Some faults.Follower) up opening (λ other names. names)
  told_state file quiet done faults.UnknownTable opening up =
      told_at file quiet done (Some faults.UnknownTable) up opening (λ other names. names)
  told_state file quiet done faults.Usage none up = absurd none
  told_state file quiet done (faults.Malformed own line why) none up = absurd none
  told_state file quiet done (faults.BadStyle own why part) none up = absurd none
  told_state file quiet done (faults.BadBounds own line) none up = absurd none
  told_state file quiet done (faults.BadQuery own line why) none up = absurd none
  told_state file quiet done (faults.BadFeed own line why) none up = absurd none
  told_state file quiet done (faults.Gap own have got) none up = absurd none
  told_state file quiet done (faults.Limit which value) none up = absurd none
  told_state file quiet done (faults.ReadFault own) none up = absurd none
  told_state file quiet done faults.NotFormatted none up = absurd none
  told_state file quiet done faults.NotEmpty none up = absurd none
  told_state file quiet done (faults.BadStore page) none up = absurd none
  told_state file quiet done faults.WriteFault none up = absurd none
  told_state file quiet done faults.DiskFault none up = absurd none
  told_state file quiet done faults.OutOfMemory none up = absurd none

  -- a step that is refused
  told_step : (call : Option Step) (file : ℕ) (quiet : Type 0) (done : Progress) (fault : FlowFault) → terms.store
      → IfTold old.content (λ _. IsBadStore fault → terms.opening) → IsStepFault call fault → UpTo file quiet done
      → Tells terms old (at done (Some (flow_fault fault)))
  told_step call file quiet done (flow.Store (stores.BadStore page)) store bad why up =
      told_at file quiet done (Some (faults.BadStore page)) up (store, λ bytes told. bad bytes told tt) (λ other names. names)
  told_step call file quiet done (flow.Store (stores.StoreFull pages)) store bad why up =
      told_at file quiet done (Some (faults.Limit kinds.Pages pages)) up (inl (tt, store)) (λ other names. names)
  told_step call file quiet done (flow.Store stores.NotFormatted) store bad none up = absurd none
  told_step call file quiet done (flow.Store stores.NotEmpty) store bad none up = absurd none
  told_step call file quiet done (flow.Store stores.DiskFault) store bad none up = absurd none
  told_step call file quiet done (flow.Store stores.Broken) store bad none up = absurd none
  told_step call file quiet done (flow.Store stores.OutOfMemory) store bad none up = absurd none
  told_step call file quiet done flow.NotImported store bad none up = absurd none
  told_step call file quiet done flow.AlreadyImported store bad why up =
      told_at file quiet done (Some faults.AlreadyImported) up store (λ other names. names)
  told_step call file quiet done flow.OldFormat store bad none up = absurd none
  told_step call file quiet done flow.LastChange store bad why up =
      told_at file quiet done (Some (flow_fault flow.LastChange)) up (inl (tt, store)) (λ other names. names)
  told_step call file quiet done (flow.TooMany value) store bad why up =
      told_at file quiet done (Some (faults.Limit kinds.Pending value)) up (inl (tt, store)) (λ other names. names)
  told_step call file quiet done flow.OutOfMemory store bad none up = absurd none

  told_refused : (call : Option Step) (IsWhy : FlowFault → Type 0) (file : ℕ) (quiet : Type 0) (done : Progress) (ending : Ending)
      → terms.store
      → ((fault : FlowFault) → IsWhy fault → IfTold old.content (λ _. IsBadStore fault → terms.opening) × IsStepFault call fault)
      → UpTo file quiet done → IsRefusedFor IsWhy done ending → Tells terms old ending
  told_refused call IsWhy file quiet done ending store why up h =
      is_told ending _ h.2 (told_step call file quiet done h.0 store (why h.0 h.1).0 (why h.0 h.1).1 up)

  made_certain : (told : Option (List ℕ)) (bytes : List ℕ) (P : Type 0) → told ≡ Some bytes → made told ≡ unknown → P
  made_certain None bytes P is un = absurd (cc)
  made_certain (Some own) bytes P is un = absurd (cc)

  -- the file that comes next was read, and is accepted where it is told
  read_one : (file own : ℕ) (quiet : Type 0) (done : Progress) → own ≡ file → file < terms.end → UpTo file quiet done
      → IfTold (old.left own) (terms.accepts own) → UpTo (file + 1) quiet (past own done)
  read_one file own quiet done same high up accepts = record {
    low = omega (arith, up.low);
    high = omega (arith, high);
    read = λ other from less. ⊎_elim (λ (below : other < file). inr (up.read other from below))
        (λ (above : file ≤ other). inl (omega (arith, above, less, same))) (cases_lt other file);
    accepted = λ other from less. ⊎_elim (λ (below : other < file). up.accepted other from below)
        (λ (above : file ≤ other). let here : own ≡ other = omega (arith, above, less, same) in
        subst (λ (at : ℕ). IfTold (old.left at) (terms.accepts at)) here accepts)
        (cases_lt other file);
    only = λ other read. ⊎_elim (λ (here : other ≡ own). (omega (arith, here, same, up.low), omega (arith, here, same)))
        (λ (before : IsIn done.read other). ((up.only other before).0, omega (arith, (up.only other before).1))) read;
    unwritten = up.unwritten;
    vague = up.vague;
  }

  -- a fault of the bytes of a file of a feed
  blamed_feed : (file : ℕ) (fault : Fault) → IsOfFeed file fault → terms.store → terms.from ≤ file → file < terms.end
      → IfTold (old.left file) (λ bytes. terms.faulty file bytes fault)
      → Blame terms old (Some fault) × ((other : ℕ) → FaultNames (Some fault) other → file ≡ other)
  blamed_feed file (faults.BadFeed own line why) of_feed store low high told = (
    subst (λ (at : ℕ). FileHas terms old at (faults.BadFeed own line why)) (sym of_feed) (low, high, told),
    λ other names. sym of_feed
        ∙ names,
  )
  blamed_feed file (faults.Gap own have got) of_feed store low high told = (
    subst (λ (at : ℕ). FileHas terms old at (faults.Gap own have got)) (sym of_feed) (low, high, told),
    λ other names. sym of_feed
        ∙ names,
  )
  blamed_feed file (faults.Limit which value) of_feed store low high told =
      (inr (file, (low, high, told)), λ other names. absurd names)
  blamed_feed file faults.NotImported of_feed store low high told = (store, λ other names. absurd names)
  blamed_feed file (faults.Malformed own line why) of_feed store low high told = absurd of_feed
  blamed_feed file (faults.BadStyle own why part) of_feed store low high told = absurd of_feed
  blamed_feed file (faults.BadBounds own line) of_feed store low high told = absurd of_feed
  blamed_feed file (faults.BadQuery own line why) of_feed store low high told = absurd of_feed
  blamed_feed file faults.Usage of_feed store low high told = absurd of_feed
  blamed_feed file (faults.ReadFault own) of_feed store low high told = absurd of_feed
  blamed_feed file faults.NotFormatted of_feed store low high told = absurd of_feed
  blamed_feed file faults.NotEmpty of_feed store low high told = absurd of_feed
  blamed_feed file faults.AlreadyImported of_feed store low high told = absurd of_feed
  blamed_feed file faults.OldFormat of_feed store low high told = absurd of_feed
  blamed_feed file faults.Follower of_feed store low high told = absurd of_feed
  blamed_feed file faults.UnknownTable of_feed store low high told = absurd of_feed
  blamed_feed file (faults.BadStore page) of_feed store low high told = absurd of_feed
  blamed_feed file faults.WriteFault of_feed store low high told = absurd of_feed
  blamed_feed file faults.DiskFault of_feed store low high told = absurd of_feed
  blamed_feed file faults.OutOfMemory of_feed store low high told = absurd of_feed

  -- in the middle of a file of a feed, which comes next
  module _ (file own : ℕ) (same : own ≡ file) (high : file < terms.end) (late : terms.early → ⊥) (store : terms.store) where
    -- a fault that names no file may come there as well as elsewhere
    told_there : (done : Progress) (fault : Fault) → UpTo file ⊥ done → Tells terms old (at done (Some fault))
        → Tells terms old (at_file own done fault)
    told_there done fault up told = told_at_file file own ⊥ done fault same high late up told.blame
        (λ other h. absurd (let two : None ≡ Some other = told.names other h in cc))

    told_half : (text : List ℕ) (done : Progress) → UpTo file ⊥ done
        → Tells terms old (within_file own (at_text text done faults.WriteFault))
    told_half text done up = record {
      file = file;
      up_to = up;
      reading = λ other e. record {
        same = (let here : other ≡ own = cc in here ∙ same);
        within = high;
        unwritten = λ early. absurd (late early);
        unbegun = λ not. absurd (not refl);
      };
      blame = tt;
      names = λ other names. absurd names;
    }

    told_broken : (done : Progress) (ending : Ending) → UpTo file ⊥ done → BreaksWithin own done ending → Tells terms old ending
    told_broken done ending up (inl is) = is_told ending _ is (told_at_file file own ⊥ done (faults.ReadFault own) same high late up
        (omega (arith, same, up.low), omega (arith, same, high)) (λ other names. names))
    told_broken done ending up (inr is) =
        is_told ending _ is (told_at_file file own ⊥ done faults.OutOfMemory same high late up tt (λ other names. absurd names))

    told_refused_there : (call : Option Step) (IsWhy : FlowFault → Type 0) (done : Progress) (ending : Ending)
        → ((fault : FlowFault) → IsWhy fault → IfTold old.content (λ _. IsBadStore fault → terms.opening) × IsStepFault call fault)
        → UpTo file ⊥ done → IsRefusedWithin own IsWhy done ending → Tells terms old ending
    told_refused_there call IsWhy done ending why up h = is_told ending _ h.2 (told_there done (flow_fault h.0) up
        (told_step call file ⊥ done h.0 store (why h.0 h.1).0 (why h.0 h.1).1 up))

    -- a block that is taken
    told_taking : (block : Block) (done : Progress) (ending : Ending) (Goes : Progress → Type 0) → UpTo file ⊥ done
        → ((taken : Progress) → UpTo file ⊥ taken → Goes taken → Tells terms old ending)
        → TakesWithin old own block done ending Goes → Tells terms old ending
    told_taking block done ending Goes up go (inl breaks) = told_broken done ending up breaks
    told_taking block done ending Goes up go (inr (inl is)) =
        is_told ending _ is (told_at_file file own ⊥ done faults.DiskFault same high late up store (λ other names. absurd names))
    told_taking block done ending Goes up go (inr (inr c)) = let step = Follow block in of_store done.store
        (λ kept. (ending ≡ at_file own (in_doubt step kept done) faults.DiskFault)
        ⊎ IsRefusedWithin own (IsRefusal old (state_after kept.history) step) done ending
        ⊎ (MayTake old (state_after kept.history) step × Goes (committed step kept done)))
        (IsRefusedWithin own (IsStepFault (Some step)) done ending ⊎ Goes done) (Tells terms old ending)
        (λ kept is h. three (λ (is : ending ≡ at_file own (in_doubt step kept done) faults.DiskFault). is_told ending _ is
        (told_at_file file own ⊥ (in_doubt step kept done) faults.DiskFault same high late
        (stood file ⊥ (keeps (perhaps step kept)) done.cut done (λ e. absurd (cc)) up) store (λ other names. absurd names)))
        (λ (why : IsRefusedWithin own (IsRefusal old (state_after kept.history) step) done ending).
        told_refused_there (Some step) (IsRefusal old (state_after kept.history) step) done ending
        (λ fault own. ((λ _ _ bad. bad_refuses (state_after kept.history) step fault terms.opening bad own.1), own.0)) up why)
        (λ (c : MayTake old (state_after kept.history) step × Goes (committed step kept done)).
        go (committed step kept done) (stood file ⊥ (keeps (with_step step kept)) done.cut done (λ e. absurd (cc)) up) c.1) h)
        (λ is h. ⊎_elim (λ (why : IsRefusedWithin own (IsStepFault (Some step)) done ending).
        told_refused_there (Some step) (IsStepFault (Some step)) done ending
        (λ fault own. ((λ bytes told _. up.vague is bytes told), own)) up why)
        (λ (c : Goes done). go done up c) h) c

    -- and blocks, one after another
    told_following : (told : List Block) (end : FeedEnd) (state : State) (done : Progress) (ending : Ending)
        (Goes : State → Progress → Type 0) → UpTo file ⊥ done
        → ((fault : Fault) → end ≡ stopped fault → IfTold (old.left own) (λ bytes. terms.faulty own bytes fault))
        → (end ≡ over → (next : State) (further : Progress) → UpTo file ⊥ further → Goes next (past own further) → Tells terms old ending)
        → FollowsTo old own told end state done ending Goes → Tells terms old ending
    told_following [] over state done ending Goes up faulty go (inl breaks) = told_broken done ending up breaks
    told_following [] over state done ending Goes up faulty go (inr goes) = go refl state done up goes
    told_following [] (stopped fault) state done ending Goes up faulty go (inl breaks) = told_broken done ending up breaks
    told_following [] (stopped fault) state done ending Goes up faulty go (inr (of_feed, is)) =
        let blame = blamed_feed own fault of_feed store (omega (arith, same, up.low)) (omega (arith, same, high)) (faulty fault refl) in
        is_told ending _ is (told_at_file file own ⊥ done fault same high late up blame.0 blame.1)
    told_following [] unseen state done ending Goes up faulty go breaks = told_broken done ending up breaks
    told_following (block ∷ later) end state done ending Goes up faulty go takes =
        let next = after state (Follow block) in
        let line = version_line (changes_in next) in
        told_taking block done ending
        (λ taken. TellsWithin own line taken ending (λ told. FollowsTo old own later end next told ending Goes)) up
        (λ taken up tells. ⊎_elim (λ (is : ending ≡ within_file own (at_text line taken faults.WriteFault)).
        is_told ending _ is (told_half line taken up))
        (λ (c : FollowsTo old own later end next (plus line taken) ending Goes).
        told_following later end next (plus line taken) ending Goes (written file ⊥ line taken up) faulty go c) tells) takes

  -- each end of a course tells of files that the course reads, and has something to blame
  pub comes_told : (course : Course) (file : ℕ) (quiet : Type 0) (done : Progress) (ending : Ending) → KeepsTo terms file quiet course
      → UpTo file quiet done → Comes old course done ending → Tells terms old ending
  comes_told ends file quiet done ending to up is = is_told ending _ is (told_at file quiet done None up tt (λ other names. names))
  comes_told (refuses fault) file quiet done ending to up is = is_told ending _ is (told_state file quiet done fault to up)
  comes_told (reads {A} own Reads rest) file quiet done ending (same, high, early, faulty, accepts, later) up (inl breaks) =
      told_in A file own quiet Reads done ending same high early faulty up breaks
  comes_told (reads {A} own Reads rest) file quiet done ending (same, high, early, faulty, accepts, later) up (inr (found, told, c)) =
      comes_told (rest found) (file + 1) quiet (past own done) ending (later found)
      (read_one file own quiet done same high up (λ bytes is. accepts bytes found (told bytes is))) c
  comes_told (wants_empty rest) file quiet done ending (makes, later) up (inl is) =
      is_told ending _ is (told_at file quiet done (Some faults.DiskFault) up (terms.owns makes) (λ other names. names))
  comes_told (wants_empty rest) file quiet done ending (makes, later) up (inr (inl full)) = told_full file quiet done ending makes up full
  comes_told (wants_empty rest) file quiet done ending (makes, later) up (inr (inr (told, c))) =
      comes_told rest file quiet done ending later up c
  comes_told (formats rest) file quiet done ending (makes, store, later) up c =
      three (λ (full : HoldsBytes old done ending). told_full file quiet done ending makes up full)
      (λ (is : ending ≡ at (with_store half_made done) (Some faults.DiskFault)). is_told ending _ is
      (told_at file quiet (with_store half_made done) (Some faults.DiskFault)
      (stood file quiet half_made done.cut done (λ e. absurd (cc)) up) store (λ other names. names)))
      (λ (c : Comes old rest (with_store (made old.content) done) ending).
      comes_told rest file quiet (with_store (made old.content) done) ending later
      (stood file quiet (made old.content) done.cut done (λ un bytes is. made_certain old.content bytes terms.opening is un) up) c)
      (of_unused done.store (HoldsBytes old done ending ⊎ (ending ≡ at (with_store half_made done) (Some faults.DiskFault))
      ⊎ Comes old rest (with_store (made old.content) done) ending) c).1
  comes_told (opens rest) file quiet done ending (opening, store, later) up (inl breaks) =
      told_breaks file quiet done ending store up breaks
  comes_told (opens rest) file quiet done ending (opening, store, later) up (inr c) = of_store done.store
      (λ kept. (cut : ℕ) × (kept.least ≤ cut) × (cut ≤ kept.most)
      × Comes old (rest (state_after (first cut kept.history))) (opened kept cut done) ending)
      (IsNoStore old done ending ⊎ IsBroken old done ending
      ⊎ ((state : State) × IfTold old.content (MayOpenAs state) × Comes old (rest state) done ending)) (Tells terms old ending)
      (λ kept is h. comes_told (rest (state_after (first h.0 kept.history))) file quiet (opened kept h.0 done) ending
      (later (state_after (first h.0 kept.history)))
      (stood file quiet (keeps (whole (first h.0 kept.history))) h.0 done (λ e. absurd (cc)) up) h.3)
      (λ is h. three (λ (none : IsNoStore old done ending).
      is_told ending _ none.1 (told_at file quiet done (Some faults.NotFormatted) up (opening, none.0) (λ other names. names)))
      (λ (bad : IsBroken old done ending). told_refused None IsBadStore file quiet done ending store
      (λ fault own. ((λ bytes told _. opening), bad_step None fault own)) up bad.1)
      (λ (c : (state : State) × IfTold old.content (MayOpenAs state) × Comes old (rest state) done ending).
      comes_told (rest c.0) file quiet done ending (later c.0) up c.2) h) c
  comes_told (looks rest) file quiet done ending (store, later) up (inl breaks) = told_breaks file quiet done ending store up breaks
  comes_told (looks rest) file quiet done ending (store, later) up (inr (inl why)) =
      let un = of_unknown done.store (IsRefusedFor (IsStepFault None) done ending) why in
      told_refused None (IsStepFault None) file quiet done ending store
      (λ fault own. ((λ bytes told _. up.vague un.0 bytes told), own)) up un.1
  comes_told (looks rest) file quiet done ending (store, later) up (inr (inr c)) = comes_told rest file quiet done ending later up c
  comes_told (commits step rest) file quiet done ending (store, later) up (inl breaks) = told_breaks file quiet done ending store up breaks
  comes_told (commits step rest) file quiet done ending (store, later) up (inr c) = of_store done.store
      (λ kept. (ending ≡ at (in_doubt step kept done) (Some faults.DiskFault))
      ⊎ IsRefusedFor (IsRefusal old (state_after kept.history) step) done ending
      ⊎ (MayTake old (state_after kept.history) step × Comes old rest (committed step kept done) ending))
      (IsRefusedFor (IsStepFault (Some step)) done ending ⊎ Comes old rest done ending) (Tells terms old ending)
      (λ kept is h. three (λ (is : ending ≡ at (in_doubt step kept done) (Some faults.DiskFault)). is_told ending _ is
      (told_at file quiet (in_doubt step kept done) (Some faults.DiskFault)
      (stood file quiet (keeps (perhaps step kept)) done.cut done (λ e. absurd (cc)) up) store (λ other names. names)))
      (λ (why : IsRefusedFor (IsRefusal old (state_after kept.history) step) done ending).
      told_refused (Some step) (IsRefusal old (state_after kept.history) step) file quiet done ending store
      (λ fault own. ((λ _ _ bad. bad_refuses (state_after kept.history) step fault terms.opening bad own.1), own.0)) up why)
      (λ (c : MayTake old (state_after kept.history) step × Comes old rest (committed step kept done) ending).
      comes_told rest file quiet (committed step kept done) ending later
      (stood file quiet (keeps (with_step step kept)) done.cut done (λ e. absurd (cc)) up) c.1) h)
      (λ is h. ⊎_elim (λ (why : IsRefusedFor (IsStepFault (Some step)) done ending).
      told_refused (Some step) (IsStepFault (Some step)) file quiet done ending store
      (λ fault own. ((λ bytes told _. up.vague is bytes told), own)) up why)
      (λ (c : Comes old rest done ending). comes_told rest file quiet done ending later up c) h) c
  comes_told (tells text rest) file quiet done ending to up (inl is) = is_told ending _ is (told_at_text file quiet text done up)
  comes_told (tells text rest) file quiet done ending to up (inr c) =
      comes_told rest file ⊥ (plus text done) ending to (written file quiet text done up) c
  comes_told (writes Fits rest) file quiet done ending to up (inl is) =
      is_told ending _ is (told_at file quiet done (Some faults.OutOfMemory) up tt (λ other names. names))
  comes_told (writes Fits rest) file quiet done ending to up (inr (own, told, inl is)) =
      is_told ending _ is (told_at_text file quiet own done up)
  comes_told (writes Fits rest) file quiet done ending to up (inr (own, told, inr c)) =
      comes_told rest file ⊥ (plus own done) ending to (written file quiet own done up) c
  comes_told (feeds Fits rest) file quiet done ending to up (inl is) =
      is_told ending _ is (told_at file quiet done (Some faults.OutOfMemory) up tt (λ other names. names))
  comes_told (feeds Fits rest) file quiet done ending to up (inr (own, block, told, inl is)) =
      is_told ending _ is (told_at_text file quiet own done up)
  comes_told (feeds Fits rest) file quiet done ending to up (inr (own, block, told, inr c)) =
      comes_told rest file ⊥ (plus own done) ending to (written file quiet own done up) c
  comes_told (follows own state rest) file quiet done ending (same, high, late, store, faulty, accepts, later) up (told, end, is, c) =
      told_following file own same high late store told end state done ending (λ next further. Comes old (rest next) further ending)
      (loud file quiet done up)
      (λ fault here bytes left. faulty bytes told fault
      (subst (λ (end : FeedEnd). IsFeed own state bytes told end) here (is bytes left)))
      (λ here next further up c. comes_told (rest next) (file + 1) ⊥ (past own further) ending (later next)
      (read_one file own ⊥ further same high up
      (λ bytes left. accepts bytes told (subst (λ (end : FeedEnd). IsFeed own state bytes told end) here (is bytes left)))) c) c

-- files that are gathered
module _ (terms : Terms) (change : (file : ℕ) → terms.from ≤ file → file < terms.end
    → ((bytes : List ℕ) (fault : Fault) → IsChange file bytes (Err fault) → terms.faulty file bytes fault)
    × ((bytes : List ℕ) (found : List Entry) → IsChange file bytes (Ok found) → terms.accepts file bytes)) where
  pub gathers_to : (file count : ℕ) (quiet : Type 0) (entries : List Entry) (rest : List Entry → Course) → terms.from ≤ file
      → file + count ≡ terms.end → (terms.early → quiet)
      → ((entries : List Entry) → KeepsTo terms terms.end quiet (rest entries)) → KeepsTo terms file quiet (gathers file count entries rest)
  unfolding gathers
  gathers_to file zero quiet entries rest low all early later = let here : terms.end ≡ file = omega (arith, all) in
      subst (λ (at : ℕ). KeepsTo terms at quiet (rest entries)) here (later entries)
  gathers_to file (suc count) quiet entries rest low all early later = (
    refl,
    omega (arith, all),
    early,
    (change file low (omega (arith, all))).0,
    (change file low (omega (arith, all))).1,
    λ more. gathers_to (file + 1) count quiet (entries ++ more) rest (omega (arith, low)) (omega (arith, all)) early later,
  )
