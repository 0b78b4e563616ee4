-- A block of a feed is taken and told, in the middle of its file. What is known of the files is of the moment before this file was read:
-- the head of each turn is the one that the run would have there.
use Rattle.std.proofs.Common.{◌≡◌, ◌≤◌, ◌<◌, ◌+◌, ◌⊎◌, ℕ, true, false, Bool, Option, Some, None, Result, Ok, Err, OnOk, OnErr}
use Rattle.std.proofs.Common.{IfErr, List, [], ◌∷◌}
use Rattle.std.proofs.Common.{if◌then◌else◌, nat_lt, ltb-true, ⊎_elim, inl, inr, refl, sym, ◌∙◌, ap, subst, arith}
use Rattle.std.specs.Result.{result_err}
use Rattle.std.specs.Io.KnownBytes.{Appends}
use Rattle.std.proofs.lemmas.Bool.{cases_lt}
use Rattle.outside.specs.Bytes.{AppendsPrefix}
use Rattle.outside.specs.Causes.{HasCause as HasCauseOf, Rose}
use Rattle.outside.specs.Disk.{DiskView, Stays}
use Rattle.outside.specs.Inputs.{FilesView}
use Rattle.outside.specs.Sink.{SinkView}
use Rattle.outside.specs.Reads.{IsReadAlone}
use Rattle.page_journal.specs.declared.fault.StoreFault.TheVariants as stores
use Rattle.delta_feed.specs.declared.block.Block.{Block}
use Rattle.delta_feed.specs.declared.block.Block.TheVariants as blocks
use Rattle.update_flow.specs.AtRest.{HasFlowCause}
use Rattle.update_flow.specs.Follower.{IsNext, is_new}
use Rattle.update_flow.specs.Handle.{Handle, IsOpen, Shows, Takes, changes_of, is_follower, is_whole, limits_of, view_of}
use Rattle.update_flow.specs.History.{state_after}
use Rattle.update_flow.specs.Needed.{Writes, version_of}
use Rattle.update_flow.specs.State.{State, formatted, imported, outdated, following, Follow, after, changes_in}
use Rattle.update_flow.specs.declared.fault.FlowFault.{FlowFault}
use Rattle.update_flow.specs.declared.fault.FlowFault.TheVariants as flow
use Rattle.run_promise.specs.declared.fault.Fault.{Fault}
use Rattle.run_promise.specs.declared.fault.Fault.TheVariants as faults
use Rattle.run_promise.specs.Comes.{ByStore, Comes, IsOfFeed, IsRefusal, IsRefusedFor, IsRefusedWithin, IsStepFault, MayTake}
use Rattle.run_promise.specs.Comes.{TakesWithin, TellsWithin}
use Rattle.run_promise.specs.Course.{ends, commits}
use Rattle.run_promise.specs.Courses.{version_line}
use Rattle.run_promise.specs.Faults.{flow_fault}
use Rattle.run_promise.specs.Followed.{IsGap, MayComeNext, stopped, unseen}
use Rattle.run_promise.specs.Keeps.{Kept}
use Rattle.run_promise.specs.Leaves.{HasCause, Leaves}
use Rattle.run_promise.specs.Progress.{Standing, unused, unknown, keeps, half_made, Progress, Ending, IsIn, at, at_file, at_text}
use Rattle.run_promise.specs.Progress.{committed, in_doubt, plus}
use Rattle.run_promise.specs.Progress.{within_file}
use Rattle.run_promise.specs.World.{Before, world}
use Rattle.updater.specs.Following.{FollowsThen, HasTaken, IsBaseless, MayFollow, TakesBlock}
use Rattle.updater.specs.Heads.{IsHead}
use Rattle.updater.proofs.HeadLaws.{past_text}
use Rattle.updater.proofs.SoFarLaws as parts
use Rattle.updater.proofs.StoreDeeds.{IsRefusedSo, IsStepped, Suits, refused_step, shows_here, taken_so}

-- ---- which blocks a store may be told

-- one that is no gap and has something to differ from comes next, or is one that the store has
pub may_next : (state : State) (block : Block) (store : Handle) → MayFollow state → Shows state store → IsNext store block → MayComeNext
    state block
may_next formatted (blocks.Full version style_bytes style rows) store may shows own = tt
may_next formatted (blocks.Delta delta) store may shows own = absurd (own.begun shows.follower_is)
may_next (following held) (blocks.Full version style_bytes style rows) store may shows own = tt
may_next (following held) (blocks.Delta delta) store may shows own = ⊎_elim
    (λ (far : held.version + 1 < delta.version). absurd (own.near (changes_of store) delta.version
    (shows.follower_is, refl, refl, (let same = shows.changes_are in omega (arith, far, same)))))
    (λ (low : delta.version ≤ held.version + 1). low) (cases_lt (held.version + 1) delta.version)
may_next (imported held) block store may shows own = absurd may
may_next (outdated held) block store may shows own = absurd may

pub next_suits : (state : State) (block : Block) → MayComeNext state block → Suits state (Some (Follow block))
next_suits formatted (blocks.Full version style_bytes style rows) may = tt
next_suits formatted (blocks.Delta delta) may = absurd may
next_suits (following held) block may = tt
next_suits (imported held) block may = absurd may
next_suits (outdated held) block may = absurd may

-- and the store may follow on behind it
pub follows_on : (state : State) (block : Block) → MayFollow state → MayFollow (after state (Follow block))
follows_on formatted (blocks.Full version style_bytes style rows) may = tt
follows_on formatted (blocks.Delta delta) may = tt
follows_on (following held) block may = tt
follows_on (imported held) block may = absurd may
follows_on (outdated held) block may = absurd may

-- a new block is written
pub writes_new : (state : State) (block : Block) (store : Handle) → MayFollow state → Shows state store → is_new store block ≡ true
    → Writes state (Follow block)
writes_new formatted block store may shows new = tt
writes_new (following held) block store may shows new = ltb-true held.version (version_of block)
    (subst (λ (own : Bool). (if own then nat_lt held.version (version_of block) else true) ≡ true) shows.follower_is
    (subst (λ (own : ℕ). (if is_follower store then nat_lt own (version_of block) else true) ≡ true) shows.changes_are new))
writes_new (imported held) block store may shows new = absurd may
writes_new (outdated held) block store may shows new = absurd may

-- ---- in the middle of a file

-- the cause of a fault of the store is no file
flow_cause : (fault : FlowFault) (old : Before) (files read : FilesView) (disk : DiskView) (output : SinkView)
    → HasCause old (world files disk output) (Some (flow_fault fault)) → HasCause old (world read disk output) (Some (flow_fault fault))
flow_cause (flow.Store stores.DiskFault) old files read disk output cause = cause
flow_cause (flow.Store stores.Broken) old files read disk output cause = cause
flow_cause (flow.Store stores.NotFormatted) old files read disk output cause = tt
flow_cause (flow.Store stores.NotEmpty) old files read disk output cause = tt
flow_cause (flow.Store stores.OutOfMemory) old files read disk output cause = tt
flow_cause (flow.Store (stores.BadStore page)) old files read disk output cause = tt
flow_cause (flow.Store (stores.StoreFull pages)) old files read disk output cause = tt
flow_cause flow.NotImported old files read disk output cause = tt
flow_cause flow.AlreadyImported old files read disk output cause = tt
flow_cause flow.OldFormat old files read disk output cause = tt
flow_cause flow.LastChange old files read disk output cause = tt
flow_cause (flow.TooMany value) old files read disk output cause = tt
flow_cause flow.OutOfMemory old files read disk output cause = tt

-- what an ending leaves that reads no file, where this one is read on
leaves_within : (start : Progress) (file : ℕ) (old : Before) (files read : FilesView) (disk : DiskView) (output : SinkView) (ending :
    Ending)
    → IsReadAlone file files read → ¬ IsIn ending.done.read file → ending.reading ≡ None
    → HasCause old (world read disk output) ending.fault → Leaves start ending old (world files disk output)
    → Leaves start (within_file file ending) old (world read disk output)
leaves_within start file old files read disk output ending alone apart none cause leaves = record {
  output = leaves.output;
  at_end = λ other own bytes told. alone.others other (λ same. apart (subst (λ (o : ℕ). IsIn ending.done.read o) same own))
      ∙ leaves.at_end other own bytes told;
  others = λ other not reading. alone.others other (λ same. reading (ap Some same))
      ∙ leaves.others other not (λ is. absurd (let two : Some other ≡ None = is ∙ none in cc));
  store = leaves.store;
  moments = leaves.moments;
  cause = cause;
  reads = omega (arith, leaves.reads, alone.later);
  writes = leaves.writes;
  disk = leaves.disk;
}

-- what comes of a commit that ends the run comes of a block that is taken
module _ (old : Before) (file : ℕ) (block : Block) (done : Progress) (ending : Ending) (fault : Fault) (is : ending.fault ≡ Some fault)
    (Goes : Progress → Type 0) where
  known : (kept : Kept) → (ending ≡ at (in_doubt (Follow block) kept done) (Some faults.DiskFault))
      ⊎ IsRefusedFor (IsRefusal old (state_after kept.history) (Follow block)) done ending
      ⊎ (MayTake old (state_after kept.history) (Follow block) × Comes old ends (committed (Follow block) kept done) ending)
      → (within_file file ending ≡ at_file file (in_doubt (Follow block) kept done) faults.DiskFault)
      ⊎ IsRefusedWithin file (IsRefusal old (state_after kept.history) (Follow block)) done (within_file file ending)
      ⊎ (MayTake old (state_after kept.history) (Follow block) × Goes (committed (Follow block) kept done))
  known kept (inl same) = inl (ap (λ (own : Ending). within_file file own) same)
  known kept (inr (inl (why, own, same))) = inr (inl (why, own, ap (λ (own : Ending). within_file file own) same))
  known kept (inr (inr (may, same))) = absurd (let two : Some fault ≡ None = sym is ∙ ap (λ (own : Ending). own.fault) same in cc)

  vague : IsRefusedFor (IsStepFault (Some (Follow block))) done ending ⊎ Comes old ends done ending
      → IsRefusedWithin file (IsStepFault (Some (Follow block))) done (within_file file ending) ⊎ Goes done
  vague (inl (why, own, same)) = inl (why, own, ap (λ (own : Ending). within_file file own) same)
  vague (inr same) = absurd (let two : Some fault ≡ None = sym is ∙ ap (λ (own : Ending). own.fault) same in cc)

  by_store : (store : Standing)
      → ByStore store (λ kept. (ending ≡ at (in_doubt (Follow block) kept done) (Some faults.DiskFault))
      ⊎ IsRefusedFor (IsRefusal old (state_after kept.history) (Follow block)) done ending
      ⊎ (MayTake old (state_after kept.history) (Follow block) × Comes old ends (committed (Follow block) kept done) ending))
      (IsRefusedFor (IsStepFault (Some (Follow block))) done ending ⊎ Comes old ends done ending)
      → ByStore store (λ kept. (within_file file ending ≡ at_file file (in_doubt (Follow block) kept done) faults.DiskFault)
      ⊎ IsRefusedWithin file (IsRefusal old (state_after kept.history) (Follow block)) done (within_file file ending)
      ⊎ (MayTake old (state_after kept.history) (Follow block) × Goes (committed (Follow block) kept done)))
      (IsRefusedWithin file (IsStepFault (Some (Follow block))) done (within_file file ending) ⊎ Goes done)
  by_store unused comes = comes
  by_store half_made comes = comes
  by_store unknown comes = vague comes
  by_store (keeps kept) comes = known kept comes

  pub commit_within : Comes old (commits (Follow block) ends) done ending → TakesWithin old file block done (within_file file ending) Goes
  commit_within (inl (inl same)) = inr (inl (ap (λ (own : Ending). within_file file own) same))
  commit_within (inl (inr same)) = inl (inr (ap (λ (own : Ending). within_file file own) same))
  commit_within (inr comes) = inr (inr (by_store done.store comes))

-- such an ending is of no file
plain : (old : Before) (block : Block) (done : Progress) (ending : Ending) → Comes old (commits (Follow block) ends) done ending
    → (ending.done.read ≡ done.read) × (ending.reading ≡ None)
plain old block done ending comes = by comes
  where
    Plain : Type 0
    Plain = (ending.done.read ≡ done.read) × (ending.reading ≡ None)

    is_at : (further : Progress) (fault : Option Fault) → further.read ≡ done.read → ending ≡ at further fault → Plain
    is_at further fault same is = (ap (λ (own : Ending). own.done.read) is ∙ same, ap (λ (own : Ending). own.reading) is)

    by_known : (kept : Kept) → (ending ≡ at (in_doubt (Follow block) kept done) (Some faults.DiskFault))
        ⊎ IsRefusedFor (IsRefusal old (state_after kept.history) (Follow block)) done ending
        ⊎ (MayTake old (state_after kept.history) (Follow block) × Comes old ends (committed (Follow block) kept done) ending) → Plain
    by_known kept (inl is) = is_at (in_doubt (Follow block) kept done) (Some faults.DiskFault) refl is
    by_known kept (inr (inl (why, own, is))) = is_at done (Some (flow_fault why)) refl is
    by_known kept (inr (inr (may, is))) = is_at (committed (Follow block) kept done) None refl is

    by_vague : IsRefusedFor (IsStepFault (Some (Follow block))) done ending ⊎ Comes old ends done ending → Plain
    by_vague (inl (why, own, is)) = is_at done (Some (flow_fault why)) refl is
    by_vague (inr is) = is_at done None refl is

    by_store : (store : Standing)
        → ByStore store (λ kept. (ending ≡ at (in_doubt (Follow block) kept done) (Some faults.DiskFault))
        ⊎ IsRefusedFor (IsRefusal old (state_after kept.history) (Follow block)) done ending
        ⊎ (MayTake old (state_after kept.history) (Follow block) × Comes old ends (committed (Follow block) kept done) ending))
        (IsRefusedFor (IsStepFault (Some (Follow block))) done ending ⊎ Comes old ends done ending) → Plain
    by_store unused comes = absurd comes
    by_store half_made comes = absurd comes
    by_store unknown comes = by_vague comes
    by_store (keeps kept) comes = by_known kept comes

    by : Comes old (commits (Follow block) ends) done ending → Plain
    by (inl (inl is)) = is_at done (Some faults.DiskFault) refl is
    by (inl (inr is)) = is_at done (Some faults.OutOfMemory) refl is
    by (inr comes) = by_store done.store comes

module _ (start done : Progress) (state : State) (file : ℕ) (old : Before) (files read : FilesView) (before now : Handle) (output :
    SinkView)
    (may : MayFollow state) (alone : IsReadAlone file files read) (head : IsHead start done state file old files before output)
    (block : Block) where
  abbrev apart : ¬ IsIn done.read file
  apart = head.unread file (omega arith)

  -- what is known by the numbers alone
  pub shows : Shows state before
  shows = shows_here done.store done.cut state before head.here

  -- no block is taken, and the whole store is as it was
  pub block_stops : (fault : Fault) → now ≡ before → IsOfFeed file fault → HasCause old (world read (view_of before) output) (Some fault)
      → IsGap file state block fault ⊎ IsBaseless state block
      → TakesBlock file block (Some fault) start done state old files read now output
  block_stops fault same own cause why = record {
    told = [];
    end = stopped fault;
    so = inr (inr (fault, refl, refl, why));
    ending = at_file file done fault;
    for = refl;
    comes = λ count. inr (own, refl);
    leaves = subst (λ (store : Handle). Leaves start (at_file file done fault) old (world read (view_of store) output)) (sym same)
        (parts.leaves_file start done file old files (view_of before) output (record { unread = head.unread; so_far = head.so_far })
        {A = Unit {0}} (λ bytes found. Unit {0}) file (omega arith) read fault alone cause);
  }

  module _ (next : MayComeNext state block) where
    -- its step is refused
    pub block_refused : (fault : FlowFault) → ((own : State) → IsOpen own before → Takes own (Follow block) (Some fault) before now)
        → IsRefusedSo (Some (Follow block)) fault before now → (fault ≡ flow.OldFormat → ⊥)
        → TakesBlock file block (Some (flow_fault fault)) start done state old files read now output
    block_refused fault takes so never =
        let own = refused_step start done state file old files before now output head (Follow block)
        (next_suits state block next) fault takes so never ends in
        by own.0 own.1 own.2 own.3
      where
        by : (ending : Ending) → ending.fault ≡ Some (flow_fault fault) → Comes old (commits (Follow block) ends) done ending
            → Leaves start ending old (world files (view_of now) output)
            → TakesBlock file block (Some (flow_fault fault)) start done state old files read now output
        by ending is comes leaves = record {
          told = block ∷ [];
          end = unseen;
          so = inr (inl (refl, refl, next));
          ending = within_file file ending;
          for = is;
          comes = λ count. commit_within old file block done ending (flow_fault fault) is
              (λ taken. TellsWithin file (version_line (changes_in (after state (Follow block)))) taken (within_file file ending)
              (λ told. FollowsThen old file [] unseen (after state (Follow block)) told count (within_file file ending))) comes;
          leaves = leaves_within start file old files read (view_of now) output ending alone
              (λ own. apart (subst (λ (own : List ℕ). IsIn own file) (plain old block done ending comes).0 own)) (plain old block done
              ending comes).1
              (subst (λ (own : Option Fault). HasCause old (world read (view_of now) output) own) (sym is)
              (flow_cause fault old files read (view_of now) output
              (subst (λ (own : Option Fault). HasCause old (world files (view_of now) output) own) is leaves.cause))) leaves;
        }

    -- it is taken
    module _ (takes : (own : State) → IsOpen own before → Takes own (Follow block) None before now)
        (shown : Shows state before → Shows (after state (Follow block)) now)
        (moved : Writes state (Follow block) ⊎ Stays (view_of before) (view_of now))
        (sound : is_whole now ≡ is_whole before) (same : limits_of now ≡ limits_of before)
        (cause : HasFlowCause None (view_of before) (view_of now)) where
      stepped : IsStepped start done state file old files now output (Follow block)
      stepped = taken_so start done state file old files before now output head (Follow block) moved takes shown sound same cause

      abbrev line : List ℕ
      line = version_line (changes_in (after state (Follow block)))

      leads_within : (ending : Ending) (Goes : Progress → Type 0) → Goes stepped.further → TakesWithin old file block done ending Goes
      leads_within ending Goes goes = inr (inr (by stepped.how))
        where
          Here : Standing → Type 0
          Here store = ByStore store (λ kept. (ending ≡ at_file file (in_doubt (Follow block) kept done) faults.DiskFault)
              ⊎ IsRefusedWithin file (IsRefusal old (state_after kept.history) (Follow block)) done ending
              ⊎ (MayTake old (state_after kept.history) (Follow block) × Goes (committed (Follow block) kept done)))
              (IsRefusedWithin file (IsStepFault (Some (Follow block))) done ending ⊎ Goes done)

          by : ((done.store ≡ unknown) × (stepped.further ≡ done))
              ⊎ ((kept : Kept) × (done.store ≡ keeps kept) × (stepped.further ≡ committed (Follow block) kept done)
              × MayTake old (state_after kept.history) (Follow block)) → Here done.store
          by (inl (is, further)) = subst (λ (store : Standing). Here store) (sym is) (inr (subst Goes further goes))
          by (inr (kept, is, further, answer)) = subst (λ (store : Standing). Here store) (sym is) (inr (inr (
            answer,
            subst Goes further
                goes,
          )))

      -- what the store tells then
      pub shown_here : Shows (after state (Follow block)) now
      shown_here = shown shows

      told_whole : (text : List ℕ) (new : SinkView) → text ≡ line → Appends output.taken new.taken text → output.faults ≤ new.faults
          → HasTaken file block start done state old files now new
      told_whole text new is all later = record {
        comes = next;
        further = plus line stepped.further;
        head = past_text start stepped.further (after state (Follow block)) file old files now output stepped.head line new
            (subst (λ (own : List ℕ). Appends output.taken new.taken own) is all) later;
        leads = λ blocks end count ending comes. leads_within ending
            (λ taken. TellsWithin file line taken ending (λ told. FollowsThen old file blocks end (after state (Follow block)) told
            count ending))
            (inr comes);
      }

      told_half : (text : List ℕ) (new : SinkView) → text ≡ line → AppendsPrefix output.taken new.taken text → output.faults ≤ new.faults
          → Rose output.faults new.faults → TakesBlock file block (Some faults.WriteFault) start done state old files read now new
      told_half text new is front later rose =
          let own = parts.leaves_text start stepped.further file old files (view_of now) output
          (record { unread = stepped.head.unread; so_far = stepped.head.so_far }) line new
          (subst (λ (own : List ℕ). AppendsPrefix output.taken new.taken own) is front) later rose in
          record {
            told = block ∷ [];
            end = unseen;
            so = inr (inl (refl, refl, next));
            ending = within_file file (at_text line stepped.further faults.WriteFault);
            for = refl;
            comes = λ count. leads_within (within_file file (at_text line stepped.further faults.WriteFault))
                (λ taken. TellsWithin file line taken (within_file file (at_text line stepped.further faults.WriteFault))
                (λ told. FollowsThen old file [] unseen (after state (Follow block)) told count
                (within_file file (at_text line stepped.further faults.WriteFault)))) (inl refl);
            leaves = leaves_within start file old files read (view_of now) new (at_text line stepped.further faults.WriteFault) alone
                (stepped.head.unread file (omega arith)) refl own.cause own;
          }

      pub block_told : (text : List ℕ) (new : SinkView) (result : Result (Unit {0}) Fault) → text ≡ line
          → OnOk result (Appends output.taken new.taken text) → OnErr result (AppendsPrefix output.taken new.taken text)
          → IfErr result (λ fault. fault ≡ faults.WriteFault) → HasCauseOf output.faults new.faults result
          → TakesBlock file block (result_err result) start done state old files read now new
      block_told text new (Ok value) is all front alone_is cause_is = told_whole text new is all cause_is.later
      block_told text new (Err fault) is all front alone_is cause_is =
          subst (λ (own : Fault). TakesBlock file block (Some own) start done state old files read now new) (sym alone_is)
          (told_half text new is front cause_is.later cause_is.failed)
