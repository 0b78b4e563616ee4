-- Steps and looks at a store at rest, put together of calls on its buckets.
use Rattle.std.proofs.Common.{◌≡◌, ◌⊎◌, inl, inr, ℕ, ◌+◌, ◌≤◌, ◌||◌, Bool, false, List, length, Option, None, Some, Err, refl, sym, ap}
use Rattle.std.proofs.Common.{subst, ◌∙◌, arith}
use Rattle.std.specs.Result.{IsErrOf}
use Rattle.outside.specs.Causes.{Rose}
use Rattle.outside.specs.Disk.{Goes}
use Rattle.outside.specs.declared.disk.Disk.{Ghosts}
use Rattle.osm_base.specs.declared.bounds.limits.LimitNumbers.{LimitNumbers}
use Rattle.page_journal.specs.Answers.{HasDiskCause, answers_disk_fault}
use Rattle.page_journal.specs.Journal.{is_broken, loan_of}
use Rattle.page_journal.specs.declared.fault.StoreFault.{StoreFault}
use Rattle.page_journal.specs.declared.fault.StoreFault.TheVariants as store
use Rattle.page_journal.proofs.Moments.{goes_then, goes_weaker}
use Rattle.chain_store.specs.Chains.{journal_of}
use Rattle.chain_store.specs.Ends.{IsCommitAnswer}
use Rattle.bucket_store.specs.Image.{HasImage, Image, IsSoundCommit, OnlyLooks, RestsAt}
use Rattle.bucket_store.specs.Transaction.{chains_of}
use Rattle.bucket_store.specs.declared.buckets.Buckets.{Buckets}
use Rattle.bucket_store.proofs.Holding.{looks_then, rests_later}
use Rattle.bucket_store.proofs.Reopened.{moments_looked}
use Rattle.update_flow.proofs.ChangeReads.{pages_one}
use Rattle.update_flow.proofs.Needs.{fits_as, sound_fits}
use Rattle.update_flow.proofs.Openings.{quiet_fault}
use Rattle.update_flow.specs.AtRest.{IsOfEither}
use Rattle.update_flow.specs.AtRest.{RestsAt as StaysAt}
use Rattle.update_flow.specs.Faults.{of_store}
use Rattle.update_flow.specs.Needed.{FitsLimit, Grows, NeedsOn}
use Rattle.bucket_store.specs.Needed.{NeedsPages}
use Rattle.update_flow.specs.Refusals.{MayAnswer, OrBreaks, OrFull, Refuses}
use Rattle.update_flow.specs.Stands.{Means, StandsFor}
use Rattle.update_flow.specs.State.{State, Step, after, imported, Holding}
use Rattle.update_flow.specs.Turning.{CommitsTo, EndsIn, LooksIn, MayEnd, RestsIn, TurnsIn, home_in, view_in}
use Rattle.update_flow.specs.Within.{IsSound, MayRun, RunsWithin, faults_in, is_whole_store}
use Rattle.update_flow.specs.declared.fault.FlowFault.{FlowFault}
use Rattle.update_flow.specs.declared.fault.FlowFault.TheVariants as flow

-- an answer of a commit is one of the step that it ends
pub answered : (limits : LimitNumbers) (fault : Option FlowFault) (P Q : Type 0) → (P → Q) → OrBreaks fault (OrFull limits fault P)
    → OrBreaks fault (OrFull limits fault Q)
answered limits None P Q to is = to is
answered limits (Some (flow.Store store.NotFormatted)) P Q to is = to is
answered limits (Some (flow.Store store.NotEmpty)) P Q to is = to is
answered limits (Some (flow.Store (store.BadStore page))) P Q to is = to is
answered limits (Some (flow.Store store.DiskFault)) P Q to is = tt
answered limits (Some (flow.Store (store.StoreFull pages))) P Q to is = is
answered limits (Some (flow.Store store.Broken)) P Q to is = to is
answered limits (Some (flow.Store store.OutOfMemory)) P Q to is = to is
answered limits (Some flow.NotImported) P Q to is = to is
answered limits (Some flow.AlreadyImported) P Q to is = to is
answered limits (Some flow.OldFormat) P Q to is = to is
answered limits (Some flow.LastChange) P Q to is = to is
answered limits (Some (flow.TooMany value)) P Q to is = to is
answered limits (Some flow.OutOfMemory) P Q to is = tt

-- a refusal of a store that means a state may answer any step
pub sound_answers : (limits : LimitNumbers) (fault : FlowFault) (P : Type 0) → IsSound (Some fault)
    → OrBreaks (Some fault) (OrFull limits (Some fault) P)
sound_answers limits (flow.Store store.NotFormatted) P sound = absurd sound
sound_answers limits (flow.Store store.NotEmpty) P sound = absurd sound
sound_answers limits (flow.Store (store.BadStore page)) P sound = absurd sound
sound_answers limits (flow.Store store.DiskFault) P sound = tt
sound_answers limits (flow.Store (store.StoreFull pages)) P sound = absurd sound
sound_answers limits (flow.Store store.Broken) P sound = absurd sound
sound_answers limits (flow.Store store.OutOfMemory) P sound = absurd sound
sound_answers limits flow.NotImported P sound = absurd sound
sound_answers limits flow.AlreadyImported P sound = absurd sound
sound_answers limits flow.OldFormat P sound = absurd sound
sound_answers limits flow.LastChange P sound = absurd sound
sound_answers limits (flow.TooMany value) P sound = absurd sound
sound_answers limits flow.OutOfMemory P sound = tt

-- a commit of a store that means something
pub commit_answers : (T : Type 0) (limits : LimitNumbers) (most : ℕ) (fault : StoreFault) (P : Type 0) → most ≡ limits.pages
    → IsSoundCommit {T = T} most (Err fault) → OrBreaks (Some (of_store fault)) (OrFull limits (Some (of_store fault)) P)
commit_answers T limits most store.NotFormatted P same sound = absurd sound
commit_answers T limits most store.NotEmpty P same sound = absurd sound
commit_answers T limits most (store.BadStore page) P same sound = absurd sound
commit_answers T limits most store.DiskFault P same sound = tt
commit_answers T limits most (store.StoreFull pages) P same sound = omega (arith, same, sound)
commit_answers T limits most store.Broken P same sound = absurd sound
commit_answers T limits most store.OutOfMemory P same sound = tt

pub commit_ends : (step : Step) (T : Type 0) (most : ℕ) (fault : StoreFault) → IsCommitAnswer {T = T} false most (Err fault)
    → MayEnd (Some step) (Some (of_store fault))
commit_ends step T most store.NotFormatted alone = absurd alone
commit_ends step T most store.NotEmpty alone = absurd alone
commit_ends step T most (store.BadStore page) alone = tt
commit_ends step T most store.DiskFault alone = tt
commit_ends step T most (store.StoreFull pages) alone = tt
commit_ends step T most store.Broken alone = absurd (cc (alone))
commit_ends step T most store.OutOfMemory alone = tt

pub run_ends : (call : Option Step) (fault : Option FlowFault) → MayRun fault → MayEnd call fault
run_ends call None alone = tt
run_ends call (Some (flow.Store store.NotFormatted)) alone = absurd alone
run_ends call (Some (flow.Store store.NotEmpty)) alone = absurd alone
run_ends call (Some (flow.Store (store.BadStore page))) alone = tt
run_ends call (Some (flow.Store store.DiskFault)) alone = tt
run_ends call (Some (flow.Store (store.StoreFull pages))) alone = absurd alone
run_ends call (Some (flow.Store store.Broken)) alone = absurd alone
run_ends call (Some (flow.Store store.OutOfMemory)) alone = absurd alone
run_ends call (Some flow.NotImported) alone = absurd alone
run_ends call (Some flow.AlreadyImported) alone = absurd alone
run_ends call (Some flow.OldFormat) alone = absurd alone
run_ends call (Some flow.LastChange) alone = absurd alone
run_ends call (Some (flow.TooMany value)) alone = absurd alone
run_ends call (Some flow.OutOfMemory) alone = tt

-- it is the disk's that is told so
pub disk_told : (T : Type 0) (fault : StoreFault) → Some (of_store fault) ≡ Some (flow.Store store.DiskFault)
    → IsErrOf {T = T} {E = StoreFault} (Err fault) store.DiskFault
disk_told T store.NotFormatted is = absurd (cc (is))
disk_told T store.NotEmpty is = absurd (cc (is))
disk_told T (store.BadStore page) is = absurd (cc (is))
disk_told T store.DiskFault is = refl
disk_told T (store.StoreFull pages) is = absurd (cc (is))
disk_told T store.Broken is = absurd (cc (is))
disk_told T store.OutOfMemory is = absurd (cc (is))

both_false : (a b c : Bool) → a ≡ (b || c) → b ≡ false → c ≡ false → a ≡ false
both_false a b c is one two = cc (is, one, two)

pub rose_later : (before mid now : ℕ) → before ≤ mid → Rose mid now → Rose before now
rose_later before mid now later rose = omega (arith, later, rose)

module _ {D : Type 0} {g : Ghosts D} where
  -- looks leave a state as it is
  pub looked_state : (state : State) (rest : Image) (old new : Buckets D g) → RestsAt rest old → Means state rest → OnlyLooks old new
      → StaysAt state (view_in old) (view_in new)
  unfolding StandsFor
  looked_state state rest old new rests means looks =
      goes_weaker (λ left. HasImage rest left) (λ left. StandsFor left state) (view_in old).crashes (view_in new).crashes
      (moments_looked rest old new rests looks) (λ left has. (rest, means, has))

  pub looked_rests : (state : State) (rest : Image) (old new : Buckets D g) → RestsAt rest old → Means state rest → OnlyLooks old new
      → RestsIn state new
  looked_rests state rest old new rests means looks = record { image = rest; at_rest = rests_later rest old new looks rests; means = means }

  looked_either : (state other : State) (rest : Image) (old new : Buckets D g) → RestsAt rest old → Means state rest → OnlyLooks old new
      → Goes (IsOfEither state other) (view_in old).crashes (view_in new).crashes
  looked_either state other rest old new rests means looks =
      goes_weaker (λ left. StandsFor left state) (IsOfEither state other) (view_in old).crashes (view_in new).crashes
      (looked_state state rest old new rests means looks) (λ left stands. inl stands)

  -- a step that is refused before its commit was never begun
  pub turns_refused : (limits : LimitNumbers) (state : State) (step : Step) (fault : FlowFault) (rest : Image) (old new : Buckets D g)
      → RestsAt rest old
      → Means state rest → OnlyLooks old new → MayAnswer limits state step (Some fault)
      → FitsLimit limits (NeedsOn (view_in old) (after state step)) (Some fault) → TurnsIn limits state step (Some fault) old new
  turns_refused limits state step fault rest old new rests means looks may fits = record {
    answer = may;
    needs = fits;
    done = λ is. absurd (cc (is));
    grown = λ is. absurd (cc (is));
    refused = λ not no. (looked_rests state rest old new rests means looks, looked_state state rest old new rests means looks);
    moments = looked_either state (after state step) rest old new rests means looks;
  }

  -- so a commit before which something was refused
  pub commits_refused : (limits : LimitNumbers) (fault : FlowFault) (rest now : Image) (old new : Buckets D g) → RestsAt rest old
      → OnlyLooks old new
      → IsSound (Some fault) → CommitsTo limits rest now (Some fault) old new
  commits_refused limits fault rest now old new rests looks sound = record {
    answer = sound_answers limits fault (Some fault ≡ None) sound;
    needs = sound_fits limits (NeedsPages (home_in old) now) fault sound;
    done = λ is. absurd (cc (is));
    grown = λ is. absurd (cc (is));
    refused = λ not no. looks;
    moments =
        goes_weaker (λ left. HasImage rest left) (λ left. HasImage rest left ⊎ HasImage now left) (view_in old).crashes
        (view_in new).crashes
        (moments_looked rest old new rests looks) (λ left has. inl has);
  }

  -- and one after looks
  pub commits_after : (limits : LimitNumbers) (fault : Option FlowFault) (rest now : Image) (old mid new : Buckets D g) → RestsAt rest old
      → OnlyLooks old mid
      → CommitsTo limits rest now fault mid new → CommitsTo limits rest now fault old new
  commits_after limits fault rest now old mid new rests looks commits = record {
    answer = commits.answer;
    needs = subst (λ (home : ℕ). FitsLimit limits (NeedsPages home now) fault) looks.looked.pages commits.needs;
    done = commits.done;
    grown = λ is. let own = commits.grown is in (subst (λ (home : ℕ). NeedsPages home now (home_in new)) looks.looked.pages own.0, own.1);
    refused = λ not no. looks_then old mid new looks (commits.refused not no);
    moments =
        goes_then (λ left. HasImage rest left ⊎ HasImage now left) (view_in old).crashes (view_in mid).crashes (view_in new).crashes
        (goes_weaker (λ left. HasImage rest left) (λ left. HasImage rest left ⊎ HasImage now left) (view_in old).crashes
        (view_in mid).crashes
        (moments_looked rest old mid rests looks) (λ left has. inl has))
        commits.moments;
  }

  -- one that is committed is taken, or was never begun
  module _ (limits : LimitNumbers) (state : State) (step : Step) (fault : Option FlowFault) (rest now : Image) (old mid new : Buckets D g)
      (rests : RestsAt rest old) (means : Means state rest) (looks : OnlyLooks old mid) (becomes : Means (after state step) now)
      (may : Refuses limits state step None) (commits : CommitsTo limits rest now fault mid new) where
    committed_moments : Goes (IsOfEither state (after state step)) (view_in mid).crashes (view_in new).crashes
    unfolding StandsFor
    committed_moments =
        goes_weaker (λ left. HasImage rest left ⊎ HasImage now left) (IsOfEither state (after state step)) (view_in mid).crashes
        (view_in new).crashes
        commits.moments (λ left has. elim has [
          | inl one ↦ inl (rest, means, one)
          | inr other ↦ inr (now, becomes, other)
        ])

    -- the home pages that the store has then are just those that it needs
    committed_pages : fault ≡ None → Grows limits (after state step) (view_in old) (view_in new)
    committed_pages is had has before last =
        let rested = commits.done is in
        let grown = commits.grown is in
        let first : length had + 1 ≡ home_in mid =
        ap (λ (pages : List (List ℕ)). length pages + 1) (pages_one had rests.pages (view_in old) before rests.rests.0) ∙ rests.rests.1
        ∙ sym looks.looked.pages in
        let second : length has + 1 ≡ home_in new =
        ap (λ (pages : List (List ℕ)). length pages + 1) (pages_one has rested.pages (view_in new) last rested.rests.0)
        ∙ rested.rests.1 in (
          record {
            image = now;
            means = becomes;
            needs = subst (λ (home : ℕ). NeedsPages home now (length has + 1)) (sym first)
                (subst (λ (home : ℕ). NeedsPages (home_in mid) now home) (sym second) grown.0);
          },
          (let few = grown.1 in omega (arith, second, few)),
        )

    pub turns_committed : TurnsIn limits state step fault old new
    turns_committed = record {
      answer = answered limits fault (fault ≡ None) (Refuses limits state step fault)
          (λ is. subst (λ (f : Option FlowFault). Refuses limits state step f) (sym is) may) commits.answer;
      needs = fits_as limits (NeedsPages (home_in mid) now) (NeedsOn (view_in old) (after state step)) fault (λ many needs. record {
        pages = rests.pages;
        rests = rests.rests.0;
        needs = record {
          image = now;
          means = becomes;
          needs = subst (λ (home : ℕ). NeedsPages home now many) (looks.looked.pages ∙ sym rests.rests.1) needs;
        };
      }) commits.needs;
      done = λ is. record { image = now; at_rest = commits.done is; means = becomes };
      grown = committed_pages;
      refused = λ not no.
          let all = looks_then old mid new looks (commits.refused not no) in
          (looked_rests state rest old new rests means all, looked_state state rest old new rests means all);
      moments =
          goes_then (IsOfEither state (after state step)) (view_in old).crashes (view_in mid).crashes (view_in new).crashes
          (looked_either state (after state step) rest old mid rests means looks) committed_moments;
    }

  -- a look at what was imported
  pub looks_at : (held : Holding) (fault : Option FlowFault) (rest : Image) (old new : Buckets D g) → RestsAt rest old
      → Means (imported held) rest → OnlyLooks old new → OrBreaks fault (fault ≡ None) → LooksIn (imported held) fault old new
  looks_at held fault rest old new rests means looks may = record {
    answer = may;
    only = looks.looked.stays;
    stays = λ no. looked_rests (imported held) rest old new rests means looks;
    moments = looked_state (imported held) rest old new rests means looks;
  }

  -- what calls leave, whatever the store holds
  pub runs_ended : {call : Option Step} (fault : Option FlowFault) (old new : Buckets D g) → RunsWithin old new fault → EndsIn call fault old new
  runs_ended {call} fault old new runs = record {
    alone = run_ends call fault runs.alone;
    whole = runs.whole;
    later = runs.looks.later;
    failed = runs.failed;
    same_disk = runs.looks.looked.same_disk;
  }

  pub ends_then : {call : Option Step} (fault : Option FlowFault) (old mid new : Buckets D g) → OnlyLooks old mid
      → EndsIn call fault mid new → EndsIn call fault old new
  ends_then fault old mid new looks ends = record {
    alone = ends.alone;
    whole = ends.whole;
    later = omega (arith, looks.later, ends.later);
    failed = λ is. rose_later (faults_in old) (faults_in mid) (faults_in new) looks.later (ends.failed is);
    same_disk = ends.same_disk ∙ looks.looked.same_disk;
  }

  -- a commit
  module _ (old new : Buckets D g) (whole : is_whole_store old)
      (disk : loan_of (journal_of (chains_of new)) ≡ loan_of (journal_of (chains_of old))) where
    pub committed_ends : (later : faults_in old ≤ faults_in new)
        → is_broken (journal_of (chains_of new)) ≡ (is_broken (journal_of (chains_of old)) || false) → (step : Step)
        → EndsIn (Some step) None old new
    committed_ends later broken step = record {
      alone = tt;
      whole = λ no. both_false (is_broken (journal_of (chains_of new))) (is_broken (journal_of (chains_of old))) false broken whole refl;
      later = later;
      failed = λ is. absurd (cc (is));
      same_disk = disk;
    }

    pub uncommitted_ends : (T : Type 0) (most : ℕ) (fault : StoreFault)
        → IsCommitAnswer {T = T} (is_broken (journal_of (chains_of old))) most (Err fault)
        → is_broken (journal_of (chains_of new)) ≡ (is_broken (journal_of (chains_of old)) || answers_disk_fault {T = T} (Err fault))
        → HasDiskCause {T = T} (faults_in old) (faults_in new) (Err fault) → (step : Step)
        → EndsIn (Some step) (Some (of_store fault)) old new
    uncommitted_ends T most fault alone broken cause step = record {
      alone = commit_ends step T most fault (subst (λ (b : Bool). IsCommitAnswer {T = T} b most (Err fault)) whole alone);
      whole = λ no. both_false (is_broken (journal_of (chains_of new))) (is_broken (journal_of (chains_of old)))
          (answers_disk_fault {T = T} (Err fault))
          broken whole (quiet_fault T fault no);
      later = cause.later;
      failed = λ is. cause.failed (disk_told T fault is);
      same_disk = disk;
    }
