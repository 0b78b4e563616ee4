-- What the answer to a block says of the run.
use Rattle.std.proofs.Common.{◌≡◌, ◌≢◌, ◌↔◌, ℕ, true, false, Bool, Option, Some, None, Result, Ok, Err, IfErr, IsErrOf, OnOk}
use Rattle.std.proofs.Common.{OnErr, inl, inr, refl, sym, ◌∙◌, ap}
use Rattle.std.proofs.Common.{subst, if◌then◌else◌, ◌⊎◌, ◌+◌, ◌<◌}
use Rattle.std.specs.Result.{result_err}
use Rattle.std.specs.Io.KnownBytes.{Appends}
use Rattle.std.proofs.lemmas.Option.{same_Some}
use Rattle.outside.specs.Bytes.{AppendsPrefix}
use Rattle.outside.specs.Causes.{HasCause as HasCauseOf}
use Rattle.outside.specs.Disk.{Stays}
use Rattle.outside.specs.Inputs.{FilesView}
use Rattle.outside.specs.Sink.{SinkView}
use Rattle.outside.specs.declared.disk.Disk.{Ghosts}
use Rattle.outside.specs.Reads.{IsReadAlone}
use Rattle.delta_feed.specs.declared.block.Block.{Block}
use Rattle.delta_feed.specs.declared.block.Block.TheVariants as blocks
use Rattle.delta_feed.specs.declared.fault.FeedFault.{FeedFault}
use Rattle.delta_feed.specs.declared.fault.FeedFault.TheVariants as feed
use Rattle.update_flow.specs.Follower.{IsGap as IsGapOf, IsNext, IsUnbegun, StaysFollower, TakesBlock as TakesIt, flow_of}
use Rattle.update_flow.specs.Follower.{handle_of, is_new}
use Rattle.update_flow.specs.Handle.{Handle, Shows, changes_of, is_follower, limits_of, view_of}
use Rattle.update_flow.specs.Needed.{Writes}
use Rattle.update_flow.specs.Refusals.{MayAnswer, MayTell}
use Rattle.update_flow.specs.State.{State, formatted, imported, outdated, following, Follow, after, changes_in, follows}
use Rattle.update_flow.specs.declared.fault.FlowFault.{FlowFault}
use Rattle.update_flow.specs.declared.fault.FlowFault.TheVariants as flow
use Rattle.update_flow.specs.declared.fault.FollowFault.{FollowFault}
use Rattle.update_flow.specs.declared.fault.FollowFault.TheVariants as follow
use Rattle.update_flow.specs.declared.follower.Follower.{Follower}
use Rattle.run_promise.specs.declared.fault.Fault.{Fault}
use Rattle.run_promise.specs.declared.fault.Fault.TheVariants as faults
use Rattle.run_promise.specs.Courses.{version_line}
use Rattle.run_promise.specs.Followed.{IsGap, MayComeNext, feed_fault}
use Rattle.run_promise.specs.Progress.{Progress}
use Rattle.run_promise.specs.World.{Before}
use Rattle.run_promise.proofs.CommandRuns.{stays_same}
use Rattle.updater.specs.Following.{EndsStanding, IsBaseless, KeepsStanding, MayFollow, Stands, TakesBlock, follow_fault}
use Rattle.updater.specs.Heads.{IsHead}
use Rattle.updater.proofs.CheckRuns.{bad_says}
use Rattle.updater.proofs.FollowRuns.{block_refused, block_stops, block_told, may_next, shows, writes_new}
use Rattle.updater.proofs.NoStoreFaults.{call_never}
use Rattle.updater.proofs.SoundRuns.{step_bad}
use Rattle.updater.proofs.StoreDeeds.{IsRefusedSo, shows_here}

-- ---- what a block is to a store

-- there is nothing that it differs from
baseless_of : (state : State) (block : Block) (store : Handle) → MayFollow state → Shows state store → IsUnbegun store block
    → IsBaseless state block
baseless_of formatted (blocks.Full version style_bytes style rows) store may shown unbegun = absurd unbegun
baseless_of formatted (blocks.Delta delta) store may shown unbegun = tt
baseless_of (following held) (blocks.Full version style_bytes style rows) store may shown unbegun = absurd unbegun
baseless_of (following held) (blocks.Delta delta) store may shown unbegun =
    absurd (let two : true ≡ false = sym shown.follower_is ∙ unbegun in cc)
baseless_of (imported held) block store may shown unbegun = absurd may
baseless_of (outdated held) block store may shown unbegun = absurd may

-- or changes are missing before it
gap_of : (file : ℕ) (state : State) (block : Block) (store : Handle) (have got : ℕ) → MayFollow state → Shows state store
    → IsGapOf store block have got → IsGap file state block (faults.Gap file have got)
gap_of file formatted (blocks.Full version style_bytes style rows) store have got may shown gap = absurd gap
gap_of file formatted (blocks.Delta delta) store have got may shown gap =
    absurd (let two : true ≡ false = sym gap.0 ∙ shown.follower_is in cc)
gap_of file (following held) (blocks.Full version style_bytes style rows) store have got may shown gap = absurd gap
gap_of file (following held) (blocks.Delta delta) store have got may shown gap =
    let have_is : have ≡ held.version = gap.1 ∙ shown.changes_are in
    let got_is : got ≡ delta.version = gap.2 in (
      subst (λ (own : ℕ). held.version + 1 < own) got_is (subst (λ (own : ℕ). own + 1 < got) have_is gap.3),
      ap (λ (own : ℕ). faults.Gap file own got) have_is ∙ ap (λ (own : ℕ). faults.Gap file held.version own) got_is,
    )
gap_of file (imported held) block store have got may shown gap = absurd may
gap_of file (outdated held) block store have got may shown gap = absurd may

-- an answer that is none by the numbers is one to a block that is next
pub is_next : (store : Handle) (block : Block) (result : Result Bool FollowFault) → (result ≡ Err follow.NotImported → ⊥)
    → ((have got : ℕ) → result ≡ Err (follow.Gap have got) → ⊥) → (IsErrOf result follow.NotImported ↔ IsUnbegun store block)
    → ((have got : ℕ) → IsErrOf result (follow.Gap have got) ↔ IsGapOf store block have got) → IsNext store block
is_next store block result begun near unbegun gap = record {
  begun = λ own. begun (unbegun.1 own);
  near = λ have got own. near have got ((gap have got).1 own);
}

-- a follower holds tables behind a block
follows_then : (state : State) (block : Block) → MayComeNext state block → follows (after state (Follow block)) ≡ true
follows_then formatted (blocks.Full version style_bytes style rows) may = refl
follows_then formatted (blocks.Delta delta) may = absurd may
follows_then (following held) block may = refl
follows_then (imported held) block may = absurd may
follows_then (outdated held) block may = absurd may

version_is : (version : Option ℕ) (store : Handle) (next : State) → Shows next store → follows next ≡ true
    → version ≡ (if is_follower store then Some (changes_of store) else None) → version ≡ Some (changes_in next)
version_is version store next shown own is =
    is ∙ ap (λ (of : Bool). if of then Some (changes_of store) else None) (shown.follower_is ∙ own) ∙ ap Some shown.changes_are

-- a block that is taken is written, or leaves all as it is
moved_by : (state : State) (block : Block) (before now : Handle) → MayFollow state → Shows state before → (taken : Bool)
    → taken ≡ is_new before block → (taken ≡ false → now ≡ before) → Writes state (Follow block) ⊎ Stays (view_of before) (view_of now)
moved_by state block before now may shown true is same = inl (writes_new state block before may shown (sym is))
moved_by state block before now may shown false is same =
    inr (subst (λ (own : Handle). Stays (view_of before) (view_of own)) (sym (same refl)) (stays_same (view_of before)))

-- ---- the store refuses

pub follower_refused : {D : Type 0} {g : Ghosts D} {block : Block} {old new : Follower D g} {fault : FlowFault}
    → StaysFollower {T = Bool} (Some (Follow block)) old new (Err fault) → (IsErrOf {T = Bool} (Err fault) flow.NotImported → ⊥)
    → IsRefusedSo (Some (Follow block)) fault (handle_of old) (handle_of new)
follower_refused {D} {g} {block} {old} {new} {fault} stays never = record {
  alone = stays.alone;
  told = stays.told;
  broken = λ is. stays.broken (ap Err is);
  not_old = λ is. absurd (stays.today (ap Err is));
  unbegun = λ is. absurd (never (ap Err is));
  begun = λ is. absurd (first fault stays.told is);
  cause = stays.cause;
}
  where
    first : (fault : FlowFault) → MayTell (Some (Follow block)) fault → fault ≡ flow.AlreadyImported → ⊥
    first fault told is = subst (MayTell (Some (Follow block))) is told

module _ {D : Type 0} {g : Ghosts D} (start done : Progress) (state : State) (file : ℕ) (old : Before) (files read : FilesView)
    (before now : Follower D g) (output : SinkView) (may : MayFollow state) (alone : IsReadAlone file files read)
    (head : IsHead start done state file old files (handle_of before) output) (block : Block) where
  abbrev shown : Shows state (handle_of before)
  shown = shows_here done.store done.cut state (handle_of before) head.here

  -- a block is not taken
  pub not_taken : (fault : FollowFault)
      → (IsErrOf {T = Bool} (Err fault) follow.NotImported ↔ IsUnbegun (handle_of before) block)
      → ((have got : ℕ) → IsErrOf {T = Bool} (Err fault) (follow.Gap have got) ↔ IsGapOf (handle_of before) block have got)
      → ((IsNext (handle_of before) block → ⊥) → now ≡ before)
      → (IsNext (handle_of before) block → TakesIt block before now (flow_of (Err fault)))
      → TakesBlock file block (Some (follow_fault file fault)) start done state old files read (handle_of now) output
  not_taken follow.NotImported unbegun gap same takes =
      let none = unbegun.0 refl in
      block_stops start done state file old files read (handle_of before) (handle_of now) output may alone head block faults.NotImported
      (ap (λ (own : Follower D g). handle_of own) (same (λ next. next.begun none))) tt tt
      (inr (baseless_of state block (handle_of before) may shown none))
  not_taken (follow.Gap have got) unbegun gap same takes =
      let far = (gap have got).0 refl in
      block_stops start done state file old files read (handle_of before) (handle_of now) output may alone head block (faults.Gap file
      have got)
      (ap (λ (own : Follower D g). handle_of own) (same (λ next. next.near have got far))) refl tt
      (inl (gap_of file state block (handle_of before) have got may shown far))
  not_taken (follow.Flow fault) unbegun gap same takes =
      let next = is_next (handle_of before) block (Err (follow.Flow fault)) (λ is. absurd (cc)) (λ have got is. absurd (cc)) unbegun gap in
      let own = takes next in
      block_refused start done state file old files read (handle_of before) (handle_of now) output may alone head block
      (may_next state block (handle_of before) may shown next) fault own.takes (follower_refused own.stays own.begun)
      (λ is. own.stays.today (ap Err is))

  -- it is, and told or not
  pub taken_told : (taken : Bool)
      → (IsErrOf {T = Bool} (Ok taken) follow.NotImported ↔ IsUnbegun (handle_of before) block)
      → ((have got : ℕ) → IsErrOf {T = Bool} (Ok taken) (follow.Gap have got) ↔ IsGapOf (handle_of before) block have got)
      → (IsNext (handle_of before) block → TakesIt block before now (flow_of (Ok taken)))
      → (version : Option ℕ) → version ≡ (if is_follower (handle_of now) then Some (changes_of (handle_of now)) else None)
      → (new : SinkView) (result : Result (Unit {0}) Fault)
      → ((told : ℕ) → version ≡ Some told → OnOk result (Appends output.taken new.taken (version_line told))
      × OnErr result (AppendsPrefix output.taken new.taken (version_line told)) × IfErr result (λ fault. fault ≡ faults.WriteFault)
      × HasCauseOf output.faults new.faults result)
      → TakesBlock file block (result_err result) start done state old files read (handle_of now) new
  taken_told taken unbegun gap takes version is new result told =
      let next = is_next (handle_of before) block (Ok taken) (λ is. absurd (cc)) (λ have got is. absurd (cc)) unbegun gap in
      let comes = may_next state block (handle_of before) may shown next in
      let own = takes next in
      let behind = own.shows state shown in
      let line = told (changes_in (after state (Follow block)))
      (version_is version (handle_of now) (after state (Follow block)) behind (follows_then state block comes) is) in
      block_told start done state file old files read (handle_of before) (handle_of now) output may alone head block comes own.takes
      (own.shows state)
      (moved_by state block (handle_of before) (handle_of now) may shown taken own.taken
      (λ none. ap (λ (own : Follower D g). handle_of own) (own.untaken none)))
      own.stays.whole own.stays.over.same_limits own.stays.cause (version_line (changes_in (after state (Follow block)))) new result refl
      line.0 line.1 line.2 line.3

  -- behind a block that is taken there is a version
  pub version_there : (taken : Bool)
      → (IsErrOf {T = Bool} (Ok taken) follow.NotImported ↔ IsUnbegun (handle_of before) block)
      → ((have got : ℕ) → IsErrOf {T = Bool} (Ok taken) (follow.Gap have got) ↔ IsGapOf (handle_of before) block have got)
      → (IsNext (handle_of before) block → TakesIt block before now (flow_of (Ok taken)))
      → None ≡ (if is_follower (handle_of now) then Some (changes_of (handle_of now)) else None) → ⊥
  version_there taken unbegun gap takes is =
      let next = is_next (handle_of before) block (Ok taken) (λ is. absurd (cc)) (λ have got is. absurd (cc)) unbegun gap in
      let comes = may_next state block (handle_of before) may shown next in
      let some : None ≡ Some (changes_in (after state (Follow block))) =
      version_is None (handle_of now) (after state (Follow block)) ((takes next).shows state shown) (follows_then state block comes) is in
      absurd (cc)

-- what was told of a version is told of another name of it
pub told_version : (version : ℕ) (output new : SinkView) (result : Result (Unit {0}) Fault)
    → OnOk result (Appends output.taken new.taken (version_line version))
    → OnErr result (AppendsPrefix output.taken new.taken (version_line version)) → IfErr result (λ fault. fault ≡ faults.WriteFault)
    → HasCauseOf output.faults new.faults result → (told : ℕ) → Some version ≡ Some told
    → OnOk result (Appends output.taken new.taken (version_line told)) × OnErr result (AppendsPrefix output.taken new.taken
    (version_line told))
    × IfErr result (λ fault. fault ≡ faults.WriteFault) × HasCauseOf output.faults new.faults result
told_version version output new result all front alone cause told is =
    let same : version ≡ told = same_Some version told is in (
      subst (λ (own : ℕ). OnOk result (Appends output.taken new.taken (version_line own))) same all,
      subst (λ (own : ℕ). OnErr result (AppendsPrefix output.taken new.taken (version_line own))) same front,
      alone,
      cause,
    )

-- ---- a store that stands for a state

-- no damaged page is told of it
module _ {D : Type 0} {g : Ghosts D} (file : ℕ) (before now : Follower D g) (block : Block) where
  pub stands_refused : (fault : FollowFault)
      → (IsErrOf {T = Bool} (Err fault) follow.NotImported ↔ IsUnbegun (handle_of before) block)
      → ((have got : ℕ) → IsErrOf {T = Bool} (Err fault) (follow.Gap have got) ↔ IsGapOf (handle_of before) block have got)
      → (IsNext (handle_of before) block → TakesIt block before now (flow_of (Err fault)))
      → KeepsStanding (Some (follow_fault file fault)) (handle_of before) (handle_of now)
  stands_refused follow.NotImported unbegun gap takes = λ opened. record {
    never = λ page is. absurd (cc (is));
    stays = λ none. absurd
        (cc (none));
  }
  stands_refused (follow.Gap have got) unbegun gap takes =
      λ opened. record { never = λ page is. absurd (cc (is)); stays = λ none. absurd (cc (none)) }
  stands_refused (follow.Flow fault) unbegun gap takes = λ opened.
      let next = is_next (handle_of before) block (Err (follow.Flow fault)) (λ is. absurd (cc)) (λ have got is. absurd (cc)) unbegun gap in
      record {
        never = λ page is. step_bad (limits_of (handle_of before)) opened.0 (Follow block) page
            (subst (λ (own : FlowFault). MayAnswer (limits_of (handle_of before)) opened.0 (Follow block) (Some own)) (bad_says fault
            page is)
            ((takes next).takes opened.0 opened.1).answer);
        stays = λ none. absurd (cc (none));
      }

  pub stands_taken : (taken : Bool)
      → (IsErrOf {T = Bool} (Ok taken) follow.NotImported ↔ IsUnbegun (handle_of before) block)
      → ((have got : ℕ) → IsErrOf {T = Bool} (Ok taken) (follow.Gap have got) ↔ IsGapOf (handle_of before) block have got)
      → (IsNext (handle_of before) block → TakesIt block before now (flow_of (Ok taken))) → Stands (handle_of before) → Stands
      (handle_of now)
  stands_taken taken unbegun gap takes opened =
      let next = is_next (handle_of before) block (Ok taken) (λ is. absurd (cc)) (λ have got is. absurd (cc)) unbegun gap in
      (after opened.0 (Follow block), ((takes next).takes opened.0 opened.1).done refl)

pub told_standing : (result : Result (Unit {0}) Fault) (store : Handle) → IfErr result (λ fault. fault ≡ faults.WriteFault) → Stands store
    → EndsStanding (result_err result) store
told_standing (Ok value) store alone opened = record { never = λ page is. absurd (cc (is)); stays = λ none. opened }
told_standing (Err fault) store alone opened = record {
  never = λ page is. let other : fault ≡ faults.BadStore page = same_Some fault (faults.BadStore page) is in absurd (cc (other, alone));
  stays = λ none. absurd (cc (none));
}

-- a fault that does not say that the disk holds no store
pub follow_never : {D : Type 0} {g : Ghosts D} (file : ℕ) (block : Block) (old new : Follower D g) (fault : FollowFault)
    → StaysFollower (Some (Follow block)) old new (flow_of (Err fault)) → Some (follow_fault file fault) ≢ Some faults.NotFormatted
follow_never file block old new follow.NotImported stays is = absurd (cc (is))
follow_never file block old new (follow.Gap have got) stays is = absurd (cc (is))
follow_never file block old new (follow.Flow fault) stays is = call_never fault stays.alone is

pub told_never : (result : Result (Unit {0}) Fault) → IfErr result (λ fault. fault ≡ faults.WriteFault)
    → result_err result ≢ Some faults.NotFormatted
told_never (Ok value) alone is = absurd (cc (is))
told_never (Err fault) alone is =
    let other : fault ≡ faults.NotFormatted = same_Some fault faults.NotFormatted is in absurd (cc (other, alone))

-- nor does the fault of a file
pub feed_never : (file : ℕ) (fault : FeedFault) → Some (feed_fault file fault) ≢ Some faults.NotFormatted
feed_never file (feed.Bad line why) is = absurd (cc (is))
feed_never file (feed.NoBase line) is = absurd (cc (is))
feed_never file (feed.Limit which value) is = absurd (cc (is))
feed_never file feed.ReadFault is = absurd (cc (is))
feed_never file feed.OutOfMemory is = absurd (cc (is))

-- and it tells no damaged page
feed_sound : (file : ℕ) (fault : FeedFault) (page : ℕ) → Some (feed_fault file fault) ≢ Some (faults.BadStore page)
feed_sound file (feed.Bad line why) page is = absurd (cc (is))
feed_sound file (feed.NoBase line) page is = absurd (cc (is))
feed_sound file (feed.Limit which value) page is = absurd (cc (is))
feed_sound file feed.ReadFault page is = absurd (cc (is))
feed_sound file feed.OutOfMemory page is = absurd (cc (is))

pub feed_standing : (file : ℕ) (fault : FeedFault) (store : Handle) → EndsStanding (Some (feed_fault file fault)) store
feed_standing file fault store = record { never = feed_sound file fault; stays = λ none. absurd (cc (none)) }
