-- A store that follows another one: what its opening finds, and what its calls leave.
use Rattle.std.proofs.Common.{◌≡◌, ◌≢◌, ◌↔◌, inl, inr, ◌+◌, ◌<◌, ◌≤◌, ◌==◌, ℕ, Bool, true, false, cond, List, [], Option, Some, None, Ok, Err, refl, sym, ap, subst}
use Rattle.std.proofs.Common.{◌∙◌, arith, nat_lt, nat_le}
use Rattle.std.specs.Prelude.{IsErr, IsErrOf, Result, is_some}
use Rattle.std.specs.FinMap as finite
use Rattle.std.specs.Result.{result_err}
use Rattle.std.proofs.lemmas.Bool.Decides.{nat_tests}
use Rattle.std.proofs.lemmas.Option.{same_Some}
use Rattle.outside.specs.Disk.{DiskView, Stays}
use Rattle.outside.specs.declared.disk.Disk.{Ghosts}
use Rattle.page_journal.proofs.Moments.{stays_same}
use Rattle.osm_base.specs.declared.values.row.Delta.{Delta}
use Rattle.osm_base.specs.declared.values.row.RowChange.{RowChange}
use Rattle.osm_base.specs.map.Spots.{changed_all}
use Rattle.page_journal.specs.declared.fault.StoreFault.TheVariants as store
use Rattle.page_journal.specs.Home.{Home}
use Rattle.page_journal.specs.Pages.{gate}
use Rattle.page_journal.specs.declared.layout.TheConstants.{OPEN}
use Rattle.chain_store.specs.Directories.{root_in}
use Rattle.chain_store.specs.Links.{page_in}
use Rattle.chain_store.specs.declared.root.Root.{Root}
use Rattle.style_read.specs.Style.{StyleOf}
use Rattle.bucket_store.specs.Opening.{Fits, opened_root}
use Rattle.bucket_store.specs.declared.resting.Resting.{Resting}
use Rattle.delta_feed.specs.declared.block.Block.{Block}
use Rattle.delta_feed.specs.declared.block.Block.TheVariants as blocks
use Rattle.update_flow.specs.AtRest.{HasFlowCause}
use Rattle.update_flow.specs.Calls.{IsLook, IsStill}
use Rattle.update_flow.specs.Due.{no_tiles}
use Rattle.update_flow.specs.Follower.{AreFieldsForBase, AreOfBase, BaseTold, FoundBase, IsByNumbers, IsGap, IsNext, IsTaken, IsUnbegun}
use Rattle.update_flow.specs.Follower.{StaysFollower, StaysOver, disk_in, flow_of, handle_of, is_later, is_new}
use Rattle.update_flow.specs.Handle.{Handle, IsOpen, Looks, Shows, Takes, TellsAs, changes_of, is_follower, is_imported, is_old, is_whole, limits_of}
use Rattle.update_flow.specs.Handle.{style_of, view_of}
use Rattle.update_flow.specs.Needed.{version_of}
use Rattle.update_flow.specs.Opening.{AreFieldsIn, AreOfFollower, HoldsState}
use Rattle.update_flow.specs.Refusals.{IsCallFault, MayTell}
use Rattle.update_flow.specs.Roots.{is_blank, is_following, is_imported as is_begun, is_old as is_dated}
use Rattle.update_flow.specs.State.{Follow, Following, Holding, State, changes_in, followed, follower_buckets, following, follows, formatted, imported}
use Rattle.update_flow.specs.State.{Step, after, outdated, style_in, taken_whole, was_imported, was_old}
use Rattle.update_flow.specs.Turning.{EndsOn, LooksOn, MayEnd, TurnsOn}
use Rattle.update_flow.specs.Updater.{KeptFits}
use Rattle.update_flow.specs.declared.base.Base.{Base}
use Rattle.update_flow.specs.declared.fault.FlowFault.{FlowFault}
use Rattle.update_flow.specs.declared.fault.FlowFault.TheVariants as flow
use Rattle.update_flow.specs.declared.fault.FollowFault.{FollowFault}
use Rattle.update_flow.specs.declared.fault.FollowFault.TheVariants as follow
use Rattle.update_flow.specs.declared.follower.Follower.{Follower}
use Rattle.update_flow.proofs.Checks.{only_made}
use Rattle.update_flow.proofs.Handles.{looks_on, takes_on}
use Rattle.update_flow.proofs.Openings.{following_root, none_blank, root_of, root_told}
use Rattle.update_flow.proofs.Resting.{either_done}
use Rattle.update_flow.proofs.Takings.{delta_new, whole_new}

-- The opening. A follower's state was begun, and is no old one.
pub own_state : (state : State) → follows state ≡ true → (was_imported state ≡ true) × (was_old state ≡ false)
own_state formatted own = absurd (cc (own))
own_state (imported held) own = absurd (cc (own))
own_state (outdated held) own = absurd (cc (own))
own_state (following held) own = (refl, refl)

pub blank_base : (state : State) (view : DiskView) (found : Resting) (base : Base) → is_blank (opened_root found) ≡ true → base.store ≡ found
    → base.version ≡ 0 → base.style ≡ None → Fits found view → HoldsState state view → FoundBase state view base
blank_base state view found base blank same none styleless fits holds =
    let made : is_blank holds.image.root ≡ true = ap (λ (r : Root). is_blank r) (sym (root_of state view found fits holds)) ∙ blank in
    let own = only_made state holds.image holds.means made in
    record {
      version_is = none ∙ ap (λ (s : State). changes_in s) own;
      style_is = styleless ∙ ap (λ (s : State). style_in s) own;
      own = ap (λ (s : Option StyleOf). is_some s) styleless ∙ ap (λ (s : State). follows s) own;
      today = sym (ap (λ (s : State). was_old s) own);
      fits = subst (λ (s : Resting). Fits s view) (sym same) fits;
    }

-- one whose fields are neither blank nor a follower's was imported
pub taken_state : (state : State) (view : DiskView) (opened : Resting) (root : Root) → root ≡ opened_root opened → is_blank root ≡ false
    → is_following root ≡ false → Fits opened view → HoldsState state view → IsTaken state
taken_state formatted view opened root same blank own fits holds = absurd (none_blank view opened root same blank fits holds)
taken_state (imported held) view opened root same blank own fits holds = record { begun = refl; own = refl }
taken_state (outdated held) view opened root same blank own fits holds = record { begun = refl; own = refl }
taken_state (following held) view opened root same blank own fits holds =
    let here : is_following root ≡ is_following holds.image.root =
    ap (λ (r : Root). is_following r) (same ∙ root_of (following held) view opened fits holds) in
    let is : is_following holds.image.root ≡ true = following_root held holds.image holds.means in
    absurd (cc (here, is, own))

pub own_fields : (style : Option StyleOf) (version : ℕ) (root : Root) → is_some style ≡ true → AreOfFollower version root
    → AreOfBase style version root
own_fields None version root some are = absurd (cc (some))
own_fields (Some style) version root some are = are

pub made_fields : (root : Root) → is_blank root ≡ true → AreOfBase None 0 root
made_fields root is = record { kind = is; count = λ some. absurd (cc (some)) }

-- a state whose store has so many changes
some_held : ℕ → Holding
some_held changes = record {
  style = record { selections = []; tables = [] };
  style_bytes = [];
  buckets = 0;
  objects = finite.empty;
  changes = changes;
  due = no_tiles;
}

begun_fields : (stored root : Root) → is_begun stored ≡ true → stored ≡ root → AreFieldsIn (imported (some_held stored.changes)) root
unfolding some_held
begun_fields stored root is same = record {
  kind = ap (λ (r : Root). is_begun r) (sym same) ∙ is;
  count = λ _. ap (λ (r : Root). r.changes) same;
}

dated_fields : (stored root : Root) → is_dated stored ≡ true → stored ≡ root → AreFieldsIn (outdated (some_held stored.changes)) root
unfolding some_held
dated_fields stored root is same = record {
  kind = ap (λ (r : Root). is_dated r) (sym same) ∙ is;
  count = λ _. ap (λ (r : Root). r.changes) same;
}

-- what was read of a disk that was only looked at tells its root page
module _ (found : Resting) (old mid : DiskView) (stays : (bytes : List ℕ) → old.content ≡ Some bytes → gate bytes ≢ OPEN → Stays old mid)
    (fits : (bytes : List ℕ) → old.content ≡ Some bytes → Fits found mid) where
  told_root : (bytes : List ℕ) → old.content ≡ Some bytes → gate bytes ≢ OPEN → (pages : List (List ℕ)) → Home pages bytes
      → opened_root found ≡ root_in (page_in pages 1)
  told_root bytes told shut pages home = root_told found bytes pages old mid told (stays bytes told shut) (fits bytes told) home

  pub base_told : (based : Option Base) → AreFieldsForBase based (opened_root found) → BaseTold old.content based
  base_told None (inl begun) = (
    imported (some_held (opened_root found).changes),
    record { begun = refl; own = refl },
    λ bytes told shut pages home.
        begun_fields (opened_root found) (root_in (page_in pages 1)) begun (told_root bytes told shut pages home),
  )
  base_told None (inr dated) = (
    outdated (some_held (opened_root found).changes),
    record { begun = refl; own = refl },
    λ bytes told shut pages home.
        dated_fields (opened_root found) (root_in (page_in pages 1)) dated (told_root bytes told shut pages home),
  )
  base_told (Some base) are = λ bytes told shut pages home.
      subst (λ (r : Root). AreOfBase base.style base.version r) (told_root bytes told shut pages home) are

-- An open store. What it tells is so of the state only where that is one that was only made, or a follower's.
module _ (handle : Handle) where
  pub told_import : (held : Holding) → is_imported handle ≡ is_follower handle → Shows (imported held) handle → ⊥
  told_import held own shows = absurd (cc (own, shows.imported_is, shows.follower_is))

  pub told_dated : (held : Holding) → is_old handle ≡ false → Shows (outdated held) handle → ⊥
  told_dated held fresh shows = absurd (cc (fresh, shows.old_is))

  pub told_made : Shows formatted handle → is_follower handle ≡ true → ⊥
  told_made shows is = absurd (cc (is, shows.follower_is))

-- a block that is not new leaves what is held
not_before : (one other : ℕ) → nat_lt one other ≡ false → other ≤ one
not_before one other is = grind (arith, nat_tests, is)

is_before : (one other : ℕ) → nat_lt one other ≡ true → one < other
is_before one other is = grind (arith, nat_tests, is)

at_most : (one other : ℕ) → one ≤ other → nat_le one other ≡ true
at_most one other is = grind (arith, nat_tests, is)

not_next : (one other : ℕ) → one ≤ other → (one == other + 1) ≡ false
not_next one other is = grind (arith, nat_tests, is)

pub followed_stale : (held : Following) (block : Block) → version_of block ≤ held.version → followed held block ≡ held
followed_stale held (blocks.Full version bytes style rows) old =
    ap (λ (b : Bool). cond b held (taken_whole held.buckets version bytes style rows)) (at_most version held.version old)
followed_stale held (blocks.Delta delta) old =
    ap (λ (b : Bool). cond b (record held { tables = changed_all held.tables delta.changes; version = delta.version }) held)
    (not_next delta.version held.version old)

module _ (handle : Handle) (block : Block) (own : is_imported handle ≡ is_follower handle) (fresh : is_old handle ≡ false)
    (is : is_new handle block ≡ false) where
  stale_made : Shows formatted handle → ⊥
  stale_made shows =
      let all : is_new handle block ≡ true = ap (λ (b : Bool). cond b (nat_lt (changes_of handle) (version_of block)) true) shows.follower_is in
      absurd (cc (all, is))

  stale_held : (held : Following) → Shows (following held) handle → version_of block ≤ held.version
  stale_held held shows =
      let same : is_new handle block ≡ nat_lt (changes_of handle) (version_of block) =
      ap (λ (b : Bool). cond b (nat_lt (changes_of handle) (version_of block)) true) shows.follower_is in
      let before : version_of block ≤ changes_of handle = not_before (changes_of handle) (version_of block) (sym same ∙ is) in
      subst (λ (n : ℕ). version_of block ≤ n) shows.changes_are before

  pub stale_shows : (state : State) → Shows state handle → Shows (after state (Follow block)) handle
  stale_shows (imported held) shows = absurd (told_import handle held own shows)
  stale_shows (outdated held) shows = absurd (told_dated handle held fresh shows)
  stale_shows formatted shows = absurd (stale_made shows)
  stale_shows (following held) shows =
      subst (λ (h : Following). Shows (following h) handle) (sym (followed_stale held block (stale_held held shows))) shows

  pub stale_taken : (state : State) → IsOpen state handle → Takes state (Follow block) None handle handle
  stale_taken (imported held) opened = absurd (told_import handle held own opened.shows)
  stale_taken (outdated held) opened = absurd (told_dated handle held fresh opened.shows)
  stale_taken formatted opened = absurd (stale_made opened.shows)
  stale_taken (following held) opened =
      let old = stale_held held opened.shows in
      record {
        answer = refl;
        needs = λ writes. let newer : held.version < version_of block = writes in absurd (omega (arith, old, newer));
        done = λ none. subst (λ (h : Following). IsOpen (following h) handle) (sym (followed_stale held block old)) opened;
        grown = λ writes. let newer : held.version < version_of block = writes in absurd (omega (arith, old, newer));
        refused = λ not no. absurd (not refl);
        moments = either_done (following held) (following (followed held block)) (view_of handle) opened.at_rest;
      }

-- a version that tables have not seen is behind theirs
pub later_version : (store : Handle) (version : ℕ) → is_later store version ≡ true → is_follower store ≡ true → changes_of store < version
later_version store version later own =
    is_before (changes_of store) version (sym (ap (λ (b : Bool). cond b (nat_lt (changes_of store) version) true) own) ∙ later)

-- the version behind another one, where none is missing
pub next_version : (store : Handle) (delta : Delta) → is_follower store ≡ true → IsNext store (blocks.Delta delta)
    → changes_of store < delta.version → delta.version ≡ changes_of store + 1
next_version store delta own next later =
    elim (nat_lt (changes_of store + 1) delta.version) as (λ b. nat_lt (changes_of store + 1) delta.version ≡ b
    → delta.version ≡ changes_of store + 1) [
      | true ↦ λ is. absurd (next.near (changes_of store) delta.version (own, refl, refl, is_before (changes_of store + 1) delta.version is))
      | false ↦ λ is. let few = not_before (changes_of store + 1) delta.version is in omega (arith, few, later)
    ] refl

-- What was done on the disk was done to the store.
module _ (old new : Handle) (kept : Option Resting) (whole : is_some kept ≡ is_whole new)
    (keeps : KeptFits kept (view_of new) → new.keeps) (own : is_imported old ≡ is_follower old) (fresh : is_old old ≡ false) where
  shows_as : (state : State) → TellsAs old new → Shows state old → Shows state new
  shows_as state tells shows = record {
    changes_are = tells.changes_same ∙ shows.changes_are;
    imported_is = tells.imported_same ∙ shows.imported_is;
    old_is = tells.old_same ∙ shows.old_is;
    style_is = tells.style_same ∙ shows.style_is;
    follower_is = tells.follower_same ∙ shows.follower_is;
  }

  shows_held : (held : Following) → changes_of new ≡ held.version → style_of new ≡ Some held.style → is_follower new ≡ true → is_old new ≡ false
      → Shows (following held) new
  shows_held held version style is today = record {
    changes_are = version;
    imported_is = ap (λ (s : Option StyleOf). is_some s) style;
    old_is = today;
    style_is = style;
    follower_is = is;
  }

  pub follower_looked : (fault : Option FlowFault) → TellsAs old new → is_follower old ≡ true
      → ((held : Following) → IsOpen (following held) old → LooksOn (following held) fault (view_of old) (view_of new) kept)
      → (state : State) → IsOpen state old → Looks state fault old new
  follower_looked fault tells is looks formatted opened = absurd (told_made old opened.shows is)
  follower_looked fault tells is looks (imported held) opened = absurd (told_import old held own opened.shows)
  follower_looked fault tells is looks (outdated held) opened = absurd (told_dated old held fresh opened.shows)
  follower_looked fault tells is looks (following held) opened =
      looks_on old new kept whole keeps (following held) fault (looks held opened) (shows_as (following held) tells opened.shows)

  -- whole tables
  module _ (version : ℕ) (bytes : List ℕ) (style : StyleOf) (rows : List RowChange) (later : is_follower old ≡ true → changes_of old < version) where
    newer_held : (held : Following) → Shows (following held) old → held.version < version
    newer_held held shows = let before = later shows.follower_is in subst (λ (n : ℕ). n < version) shows.changes_are before

    pub full_shows : (changes_of new ≡ version) × (style_of new ≡ Some style) × (is_follower new ≡ true) × (is_old new ≡ false)
        → (state : State) → Shows state old → Shows (after state (Follow (blocks.Full version bytes style rows))) new
    full_shows is (imported held) shows = absurd (told_import old held own shows)
    full_shows is (outdated held) shows = absurd (told_dated old held fresh shows)
    full_shows is formatted shows = shows_held (taken_whole follower_buckets version bytes style rows) is.0 is.1 is.2 is.3
    full_shows is (following held) shows =
        subst (λ (h : Following). Shows (following h) new) (whole_new held version bytes style rows (newer_held held shows))
        (shows_held (taken_whole held.buckets version bytes style rows) is.0 is.1 is.2 is.3)

    pub full_taken : (fault : Option FlowFault)
        → (IsOpen formatted old → TurnsOn (limits_of old) formatted (Follow (blocks.Full version bytes style rows)) fault (view_of old) (view_of new) kept)
        → ((held : Following) → IsOpen (following held) old → held.version < version
        → TurnsOn (limits_of old) (following held) (Follow (blocks.Full version bytes style rows)) fault (view_of old) (view_of new) kept)
        → (fault ≡ None → (changes_of new ≡ version) × (style_of new ≡ Some style) × (is_follower new ≡ true) × (is_old new ≡ false))
        → (fault ≢ None → TellsAs old new)
        → (state : State) → IsOpen state old → Takes state (Follow (blocks.Full version bytes style rows)) fault old new
    full_taken fault begun turns done tells (imported held) opened = absurd (told_import old held own opened.shows)
    full_taken fault begun turns done tells (outdated held) opened = absurd (told_dated old held fresh opened.shows)
    full_taken fault begun turns done tells formatted opened =
        takes_on old new kept whole keeps formatted (Follow (blocks.Full version bytes style rows)) fault (begun opened)
        (λ none. full_shows (done none) formatted opened.shows) (λ some. shows_as formatted (tells some) opened.shows)
    full_taken fault begun turns done tells (following held) opened =
        takes_on old new kept whole keeps (following held) (Follow (blocks.Full version bytes style rows)) fault
        (turns held opened (newer_held held opened.shows))
        (λ none. full_shows (done none) (following held) opened.shows) (λ some. shows_as (following held) (tells some) opened.shows)

  -- a difference
  module _ (delta : Delta) (style : StyleOf) (is : is_follower old ≡ true) (next : delta.version ≡ changes_of old + 1)
      (styled : style_of old ≡ Some style) where
    next_held : (held : Following) → Shows (following held) old → delta.version ≡ held.version + 1
    next_held held shows = next ∙ ap (λ (n : ℕ). n + 1) shows.changes_are

    same_style : (held : Following) → Shows (following held) old → held.style ≡ style
    same_style held shows = same_Some held.style style (sym shows.style_is ∙ styled)

    pub delta_shows : (changes_of new ≡ delta.version) × (style_of new ≡ Some style) × (is_follower new ≡ true) × (is_old new ≡ false)
        → (state : State) → Shows state old → Shows (after state (Follow (blocks.Delta delta))) new
    delta_shows told formatted shows = absurd (told_made old shows is)
    delta_shows told (imported held) shows = absurd (told_import old held own shows)
    delta_shows told (outdated held) shows = absurd (told_dated old held fresh shows)
    delta_shows told (following held) shows =
        let taken : Following = record held { tables = changed_all held.tables delta.changes; version = delta.version } in
        subst (λ (h : Following). Shows (following h) new) (delta_new held taken delta.version (next_held held shows))
        (shows_held taken told.0 (told.1 ∙ ap (λ (s : StyleOf). Some s) (sym (same_style held shows))) told.2 told.3)

    pub delta_taken : (fault : Option FlowFault)
        → ((held : Following) → IsOpen (following held) old → held.style ≡ style → delta.version ≡ held.version + 1
        → TurnsOn (limits_of old) (following held) (Follow (blocks.Delta delta)) fault (view_of old) (view_of new) kept)
        → (fault ≡ None → (changes_of new ≡ delta.version) × (style_of new ≡ Some style) × (is_follower new ≡ true) × (is_old new ≡ false))
        → (fault ≢ None → TellsAs old new)
        → (state : State) → IsOpen state old → Takes state (Follow (blocks.Delta delta)) fault old new
    delta_taken fault turns done tells formatted opened = absurd (told_made old opened.shows is)
    delta_taken fault turns done tells (imported held) opened = absurd (told_import old held own opened.shows)
    delta_taken fault turns done tells (outdated held) opened = absurd (told_dated old held fresh opened.shows)
    delta_taken fault turns done tells (following held) opened =
        takes_on old new kept whole keeps (following held) (Follow (blocks.Delta delta)) fault
        (turns held opened (same_style held opened.shows) (next_held held opened.shows))
        (λ none. delta_shows (done none) (following held) opened.shows) (λ some. shows_as (following held) (tells some) opened.shows)

-- What was answered on the disk is told to who called.
ends_call : (call : Option Step) (fault : FlowFault) → MayEnd call (Some fault) → IsCallFault fault
ends_call call (flow.Store store.NotFormatted) may = absurd may
ends_call call (flow.Store store.NotEmpty) may = absurd may
ends_call call (flow.Store (store.BadStore page)) may = tt
ends_call call (flow.Store store.DiskFault) may = tt
ends_call call (flow.Store (store.StoreFull pages)) may = tt
ends_call call (flow.Store store.Broken) may = absurd may
ends_call call (flow.Store store.OutOfMemory) may = absurd may
ends_call call flow.NotImported may = absurd may
ends_call call flow.AlreadyImported may = absurd may
ends_call call flow.OldFormat may = absurd may
ends_call call flow.LastChange may = absurd may
ends_call call (flow.TooMany value) may = tt
ends_call call flow.OutOfMemory may = tt

ends_told : (call : Option Step) (fault : FlowFault) → MayEnd call (Some fault) → MayTell call fault
ends_told call (flow.Store store.NotFormatted) may = absurd may
ends_told call (flow.Store store.NotEmpty) may = absurd may
ends_told call (flow.Store (store.BadStore page)) may = tt
ends_told call (flow.Store store.DiskFault) may = tt
ends_told call (flow.Store (store.StoreFull pages)) may = may
ends_told call (flow.Store store.Broken) may = absurd may
ends_told call (flow.Store store.OutOfMemory) may = absurd may
ends_told call flow.NotImported may = absurd may
ends_told call flow.AlreadyImported may = absurd may
ends_told call flow.OldFormat may = absurd may
ends_told call flow.LastChange may = absurd may
ends_told call (flow.TooMany value) may = may
ends_told call flow.OutOfMemory may = tt

-- and no answer is one that no call on the disk ends in
pub never_ends : {T : Type 0} (call : Option Step) (result : Result T FlowFault) (fault : FlowFault) → MayEnd call (result_err result)
    → (MayEnd call (Some fault) → ⊥) → ¬ IsErrOf result fault
never_ends {T} call result fault may not is = not (subst (λ (r : Result T FlowFault). MayEnd call (result_err r)) is may)

module _ {T D : Type 0} {g : Ghosts D} (call : Option Step) (old new : Follower D g) (over : StaysOver old new)
    (still : IsStill call → TellsAs (handle_of old) (handle_of new)) (only : IsLook call → Stays (disk_in old) (disk_in new))
    (was : is_some old.store ≡ true) where
  pub stays_ended : (result : Result T FlowFault) → (IsErr result → TellsAs (handle_of old) (handle_of new))
      → EndsOn call (result_err result) (disk_in old) (disk_in new) new.store → StaysFollower call old new result
  stays_ended (Ok value) tells ends = record {
    over = over;
    tells = tells;
    still = still;
    alone = tt;
    told = tt;
    today = λ is. absurd (cc (is));
    only = only;
    whole = ends.whole tt ∙ sym was;
    broken = λ is. absurd (cc (is));
    cause = ends.cause;
  }
  stays_ended (Err fault) tells ends = record {
    over = over;
    tells = tells;
    still = still;
    alone = ends_call call fault ends.alone;
    told = ends_told call fault ends.alone;
    today = never_ends {T = T} call (Err fault) flow.OldFormat ends.alone (λ may. may);
    only = only;
    whole = tt;
    broken = λ is. absurd (never_ends {T = T} call (Err fault) (flow.Store store.Broken) ends.alone (λ may. may) is);
    cause = ends.cause;
  }

-- Nothing was called.
module _ {T D : Type 0} {g : Ghosts D} (call : Option Step) (old new : Follower D g) (over : StaysOver old new)
    (tells : TellsAs (handle_of old) (handle_of new)) (same : disk_in new ≡ disk_in old) where
  pub stays_broken : is_whole (handle_of old) ≡ false → StaysFollower {T = T} call old new (Err (flow.Store store.Broken))
  stays_broken broken = record {
    over = over;
    tells = λ is. tells;
    still = λ is. tells;
    alone = tt;
    told = tt;
    today = λ is. absurd (cc (is));
    only = λ is. subst (λ (view : DiskView). Stays (disk_in old) view) (sym same) (stays_same (disk_in old));
    whole = tt;
    broken = λ is. broken;
    cause = subst (λ (view : DiskView). HasFlowCause (Some (flow.Store store.Broken)) (disk_in old) view) (sym same)
        (record { later = omega arith; failed = λ is. absurd (cc (is)) });
  }

-- A block that is refused by the numbers alone is not the next one, and leaves all as it is.
pub unfit_not : (store : Handle) (block : Block) (fault : FollowFault) → IsByNumbers fault → (Some fault ≡ Some follow.NotImported ↔ IsUnbegun store block)
    → ((have got : ℕ) → Some fault ≡ Some (follow.Gap have got) ↔ IsGap store block have got) → IsNext store block → ⊥
unfit_not store block (follow.Flow fault) by unbegun gap next = absurd by
unfit_not store block follow.NotImported by unbegun gap next = next.begun (unbegun.0 refl)
unfit_not store block (follow.Gap have got) by unbegun gap next = next.near have got ((gap have got).0 refl)

module _ {D : Type 0} {g : Ghosts D} (follower : Follower D g) (call : Option Step) where
  pub stays_none : StaysFollower {T = Bool} call follower follower (Ok false)
  stays_none = record {
    over = record { same_disk = refl; same_limits = refl };
    tells = λ is. absurd (cc (is));
    still = λ is. record { changes_same = refl; imported_same = refl; old_same = refl; style_same = refl; follower_same = refl };
    alone = tt;
    told = tt;
    today = λ is. absurd (cc (is));
    only = λ is. stays_same (view_of (handle_of follower));
    whole = refl;
    broken = λ is. absurd (cc (is));
    cause = record { later = omega arith; failed = λ is. absurd (cc (is)) };
  }

  pub stays_unfit : (fault : FollowFault) → IsByNumbers fault → StaysFollower call follower follower (flow_of (Err fault))
  stays_unfit (follow.Flow fault) by = absurd by
  stays_unfit follow.NotImported by = stays_none
  stays_unfit (follow.Gap have got) by = stays_none

abbrev no_fault : Option FollowFault
no_fault = None

-- and one that is not is
pub fit_next : (store : Handle) (block : Block) → (no_fault ≡ Some follow.NotImported ↔ IsUnbegun store block)
    → ((have got : ℕ) → no_fault ≡ Some (follow.Gap have got) ↔ IsGap store block have got) → IsNext store block
fit_next store block unbegun gap = record {
  begun = λ un. absurd (cc (unbegun.1 un));
  near = λ have got is. absurd (cc ((gap have got).1 is));
}
