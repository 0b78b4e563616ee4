-- A store is opened that may follow another one.
use Rattle.std.proofs.Common.{◌≡◌, ◌≤◌, ◌⊎◌, ◌∙◌, ℕ, true, false, Option, Some, None, List, [], inl, inr, refl, sym, ap}
use Rattle.std.proofs.Common.{subst, arith}
use Rattle.std.specs.Prelude.{is_some}
use Rattle.std.specs.FinMap as finite
use Rattle.osm_base.specs.bounds.Limits.{standard}
use Rattle.osm_base.specs.declared.bounds.limits.LimitNumbers.{LimitNumbers}
use Rattle.outside.specs.Bytes.{IfTold, IsTold}
use Rattle.outside.specs.Disk.{DiskView}
use Rattle.outside.specs.Inputs.{FilesView}
use Rattle.outside.specs.Sink.{SinkView}
use Rattle.outside.specs.declared.disk.Disk.{Ghosts}
use Rattle.page_journal.specs.Home.{IsFormatted}
use Rattle.page_journal.specs.Pages.{gate}
use Rattle.page_journal.specs.declared.layout.TheConstants.{OPEN}
use Rattle.style_read.specs.Style.{StyleOf}
use Rattle.update_flow.specs.AtRest.{HasFlowCause, IsAt, IsAtEither, Opens}
use Rattle.update_flow.specs.Either.{EitherTold, FindsSoundEither, FoundEither}
use Rattle.update_flow.specs.Follower.{AreOfBase, BaseTold, FindsBlankIn, FoundBase, FoundBaseIn, IsTaken, TellsBase, disk_of, handle_of}
use Rattle.update_flow.specs.Handle.{Handle, IsOpen, Shows, is_whole, limits_of, view_of}
use Rattle.update_flow.specs.History.{state_after}
use Rattle.update_flow.specs.Opening.{AreOfFollower, IfRoot, MayOpenAs}
use Rattle.update_flow.specs.State.{Following, State, follows, formatted, imported, outdated, following}
use Rattle.update_flow.specs.declared.base.Base.{Base}
use Rattle.update_flow.specs.declared.either.Either.{Either}
use Rattle.update_flow.specs.declared.either.Either.TheVariants as eithers
use Rattle.update_flow.specs.declared.follower.Follower.{Follower}
use Rattle.run_promise.specs.declared.fault.Fault.{Fault}
use Rattle.run_promise.specs.declared.fault.Fault.TheVariants as faults
use Rattle.run_promise.specs.declared.files.Files.{Files}
use Rattle.run_promise.specs.Comes.{Comes}
use Rattle.run_promise.specs.CommandOf.{old_store}
use Rattle.run_promise.specs.Course.{Course, opens}
use Rattle.run_promise.specs.Courses.{follow_to, follows_files}
use Rattle.run_promise.specs.Keeps.{IsKept, IsOneOf, Kept, first, whole}
use Rattle.run_promise.specs.Progress.{Progress, Ending, at, begun, keeps, opened, unknown}
use Rattle.run_promise.specs.Runs.{Begins, GoesBy}
use Rattle.run_promise.specs.World.{Before, remembered, world}
use Rattle.run_promise.proofs.HistoryLaws.{one_of_all}
use Rattle.updater.specs.Following.{MayFollow}
use Rattle.updater.specs.Heads.{GoesOn, IsHead}
use Rattle.updater.proofs.OpenDeeds.{IsBegun, at_either, begun_leaves, begun_moments}
use Rattle.updater.proofs.OpenRuns.{goes_begun}

-- ---- by the state

-- what was found may follow
pub may_base : (state : State) (disk : DiskView) (base : Base) → FoundBase state disk base → MayFollow state
may_base formatted disk base found = tt
may_base (following held) disk base found = tt
may_base (imported held) disk base found = absurd
    (let two : true ≡ false = sym (ap (λ (style : Option StyleOf). is_some style) found.style_is) ∙ found.own in cc)
may_base (outdated held) disk base found = absurd (let two : true ≡ false = found.today in cc)

-- and goes on through the files
pub follow_from : (files : Files) (state : State) → MayFollow state → (old : Before) (done : Progress) (ending : Ending)
    → Comes old (follows_files files.first files.count state) done ending → Comes old (follow_to files state) done ending
follow_from files formatted may old done ending comes = comes
follow_from files (following held) may old done ending comes = comes
follow_from files (imported held) may old done ending comes = absurd may
follow_from files (outdated held) may old done ending comes = absurd may

-- another store is refused
taken_stops : (files : Files) (state : State) → IsTaken state → (old : Before) (done : Progress)
    → Comes old (follow_to files state) done (at done (Some faults.AlreadyImported))
taken_stops files formatted taken old done = absurd (let two : false ≡ true = taken.begun in cc)
taken_stops files (imported held) taken old done = refl
taken_stops files (outdated held) taken old done = refl
taken_stops files (following held) taken old done = absurd (let two : true ≡ false = taken.own in cc)

-- ---- what a store tells where nothing else is known of it

abbrev shown_tables : StyleOf → ℕ → Following
shown_tables style version = record { style = style; style_bytes = []; buckets = 0; tables = finite.empty; version = version }

abbrev shown_base : Option StyleOf → ℕ → State
shown_base None version = formatted
shown_base (Some style) version = following (shown_tables style version)

pub base_may : (style : Option StyleOf) (version : ℕ) → MayFollow (shown_base style version)
base_may None version = tt
base_may (Some style) version = tt

base_shows : (limits : LimitNumbers) (base : Base) (store : Handle) → TellsBase limits base store → (base.style ≡ None → base.version ≡ 0)
    → Shows (shown_base base.style base.version) store
base_shows limits base store tells begun = by base.style refl
  where
    by : (style : Option StyleOf) → base.style ≡ style → Shows (shown_base style base.version) store
    by None is = record {
      changes_are = tells.version ∙ begun is;
      imported_is = tells.begun ∙ tells.own ∙ ap (λ (own : Option StyleOf). is_some own) is;
      old_is = tells.today;
      style_is = tells.style ∙ is;
      follower_is = tells.own ∙ ap (λ (own : Option StyleOf). is_some own) is;
    }
    by (Some style) is = record {
      changes_are = tells.version;
      imported_is = tells.begun ∙ tells.own ∙ ap (λ (own : Option StyleOf). is_some own) is;
      old_is = tells.today;
      style_is = tells.style ∙ is;
      follower_is = tells.own ∙ ap (λ (own : Option StyleOf). is_some own) is;
    }

base_opens : (style : Option StyleOf) (version : ℕ) (bytes : List ℕ) → IsFormatted bytes → IfRoot (AreOfBase style version) bytes
    → MayOpenAs (shown_base style version) bytes
base_opens None version bytes formed fields = record { formed = formed; fields = fields }
base_opens (Some style) version bytes formed fields = record { formed = formed; fields = fields }

module _ (files : FilesView) (view : DiskView) (output : SinkView)
    (only_now : (left : List ℕ) → view.crashes.outcomes_since view.crashes.moment left → view.crashes.outcomes left) where
  abbrev Old : Before
  Old = remembered (world files view output)

  -- ---- an imported store, or an old one

  module _ (own : Files) (now : DiskView) (later : view.faults ≤ now.faults) where
    abbrev Refused : Progress → Type 0
    Refused start = GoesBy (opens (follow_to own)) start (Some faults.AlreadyImported) (world files view output) (world files now output)

    taken_at : (kept : Kept) (is : IsKept view kept) (cut : ℕ) → kept.least ≤ cut → cut ≤ kept.most
        → IsAt (state_after (first cut kept.history)) now → IsTaken (state_after (first cut kept.history))
        → Opens (state_after (first kept.least kept.history)) (state_after (first kept.most kept.history)) None view now
        → Refused (begun (keeps kept) kept.least)
    taken_at kept is cut low high rests taken went = (
      at (opened kept cut (begun (keeps kept) kept.least)) (Some faults.AlreadyImported),
      refl,
      inr (
        cut,
        low,
        high,
        taken_stops own (state_after (first cut kept.history)) taken Old (opened kept cut (begun (keeps kept)
            kept.least)),
      ),
      begun_leaves files view output only_now (keeps (whole (first cut kept.history))) cut (keeps kept) kept.least
          (Some faults.AlreadyImported) now (
            (λ left out. subst (λ (bytes : List ℕ). IsOneOf (whole (first cut kept.history)) bytes) (sym (rests.only left out))
                (one_of_all rests.bytes (first cut kept.history) rests.stands)),
            λ _. (rests.bytes, rests.told),
          )
          (begun_moments files view output only_now kept is cut (keeps (whole (first cut kept.history))) now.crashes went.moments) tt
          later,
    )

    taken_kept : (kept : Kept) (is : IsKept view kept)
        → Opens (state_after (first kept.least kept.history)) (state_after (first kept.most kept.history)) None view now
        → ((state : State) → IsAt state now → IsTaken state) → Refused (begun (keeps kept) kept.least)
    taken_kept kept is went found = by (went.found refl)
      where
        by : IsAt (state_after (first kept.least kept.history)) now ⊎ IsAt (state_after (first kept.most kept.history)) now
            → Refused (begun (keeps kept) kept.least)
        by (inl rests) = taken_at kept is kept.least (omega arith) is.fit.order rests
            (found (state_after (first kept.least kept.history)) rests) went
        by (inr rests) = taken_at kept is kept.most is.fit.order (omega arith) rests
            (found (state_after (first kept.most kept.history)) rests) went

    taken_vague : BaseTold view.content None → IfTold view.content IsFormatted → Refused (begun unknown 0)
    taken_vague (state, taken, fields) formed = (
      at (begun unknown 0) (Some faults.AlreadyImported),
      refl,
      inr (inr (inr (
        state,
        (λ bytes told. record { formed = formed bytes told; fields = fields bytes told }),
        taken_stops own state taken Old (begun unknown 0),
      ))),
      begun_leaves files view output only_now unknown 0 unknown 0 (Some faults.AlreadyImported) now tt tt tt later,
    )

  pub taken_opened : (own : Files) (start : Progress) → Begins old_store (world files view output) start → (now : DiskView)
      → ((one other : State) → IsAtEither one other view → Opens one other None view now)
      → (IsTold view.content → (state : State) → IsAt state now → IsTaken state) → BaseTold view.content None
      → IfTold view.content IsFormatted → HasFlowCause None view now
      → GoesBy (opens (follow_to own)) start (Some faults.AlreadyImported) (world files view output) (world files now output)
  taken_opened own start begins now opened found fields formed cause = by begins
    where
      by : Begins old_store (world files view output) start → Refused own now cause.later start
      by (inl is) = subst (λ (from : Progress). Refused own now cause.later from) (sym is) (taken_vague own now cause.later fields formed)
      by (inr (kept, fits, is)) = subst (λ (from : Progress). Refused own now cause.later from) (sym is)
          (taken_kept own now cause.later kept fits (opened _ _ (at_either view kept fits)) (found fits.told))

  -- ---- one that was only made, or is that of a follower

  module _ (IsSo : State → Type 0) (updater : Handle) (next : ℕ) (limits : limits_of updater ≡ standard)
      (later : view.faults ≤ (view_of updater).faults) (style : Option StyleOf) (version : ℕ)
      (shows : Shows (shown_base style version) updater) (sound : is_whole updater ≡ true) (so : IsSo (shown_base style version))
      (formed : IfTold view.content IsFormatted) (fields : IfTold view.content (IfRoot (AreOfBase style version))) where
    pub base_vague : IsBegun IsSo (begun unknown 0) next Old files updater output
    base_vague = record {
      state = shown_base style version;
      so = so;
      further = begun unknown 0;
      head = record {
        here = record { shows = shows; whole = sound };
        vague = λ _. tt;
        limits = limits;
        stood = λ certain. absurd certain;
        unread = λ file above read. read;
        so_far = begun_leaves files view output only_now unknown 0 unknown 0 None (view_of updater) tt tt tt later;
      };
      leads = λ rest ending comes. inr (inr (inr (
        shown_base style version,
        (λ bytes told. base_opens style version bytes (formed bytes told) (fields bytes told)),
        comes,
      )));
    }

-- the run goes on over the disk that was opened, and that is handed back
pub base_over : {D : Type 0} {g : Ghosts D} (files : FilesView) (view : DiskView) (output : SinkView)
    (only_now : (left : List ℕ) → view.crashes.outcomes_since view.crashes.moment left → view.crashes.outcomes left)
    (start : Progress) (begins : Begins old_store (world files view output) start) (IsSo : State → Type 0) (course rest : State → Course)
    → ((state : State) → IsSo state → (old : Before) (done : Progress) (ending : Ending) → Comes old (rest state) done ending
    → Comes old (course state) done ending)
    → (disk : D) (base : Base) (store : Follower D g) (next : ℕ) → disk_of store ≡ disk
    → ((one other : State) → IsAtEither one other view → Opens one other None view (g.view disk))
    → (IsTold view.content → (state : State) → IsAt state (g.view disk) → IsSo state × FoundBase state (g.view disk) base)
    → ((state : State) → IsAt state (g.view disk) → FoundBase state (g.view disk) base → IsOpen state (handle_of store))
    → TellsBase standard base (handle_of store) → (base.style ≡ None → base.version ≡ 0) → IsSo (shown_base base.style base.version)
    → HasFlowCause None view (g.view disk) → IfTold view.content IsFormatted
    → IfTold view.content (IfRoot (AreOfBase base.style base.version))
    → ((bytes : List ℕ) → view.content ≡ Some bytes → (gate bytes ≡ OPEN → ⊥) → (g.view disk).content ≡ view.content)
    → (fault : Option Fault) (final : Follower D g) (last : D) → last ≡ disk_of final → (read : FilesView) (told : SinkView)
    → ((old : Before) (start done : Progress) (state : State) → IsSo state
    → IsHead start done state next old files (handle_of store) output
    → GoesOn (rest state) start done fault old (world read (view_of (handle_of final)) told))
    → GoesBy (opens course) start fault (world files view output) (world read (g.view last) told)
base_over {D} {g} files view output only_now start begins IsSo course rest leads disk base store next same opened found open_so tells begun_is
    so cause formed fields as_told fault final last closed read told goes =
    subst (λ (own : D). GoesBy (opens course) start fault (world files view output) (world read (g.view own) told)) (sym closed)
    (goes_begun files view output only_now start begins IsSo (handle_of store) next
    (λ one other at. subst (λ (own : D). Opens one other None view (g.view own)) (sym same) (opened one other at))
    (λ told_before state at.
    let here = subst (λ (own : D). IsAt state (g.view own)) same at in
    let is = found told_before state here in
    (open_so state here is.1, is.0))
    tells.limits_are caused (λ bytes here shut. ap (λ (own : D). (g.view own).content) same ∙ as_told bytes here shut)
    (base_vague files view output only_now IsSo (handle_of store) next tells.limits_are caused.later base.style base.version
    (base_shows standard base (handle_of store) tells begun_is) tells.whole so formed fields)
    course rest leads fault (world read (view_of (handle_of final)) told) goes)
  where
    caused : HasFlowCause None view (view_of (handle_of store))
    caused = subst (λ (own : D). HasFlowCause None view (g.view own)) (sym same) cause

-- what is so of what was found is so of this
module _ (found : Option Base) (base : Base) (is : found ≡ Some base) where
  pub base_some : (state : State) (view : DiskView) → FoundBaseIn state view found → FoundBase state view base
  base_some state view own = subst (λ (o : Option Base). FoundBaseIn state view o) is own

  pub base_told : (content : Option (List ℕ)) → BaseTold content found → IfTold content (IfRoot (AreOfBase base.style base.version))
  base_told content own = subst (λ (o : Option Base). BaseTold content o) is own

  pub base_blank : (view : DiskView) → FindsBlankIn view found → IsAt formatted view × FoundBase formatted view base
  base_blank view own = subst (λ (o : Option Base). FindsBlankIn view o) is own

module _ (found : Option Base) (is : found ≡ None) where
  pub base_none : (state : State) (view : DiskView) → FoundBaseIn state view found → IsTaken state
  base_none state view own = subst (λ (o : Option Base). FoundBaseIn state view o) is own

  pub none_told : (content : Option (List ℕ)) → BaseTold content found → BaseTold content None
  none_told content own = subst (λ (o : Option Base). BaseTold content o) is own

-- and of a store of either kind, that it is that of a follower
module _ (found : Either) (base : Base) (is : found ≡ eithers.Follows base) where
  pub follows_found : (state : State) (view : DiskView) → FoundEither state view found → (follows state ≡ true) × FoundBase state view base
  follows_found state view own = subst (λ (o : Either). FoundEither state view o) is own

  told_follows : (content : Option (List ℕ)) → EitherTold content found
      → (is_some base.style ≡ true) × IfTold content (IfRoot (AreOfFollower base.version))
  told_follows content own = subst (λ (o : Either). EitherTold content o) is own

  pub follows_told : (content : Option (List ℕ)) → EitherTold content found → IfTold content (IfRoot (AreOfBase base.style base.version))
  follows_told content own = by base.style (told_follows content own).0 (told_follows content own).1
    where
      by : (style : Option StyleOf) → is_some style ≡ true → IfTold content (IfRoot (AreOfFollower base.version))
          → IfTold content (IfRoot (AreOfBase style base.version))
      by None styled fields = absurd (cc (styled))
      by (Some style) styled fields = fields

  pub follows_shown : (content : Option (List ℕ)) → EitherTold content found → follows (shown_base base.style base.version) ≡ true
  follows_shown content own = by base.style (told_follows content own).0
    where
      by : (style : Option StyleOf) → is_some style ≡ true → follows (shown_base style base.version) ≡ true
      by None styled = absurd (cc (styled))
      by (Some style) styled = refl

  -- which a sound one is not
  pub follows_never : (view : DiskView) → FindsSoundEither view found → ⊥
  follows_never view own = subst (λ (o : Either). FindsSoundEither view o) is own

-- what is so of each follower is so of a state of one
pub of_followers : (P : State → Type 0) → ((held : Following) → P (following held)) → (state : State) → follows state ≡ true → P state
of_followers P each formatted own = absurd (cc (own))
of_followers P each (imported held) own = absurd (cc (own))
of_followers P each (outdated held) own = absurd (cc (own))
of_followers P each (following held) own = each held

-- the limits are those of the program
pub tells_standard : {D : Type 0} {g : Ghosts D} {limits : LimitNumbers} (base : Base) (store : Follower D g) → limits ≡ standard
    → TellsBase limits base (handle_of store) → TellsBase standard base (handle_of store)
tells_standard base store is tells = subst (λ (own : LimitNumbers). TellsBase own base (handle_of store)) is tells
