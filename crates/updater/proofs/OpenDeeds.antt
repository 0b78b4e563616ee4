-- A store is opened.
use Rattle.std.proofs.Common.{◌≡◌, ◌≤◌, ◌<◌, ◌⊎◌, ℕ, Bool, true, false, Option, Some, None, List, [], length, ⊎_elim, inl, inr, refl, sym}
use Rattle.std.proofs.Common.{ap, subst, arith}
use Rattle.std.specs.Prelude.{is_some}
use Rattle.std.specs.FinMap as finite
use Rattle.std.proofs.lemmas.List.{length-take-le}
use Rattle.std.proofs.lemmas.Bool.{cases_lt}
use Rattle.osm_base.specs.bounds.Limits.{standard}
use Rattle.outside.specs.Bytes.{IfTold, IsTold}
use Rattle.outside.specs.Disk.{Crashes, DiskView, Goes}
use Rattle.outside.specs.Inputs.{FilesView}
use Rattle.outside.specs.Sink.{SinkView}
use Rattle.page_journal.specs.Home.{IsFormatted}
use Rattle.page_journal.specs.Pages.{gate}
use Rattle.page_journal.specs.declared.layout.TheConstants.{OPEN}
use Rattle.page_journal.specs.declared.fault.StoreFault.TheVariants as stores
use Rattle.style_read.specs.Style.{StyleOf}
use Rattle.update_flow.specs.AtRest.{HasFlowCause, IsAt, IsAtEither, IsDamaged, IsOfEither, Opens}
use Rattle.update_flow.specs.Due.{no_tiles}
use Rattle.update_flow.specs.History.{state_after}
use Rattle.update_flow.specs.Refusals.{IsNoDiskFault, IsOpenFault}
use Rattle.update_flow.specs.Stands.{StandsFor}
use Rattle.update_flow.specs.Opening.{AreFieldsIn, IfRoot, MayOpenAs, RootTells, RootTold}
use Rattle.update_flow.specs.State.{Following, Holding, State, changes_in, follows, following, formatted, imported, outdated, style_in, was_old}
use Rattle.update_flow.proofs.Needs.{stood_opened}
use Rattle.update_flow.specs.Handle.{Handle, IsOpen, Shows, changes_of, is_follower, is_imported, is_old, is_whole, limits_of, style_of, view_of}
use Rattle.update_flow.specs.declared.fault.FlowFault.{FlowFault}
use Rattle.update_flow.specs.declared.fault.FlowFault.TheVariants as flow
use Rattle.run_promise.specs.declared.fault.Fault.{Fault}
use Rattle.run_promise.specs.declared.fault.Fault.TheVariants as faults
use Rattle.run_promise.specs.Comes.{Comes}
use Rattle.run_promise.specs.Course.{Course, opens}
use Rattle.run_promise.specs.Faults.{flow_fault}
use Rattle.updater.specs.Heads.{IsHead}
use Rattle.run_promise.specs.Keeps.{IsFit, IsKept, IsOneOf, Kept, first, whole}
use Rattle.run_promise.specs.Leaves.{HasCause, Leaves, StandsOn, SurvivesFrom}
use Rattle.run_promise.specs.Progress.{Standing, unknown, keeps, Progress, Ending, at, begun, opened}
use Rattle.run_promise.specs.Runs.{GoesBy}
use Rattle.run_promise.specs.World.{Before, remembered, world}
use Rattle.updater.proofs.Deeds.{took_nothing}
use Rattle.run_promise.proofs.HistoryLaws.{one_of_all}

-- a state that tells so of itself
abbrev pub shown_as : StyleOf → ℕ → Holding
shown_as style changes = record { style = style; style_bytes = []; buckets = 0; objects = finite.empty; changes = changes; due = no_tiles }

abbrev pub shown_state : Option StyleOf → Bool → ℕ → State
shown_state None of_old changes = formatted
shown_state (Some style) false changes = imported (shown_as style changes)
shown_state (Some style) true changes = outdated (shown_as style changes)

-- a follower of this version
abbrev pub shown_follower : ℕ → Following
shown_follower version = record {
  style = record { selections = []; tables = [] };
  style_bytes = [];
  buckets = 0;
  tables = finite.empty;
  version = version;
}

-- a store into which nothing was imported has no changes, and is none of the old format
abbrev pub TellsNone : Handle → Type 0
TellsNone updater = is_imported updater ≡ false → (changes_of updater ≡ 0) × (is_old updater ≡ false)

pub shows_it : (updater : Handle) (style : Option StyleOf) (of_old : Bool) → style_of updater ≡ style → is_old updater ≡ of_old
    → is_follower updater ≡ false → TellsNone updater → Shows (shown_state style of_old (changes_of updater)) updater
shows_it updater None of_old is old_is own none =
    let blank : is_imported updater ≡ false = ap (λ (style : Option StyleOf). is_some style) is in
    record { changes_are = (none blank).0; imported_is = blank; old_is = (none blank).1; style_is = is; follower_is = own }
shows_it updater (Some style) false is old_is own none = record {
  changes_are = refl;
  imported_is = ap (λ (style : Option StyleOf). is_some style) is;
  old_is = old_is;
  style_is = is;
  follower_is = own;
}
shows_it updater (Some style) true is old_is own none = record {
  changes_are = refl;
  imported_is = ap (λ (style : Option StyleOf). is_some style) is;
  old_is = old_is;
  style_is = is;
  follower_is = own;
}

-- what was opened tells what the root page of the bytes does
pub record IsFoundIn (updater : Handle) (bytes : List ℕ) : Type 0 where
  pub formed : IsFormatted bytes
  pub fields : RootTells (style_of updater) (is_old updater) (changes_of updater) bytes

abbrev pub IsFound : Option (List ℕ) → Handle → Type 0
IsFound content updater = IfTold content (IsFoundIn updater)

-- a state that is no follower's has the fields that it tells of
fields_in : (state : State) (bytes : List ℕ) → follows state ≡ false → RootTells (style_in state) (was_old state) (changes_in state) bytes
    → IfRoot (AreFieldsIn state) bytes
fields_in formatted bytes own tells = tells
fields_in (imported held) bytes own tells = tells
fields_in (outdated held) bytes own tells = tells
fields_in (following held) bytes own tells = absurd (cc (own))

may_open : (state : State) (updater : Handle) (bytes : List ℕ) → follows state ≡ false → Shows state updater → IsFoundIn updater bytes
    → MayOpenAs state bytes
may_open state updater bytes own shows found = record {
  formed = found.formed;
  fields = fields_in state bytes own (subst (λ (style : Option StyleOf). RootTells style (was_old state) (changes_in state) bytes) shows.style_is
      (subst (λ (of_old : Bool). RootTells (style_of updater) of_old (changes_in state) bytes) shows.old_is
      (subst (λ (changes : ℕ). RootTells (style_of updater) (is_old updater) changes bytes) shows.changes_are found.fields)));
}

-- the one that an open store tells of
abbrev pub state_shown : Handle → State
state_shown updater = shown_state (style_of updater) (is_old updater) (changes_of updater)

pub shows_state : (updater : Handle) → is_follower updater ≡ false → TellsNone updater → Shows (state_shown updater) updater
shows_state updater own none = shows_it updater (style_of updater) (is_old updater) refl refl own none

-- which is no follower's
shown_own : (style : Option StyleOf) (of_old : Bool) (changes : ℕ) → follows (shown_state style of_old changes) ≡ false
shown_own None of_old changes = refl
shown_own (Some style) false changes = refl
shown_own (Some style) true changes = refl

-- the bytes are those of one of two states: after the fewest steps, or after the most
either_kept : (kept : Kept) → IsFit kept → (left : List ℕ) → IsOneOf kept left
    → IsOfEither (state_after (first kept.least kept.history)) (state_after (first kept.most kept.history)) left
either_kept kept fit left (steps, low, high, is) = ⊎_elim
    (λ (below : steps < kept.most). inl (let same : steps ≡ kept.least = omega (arith, low, below, fit.one) in
    subst (λ (count : ℕ). StandsFor left (state_after (first count kept.history))) same is.stands))
    (λ (above : kept.most ≤ steps). inr (let same : steps ≡ kept.most = omega (arith, high, above) in
    subst (λ (count : ℕ). StandsFor left (state_after (first count kept.history))) same is.stands))
    (cases_lt steps kept.most)

kept_either : (kept : Kept) → IsFit kept → (left : List ℕ)
    → IsOfEither (state_after (first kept.least kept.history)) (state_after (first kept.most kept.history)) left → IsOneOf kept left
kept_either kept fit left (inl stands) =
    (kept.least, omega arith, fit.order, record { within = omega (arith, fit.order, fit.last); stands = stands })
kept_either kept fit left (inr stands) = (kept.most, fit.order, omega arith, record { within = omega (arith, fit.last); stands = stands })

pub at_either : (disk : DiskView) (kept : Kept) → IsKept disk kept
    → IsAtEither (state_after (first kept.least kept.history)) (state_after (first kept.most kept.history)) disk
at_either disk kept is = record { told = is.told; only = λ left out. either_kept kept is.fit left (is.keeps left out) }

-- of any state
abbrev pub AnyState : State → Type 0
AnyState state = Unit {0}

-- the store that was opened: at which state, of which this is so, and where the run goes on
pub record IsBegun (IsSo : State → Type 0) (start : Progress) (next : ℕ) (old : Before) (files : FilesView) (updater : Handle)
    (output : SinkView) : Type 1 where
  pub state : State
  pub so : IsSo state
  pub further : Progress
  pub head : IsHead start further state next old files updater output
  pub leads : (rest : State → Course) (ending : Ending) → Comes old (rest state) further ending → Comes old (opens rest) start ending

module _ (files : FilesView) (view : DiskView) (output : SinkView)
    (only_now : (left : List ℕ) → view.crashes.outcomes_since view.crashes.moment left → view.crashes.outcomes left) where
  abbrev old : Before
  old = remembered (world files view output)

  pub begun_leaves : (store : Standing) (cut : ℕ) (from : Standing) (least : ℕ) (fault : Option Fault) (now : DiskView)
      → StandsOn fault store old now → SurvivesFrom from cut store view.crashes.moment now.crashes
      → HasCause old (world files now output) fault → view.faults ≤ now.faults
      → Leaves (begun from least) (at (begun store cut) fault) old (world files now output)
  begun_leaves store cut from least fault now stands moments cause later = record {
    output = took_nothing output.taken;
    at_end = λ file read. absurd read;
    others = λ file _ _. refl;
    store = stands;
    moments = moments;
    cause = cause;
    reads = omega arith;
    writes = omega arith;
    disk = later;
  }

  module _ (kept : Kept) (is : IsKept view kept) where
    abbrev one : State
    one = state_after (first kept.least kept.history)

    abbrev other : State
    other = state_after (first kept.most kept.history)

    pub begun_moments : (cut : ℕ) (store : Standing) (now : Crashes) → Goes (IsOfEither one other) view.crashes now
        → SurvivesFrom (keeps kept) cut store view.crashes.moment now
    begun_moments cut store now goes = record {
      later = goes.later;
      each = λ left out. inl (⊎_elim (λ (earlier : view.crashes.outcomes_since view.crashes.moment left).
          is.keeps left (only_now left earlier))
          (λ (either : IsOfEither one other left). kept_either kept is.fit left either)
          (goes.each view.crashes.moment left (omega arith) out));
    }

    module _ (updater : Handle) (next : ℕ) (limits : limits_of updater ≡ standard) (later : view.faults ≤ (view_of updater).faults)
        (goes : Goes (IsOfEither one other) view.crashes (view_of updater).crashes)
        (as_told : (bytes : List ℕ) → view.content ≡ Some bytes → (gate bytes ≡ OPEN → ⊥) → (view_of updater).content ≡ view.content)
        (IsSo : State → Type 0) where
      begun_at : (cut : ℕ) → kept.least ≤ cut → cut ≤ kept.most
          → IsOpen (state_after (first cut kept.history)) updater × IsSo (state_after (first cut kept.history))
          → IsBegun IsSo (begun (keeps kept) kept.least) next old files updater output
      begun_at cut low high (rests, so) =
          let within : cut ≤ length kept.history.steps = omega (arith, high, is.fit.last) in
          record {
            state = state_after (first cut kept.history);
            so = so;
            further = opened kept cut (begun (keeps kept) kept.least);
            head = record {
              here = record {
                all = refl;
                cut_within = (let long = length-take-le cut kept.history.steps within in omega (arith, long));
                stands = refl;
                rests = rests;
              };
              vague = λ e. absurd (cc);
              limits = limits;
              stood = λ _. stood_opened standard view.content (view_of updater) as_told;
              unread = λ file above read. read;
              so_far = begun_leaves (keeps (whole (first cut kept.history))) cut (keeps kept) kept.least None (view_of updater) (
                (λ left out. subst (λ (bytes : List ℕ). IsOneOf (whole (first cut kept.history)) bytes) (sym (rests.at_rest.only left out))
                    (one_of_all rests.at_rest.bytes (first cut kept.history) rests.at_rest.stands)),
                λ _. (rests.at_rest.bytes, rests.at_rest.told),
              )
                  (begun_moments cut (keeps (whole (first cut kept.history))) (view_of updater).crashes goes) tt later;
            };
            leads = λ rest ending comes. inr (cut, low, high, comes);
          }

      pub begun_kept : (IsAt one (view_of updater) ⊎ IsAt other (view_of updater))
          → ((state : State) → IsAt state (view_of updater) → IsOpen state updater × IsSo state)
          → IsBegun IsSo (begun (keeps kept) kept.least) next old files updater output
      begun_kept (inl rests) open_so = begun_at kept.least (omega arith) is.fit.order (open_so one rests)
      begun_kept (inr rests) open_so = begun_at kept.most is.fit.order (omega arith) (open_so other rests)

    -- the opening is refused
    pub refused_kept : (fault : FlowFault) (now : DiskView) (rest : State → Course) → Opens one other (Some fault) view now
        → (IsNoDiskFault (Some fault) → IsTold now.content) → HasFlowCause (Some fault) view now
        → GoesBy (opens rest) (begun (keeps kept) kept.least) (Some (flow_fault fault)) (world files view output) (world files now output)
    refused_kept (flow.Store stores.DiskFault) now rest opened told cause = (
      at (begun (keeps kept) kept.least) (Some faults.DiskFault),
      refl,
      inl (inl refl),
      begun_leaves (keeps kept) kept.least (keeps kept) kept.least (Some faults.DiskFault) now
          ((λ left out. kept_either kept is.fit left (opened.moments.now left out)), λ not. absurd (not refl))
          (begun_moments kept.least (keeps kept) now.crashes opened.moments) (cause.failed refl) cause.later,
    )
    refused_kept flow.OutOfMemory now rest opened told cause = (
      at (begun (keeps kept) kept.least) (Some faults.OutOfMemory),
      refl,
      inl (inr refl),
      begun_leaves (keeps kept) kept.least (keeps kept) kept.least (Some faults.OutOfMemory) now
          ((λ left out. kept_either kept is.fit left (opened.moments.now left out)), λ not. told tt)
          (begun_moments kept.least (keeps kept) now.crashes opened.moments) tt cause.later,
    )
    refused_kept (flow.Store stores.NotFormatted) now rest opened told cause =
        absurd (let none : Some (flow.Store stores.NotFormatted) ≡ None = opened.answer in cc)
    refused_kept (flow.Store stores.NotEmpty) now rest opened told cause =
        absurd (let none : Some (flow.Store stores.NotEmpty) ≡ None = opened.answer in cc)
    refused_kept (flow.Store (stores.BadStore page)) now rest opened told cause =
        absurd (let none : Some (flow.Store (stores.BadStore page)) ≡ None = opened.answer in cc)
    refused_kept (flow.Store (stores.StoreFull pages)) now rest opened told cause =
        absurd (let none : Some (flow.Store (stores.StoreFull pages)) ≡ None = opened.answer in cc)
    refused_kept (flow.Store stores.Broken) now rest opened told cause =
        absurd (let none : Some (flow.Store stores.Broken) ≡ None = opened.answer in cc)
    refused_kept (flow.Store stores.OutOfMemory) now rest opened told cause =
        absurd (let none : Some (flow.Store stores.OutOfMemory) ≡ None = opened.answer in cc)
    refused_kept flow.NotImported now rest opened told cause = absurd (let none : Some flow.NotImported ≡ None = opened.answer in cc)
    refused_kept flow.AlreadyImported now rest opened told cause =
        absurd (let none : Some flow.AlreadyImported ≡ None = opened.answer in cc)
    refused_kept flow.OldFormat now rest opened told cause = absurd (let none : Some flow.OldFormat ≡ None = opened.answer in cc)
    refused_kept flow.LastChange now rest opened told cause = absurd (let none : Some flow.LastChange ≡ None = opened.answer in cc)
    refused_kept (flow.TooMany value) now rest opened told cause =
        absurd (let none : Some (flow.TooMany value) ≡ None = opened.answer in cc)

  -- whatever the disk holds
  pub begun_vague : (updater : Handle) (next : ℕ) → limits_of updater ≡ standard → is_whole updater ≡ true → is_follower updater ≡ false
      → TellsNone updater
      → view.faults ≤ (view_of updater).faults
      → IsFound view.content updater → IsBegun AnyState (begun unknown 0) next old files updater output
  begun_vague updater next limits sound own none later found = record {
    state = state_shown updater;
    so = tt;
    further = begun unknown 0;
    head = record {
      here = record { shows = shows_state updater own none; whole = sound };
      vague = λ _. tt;
      limits = limits;
      stood = λ certain. absurd certain;
      unread = λ file above read. read;
      so_far = begun_leaves unknown 0 unknown 0 None (view_of updater) tt tt tt later;
    };
    leads = λ rest ending comes. inr (inr (inr (
      state_shown updater,
      (λ bytes told. may_open (state_shown updater) updater bytes (shown_own (style_of updater) (is_old updater) (changes_of updater))
          (shows_state updater own none) (found bytes told)),
      comes,
    )));
  }

  -- the store is that of a follower, and the run ends there
  module _ (now : DiskView) (later : view.faults ≤ now.faults) (rest : State → Course)
      (stops : (held : Following) (done : Progress) → Comes old (rest (following held)) done (at done (Some faults.Follower))) where
    stops_so : (state : State) → follows state ≡ true → (done : Progress) → Comes old (rest state) done (at done (Some faults.Follower))
    stops_so formatted own done = absurd (cc (own))
    stops_so (imported held) own done = absurd (cc (own))
    stops_so (outdated held) own done = absurd (cc (own))
    stops_so (following held) own done = stops held done

    module _ (kept : Kept) (is : IsKept view kept) (goes : Goes (IsOfEither (one kept is) (other kept is)) view.crashes now.crashes) where
      follower_at : (cut : ℕ) → kept.least ≤ cut → cut ≤ kept.most → IsAt (state_after (first cut kept.history)) now
          → follows (state_after (first cut kept.history)) ≡ true
          → GoesBy (opens rest) (begun (keeps kept) kept.least) (Some faults.Follower) (world files view output) (world files now output)
      follower_at cut low high rests own = (
        at (opened kept cut (begun (keeps kept) kept.least)) (Some faults.Follower),
        refl,
        inr (cut, low, high, stops_so (state_after (first cut kept.history)) own (opened kept cut (begun (keeps kept) kept.least))),
        begun_leaves (keeps (whole (first cut kept.history))) cut (keeps kept) kept.least (Some faults.Follower) now (
          (λ left out. subst (λ (bytes : List ℕ). IsOneOf (whole (first cut kept.history)) bytes) (sym (rests.only left out))
              (one_of_all rests.bytes (first cut kept.history) rests.stands)),
          λ _. (rests.bytes, rests.told),
        )
            (begun_moments kept is cut (keeps (whole (first cut kept.history))) now.crashes goes) tt later,
      )

      pub follower_kept : (IsAt (one kept is) now ⊎ IsAt (other kept is) now) → ((state : State) → IsAt state now → follows state ≡ true)
          → GoesBy (opens rest) (begun (keeps kept) kept.least) (Some faults.Follower) (world files view output) (world files now output)
      follower_kept (inl rests) own = follower_at kept.least (omega arith) is.fit.order rests (own (one kept is) rests)
      follower_kept (inr rests) own = follower_at kept.most is.fit.order (omega arith) rests (own (other kept is) rests)

    pub follower_vague : RootTold view.content None → IfTold view.content IsFormatted
        → GoesBy (opens rest) (begun unknown 0) (Some faults.Follower) (world files view output) (world files now output)
    follower_vague fields formed = (
      at (begun unknown 0) (Some faults.Follower),
      refl,
      inr (inr (inr (
        following (shown_follower fields.0),
        (λ bytes told. record { formed = formed bytes told; fields = fields.1 bytes told }),
        stops (shown_follower fields.0) (begun unknown 0),
      ))),
      begun_leaves unknown 0 unknown 0 (Some faults.Follower) now tt tt tt later,
    )

  pub refused_vague : (fault : FlowFault) (now : DiskView) (rest : State → Course) → IsOpenFault fault
      → (fault ≡ flow.Store stores.NotFormatted → IfTold view.content (λ bytes. ¬ IsFormatted bytes))
      → ((page : ℕ) → fault ≡ flow.Store (stores.BadStore page) → IfTold view.content IsDamaged) → HasFlowCause (Some fault) view now
      → GoesBy (opens rest) (begun unknown 0) (Some (flow_fault fault)) (world files view output) (world files now output)
  refused_vague (flow.Store stores.NotFormatted) now rest alone none bad cause = (
    at (begun unknown 0) (Some faults.NotFormatted),
    refl,
    inr (inl (none refl, refl)),
    begun_leaves unknown 0 unknown 0 (Some faults.NotFormatted) now tt tt tt cause.later,
  )
  refused_vague (flow.Store (stores.BadStore page)) now rest alone none bad cause = (
    at (begun unknown 0) (Some (faults.BadStore page)),
    refl,
    inr (inr (inl (bad page refl, (flow.Store (stores.BadStore page), tt, refl)))),
    begun_leaves unknown 0 unknown 0 (Some (faults.BadStore page)) now tt tt tt cause.later,
  )
  refused_vague (flow.Store stores.DiskFault) now rest alone none bad cause = (
    at (begun unknown 0) (Some faults.DiskFault),
    refl,
    inl (inl refl),
    begun_leaves unknown 0 unknown 0 (Some faults.DiskFault) now tt tt (cause.failed refl) cause.later,
  )
  refused_vague flow.OutOfMemory now rest alone none bad cause = (
    at (begun unknown 0) (Some faults.OutOfMemory),
    refl,
    inl (inr refl),
    begun_leaves unknown 0 unknown 0 (Some faults.OutOfMemory) now tt tt tt cause.later,
  )
  refused_vague (flow.Store stores.NotEmpty) now rest alone none bad cause = absurd alone
  refused_vague (flow.Store (stores.StoreFull pages)) now rest alone none bad cause = absurd alone
  refused_vague (flow.Store stores.Broken) now rest alone none bad cause = absurd alone
  refused_vague (flow.Store stores.OutOfMemory) now rest alone none bad cause = absurd alone
  refused_vague flow.NotImported now rest alone none bad cause = absurd alone
  refused_vague flow.AlreadyImported now rest alone none bad cause = absurd alone
  refused_vague flow.OldFormat now rest alone none bad cause = absurd alone
  refused_vague flow.LastChange now rest alone none bad cause = absurd alone
  refused_vague (flow.TooMany value) now rest alone none bad cause = absurd alone
