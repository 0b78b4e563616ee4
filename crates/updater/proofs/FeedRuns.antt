-- A feed: the block of all tables, and change files appended, turn by turn, with a block of each.
use Rattle.std.proofs.Common.{◌≡◌, ◌≤◌, ◌+◌, ℕ, true, false, suc, Bool, Option, Some, None, List, inr, refl, sym, ◌∙◌, ap, subst}
use Rattle.std.proofs.Common.{arith}
use Rattle.std.specs.Io.KnownBytes.{Appends}
use Rattle.osm_base.specs.declared.values.object.Entry.{Entry}
use Rattle.osm_base.specs.declared.values.row.Delta.{Delta}
use Rattle.osm_base.specs.map.Objects.{folded_all}
use Rattle.osm_base.specs.map.Spots.{TableMap}
use Rattle.outside.specs.Inputs.{FilesView}
use Rattle.outside.specs.Sink.{SinkView}
use Rattle.delta_feed.specs.Text.{delta_text, full_text}
use Rattle.delta_feed.specs.Writing.{IsUnwritten}
use Rattle.delta_feed.specs.declared.fault.FeedWrite.{FeedWrite}
use Rattle.delta_feed.specs.declared.fault.FeedWrite.TheVariants as writing
use Rattle.row_rules.specs.Row.{tables}
use Rattle.tile_cover.specs.Table.{BoundsOf}
use Rattle.update_flow.specs.AtRest.{HasFlowCause}
use Rattle.update_flow.specs.Changes.{IsDeltaOf}
use Rattle.update_flow.specs.State.{Append, Holding, State, changed, imported}
use Rattle.update_flow.specs.Handle.{Handle, IsOpen, Looks, Shows, Takes, changes_of, is_whole, limits_of, view_of}
use Rattle.update_flow.specs.declared.fault.FlowFault.{FlowFault}
use Rattle.run_promise.specs.declared.fault.Fault.{Fault}
use Rattle.run_promise.specs.Comes.{AreTold, Comes, IsCertain}
use Rattle.run_promise.specs.Course.{Course, commits, ends, feeds, reads}
use Rattle.run_promise.specs.Courses.{IsDeltaText, feeds_changes, feeds_full}
use Rattle.run_promise.specs.Faults.{flow_fault}
use Rattle.run_promise.specs.FeedBlocks.{IsFeedBlock}
use Rattle.run_promise.specs.Files.{IsChange}
use Rattle.run_promise.specs.Progress.{Ending, Progress, past, plus}
use Rattle.run_promise.specs.World.{Before, World, world}
use Rattle.run_promise.proofs.FeedTexts.{delta_is_block}
use Rattle.updater.specs.Feeding.{FeedsFull, FeedsOne, IsFeeding, feed_fault}
use Rattle.updater.specs.FileReads.{IsRead, IsUnread}
use Rattle.updater.specs.Heads.{GoesOn, IsHead}
use Rattle.updater.proofs.HeadLaws.{ends_here, leads_file, past_file, past_text, stops_in_file}
use Rattle.updater.proofs.SoFarLaws as parts
use Rattle.updater.proofs.StoreDeeds.{IsRefusedSo, IsStepped, not_outdated, refused_step, shows_here, taken}
use Rattle.updater.proofs.StoreRuns.{held_certain, look_refused}
use Rattle.updater.proofs.VersionRuns.{goes_back}

-- ---- one block

-- a block that is not written whole ends the run
pub untold_block : (start done : Progress) (state : State) (next : ℕ) (old : Before) (files : FilesView) (updater : Handle)
    (output : SinkView) → IsHead start done state next old files updater output → (Fits : List ℕ → Type 0) (text : List ℕ) (new : SinkView)
    (rest : Course) → IsFeedBlock text → (AreTold old done.read → IsCertain done.store → Fits text) → (fault : FeedWrite)
    → IsUnwritten text output new fault → output.faults ≤ new.faults
    → GoesOn (feeds Fits rest) start done (Some (feed_fault fault)) old (world files (view_of updater) new)
untold_block start done state next old files updater output head Fits text new rest block fits writing.WriteFault why later =
    parts.stops_in_block start done next old files (view_of updater) output (record { unread = head.unread; so_far = head.so_far })
    Fits text new rest block fits why.0 later why.1
untold_block start done state next old files updater output head Fits text new rest block fits writing.OutOfMemory why later =
    parts.short_of_block start done next old files (view_of updater) output (record { unread = head.unread; so_far = head.so_far })
    Fits new rest why later

-- ---- the block of all tables

module _ (start done : Progress) (held : Holding) (next : ℕ) (old : Before) (files : FilesView) (output : SinkView) where
  -- a look that is refused, behind another or not
  pub full_unlooked : (before now : Handle) → IsHead start done (imported held) next old files before output → (fault : FlowFault)
      → ((own : State) → IsOpen own before → Looks own (Some fault) before now) → IsRefusedSo None fault before now
      → FeedsFull true (Some (flow_fault fault)) start done held next old files now output
  full_unlooked before now head fault looked so = λ bounds file count.
      look_refused start done held next old files before now output head fault looked so
      (feeds (λ own. own ≡ full_text held.changes held.style_bytes (tables held.style held.objects)) (feeds_changes bounds held file count))

  -- what was looked at is what the block says
  pub full_same : (before read loaded : Handle) → IsHead start done (imported held) next old files before output
      → IsHead start done (imported held) next old files read output → IsHead start done (imported held) next old files loaded output
      → (changes : ℕ) (style : List ℕ) (found : TableMap) → changes ≡ changes_of loaded
      → (IsOpen (imported held) before → style ≡ held.style_bytes)
      → (IsOpen (imported held) read → found ≡ tables held.style held.objects) → AreTold old done.read → IsCertain done.store
      → full_text changes style found ≡ full_text held.changes held.style_bytes (tables held.style held.objects)
  full_same before read loaded head first second changes style found number bytes rows all certain =
      ap (λ (own : ℕ). full_text own style found) (number ∙ (shows_here done.store done.cut (imported held) loaded second.here).changes_are)
      ∙ ap (λ (own : List ℕ). full_text held.changes own found) (bytes (held_certain done held before head.here certain))
      ∙ ap (λ (own : TableMap). full_text held.changes held.style_bytes own) (rows (held_certain done held read first.here certain))

  -- the block of what was looked at
  module _ (now : Handle) (head : IsHead start done (imported held) next old files now output) (text : List ℕ) (block : IsFeedBlock text)
      (fits : AreTold old done.read → IsCertain done.store
      → text ≡ full_text held.changes held.style_bytes (tables held.style held.objects)) (new : SinkView)
      (later : output.faults ≤ new.faults) where
    pub full_told : Appends output.taken new.taken text → FeedsFull true None start done held next old files now new
    full_told all = (
      plus text done,
      past_text start done (imported held) next old files now output head text new all later,
      λ bounds file count ending comes. inr (inr (inr (text, block, fits, inr comes))),
    )

    pub full_untold : (fault : FeedWrite) → IsUnwritten text output new fault
        → FeedsFull true (Some (feed_fault fault)) start done held next old files now new
    full_untold fault why = λ bounds file count.
        goes_back (feeds_full true held (feeds_changes bounds held file count))
        (feeds (λ own. own ≡ full_text held.changes held.style_bytes (tables held.style held.objects))
        (feeds_changes bounds held file count)) start done done (Some (feed_fault fault)) old (world files (view_of now) new)
        (untold_block start done (imported held) next old files now output head _ text new _ block fits fault why later)
        (λ ending comes. inr (inr comes))

-- it is told where it is asked for
pub full_asked : (full : Bool) → true ≡ full → (fault : Option Fault) (start done : Progress) (held : Holding) (next : ℕ) (old : Before)
    (files : FilesView) (updater : Handle) (output : SinkView)
    → FeedsFull true fault start done held next old files updater output
    → FeedsFull full fault start done held next old files updater output
full_asked full is fault start done held next old files updater output own =
    subst (λ (asked : Bool). FeedsFull asked fault start done held next old files updater output) is own

pub not_asked : (full : Bool) → false ≡ full → (start done : Progress) (held : Holding) (next : ℕ) (old : Before) (files : FilesView)
    (updater : Handle) (output : SinkView)
    → IsHead start done (imported held) next old files updater output → FeedsFull full None start done held next old files updater output
not_asked full is start done held next old files updater output head =
    subst (λ (asked : Bool). FeedsFull asked None start done held next old files updater output) is
    (done, head, λ bounds file count ending comes. comes)

-- the changes behind it
pub behind_full : (full : Bool) (start done : Progress) (held : Holding) (next : ℕ) (old : Before) (files : FilesView) (updater : Handle)
    (output : SinkView) (bounds : BoundsOf) (file count : ℕ) → FeedsFull full None start done held next old files updater output
    → (fault : Option Fault) (new : World)
    → ((further : Progress) → IsHead start further (imported held) next old files updater output
    → GoesOn (feeds_changes bounds held file count) start further fault old new)
    → GoesOn (feeds_full full held (feeds_changes bounds held file count)) start done fault old new
behind_full full start done held next old files updater output bounds file count own fault new goes =
    goes_back (feeds_full full held (feeds_changes bounds held file count)) (feeds_changes bounds held file count) start done own.0 fault
    old new (goes own.0 own.1) (own.2 bounds file count)

-- ---- one change file

module _ (bounds : BoundsOf) (held : Holding) (file : ℕ) (start done : Progress) (old : Before) (files read : FilesView) (before : Handle)
    (output : SinkView) (head : IsHead start done (imported held) file old files before output) where
  abbrev told : (change : List Entry) → (count : ℕ) → Course
  told change count =
      feeds (IsDeltaText held (changed bounds change held)) (feeds_changes bounds (changed bounds change held) (file + 1) count)

  abbrev committed : (change : List Entry) → (count : ℕ) → Course
  committed change count = commits (Append bounds change) (told change count)

  of-file : (count : ℕ) → reads file (IsChange file) (λ change. committed change count) ≡ feeds_changes bounds held file (suc count)
  unfolding feeds_changes
  of-file count = refl

  -- it is not read
  pub file_unfed : (fault : Fault) → IsUnread (IsChange file) file fault files read
      → FeedsOne bounds file (Some fault) start done held old read before output
  file_unfed fault stop = λ count.
      subst (λ (own : Course). GoesOn own start done (Some fault) old (world read (view_of before) output)) (of-file count)
      (stops_in_file start done (imported held) file old files before output head (IsChange file) file (omega arith) read fault stop
      (λ change. committed change count))

  module _ (change : List Entry) (found : IsRead (IsChange file) file change files read) where
    head_read : IsHead start (past file done) (imported held) (file + 1) old read before output
    head_read = past_file start done (imported held) file old files before output head (IsChange file) file (omega arith) read change found

    leads_read : (count : ℕ) (ending : Ending) → Comes old (committed change count) (past file done) ending
        → Comes old (feeds_changes bounds held file (suc count)) done ending
    leads_read count ending comes = subst (λ (own : Course). Comes old own done ending) (of-file count)
        (leads_file start done (imported held) file old files before output head (IsChange file) file (omega arith) read change found
        (λ change. committed change count) ending comes)

    goes_read : (count : ℕ) (fault : Option Fault) (new : World) → GoesOn (committed change count) start (past file done) fault old new
        → GoesOn (feeds_changes bounds held file (suc count)) start done fault old new
    goes_read count fault new goes =
        goes_back (feeds_changes bounds held file (suc count)) (committed change count) start done (past file done) fault old new goes
        (leads_read count)

    module _ (now : Handle) where
      -- it is not committed
      pub change_refused : (fault : FlowFault)
          → ((own : State) → IsOpen own before → Takes own (Append bounds change) (Some fault) before now)
          → IsRefusedSo (Some (Append bounds change)) fault before now
          → FeedsOne bounds file (Some (flow_fault fault)) start done held old read now output
      change_refused fault takes so = λ count. goes_read count (Some (flow_fault fault)) (world read (view_of now) output)
          (refused_step start (past file done) (imported held) (file + 1) old read before now output head_read (Append bounds change) tt
          fault takes so
          (not_outdated start (past file done) (imported held) (file + 1) old read before now output head_read refl fault so.not_old)
          (told change count))

      module _ (takes : (own : State) → IsOpen own before → Takes own (Append bounds change) None before now)
          (shows : Shows (imported held) before → Shows (imported (changed bounds change held)) now)
          (sound : is_whole now ≡ is_whole before) (same : limits_of now ≡ limits_of before)
          (cause : HasFlowCause None (view_of before) (view_of now)) (delta : Delta)
          (made : IsOpen (imported held) before
          → IsDeltaOf held.style held.objects (folded_all held.objects change) (held.changes + 1) delta)
          (new : SinkView) (later : output.faults ≤ new.faults) where
        stepped : IsStepped start (past file done) (imported held) (file + 1) old read now output (Append bounds change)
        stepped = taken start (past file done) (imported held) (file + 1) old read before now output head_read (Append bounds change) tt
            takes shows sound same cause

        fits : AreTold old stepped.further.read → IsCertain stepped.further.store
            → IsDeltaText held (changed bounds change held) (delta_text delta)
        fits all certain = (delta, made (held_certain (past file done) held before head_read.here (stepped.certain certain)), refl)

        -- it is, and told
        pub change_fed : Appends output.taken new.taken (delta_text delta) → FeedsOne bounds file None start done held old read now new
        change_fed all = (
          plus (delta_text delta) stepped.further,
          changed bounds change held,
          past_text start stepped.further (imported (changed bounds change held)) (file + 1) old read now output stepped.head
              (delta_text delta) new all later,
          λ count ending comes. leads_read count ending
              (stepped.leads (told change count) ending (inr (delta_text delta, delta_is_block delta, fits, inr comes))),
        )

        -- or not told
        pub change_unfed : (fault : FeedWrite) → IsUnwritten (delta_text delta) output new fault
            → FeedsOne bounds file (Some (feed_fault fault)) start done held old read now new
        change_unfed fault why = λ count. goes_read count (Some (feed_fault fault)) (world read (view_of now) new)
            (goes_back (committed change count) (told change count) start (past file done) stepped.further (Some (feed_fault fault)) old
            (world read (view_of now) new)
            (untold_block start stepped.further (imported (changed bounds change held)) (file + 1) old read now output stepped.head
            (IsDeltaText held (changed bounds change held)) (delta_text delta) new
            (feeds_changes bounds (changed bounds change held) (file + 1) count) (delta_is_block delta) fits fault why later)
            (stepped.leads (told change count)))

-- ---- all of them

feeds-none : (bounds : BoundsOf) (held : Holding) (file left : ℕ) → left ≡ 0 → feeds_changes bounds held file left ≡ ends
unfolding feeds_changes
feeds-none bounds held file left is = ap (λ n. feeds_changes bounds held file n) is

module _ (bounds : BoundsOf) (held : Holding) (first count : ℕ) (start done : Progress) (old : Before) where
  -- nothing is appended yet
  pub first_feeding : (left : ℕ) → left ≡ count → (files : FilesView) (updater : Handle) (output : SinkView)
      → IsHead start done (imported held) first old files updater output
      → IsFeeding bounds held first count start done first left old files updater output
  first_feeding left is files updater output head = record {
    further = done;
    now = held;
    head = head;
    leads = λ ending comes. subst (λ (own : ℕ). Comes old (feeds_changes bounds held first own) done ending) is comes;
  }

  module _ (file left less : ℕ) (many : left ≡ suc less) (files : FilesView) (updater : Handle) (output : SinkView)
      (turn : IsFeeding bounds held first count start done file left old files updater output) (read : FilesView) (after : Handle)
      (told_all : SinkView) where
    leads_turn : (ending : Ending) → Comes old (feeds_changes bounds turn.now file (suc less)) turn.further ending
        → Comes old (feeds_changes bounds held first count) done ending
    leads_turn ending comes = turn.leads ending
        (subst (λ (own : ℕ). Comes old (feeds_changes bounds turn.now file own) turn.further ending) (sym many) comes)

    -- one file more is
    pub next_feeding : ((old : Before) (start done : Progress) (held : Holding)
        → IsHead start done (imported held) file old files updater output
        → FeedsOne bounds file None start done held old read after told_all)
        → IsFeeding bounds held first count start done (file + 1) less old read after told_all
    next_feeding goes =
        let own = goes old start turn.further turn.now turn.head in
        record {
          further = own.0;
          now = own.1;
          head = own.2;
          leads = λ ending comes. leads_turn ending (own.3 less ending comes);
        }

    -- or the run ends in it
    pub ends_in_feeding : (fault : Fault)
        → ((old : Before) (start done : Progress) (held : Holding) → IsHead start done (imported held) file old files updater output
        → FeedsOne bounds file (Some fault) start done held old read after told_all)
        → GoesOn (feeds_changes bounds held first count) start done (Some fault) old (world read (view_of after) told_all)
    ends_in_feeding fault goes =
        goes_back (feeds_changes bounds held first count) (feeds_changes bounds turn.now file (suc less)) start done turn.further
        (Some fault) old (world read (view_of after) told_all) (goes old start turn.further turn.now turn.head less) leads_turn

  -- all are appended
  pub last_feeding : (file left : ℕ) → left ≡ 0 → (files : FilesView) (updater : Handle) (output : SinkView)
      → IsFeeding bounds held first count start done file left old files updater output
      → GoesOn (feeds_changes bounds held first count) start done None old (world files (view_of updater) output)
  last_feeding file left none files updater output turn =
      goes_back (feeds_changes bounds held first count) ends start done turn.further None old (world files (view_of updater) output)
      (ends_here start turn.further (imported turn.now) file old files updater output turn.head)
      (λ ending comes. turn.leads ending
      (subst (λ (own : Course). Comes old own turn.further ending) (sym (feeds-none bounds turn.now file left none)) comes))
