-- Change files are appended and shown to readers, turn by turn.
use Rattle.std.proofs.Common.{◌≡◌, ◌+◌, ℕ, zero, suc, Some, None, Result, Ok, Err, List, [], ◌∷◌, ◌++◌, length-append, refl, sym, ap, subst}
use Rattle.std.proofs.Common.{arith}
use Rattle.std.specs.Result.{result_err}
use Rattle.osm_base.specs.declared.values.object.Entry.{Entry}
use Rattle.osm_base.specs.declared.values.row.Delta.{Delta}
use Rattle.osm_base.specs.map.Objects.{folded_all}
use Rattle.outside.specs.Inputs.{FilesView}
use Rattle.outside.specs.Sink.{SinkView}
use Rattle.map_query.specs.declared.query.Query.{Query}
use Rattle.tile_cover.specs.Table.{BoundsOf}
use Rattle.table_versions.specs.Fronts.{FrontOf}
use Rattle.update_flow.specs.Changes.{IsDeltaOf}
use Rattle.update_flow.specs.State.{Append, Holding, changed, imported}
use Rattle.update_flow.specs.Handle.{Handle, view_of}
use Rattle.run_promise.specs.declared.fault.Fault.{Fault}
use Rattle.run_promise.specs.declared.fault.Fault.TheVariants as faults
use Rattle.run_promise.specs.Blocks.{AreBlocks}
use Rattle.run_promise.specs.Comes.{Comes}
use Rattle.run_promise.specs.Course.{Course, commits, ends, tells, writes}
use Rattle.run_promise.specs.Courses.{Onward, appends_one, onward, serves, serving, version_line}
use Rattle.run_promise.specs.Files.{IsChange}
use Rattle.updater.specs.Heads.{GoesOn, IsHead, Leads}
use Rattle.run_promise.specs.Progress.{Progress, Ending}
use Rattle.updater.specs.Serving.{AreShown, IsNext, IsServing, LeadsBy, Publishes}
use Rattle.run_promise.specs.World.{Before, world}
use Rattle.updater.proofs.HeadLaws.{stops_in_file, stops_short}
use Rattle.updater.proofs.ShownVersions.{shown_more}
use Rattle.updater.proofs.VersionRuns.{goes_back}

serves-step : (bounds : BoundsOf) (queries : List Query) (readers : ℕ) (shown : List Holding) (held : Holding) (file left count : ℕ)
    → left ≡ suc count
    → serves bounds queries readers shown held file left
    ≡ appends_one bounds held file (λ next. serves bounds queries readers (shown ++ held ∷ []) next (file + 1) count)
unfolding serves
serves-step bounds queries readers shown held file left count is = ap (λ n. serves bounds queries readers shown held file n) is

pub serves-none : (bounds : BoundsOf) (queries : List Query) (readers : ℕ) (shown : List Holding) (held : Holding) (file left : ℕ)
    → left ≡ 0
    → serves bounds queries readers shown held file left ≡ writes (AreBlocks readers queries shown held) ends
unfolding serves
serves-none bounds queries readers shown held file left is = ap (λ n. serves bounds queries readers shown held file n) is

-- memory may run out wherever the run stands
pub short_serving : (bounds : BoundsOf) (queries : List Query) (readers : ℕ) (shown : List Holding) (held : Holding) (file count : ℕ)
    (start done : Progress) (old : Before) (files : FilesView) (updater : Handle) (output : SinkView)
    → IsHead start done (imported held) file old files updater output
    → GoesOn (serves bounds queries readers shown held file count) start done (Some faults.OutOfMemory) old
    (world files (view_of updater) output)
unfolding serves
short_serving bounds queries readers shown held file zero start done old files updater output head =
    stops_short start done (imported held) file old files updater output head (AreBlocks readers queries shown held) ends
short_serving bounds queries readers shown held file (suc count) start done old files updater output head =
    stops_in_file start done (imported held) file old files updater output head (IsChange file) file (omega arith) files faults.OutOfMemory
    (record { why = tt; alone = record { others = λ other apart. refl; later = omega arith } })
    (λ change. commits (Append bounds change)
    (tells (version_line (held.changes + 1))
    (serves bounds queries readers (shown ++ held ∷ []) (changed bounds change held) (file + 1) count)))

-- what a file leads to, with its delta left out
pub leads_without : (bounds : BoundsOf) (file : ℕ) (result : Result Delta Fault) (start done : Progress) (held : Holding) (old : Before)
    (files : FilesView) (updater : Handle) (output : SinkView)
    → LeadsBy bounds file result start done held old files updater output
    → Leads (λ last. appends_one bounds held file (onward last)) (result_err result) start done (file + 1) old files updater output
leads_without bounds file (Ok delta) start done held old files updater output own = (own.0, own.1, own.2, own.3)
leads_without bounds file (Err fault) start done held old files updater output own = own

-- the delta of a change makes the next state
pub next_by : (held : Holding) (bounds : BoundsOf) (change : List Entry) (delta : Delta)
    → IsDeltaOf held.style held.objects (folded_all held.objects change) (held.changes + 1) delta
    → IsNext held (changed bounds change held) delta
next_by held bounds change delta is = record { changes = refl; style = refl; tables = is.changes.applied }

-- a version that is not shown ends the run
pub unshown : (bounds : BoundsOf) (file : ℕ) (delta : Delta) (start done : Progress) (held : Holding) (old : Before) (files : FilesView)
    (updater : Handle) (output : SinkView) (before now : FrontOf)
    → LeadsBy bounds file (Ok delta) start done held old files updater output
    → Publishes bounds file (Some faults.OutOfMemory) start done held old files updater output before now
unshown bounds file delta start done held old files updater output before now own = λ queries readers shown count.
    let last = serving bounds queries readers shown (file + 1) count in
    goes_back (appends_one bounds held file (onward last)) (serves bounds queries readers shown own.1 (file + 1) count) start done own.0
    (Some faults.OutOfMemory) old (world files (view_of updater) output)
    (short_serving bounds queries readers shown own.1 (file + 1) count start own.0 old files updater output own.2)
    (λ ending comes. own.3 last ending comes)

module _ (bounds : BoundsOf) (queries : List Query) (readers : ℕ) (held : Holding) (first count : ℕ) (start done : Progress) (old : Before)
    (before : FrontOf) where
  -- nothing is appended yet
  pub first_serving : (left : ℕ) → left ≡ count → (files : FilesView) (updater : Handle) (output : SinkView)
      → IsHead start done (imported held) first old files updater output
      → IsServing bounds queries readers held first count start done first left old files updater output before before
  first_serving left is files updater output head = record {
    further = done;
    shown = [];
    last = held;
    many = omega (arith, is);
    head = head;
    leads = λ ending comes. subst (λ (own : ℕ). Comes old (serves bounds queries readers [] held first own) done ending) is comes;
    certain = λ certain. (certain, λ shown. shown);
  }

  module _ (file left less : ℕ) (many : left ≡ suc less) (files : FilesView) (updater : Handle) (output : SinkView) (now next : FrontOf)
      (turn : IsServing bounds queries readers held first count start done file left old files updater output before now) (read : FilesView)
      (after_file : Handle) (told : SinkView) where
    abbrev Onwards : Onward
    Onwards = serving bounds queries readers (turn.shown ++ turn.last ∷ []) (file + 1) less

    leads_turn : (ending : Ending) → Comes old (appends_one bounds turn.last file (onward Onwards)) turn.further ending
        → Comes old (serves bounds queries readers [] held first count) done ending
    leads_turn ending comes =
        turn.leads ending (subst (λ (own : Course). Comes old own turn.further ending)
        (sym (serves-step bounds queries readers turn.shown turn.last file left less many)) comes)

    -- one file more is
    pub next_serving : ((old : Before) (start done : Progress) (held : Holding)
        → IsHead start done (imported held) file old files updater output
        → Publishes bounds file None start done held old read after_file told now next)
        → IsServing bounds queries readers held first count start done (file + 1) less old read after_file told before next
    next_serving publishes =
        let own = publishes old start turn.further turn.last turn.head in
        record {
          further = own.0;
          shown = turn.shown ++ turn.last ∷ [];
          last = own.1;
          many = omega (arith, length-append turn.shown (turn.last ∷ []), turn.many);
          head = own.2;
          leads = λ ending comes. leads_turn ending (own.3 Onwards ending comes);
          certain = λ certain.
              let here = own.4.2 certain in
              let earlier = turn.certain here.0 in (
                earlier.0,
                λ shown. subst (λ (front : FrontOf). AreShown held.style front (turn.shown ++ turn.last ∷ []) own.1) (sym own.4.1)
                    (shown_more held.style now turn.shown turn.last own.1 own.4.0 (earlier.1 shown) here.1),
              );
        }

    -- or the run ends in it
    pub ends_in_serving : (fault : Fault) → ((old : Before) (start done : Progress) (held : Holding)
        → IsHead start done (imported held) file old files updater output
        → Publishes bounds file (Some fault) start done held old read after_file told now next)
        → GoesOn (serves bounds queries readers [] held first count) start done (Some fault) old (world read (view_of after_file) told)
    ends_in_serving fault publishes =
        goes_back (serves bounds queries readers [] held first count)
        (appends_one bounds turn.last file (onward Onwards)) start done turn.further (Some fault) old
        (world read (view_of after_file) told)
        (publishes old start turn.further turn.last turn.head queries readers (turn.shown ++ turn.last ∷ []) less) leads_turn

  -- all are appended and shown
  pub last_serving : (file left next : ℕ) → left ≡ 0 → file ≡ next
      → (files : FilesView) (updater : Handle) (output : SinkView) (now : FrontOf)
      → IsServing bounds queries readers held first count start done file left old files updater output before now
      → IsServing bounds queries readers held first count start done next 0 old files updater output before now
  last_serving file left next none same files updater output now turn =
      subst (λ (own : ℕ). IsServing bounds queries readers held first count start done own 0 old files updater output before now) same
      (subst (λ (own : ℕ). IsServing bounds queries readers held first count start done file own old files updater output before now) none
      turn)
