-- Change files are appended, turn by turn.
use Rattle.std.proofs.Common.{◌≡◌, ◌+◌, ℕ, suc, Some, None, sym, ap, subst}
use Rattle.outside.specs.Inputs.{FilesView}
use Rattle.outside.specs.Sink.{SinkView}
use Rattle.tile_cover.specs.Table.{BoundsOf}
use Rattle.update_flow.specs.State.{Holding, imported}
use Rattle.update_flow.specs.Handle.{Handle, view_of}
use Rattle.run_promise.specs.declared.fault.Fault.{Fault}
use Rattle.run_promise.specs.Comes.{Comes}
use Rattle.run_promise.specs.Course.{Course}
use Rattle.run_promise.specs.Courses.{Onward, appending, appends, appends_one, onward}
use Rattle.updater.specs.Heads.{IsHead, IsVersion, Leads}
use Rattle.run_promise.specs.Progress.{Progress, Ending}
use Rattle.run_promise.specs.World.{Before, world}
use Rattle.updater.proofs.VersionRuns.{goes_back}

pub appends-step : (bounds : BoundsOf) (held : Holding) (file left count : ℕ) (rest : Holding → Course) → left ≡ suc count
    → appends bounds held file left rest ≡ appends_one bounds held file (λ next. appends bounds next (file + 1) count rest)
unfolding appends
appends-step bounds held file left count rest is = ap (λ n. appends bounds held file n rest) is

appends-none : (bounds : BoundsOf) (held : Holding) (file left : ℕ) (rest : Holding → Course) → left ≡ 0
    → appends bounds held file left rest ≡ rest held
unfolding appends
appends-none bounds held file left rest is = ap (λ n. appends bounds held file n rest) is

module _ (bounds : BoundsOf) (held : Holding) (first count : ℕ) (start done : Progress) (old : Before) where
  -- nothing is appended yet
  pub first_version : (left : ℕ) → left ≡ count → (files : FilesView) (updater : Handle) (output : SinkView)
      → IsHead start done (imported held) first old files updater output
      → IsVersion bounds held first count start done first left old files updater output
  first_version left is files updater output head = record {
    further = done;
    now = held;
    head = head;
    leads = λ last ending comes. subst (λ (own : ℕ). Comes old (appends bounds held first own (onward last)) done ending) is comes;
  }

  module _ (file left less : ℕ) (many : left ≡ suc less) (files : FilesView) (updater : Handle) (output : SinkView)
      (turn : IsVersion bounds held first count start done file left old files updater output)
      (read : FilesView) (after : Handle) (told : SinkView) where
    leads_turn : (last : Onward) (ending : Ending)
        → Comes old (appends_one bounds turn.now file (onward (appending bounds (file + 1) less last))) turn.further ending
        → Comes old (appends bounds held first count (onward last)) done ending
    leads_turn last ending comes = turn.leads last ending
        (subst (λ (own : Course). Comes old own turn.further ending)
        (sym (appends-step bounds turn.now file left less (onward last) many)) comes)

    -- one file more is
    pub next_version : ((old : Before) (start done : Progress) (held : Holding)
        → IsHead start done (imported held) file old files updater output
        → Leads (λ last. appends_one bounds held file (onward last)) None start done (file + 1) old read after told)
        → IsVersion bounds held first count start done (file + 1) less old read after told
    next_version leads =
        let own = leads old start turn.further turn.now turn.head in
        record {
          further = own.0;
          now = own.1;
          head = own.2;
          leads = λ last ending comes. leads_turn last ending (own.3 (appending bounds (file + 1) less last) ending comes);
        }

    -- or the run ends in it
    pub ends_in_version : (fault : Fault) (next : ℕ)
        → ((old : Before) (start done : Progress) (held : Holding) → IsHead start done (imported held) file old files updater output
        → Leads (λ last. appends_one bounds held file (onward last)) (Some fault) start done (file + 1) old read after told)
        → Leads (λ last. appends bounds held first count (onward last)) (Some fault) start done next old read after told
    ends_in_version fault next leads last =
        goes_back (appends bounds held first count (onward last))
        (appends_one bounds turn.now file (onward (appending bounds (file + 1) less last))) start done turn.further (Some fault) old
        (world read (view_of after) told)
        (leads old start turn.further turn.now turn.head (appending bounds (file + 1) less last)) (leads_turn last)

  -- all are appended
  pub last_version : (file left next : ℕ) → left ≡ 0 → file ≡ next → (files : FilesView) (updater : Handle) (output : SinkView)
      → IsVersion bounds held first count start done file left old files updater output
      → Leads (λ last. appends bounds held first count (onward last)) None start done next old files updater output
  last_version file left next none same files updater output turn = (
    turn.further,
    turn.now,
    subst (λ (own : ℕ). IsHead start turn.further (imported turn.now) own old files updater output) same turn.head,
    λ last ending comes. turn.leads last ending
        (subst (λ (own : Course). Comes old own turn.further ending)
        (sym (appends-none bounds turn.now file left (onward last) none)) comes),
  )
