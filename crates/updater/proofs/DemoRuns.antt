-- A store is filled with the map of so many squares.
use Rattle.std.proofs.Common.{◌≡◌, ℕ, List, Option, Some, None, subst}
use Rattle.osm_base.specs.declared.values.object.Entry.{Entry}
use Rattle.outside.specs.Inputs.{FilesView}
use Rattle.outside.specs.Sink.{SinkView}
use Rattle.demo_map.specs.Demo.{demo_first, demo_input, demo_second}
use Rattle.demo_map.specs.Style.{DEMO_STYLE, demo_bounds, demo_style}
use Rattle.tile_cover.specs.Table.{BoundsOf}
use Rattle.update_flow.specs.Handle.{Handle, view_of}
use Rattle.update_flow.specs.State.{Holding, imported}
use Rattle.run_promise.specs.declared.fault.Fault.{Fault}
use Rattle.run_promise.specs.Course.{Course}
use Rattle.run_promise.specs.Courses.{Onward, appends_these, fills_demo, growing, imports_these, onward, summing}
use Rattle.run_promise.specs.Progress.{Progress}
use Rattle.run_promise.specs.World.{Before, World, world}
use Rattle.updater.specs.Heads.{GoesOn, IsHead, Leads}
use Rattle.updater.proofs.VersionRuns.{goes_back, leads_then}

-- a change that is appended is that of the map
pub grows_as : (bounds : BoundsOf) (change : List Entry) (own_bounds : BoundsOf) (own : List Entry) → own_bounds ≡ bounds → own ≡ change
    → (held : Holding) (fault : Option Fault) (start done : Progress) (next : ℕ) (old : Before) (files : FilesView) (updater : Handle)
    (output : SinkView)
    → Leads (λ last. appends_these own_bounds held own (onward last)) fault start done next old files updater output
    → Leads (λ last. appends_these bounds held change (onward last)) fault start done next old files updater output
grows_as bounds change own_bounds own same is held fault start done next old files updater output leads =
    subst (λ (now : BoundsOf). Leads (λ last. appends_these now held change (onward last)) fault start done next old files updater output)
    same
    (subst (λ (now : List Entry). Leads (λ last. appends_these own_bounds held now (onward last)) fault start done next old files updater
    output) is leads)

-- the second change comes behind the first
pub first_grown : (count : ℕ) (held : Holding) (start done : Progress) (next : ℕ) (old : Before) (files : FilesView) (updater : Handle)
    (output : SinkView)
    → Leads (λ last. appends_these demo_bounds held (demo_first count) (onward last)) None start done next old files updater output
    → (fault : Option Fault) (now : Handle) (new : SinkView)
    → ((further : Progress) (held : Holding) → IsHead start further (imported held) next old files updater output
    → Leads (λ last. appends_these demo_bounds held (demo_second count) (onward last)) fault start further next old files now new)
    → Leads (λ last. onward (growing demo_bounds (demo_first count) (growing demo_bounds (demo_second count) last)) held) fault start done
    next old files now new
first_grown count held start done next old files updater output made fault now new goes =
    leads_then (λ last. appends_these demo_bounds held (demo_first count) (onward last)) (growing demo_bounds (demo_second count))
    start done next old files updater output made fault now new goes

module _ (count : ℕ) (start done : Progress) (next : ℕ) (old : Before) (files : FilesView) (updater : Handle) (output : SinkView) where
  abbrev Imports : Onward → Course
  Imports last = imports_these (demo_style, DEMO_STYLE) 1024 (demo_input count) (onward last)

  abbrev Grows : Onward → Onward
  Grows last = growing demo_bounds (demo_first count) (growing demo_bounds (demo_second count) last)

  module _ (made : Leads Imports None start done next old files updater output) where
    abbrev Grown : Option Fault → Handle → SinkView → Type 0
    Grown fault now new = (further : Progress) (held : Holding) → IsHead start further (imported held) next old files updater output
        → Leads (λ last. onward (Grows last) held) fault start further next old files now new

    -- the run ends in a change
    pub demo_stopped : (fault : Fault) (now : Handle) (new : SinkView) → Grown (Some fault) now new
        → GoesOn (fills_demo count) start done (Some fault) old (world files (view_of now) new)
    demo_stopped fault now new grows =
        leads_then Imports Grows start done next old files updater output made (Some fault) now new grows summing

    -- or both are appended, and the run goes on
    pub demo_grown : (now : Handle) (new : SinkView) → Grown None now new → (fault : Option Fault) (world_new : World)
        → ((further : Progress) (held : Holding) → IsHead start further (imported held) next old files now new
        → GoesOn (onward summing held) start further fault old world_new)
        → GoesOn (fills_demo count) start done fault old world_new
    demo_grown now new grows fault world_new goes =
        let own = leads_then Imports Grows start done next old files updater output made None now new grows in
        goes_back (fills_demo count) (onward summing own.1) start done own.0 fault old world_new (goes own.0 own.1 own.2)
        (λ ending comes. own.3 summing ending comes)
