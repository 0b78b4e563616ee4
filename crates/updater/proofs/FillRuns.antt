-- A store is filled from its first import on.
use Rattle.std.proofs.Common.{◌≡◌, ◌+◌, ◌∙◌, ℕ, Option, Some, None, List, subst}
use Rattle.outside.specs.Inputs.{FilesView}
use Rattle.outside.specs.Sink.{SinkView}
use Rattle.page_journal.specs.declared.fault.StoreFault.TheVariants as stores
use Rattle.style_read.specs.Style.{StyleOf}
use Rattle.tile_cover.specs.Table.{BoundsOf}
use Rattle.update_flow.specs.Handle.{Handle, style_of, view_of}
use Rattle.update_flow.specs.Refusals.{IsOpenFault}
use Rattle.update_flow.specs.State.{Holding, imported}
use Rattle.update_flow.specs.declared.fault.FlowFault.{FlowFault}
use Rattle.update_flow.specs.declared.fault.FlowFault.TheVariants as flow
use Rattle.run_promise.specs.declared.fault.Fault.{Fault}
use Rattle.run_promise.specs.declared.fault.Fault.TheVariants as faults
use Rattle.run_promise.specs.Courses.{Onward, appending, appends, fills, imports, onward, telling}
use Rattle.run_promise.specs.Faults.{flow_fault}
use Rattle.updater.specs.Heads.{GoesOn, IsHead, Leads}
use Rattle.run_promise.specs.Making.{of_made}
use Rattle.run_promise.specs.Progress.{Progress}
use Rattle.run_promise.specs.World.{Before, World, world}
use Rattle.updater.proofs.StoreDeeds.{shows_here}
use Rattle.updater.proofs.VersionRuns.{goes_back}

-- a store that was just made is never one that was not
pub made_never : (fault : FlowFault) (P : Type 0) → IsOpenFault fault → Some (flow_fault (of_made fault)) ≡ Some faults.NotFormatted → P
made_never (flow.Store stores.NotFormatted) P alone is = absurd (cc)
made_never (flow.Store (stores.BadStore page)) P alone is = absurd (cc)
made_never (flow.Store stores.DiskFault) P alone is = absurd (cc)
made_never flow.OutOfMemory P alone is = absurd (cc)
made_never (flow.Store stores.NotEmpty) P alone is = absurd alone
made_never (flow.Store (stores.StoreFull pages)) P alone is = absurd alone
made_never (flow.Store stores.Broken) P alone is = absurd alone
made_never (flow.Store stores.OutOfMemory) P alone is = absurd alone
made_never flow.NotImported P alone is = absurd alone
made_never flow.AlreadyImported P alone is = absurd alone
made_never flow.OldFormat P alone is = absurd alone
made_never flow.LastChange P alone is = absurd alone
made_never (flow.TooMany value) P alone is = absurd alone

-- what was imported has a style
pub has_style : (start done : Progress) (held : Holding) (next : ℕ) (old : Before) (files : FilesView) (updater : Handle)
    (output : SinkView) (P : Type 0)
    → IsHead start done (imported held) next old files updater output → None ≡ style_of updater → P
has_style start done held next old files updater output P head is =
    let shown = shows_here done.store done.cut (imported held) updater head.here in
    absurd (let two : None ≡ Some held.style = is ∙ shown.style_is in cc)

module _ (style : StyleOf × List ℕ) (bounds : BoundsOf) (first changes : ℕ) (start done : Progress) (old : Before)
    (files : FilesView) (updater : Handle) (output : SinkView)
    (made : Leads (λ last. imports style 1024 first (onward last)) None start done (first + 1) old files updater output) where
  abbrev Last : Onward
  Last = appending bounds (first + 1) changes (telling bounds.zoom)

  abbrev Appends : Option Fault → (next : ℕ) → FilesView → Handle → SinkView → Type 0
  Appends fault next read after told = (old : Before) (start done : Progress) (held : Holding)
      → IsHead start done (imported held) (first + 1) old files updater output
      → Leads (λ last. appends bounds held (first + 1) changes (onward last)) fault start done next old read after told

  -- the run ends in a change
  pub stops_appending : (fault : Fault) (next : ℕ) (read : FilesView) (after : Handle) (told : SinkView)
      → Appends (Some fault) next read after told
      → GoesOn (fills style bounds first changes) start done (Some fault) old (world read (view_of after) told)
  stops_appending fault next read after told appended =
      goes_back (fills style bounds first changes) (onward Last made.1) start done made.0 (Some fault) old (world read (view_of after) told)
      (appended old start made.0 made.1 made.2 (telling bounds.zoom)) (made.3 Last)

  -- all are appended, and what the store holds is told
  pub tells_whole : (next : ℕ) (read : FilesView) (after : Handle) (told : SinkView) → Appends None next read after told → (least : ℕ)
      → least ≡ bounds.zoom → (fault : Option Fault) (new : World)
      → ((old : Before) (start done : Progress) (held : Holding) → IsHead start done (imported held) next old read after told
      → GoesOn (onward (telling least) held) start done fault old new)
      → GoesOn (fills style bounds first changes) start done fault old new
  tells_whole next read after told appended least is fault new goes =
      let grown = appended old start made.0 made.1 made.2 in
      goes_back (fills style bounds first changes) (onward Last made.1) start done made.0 fault old new
      (goes_back (onward Last made.1) (onward (telling bounds.zoom) grown.1) start made.0 grown.0 fault old new
      (subst (λ (own : ℕ). GoesOn (onward (telling own) grown.1) start grown.0 fault old new) is (goes old start grown.0 grown.1 grown.2))
      (grown.3 (telling bounds.zoom))) (made.3 Last)
