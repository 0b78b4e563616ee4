-- What the appending of one change file reads of an open store, and that of several so far.
use Rattle.std.specs.Prelude.{◌≡◌, ◌≢◌, ◌≤◌, ℕ, ◌+◌, List, length, Option, Ok}
use Rattle.osm_base.specs.declared.values.object.Entry.{Entry}
use Rattle.outside.specs.Bytes.{IfTold}
use Rattle.outside.specs.Disk.{ReadLog}
use Rattle.outside.specs.Inputs.{FilesView}
use Rattle.tile_cover.specs.Table.{BoundsOf}
use Rattle.page_journal.specs.Crash.{IsAtRest}
use Rattle.store_maps.specs.Asked.{May}
use Rattle.update_step.specs.Touch.{MayTouch}
use Rattle.update_flow.specs.Handle.{Handle, IsOpen, view_of}
use Rattle.update_flow.specs.Needed.{Needs}
use Rattle.update_flow.specs.State.{Holding, imported, changed}
use Rattle.run_promise.specs.Files.{IsChange}
use Rattle.run_promise.specs.Locality.{HoldChanges, IsCost, MoreReads, ReadsEach}

-- from one moment to another the disk was read no more often than a change costs
abbrev pub ReadsOne : Holding → List Entry → List (List ℕ) → Option ReadLog → Option ReadLog → Type 0
ReadsOne held change pages before after =
    (may : May) → MayTouch held.style held.objects change may → (count : ℕ) × IsCost may held pages count × MoreReads count before after

-- a change file was appended to an open store with these home pages
pub record AppendsHere (bounds : BoundsOf) (held : Holding) (pages : List (List ℕ)) (file : ℕ) (files read : FilesView)
    (before after : Handle) : Type 0 where
  pub change : List Entry
  pub accepted : IfTold (files.left file) (λ bytes. IsChange file bytes (Ok change))
  pub others : (other : ℕ) → other ≢ file → read.left other ≡ files.left other
  pub opened : IsOpen (imported (changed bounds change held)) after
  pub needed : (next : List (List ℕ)) → IsAtRest next (view_of after)
      → Needs (length pages + 1) (imported (changed bounds change held)) (length next + 1)
  pub reads : ReadsOne held change pages (view_of before).reads (view_of after).reads

-- change files so far, and what comes behind them
pub record AppendsSoFar (bounds : BoundsOf) (held : Holding) (pages : List (List ℕ)) (first file : ℕ) (files now : FilesView)
    (before after : Handle) : Type 0 where
  pub at : Holding
  pub opened : IsOpen (imported at) after
  pub here : List (List ℕ)
  pub rests : IsAtRest here (view_of after)
  pub others : (other : ℕ) → file ≤ other → now.left other ≡ files.left other
  pub leads : (later : List (List Entry)) (last : Option ReadLog) → HoldChanges files file later
      → ReadsEach bounds here at later (view_of after).reads last
      → (changes : List (List Entry)) × (length changes + first ≡ file + length later) × HoldChanges files first changes
      × ReadsEach bounds pages held changes (view_of before).reads last
