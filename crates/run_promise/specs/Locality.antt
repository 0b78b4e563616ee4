-- How much of its store an append reads.
use Rattle.std.specs.Prelude.{◌≡◌, ◌≢◌, ◌<◌, ◌≤◌, ℕ, ◌+◌, ◌-◌, List, [], ◌∷◌, length, Option, Some, None, IsSome, Ok}
use Rattle.std.specs.FinMap as map
use Rattle.osm_base.specs.declared.values.object.Entry.{Entry}
use Rattle.outside.specs.Bytes.{IfTold}
use Rattle.outside.specs.Disk.{ReadLog}
use Rattle.outside.specs.Inputs.{FilesView}
use Rattle.tile_cover.specs.Table.{BoundsOf}
use Rattle.page_journal.specs.Home.{Home}
use Rattle.page_journal.specs.Pages.{gate}
use Rattle.page_journal.specs.declared.layout.TheConstants.{OPEN}
use Rattle.chain_store.specs.Chain.{HasPages}
use Rattle.chain_store.specs.Directories.{directory_first}
use Rattle.chain_store.specs.Kept.{page_total, pages_at}
use Rattle.chain_store.specs.Known.{Lists}
use Rattle.chain_store.specs.Links.{page_in}
use Rattle.chain_store.specs.Reads.{pages_read}
use Rattle.chain_store.specs.Store.{Keeps}
use Rattle.chain_store.specs.declared.kept.Kept.{Kept}
use Rattle.chain_store.specs.declared.layout.TheConstants.{FREE}
use Rattle.chain_store.specs.declared.walking.Walked.{Walked}
use Rattle.store_maps.specs.Asked.{May}
use Rattle.update_step.specs.Touch.{MayTouch}
use Rattle.update_flow.specs.Needed.{Needs}
use Rattle.update_flow.specs.OpeningReads.{text_first}
use Rattle.update_flow.specs.Reads.{HasChain, MayLoad}
use Rattle.update_flow.specs.Stands.{StandsFor}
use Rattle.update_flow.specs.State.{Holding, imported, changed}
use Rattle.update_flow.specs.declared.fields.TheConstants.{STYLE_TEXT}
use Rattle.run_promise.specs.declared.fault.Fault.{Fault}
use Rattle.run_promise.specs.declared.files.Files.{Files}
use Rattle.run_promise.specs.CommandOf.{CommandOf, append_of}
use Rattle.run_promise.specs.Files.{IsBounds, IsChange}
use Rattle.run_promise.specs.World.{World}

-- where the reads are told, there were at most so many more
abbrev pub MoreReads : ℕ → Option ReadLog → Option ReadLog → Type 0
MoreReads count before after = (first : ReadLog) → before ≡ Some first
    → (now : ReadLog) × (after ≡ Some now) × (now.count ≤ first.count + count)

-- the opening of a store of these bytes costs so many reads: two, and one for each page of the eight directories and of the style
pub record IsOpeningCost (bytes : List ℕ) (count : ℕ) : Type 0 where
  pub pages : List (List ℕ)
  pub home : Home pages bytes
  pub directories : List Walked
  pub eight : length directories ≡ 8
  pub are : (m : ℕ) → m < 8 → HasPages (page_in pages) (length pages + 1) (8 + m) (directory_first (page_in pages 1) m)
      (pages_at directories m)
  pub style : List ℕ
  pub has : HasPages (page_in pages) (length pages + 1) STYLE_TEXT (text_first (page_in pages 1) STYLE_TEXT) style
  pub is : count ≡ 2 + page_total directories + length style

-- these are the home pages of a store that holds this
pub record IsStore (pages : List (List ℕ)) (held : Holding) : Type 0 where
  pub bytes : List ℕ
  pub home : Home pages bytes
  pub stands : StandsFor bytes (imported held)

-- and that had those home pages before: it has as many as it needs, none is given back, and what no chain has is its free list
pub record IsNextStore (before pages : List (List ℕ)) (held : Holding) : Type 0 where
  pub store : IsStore pages held
  pub needed : Needs (length before + 1) (imported held) (length pages + 1)

-- in a store with these home pages, which holds this, a change costs so many: those of the due tiles, of buckets of keys that may be
-- asked, and of the free list, each once
pub record IsCost (may : May) (held : Holding) (pages : List (List ℕ)) (count : ℕ) : Type 0 where
  pub kept : Kept
  pub keeps : Keeps pages kept
  pub read : Lists
  pub each : (n : ℕ) → IsSome (map.get read n) → MayLoad may held.buckets n
  pub are : (n : ℕ) (ns : List ℕ) → map.get read n ≡ Some ns → HasChain pages kept n ns
  pub free : List ℕ
  pub is_free : HasChain pages kept FREE free
  pub is : count ≡ pages_read read + length free

-- of changes, one after another, each may ask what it touches
abbrev pub MayEachTouch : BoundsOf → Holding → List (List Entry) → (ℕ → May) → Type 0
MayEachTouch bounds held [] mays = Unit {0}
MayEachTouch bounds held (change ∷ changes) mays =
    MayTouch held.style held.objects change (mays 0) × MayEachTouch bounds (changed bounds change held) changes (λ place. mays (place + 1))

-- they cost so many pages together: the first in the store with these home pages, and each later one in a store that holds what the
-- one before it left, in as many pages as that needs
abbrev pub Cost : BoundsOf → List (List ℕ) → Holding → List (List Entry) → (ℕ → May) → ℕ → Type 0
Cost bounds pages held [] mays total = total ≡ 0
Cost bounds pages held (change ∷ changes) mays total = (one : ℕ) × (later : ℕ) × (next : List (List ℕ)) × IsCost (mays 0) held pages one
    × IsNextStore pages next (changed bounds change held)
    × Cost bounds next (changed bounds change held) changes (λ place. mays (place + 1)) later
    × (total ≡ one + later)

-- from one moment to another the disk was read no more often than these changes cost
abbrev pub ReadsEach : BoundsOf → List (List ℕ) → Holding → List (List Entry) → Option ReadLog → Option ReadLog → Type 0
ReadsEach bounds pages held changes before after =
    (mays : ℕ → May) → MayEachTouch bounds held changes mays
    → (total : ℕ) × Cost bounds pages held changes mays total × MoreReads total before after

-- files from this one on hold these changes, where they are told
abbrev pub HoldChanges : FilesView → ℕ → List (List Entry) → Type 0
HoldChanges files file [] = Unit {0}
HoldChanges files file (change ∷ changes) =
    IfTold (files.left file) (λ bytes. IsChange file bytes (Ok change)) × HoldChanges files (file + 1) changes

-- so many change files from this one on were appended to an open store with these home pages
pub record AppendsThere (bounds : BoundsOf) (held : Holding) (pages : List (List ℕ)) (first count : ℕ) (files : FilesView)
    (before after : Option ReadLog) : Type 0 where
  pub changes : List (List Entry)
  pub many : length changes ≡ count
  pub hold : HoldChanges files first changes
  pub reads : ReadsEach bounds pages held changes before after

-- the files of an append were read, and appended to a store that holds this, with these home pages
pub record AppendsAll (own : Files) (held : Holding) (pages : List (List ℕ)) (files : FilesView)
    (before after : Option ReadLog) : Type 0 where
  pub bounds : BoundsOf
  pub accepted : IfTold (files.left own.first) (λ bytes. IsBounds own.first bytes (Ok bounds))
  pub there : AppendsThere bounds held pages (own.first + 1) (own.count - 1) files before after

-- An append that did all that it was asked to, on a disk whose bytes are a store that no crash has left in the middle of a commit: the
-- disk was read no more often than the opening reads, and then each change.
abbrev pub IsLocal : Files → World → World → Type 0
IsLocal own old new = (bytes : List ℕ) (held : Holding) (pages : List (List ℕ)) → old.disk.content ≡ Some bytes → gate bytes ≢ OPEN
    → StandsFor bytes (imported held)
    → Home pages bytes → (between : Option ReadLog)
    × ((opening : ℕ) × IsOpeningCost bytes opening × MoreReads opening old.disk.reads between)
    × AppendsAll own held pages old.files between new.disk.reads

-- a run of a command
abbrev pub IsLocalRun : CommandOf → World → World → Option Fault → Type 0
IsLocalRun (append_of store files ahead workers) old new fault = fault ≡ None → IsLocal files old new
IsLocalRun _ old new fault = Unit {0}
