-- How many home pages a store needs, by its state, and what a step answers by that.
use Rattle.std.specs.Prelude.{◌≢◌, ◌⊎◌, ℕ, ◌+◌, ◌<◌, ◌≤◌, List, length, Option, None, Some}
use Rattle.outside.specs.Bytes.{IfTold}
use Rattle.outside.specs.Disk.{DiskView}
use Rattle.osm_base.specs.declared.bounds.limits.LimitNumbers.{LimitNumbers}
use Rattle.page_journal.specs.Crash.{IsAtRest}
use Rattle.page_journal.specs.Home.{Home}
use Rattle.page_journal.specs.Pages.{gate}
use Rattle.page_journal.specs.declared.fault.StoreFault.TheVariants as store
use Rattle.page_journal.specs.declared.layout.TheConstants.{OPEN}
use Rattle.bucket_store.specs.Image.{Image}
use Rattle.bucket_store.specs.Needed.{NeedsPages}
use Rattle.update_flow.specs.Stands.{Means, StandsFor}
use Rattle.delta_feed.specs.declared.block.Block.{Block}
use Rattle.delta_feed.specs.declared.block.Block.TheVariants as blocks
use Rattle.update_flow.specs.State.{Following, State, imported, following, Step, Migrate, Follow}
use Rattle.update_flow.specs.declared.fault.FlowFault.{FlowFault}
use Rattle.update_flow.specs.declared.fault.FlowFault.TheVariants as flow

-- a store that had so many home pages needs so many once it is of this state
pub record Needs (home : ℕ) (state : State) (pages : ℕ) : Type 0 where
  pub image : Image
  pub means : Means state image
  pub needs : NeedsPages home image pages

-- and so one on this disk, which is at rest
pub record NeedsOn (disk : DiskView) (state : State) (many : ℕ) : Type 0 where
  pub pages : List (List ℕ)
  pub rests : IsAtRest pages disk
  pub needs : Needs (length pages + 1) state many

-- these home pages may have stood: there are no more than the limit, or they are those of the bytes that a disk was told to hold at
-- first, with the journal shut
abbrev pub MayHaveStood : LimitNumbers → (first : Option (List ℕ)) → List (List ℕ) → Type 0
MayHaveStood limits first pages = (length pages + 1 ≤ limits.pages) ⊎ IfTold first (λ bytes. gate bytes ≢ OPEN → Home pages bytes)

-- so those that a disk is told to hold
abbrev pub HasStood : LimitNumbers → (first : Option (List ℕ)) → DiskView → Type 0
HasStood limits first disk = IfTold disk.content (λ bytes. (pages : List (List ℕ)) → Home pages bytes → MayHaveStood limits first pages)

-- and a store of some state, with the home pages that its bytes have and that may have stood, once it is of another
pub record NeedsFrom (limits : LimitNumbers) (first : Option (List ℕ)) (state next : State) (many : ℕ) : Type 0 where
  pub bytes : List ℕ
  pub stands : StandsFor bytes state
  pub pages : List (List ℕ)
  pub home : Home pages bytes
  pub stood : MayHaveStood limits first pages
  pub needs : Needs (length pages + 1) next many

-- from one disk to another, both at rest, a store has come to this state, and has just the home pages that it needs: no more than the
-- limit
abbrev pub Grows : LimitNumbers → State → DiskView → DiskView → Type 0
Grows limits state old new = (before now : List (List ℕ)) → IsAtRest before old → IsAtRest now new
    → Needs (length before + 1) state (length now + 1) × (length now + 1 ≤ limits.pages)

-- a step after which so many are needed is done, where they are within the limit, and StoreFull tells just those, where they are
-- above it
abbrev pub FitsLimit : LimitNumbers → (ℕ → Type 0) → Option FlowFault → Type 0
FitsLimit limits Are None = (pages : ℕ) × Are pages × (pages ≤ limits.pages)
FitsLimit limits Are (Some (flow.Store (store.StoreFull pages))) = Are pages × (limits.pages < pages)
FitsLimit limits Are (Some _) = Unit {0}

-- the version of a block
abbrev pub version_of : Block → ℕ
version_of (blocks.Full version style_bytes style rows) = version
version_of (blocks.Delta delta) = delta.version

-- a block is new to a follower
abbrev pub IsNew : Following → Block → Type 0
IsNew held block = held.version < version_of block

-- a step that is not refused writes to a store of this state: any but the migration of one that has the format of today, and a block
-- that is not new to a follower
abbrev pub Writes : State → Step → Type 0
Writes (imported held) Migrate = ⊥
Writes (following held) (Follow block) = IsNew held block
Writes _ _ = Unit {0}
