-- How a store follows another one: what a file of its feed holds, block by block.
use Rattle.std.specs.Prelude.{◌≡◌, ◌⊎◌, ◌<◌, ◌≤◌, ℕ, ◌+◌, List, [], ◌∷◌}
use Rattle.osm_base.specs.bounds.Limits.{standard}
use Rattle.delta_feed.specs.Blocks.{Comes as ComeTo, nothing, refused, whole}
use Rattle.delta_feed.specs.declared.block.Block.{Block}
use Rattle.delta_feed.specs.declared.block.Block.TheVariants as blocks
use Rattle.delta_feed.specs.declared.block.Stage.TheVariants as stages
use Rattle.delta_feed.specs.declared.fault.FeedFault.{FeedFault}
use Rattle.delta_feed.specs.declared.fault.FeedFault.TheVariants as faults
use Rattle.opl_lines.specs.Lines.{lines_of}
use Rattle.update_flow.specs.State.{State, formatted, following, Follow, after, style_in}
use Rattle.run_promise.specs.declared.fault.Fault.{Fault}
use Rattle.run_promise.specs.declared.fault.Fault.TheVariants.{BadFeed, Gap, Limit, NotImported, OutOfMemory, ReadFault}

-- why a block of this file is not read, as the fault of a run
abbrev pub feed_fault : (file : ℕ) → FeedFault → Fault
feed_fault file (faults.Bad line why) = BadFeed file line why
feed_fault file (faults.NoBase line) = NotImported
feed_fault file (faults.Limit which value) = Limit which value
feed_fault file faults.ReadFault = ReadFault file
feed_fault file faults.OutOfMemory = OutOfMemory

-- a store of this state lacks the changes between those that it has seen and the one that this block tells
abbrev pub IsGap : (file : ℕ) → State → Block → Fault → Type 0
IsGap file (following held) (blocks.Delta delta) fault =
    (held.version + 1 < delta.version) × (fault ≡ Gap file held.version delta.version)
IsGap file state block fault = ⊥

-- a block comes next, or is one that it has; of a store that holds no tables whole tables alone are taken
abbrev pub MayComeNext : State → Block → Type 0
MayComeNext formatted (blocks.Full version style_bytes style rows) = Unit {0}
MayComeNext (following held) (blocks.Full version style_bytes style rows) = Unit {0}
MayComeNext (following held) (blocks.Delta delta) = delta.version ≤ held.version + 1
MayComeNext state block = ⊥

-- what stands behind the blocks of a file that are told: nothing, a fault, or what nobody has looked at
pub data FeedEnd : Type 0 where
  over : FeedEnd
  stopped : Fault → FeedEnd
  unseen : FeedEnd

-- lines have this fault by themselves, or begin with a block that leaves a gap behind a store of this state
abbrev pub IsStopped : (file : ℕ) → State → (number : ℕ) → List (List ℕ) → Fault → Type 0
IsStopped file state number lines fault =
    ((own : FeedFault) × ComeTo standard (style_in state) stages.Between number lines (refused own) × (fault ≡ feed_fault file own))
    ⊎ ((block : Block) × (later : ℕ) × (rest : List (List ℕ))
    × ComeTo standard (style_in state) stages.Between number lines (whole block later rest) × IsGap file state block fault)

-- The lines of a file behind so many others are these blocks, each read under the style of the state in which it finds the store, and
-- then that.
abbrev pub IsFeedFrom : (file : ℕ) → State → (number : ℕ) → List (List ℕ) → List Block → FeedEnd → Type 0
IsFeedFrom file state number lines [] over = ComeTo standard (style_in state) stages.Between number lines nothing
IsFeedFrom file state number lines [] (stopped fault) = IsStopped file state number lines fault
IsFeedFrom file state number lines [] unseen = Unit {0}
IsFeedFrom file state number lines (block ∷ later) end = (next : ℕ) × (rest : List (List ℕ))
    × ComeTo standard (style_in state) stages.Between number lines (whole block next rest) × MayComeNext state block
    × IsFeedFrom file (after state (Follow block)) next rest later end

-- the bytes of a file are these blocks for a store of this state, and then that
abbrev pub IsFeed : (file : ℕ) → State → List ℕ → List Block → FeedEnd → Type 0
IsFeed file state bytes told end = IsFeedFrom file state 0 (lines_of bytes) told end
