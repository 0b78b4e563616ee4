-- The store that others follow, as its blocks tell of it.
-- docs/STANDARDS.md, "Feeds": a block has the whole tables of a version, or what the next change made of them.
use Rattle.std.specs.Prelude.{◌≡◌, ◌+◌, ℕ, List, [], ◌∷◌}
use Rattle.std.specs.FinMap as finite
use Rattle.osm_base.specs.map.Spots.{TableMap, changed_all}
use Rattle.style_read.specs.Style.{StyleOf}
use Rattle.delta_feed.specs.declared.block.Block.{Block}
use Rattle.delta_feed.specs.declared.block.Block.TheVariants as blocks
use Rattle.update_flow.specs.State.{Follow, Following, State, Step, formatted, following, imported, outdated}

-- a source: its style, the bytes of it, and its tables after so many changes
pub record Source : Type 0 where
  pub style : StyleOf
  pub style_bytes : List ℕ
  pub tables : ℕ → TableMap

-- whole tables of it
pub record AreWholeOf (source : Source) (version : ℕ) (tables : TableMap) (style : StyleOf) (style_bytes : List ℕ) : Type 0 where
  pub style_is : style ≡ source.style
  pub bytes_are : style_bytes ≡ source.style_bytes
  pub tables_are : tables ≡ source.tables version

-- a block of it: the tables of its version, or what leads to them from those of the version before
abbrev pub IsOf : Source → Block → Type 0
IsOf source (blocks.Full version style_bytes style rows) = AreWholeOf source version (changed_all finite.empty rows) style style_bytes
IsOf source (blocks.Delta delta) = (before : ℕ) → delta.version ≡ before + 1
    → changed_all (source.tables before) delta.changes ≡ source.tables delta.version

abbrev pub AreOf : Source → List Block → Type 0
AreOf source [] = Unit {0}
AreOf source (block ∷ rest) = IsOf source block × AreOf source rest

-- a store that follows it, or may begin to: what it holds are the tables that the source had at the version that it tells
abbrev pub HoldsSource : Source → State → Type 0
HoldsSource source formatted = Unit {0}
HoldsSource source (imported held) = ⊥
HoldsSource source (outdated held) = ⊥
HoldsSource source (following held) = AreWholeOf source held.version held.tables held.style held.style_bytes

-- the steps that these blocks are
abbrev pub steps_of : List Block → List Step
steps_of [] = []
steps_of (block ∷ rest) = Follow block ∷ steps_of rest
