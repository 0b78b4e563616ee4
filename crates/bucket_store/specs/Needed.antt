-- How many home pages a store needs, by what it means.
use Rattle.std.specs.Prelude.{◌≡◌, ℕ, ◌<◌, ◌≤◌, List, Result, Ok, Err}
use Rattle.page_journal.specs.declared.fault.StoreFault.{StoreFault}
use Rattle.page_journal.specs.declared.fault.StoreFault.TheVariants.{StoreFull}
use Rattle.chain_store.specs.Needed.{needed}
use Rattle.bucket_store.specs.Image.{Image, Spells}

-- a store that had so many home pages needs so many once it means this
pub record NeedsPages (home : ℕ) (image : Image) (pages : ℕ) : Type 0 where
  pub strings : ℕ → List ℕ
  pub spells : Spells image strings
  pub are : pages ≡ needed home image.root.buckets strings

-- a commit of a store that had `before` home pages and means this then may give this answer: it leaves just the home pages that
-- are needed, where they are within the limit, and StoreFull tells just those where they are above it
abbrev pub FitsImage : ℕ → Image → ℕ → ℕ → Result (Unit {0}) StoreFault → Type 0
FitsImage before image limit home (Ok done) = NeedsPages before image home × (home ≤ limit)
FitsImage before image limit home (Err (StoreFull pages)) = NeedsPages before image pages × (limit < pages)
FitsImage before image limit home (Err _) = Unit {0}
