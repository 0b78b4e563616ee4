-- How much of its disk the opening of a store reads.
use Rattle.std.specs.Prelude.{◌≡◌, ◌+◌, ◌*◌, ◌<◌, ℕ, List, length}
use Rattle.outside.specs.Disk.{DiskView, ReadsAtMost}
use Rattle.page_journal.specs.Crash.{IsAtRest}
use Rattle.page_journal.specs.Home.{Home}
use Rattle.page_journal.specs.Pages.{number}
use Rattle.chain_store.specs.Chain.{HasPages}
use Rattle.chain_store.specs.Directories.{directory_first}
use Rattle.chain_store.specs.Kept.{page_total, pages_at}
use Rattle.chain_store.specs.Links.{page_in}
use Rattle.chain_store.specs.declared.layout.TheConstants.{FIRSTS_AT}
use Rattle.chain_store.specs.declared.walking.Walked.{Walked}
use Rattle.update_flow.specs.declared.fields.TheConstants.{STYLE_TEXT}

-- the first page of a text, as the root page tells it
abbrev pub text_first : List ℕ → ℕ → ℕ
text_first front n = number front (FIRSTS_AT + 8 * n)

-- of a store at rest the style was read, and the disk at most once for each of its pages
pub record ReadsStyle (old new : DiskView) : Type 0 where
  pub pages : List (List ℕ)
  pub rests : IsAtRest pages old
  pub style : List ℕ
  pub has : HasPages (page_in pages) (length pages + 1) STYLE_TEXT (text_first (page_in pages 1) STYLE_TEXT) style
  pub count : ReadsAtMost (length style) (4096 * (length pages + 1)) old new

-- of a store of these bytes the first two pages were read at once, then the root page, and then the pages of the eight
-- directories and of the style
pub record ReadsToOpen (bytes : List ℕ) (old new : DiskView) : Type 0 where
  pub pages : List (List ℕ)
  pub home : Home pages bytes
  pub directories : List Walked
  pub eight : length directories ≡ 8
  pub are : (m : ℕ) → m < 8 → HasPages (page_in pages) (length pages + 1) (8 + m) (directory_first (page_in pages 1) m)
      (pages_at directories m)
  pub style : List ℕ
  pub has : HasPages (page_in pages) (length pages + 1) STYLE_TEXT (text_first (page_in pages 1) STYLE_TEXT) style
  pub count : ReadsAtMost (2 + page_total directories + length style) (length bytes) old new
