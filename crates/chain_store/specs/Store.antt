-- An open store, as what is kept of it tells it.
use Rattle.std.specs.Prelude.{◌≡◌, ℕ, ◌+◌, ◌<◌, ◌≤◌, List, length}
use Rattle.chain_store.specs.declared.kept.Kept.{Kept}
use Rattle.chain_store.specs.Chain.{HasPages, Holds, Refused, data_in}
use Rattle.chain_store.specs.Links.{page_in}
use Rattle.chain_store.specs.Directories.{directory_first, first_in}
use Rattle.chain_store.specs.Kept.{pages_at, bytes_at}

-- the first page of each chain
abbrev pub kept_first : Kept → ℕ → ℕ
kept_first kept n = first_in kept.front.items (bytes_at kept.directories.items) n

-- of these home pages this is kept: the root page and the directories
pub record Keeps (pages : List (List ℕ)) (kept : Kept) : Type 0 where
  pub front : kept.front.items ≡ page_in pages 1
  pub some : 1 ≤ length pages
  pub has : (m : ℕ) → m < 8
      → HasPages (page_in pages) (length pages + 1) (8 + m) (directory_first kept.front.items m) (pages_at kept.directories.items m)
  pub held : (m : ℕ) → m < 8 → data_in (page_in pages) (pages_at kept.directories.items m) ≡ bytes_at kept.directories.items m

-- the chain that begins at this page has these bytes, or is refused at that page
abbrev pub HasBytes : List (List ℕ) → ℕ → ℕ → List ℕ → Type 0
HasBytes pages n first bytes = Holds (page_in pages) (length pages + 1) n first bytes

abbrev pub IsRefused : List (List ℕ) → ℕ → ℕ → ℕ → Type 0
IsRefused pages n first at = Refused (page_in pages) (length pages + 1) n first at
