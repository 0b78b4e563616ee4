-- The state of a store: its fields and the bytes of each of its chains.
use Rattle.std.specs.Prelude.{◌≡◌, ◌⊎◌, ℕ, ◌+◌, ◌*◌, ◌<◌, ◌≤◌, List, length, slice_index}
use Rattle.page_journal.specs.Home.{Home}
use Rattle.chain_store.specs.Chain.{HasPages, Holds}
use Rattle.chain_store.specs.Links.{page_in}
use Rattle.chain_store.specs.Directories.{first_in, directory_first, IsChain, IsCount, root_in}
use Rattle.chain_store.specs.declared.root.Root.{Root}
use Rattle.chain_store.specs.declared.layout.TheConstants.{FREE}

-- the number of a chain, that of the free pages among them
abbrev pub IsOwner : ℕ → Type 0
IsOwner n = (n ≡ FREE) ⊎ IsChain n

-- the chain with this number has this page
pub record IsIn (page : ℕ → List ℕ) (home : ℕ) (first : ℕ → ℕ) (n p : ℕ) : Type 0 where
  pub ns : List ℕ
  pub has : HasPages page home n (first n) ns
  pub place : ℕ
  pub below : place < length ns
  pub here : slice_index ns place ≡ p

-- each chain is one, the free pages too, and each page behind the root page is in one of them. It is in no other, since
-- a page tells the number of its chain.
pub record IsSound (page : ℕ → List ℕ) (home : ℕ) (first : ℕ → ℕ) : Type 0 where
  pub chains : (n : ℕ) → IsOwner n → (ns : List ℕ) × HasPages page home n (first n) ns
  pub owned : (p : ℕ) → 2 ≤ p → p < home → (n : ℕ) × IsOwner n × IsIn page home first n p

-- these home pages are a store with these fields, whose chains have these bytes; a chain that the store does not have
-- is empty
pub record IsState (root : Root) (strings : ℕ → List ℕ) (pages : List (List ℕ)) : Type 0 where
  pub some : 1 ≤ length pages
  pub fields : root_in (page_in pages 1) ≡ root
  pub count : IsCount root.buckets
  pub directory : ℕ → List ℕ
  pub directories : (m : ℕ) → m < 8
      → Holds (page_in pages) (length pages + 1) (8 + m) (directory_first (page_in pages 1) m) (directory m)
  pub long : (m : ℕ) → m < 8 → length (directory m) ≡ 8 * root.buckets
  pub sound : IsSound (page_in pages) (length pages + 1) (first_in (page_in pages 1) directory)
  pub each : (n : ℕ) → (n < 8) ⊎ (16 ≤ n) → IsChain n
      → Holds (page_in pages) (length pages + 1) n (first_in (page_in pages 1) directory n) (strings n)

-- what a crash leaves is such a store
pub record HasState (root : Root) (strings : ℕ → List ℕ) (left : List ℕ) : Type 0 where
  pub pages : List (List ℕ)
  pub home : Home pages left
  pub state : IsState root strings pages
