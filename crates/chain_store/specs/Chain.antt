-- Chains of pages. A chain begins at a page, or at 0 where it is empty, and each of its pages tells the next.
use Rattle.std.specs.Prelude.{◌≡◌, ◌≢◌, ◌⊎◌, ℕ, ◌-◌, ◌<◌, ◌≤◌, List, [], ◌∷◌, ◌++◌, length}
use Rattle.std.specs.List.{All}
use Rattle.chain_store.specs.Links.{IsLink, next_of, data_of}

-- the number of a home page behind the root page
abbrev pub IsBehindRoot : ℕ → ℕ → Type 0
IsBehindRoot home n = (2 ≤ n) × (n < home)

abbrev pub AreBehindRoot : ℕ → List ℕ → Type 0
AreBehindRoot home ns = All (IsBehindRoot home) ns

-- of so many home pages, the one with this number is a page of the chain
pub record IsGood (page : ℕ → List ℕ) (home chain n : ℕ) : Type 0 where
  pub above : 2 ≤ n
  pub below : n < home
  pub link : IsLink chain (page n)

-- from the first page on, these pages of the chain follow one another, and the last of them tells this next page
abbrev pub Path : (ℕ → List ℕ) → ℕ → ℕ → ℕ → List ℕ → ℕ → Type 0
Path page home chain first [] at = first ≡ at
Path page home chain first (n ∷ ns) at = (first ≡ n) × IsGood page home chain n × Path page home chain (next_of (page n)) ns at

-- the bytes that these pages hold
abbrev pub data_in : (ℕ → List ℕ) → List ℕ → List ℕ
data_in page [] = []
data_in page (n ∷ ns) = data_of (page n) ++ data_in page ns

-- the chain that begins at this page has these pages
pub record HasPages (page : ℕ → List ℕ) (home chain first : ℕ) (ns : List ℕ) : Type 0 where
  pub path : Path page home chain first ns 0
  pub few : length ns ≤ home - 2

-- and these bytes
pub record Holds (page : ℕ → List ℕ) (home chain first : ℕ) (bytes : List ℕ) : Type 0 where
  pub ns : List ℕ
  pub has : HasPages page home chain first ns
  pub held : data_in page ns ≡ bytes

-- the chain that begins at this page is refused at that one: it is no page of the chain, or one too many
pub record Refused (page : ℕ → List ℕ) (home chain first at : ℕ) : Type 0 where
  pub ns : List ℕ
  pub path : Path page home chain first ns at
  pub some : at ≢ 0
  pub few : length ns ≤ home - 2
  pub bad : ¬ IsGood page home chain at ⊎ (length ns ≡ home - 2)
