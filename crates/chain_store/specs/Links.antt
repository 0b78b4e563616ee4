-- The pages of chains. A page of a chain begins with the number of the next page, or 0 in the last one; at 8 stands
-- how many bytes of the chain it holds, at 12 the number of the chain, and from 16 on those bytes. Numbers are
-- little-endian, the first of eight bytes and the others of four. Each page but the last holds 4,080 bytes, and the
-- last at least one. Of a free page only the next one and the number of the chain are looked at.
use Rattle.std.specs.Prelude.{◌≡◌, ◌≢◌, ℕ, ◌-◌, ◌==◌, ◌≤◌, List, [], take, drop, slice_index_or, if◌then◌else◌}
use Rattle.std.specs.Int.{w32, from_le_bytes}
use Rattle.page_journal.specs.Pages.{number}
use Rattle.chain_store.specs.declared.layout.TheConstants.{FREE}

-- the number of four bytes that stands at this byte
unfoldable pub half_number : List ℕ → ℕ → ℕ
half_number bytes at = from_le_bytes w32 (take 4 (drop at bytes))

-- the next page, how many bytes the page holds, and the number of its chain
abbrev pub next_of : List ℕ → ℕ
next_of page = number page 0

abbrev pub many_of : List ℕ → ℕ
many_of page = half_number page 8

abbrev pub owner_of : List ℕ → ℕ
owner_of page = half_number page 12

-- so many bytes of a page behind its front
unfoldable pub held_in : ℕ → List ℕ → List ℕ
held_in many page = take many (drop 16 page)

-- the bytes of its chain that a page holds
unfoldable pub data_of : List ℕ → List ℕ
data_of page = if owner_of page == FREE then [] else held_in (many_of page) page

-- this is a page of the chain with this number
pub record IsLink (chain : ℕ) (page : List ℕ) : Type 0 where
  pub owner : owner_of page ≡ chain
  pub full : chain ≢ FREE → next_of page ≢ 0 → many_of page ≡ 4080
  pub last : chain ≢ FREE → next_of page ≡ 0 → (1 ≤ many_of page) × (many_of page ≤ 4080)

-- the home page with this number
abbrev pub page_in : List (List ℕ) → ℕ → List ℕ
page_in pages n = slice_index_or pages (n - 1) []
