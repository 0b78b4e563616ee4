-- Where the chains of a store begin. The root page has at 40 the first free page, and from 48 on the first pages of
-- chains 0 to 15, each 0 where the chain is empty. Chains 8 to 15 are the directories of maps 0 to 7: a first page for
-- each bucket of the map. The chain of bucket `b` of map `m` is `16 + 65536 m + b`.
use Rattle.std.specs.Prelude.{◌≡◌, ◌⊎◌, ℕ, ◌+◌, ◌-◌, ◌*◌, ◌/◌, ◌%◌, ◌==◌, ◌<◌, ◌≤◌, nat_lt, List, if◌then◌else◌, IsTrue}
use Rattle.std.specs.Int.{is_power_of_two}
use Rattle.page_journal.specs.Pages.{number}
use Rattle.chain_store.specs.declared.root.Root.{Root}
use Rattle.chain_store.specs.declared.layout.TheConstants.{FREE, CHAIN_END, FORMAT_AT, STATE_AT, CHANGES_AT, BUCKETS_AT}

-- the first page of a chain, as the root page and the eight directories tell it
unfoldable pub first_in : List ℕ → (ℕ → List ℕ) → ℕ → ℕ
first_in front directory n =
    if n == FREE then number front 40
    else (if nat_lt n 16 then number front (48 + 8 * n)
    else number (directory ((n - 16) / 65536)) (8 * ((n - 16) % 65536)))

-- the first page of the directory of a map
abbrev pub directory_first : List ℕ → ℕ → ℕ
directory_first front m = number front (112 + 8 * m)

-- a number of buckets
abbrev pub IsCount : ℕ → Type 0
IsCount n = (n ≡ 0) ⊎ (IsTrue (is_power_of_two n) × (n ≤ 65536))

-- the fields that a root page tells
abbrev pub root_in : List ℕ → Root
root_in front = record {
  format = number front FORMAT_AT;
  state = number front STATE_AT;
  changes = number front CHANGES_AT;
  buckets = number front BUCKETS_AT;
}

-- the number of a string that callers see, where each map has so many buckets. The directories are none.
abbrev pub IsString : ℕ → ℕ → Type 0
IsString buckets n = (n < 8) ⊎ ((m : ℕ) × (b : ℕ) × (m < 8) × (b < buckets) × (n ≡ 16 + 65536 * m + b))

-- the number of a chain that a store may have, the directories among them, but for the free pages
abbrev pub IsChain : ℕ → Type 0
IsChain n = n < CHAIN_END
