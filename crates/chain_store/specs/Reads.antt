-- How much of the disk a transaction has read.
use Rattle.std.specs.Prelude.{◌≡◌, ◌⊎◌, ℕ, ◌+◌, ◌≤◌, List, [], ◌∷◌, length, Some, IsSome}
use Rattle.std.specs.FinMap as map
use Rattle.outside.specs.Disk.{DiskView, ReadLog}
use Rattle.outside.specs.declared.disk.Disk.{Ghosts}
use Rattle.chain_store.specs.Chains.{disk_of, read_of}
use Rattle.chain_store.specs.Known.{Lists}
use Rattle.chain_store.specs.declared.chains.Chains.{Chains}

-- how many pages these chains have together
abbrev pub page_sum : List (ℕ × List ℕ) → ℕ
page_sum [] = 0
page_sum (chain ∷ chains) = length chain.1 + page_sum chains

unfoldable pub pages_read : Lists → ℕ
pages_read read = page_sum (map.entries read)

-- where the disk tells its reads, there were at most as many as the chains have pages that were read meanwhile
abbrev pub ReadsWithin : Lists → Lists → DiskView → DiskView → Type 0
ReadsWithin old new before after = (first : ReadLog) → before.reads ≡ Some first → (now : ReadLog) × (after.reads ≡ Some now)
    × (now.count + pages_read old ≤ first.count + pages_read new)

-- from one moment of a transaction to a later one each chain was read at most once, and those that were are such chains
pub record ReadsOnly {D : Type 0} {g : Ghosts D} (P : ℕ → Type 0) (old new : Chains D g) : Type 0 where
  pub within : ReadsWithin (read_of old) (read_of new) (disk_of old) (disk_of new)
  pub each : (n : ℕ) → IsSome (map.get (read_of new) n) → IsSome (map.get (read_of old) n) ⊎ P n
