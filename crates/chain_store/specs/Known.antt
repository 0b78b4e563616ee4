-- What a transaction has read and written, by the numbers of the chains.
use Rattle.std.specs.Prelude.{◌≡◌, ◌≢◌, ◌⊎◌, ℕ, ◌-◌, ◌%◌, ◌<◌, ◌≤◌, List, [], length, Option, None, Some, IsSome}
use Rattle.std.specs.Ordering.{nat_cmp}
use Rattle.std.specs.FinMap as map
use Rattle.outside.specs.Disk.{DiskView, ReadsAtMost}
use Rattle.chain_store.specs.Chain.{AreBehindRoot}
use Rattle.chain_store.specs.Directories.{IsChain}

-- bytes, or pages, by the number of their chain
abbrev pub Lists : Type 0
Lists = map.FinMap nat_cmp (List ℕ)

-- the pages of each chain that was read are behind the root page
abbrev pub AreKnown : ℕ → Lists → Type 0
AreKnown home read = (n : ℕ) (ns : List ℕ) → map.get read n ≡ Some ns → AreBehindRoot home ns

-- each chain that was written was read, and is a string, where each map has so many buckets; or it is empty
abbrev pub AreStored : ℕ → Lists → Lists → Type 0
AreStored buckets read written = (n : ℕ) (bytes : List ℕ) → map.get written n ≡ Some bytes
    → IsSome (map.get read n) × IsChain n × (n < 16 → n < 8) × (16 ≤ n → bytes ≢ [] → (n - 16) % 65536 < buckets)

-- where the number of buckets is another than before, no chain of a bucket is left that was not written
abbrev pub AreGone : ℕ → ℕ → (ℕ → ℕ) → Lists → Type 0
AreGone before buckets first written = buckets ≢ before → (n : ℕ) → 16 ≤ n → IsChain n → map.get written n ≡ None → first n ≡ 0

-- of each string below the buckets that was read the bytes are known too
abbrev pub AreHeld : Lists → Lists → Type 0
AreHeld read texts = (n : ℕ) → n < 16 → IsSome (map.get read n) → IsSome (map.get texts n)

-- this chain was read, and the disk at most once for each of its pages
abbrev pub ReadsChain : ℕ → ℕ → Lists → Lists → DiskView → DiskView → Type 0
ReadsChain end n old new before after = (ns : List ℕ) × (new ≡ map.insert old n ns) × ReadsAtMost (length ns) end before after

-- no chain was read, or this one for the first time, and the disk was read at most once for each of its pages
abbrev pub MayRead : ℕ → ℕ → Lists → Lists → DiskView → DiskView → Type 0
MayRead end n old new before after = ((new ≡ old) × ReadsAtMost 0 end before after)
    ⊎ ((map.get old n ≡ None) × ReadsChain end n old new before after)

-- no chain was read, or this one, perhaps once more
abbrev pub MayReadAgain : ℕ → ℕ → Lists → Lists → DiskView → DiskView → Type 0
MayReadAgain end n old new before after = ((new ≡ old) × ReadsAtMost 0 end before after) ⊎ ReadsChain end n old new before after

-- what was written, or else this
abbrev pub own_or : Option (List ℕ) → List ℕ → List ℕ
own_or None other = other
own_or (Some own) other = own

-- the bytes of each chain once these are written
abbrev pub changed : (ℕ → List ℕ) → Lists → ℕ → List ℕ
changed strings written n = own_or (map.get written n) (strings n)
