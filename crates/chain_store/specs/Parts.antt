-- What a commit writes: chains with the pages that they had and those that they get.
use Rattle.std.specs.Prelude.{◌≡◌, ◌≢◌, ◌⊎◌, ℕ, zero, suc, ◌+◌, ◌-◌, ◌/◌, ◌==◌, ◌<◌, ◌≤◌, cond, List, [], ◌∷◌, ◌++◌, length, take, drop}
use Rattle.chain_store.specs.Chain.{HasPages}
use Rattle.chain_store.specs.Links.{data_of, many_of, next_of, owner_of}
use Rattle.chain_store.specs.declared.layout.TheConstants.{CHAIN_END, FREE}
use Rattle.chain_store.specs.declared.parts.Part.{Part}
use Rattle.chain_store.specs.declared.parts.Laid.{Laid}

-- how often a number stands in a list
abbrev pub once : ℕ → ℕ → ℕ
once p n = cond (n == p) 1 0

abbrev pub times : ℕ → List ℕ → ℕ
times p [] = 0
times p (n ∷ ns) = once p n + times p ns

-- the numbers from this one on, so many
abbrev pub up_from : ℕ → ℕ → List ℕ
up_from n zero = []
up_from n (suc count) = n ∷ up_from (n + 1) count

-- the first of these numbers, or another where there is none
abbrev pub head_or : List ℕ → ℕ → ℕ
head_or [] other = other
head_or (n ∷ ns) other = n

-- how many pages so many bytes need
abbrev pub pages_for : ℕ → ℕ
pages_for bytes = (bytes + 4079) / 4080

-- the bytes that a page holds of these, and those behind them
unfoldable pub first_held : List ℕ → List ℕ
first_held bytes = take 4080 bytes

unfoldable pub later_held : List ℕ → List ℕ
later_held bytes = drop 4080 bytes

-- the pages that a chain keeps or gets: its own in their order, as far as it needs them, and then those of the pool
abbrev pub dealt : Part → List ℕ → List ℕ
dealt part pool = take (pages_for (length part.bytes)) (part.old ++ pool)

-- how many pages it takes from the pool, and those that it gives up
abbrev pub growth_of : Part → ℕ
growth_of part = pages_for (length part.bytes) - length part.old

abbrev pub given_by : Part → List ℕ
given_by part = drop (pages_for (length part.bytes)) part.old

abbrev pub growth : List Part → ℕ
growth [] = 0
growth (part ∷ parts) = growth_of part + growth parts

abbrev pub given : List Part → List ℕ
given [] = []
given (part ∷ parts) = given_by part ++ given parts

abbrev pub laid_of : Part → List ℕ → Laid
laid_of part pages = record { number = part.number; old = part.old; pages = pages; same = part.same; bytes = part.bytes }

-- all of them, one after another
abbrev pub laid_all : List Part → List ℕ → List Laid
laid_all [] pool = []
laid_all (part ∷ parts) pool = laid_of part (dealt part pool) ∷ laid_all parts (drop (growth_of part) pool)

-- how often a page stands among those that these chains had, and among those that they get
abbrev pub times_old : ℕ → List Laid → ℕ
times_old p [] = 0
times_old p (laid ∷ others) = times p laid.old + times_old p others

abbrev pub times_new : ℕ → List Laid → ℕ
times_new p [] = 0
times_new p (laid ∷ others) = times p laid.pages + times_new p others

-- no part has this number
abbrev pub IsNoPart : ℕ → List Laid → Type 0
IsNoPart n [] = Unit {0}
IsNoPart n (laid ∷ others) = (n ≢ laid.number) × IsNoPart n others

-- a part has this number, and these pages and bytes
abbrev pub IsPart : ℕ → List ℕ → List ℕ → List Laid → Type 0
IsPart n pages bytes [] = ⊥
IsPart n pages bytes (laid ∷ others) =
    ((n ≡ laid.number) × (pages ≡ laid.pages) × (bytes ≡ laid.bytes)) ⊎ IsPart n pages bytes others

-- they are chains of the store, each once, and had these pages
abbrev pub AreOld : (ℕ → List ℕ) → ℕ → (ℕ → ℕ) → List Laid → Type 0
AreOld page home first [] = Unit {0}
AreOld page home first (laid ∷ others) = (laid.number < CHAIN_END) × HasPages page home laid.number (first laid.number) laid.old
    × IsNoPart laid.number others × AreOld page home first others

-- these pages are those of a chain with these bytes; the last tells `tail` as the next
abbrev pub AreWritten : (ℕ → List ℕ) → ℕ → ℕ → List ℕ → List ℕ → Type 0
AreWritten page chain tail [] bytes = bytes ≡ []
AreWritten page chain tail (n ∷ ns) bytes = (1 ≤ length bytes) × (owner_of (page n) ≡ chain) × (next_of (page n) ≡ head_or ns tail)
    × (many_of (page n) ≡ length (first_held bytes)) × (data_of (page n) ≡ first_held bytes)
    × AreWritten page chain tail ns (later_held bytes)

-- these are free pages; the last tells `tail` as the next
abbrev pub AreFreed : (ℕ → List ℕ) → ℕ → List ℕ → Type 0
AreFreed page tail [] = Unit {0}
AreFreed page tail (n ∷ ns) = (owner_of (page n) ≡ FREE) × (next_of (page n) ≡ head_or ns tail) × AreFreed page tail ns

abbrev pub AreLaid : (ℕ → List ℕ) → List Laid → Type 0
AreLaid page [] = Unit {0}
AreLaid page (laid ∷ others) = AreWritten page laid.number 0 laid.pages laid.bytes × AreLaid page others

-- each part begins at the first of its pages
abbrev pub Begin : (ℕ → ℕ) → List Laid → Type 0
Begin first [] = Unit {0}
Begin first (laid ∷ others) = (first laid.number ≡ head_or laid.pages 0) × Begin first others

-- the pages and the bytes of the part at a place
abbrev pub laid_pages_at : List Laid → ℕ → List ℕ
laid_pages_at [] m = []
laid_pages_at (one ∷ others) zero = one.pages
laid_pages_at (one ∷ others) (suc m) = laid_pages_at others m

abbrev pub laid_bytes_at : List Laid → ℕ → List ℕ
laid_bytes_at [] m = []
laid_bytes_at (one ∷ others) zero = one.bytes
laid_bytes_at (one ∷ others) (suc m) = laid_bytes_at others m
