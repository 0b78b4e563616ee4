-- How many home pages a store needs: the root page and those of its chains, with page 0, and never fewer than it has.
use Rattle.std.specs.Prelude.{◌≡◌, ℕ, zero, suc, ◌+◌, ◌*◌, ◌<◌, ◌≤◌, max, List, length, Result, Ok, Err}
use Rattle.page_journal.specs.declared.fault.StoreFault.{StoreFault}
use Rattle.page_journal.specs.declared.fault.StoreFault.TheVariants.{StoreFull}
use Rattle.chain_store.specs.Parts.{pages_for}

-- these numbers together, from that of 0 on, so many
unfoldable pub total : (ℕ → ℕ) → ℕ → ℕ
total numbers zero = 0
total numbers (suc many) = total numbers many + numbers many

-- the pages of the strings 0 to 7; of the directories, which have eight bytes for each bucket; and of the buckets
abbrev pub text_pages : (ℕ → List ℕ) → ℕ
text_pages strings = total (λ n. pages_for (length (strings n))) 8

abbrev pub directory_pages : ℕ → ℕ
directory_pages buckets = total (λ m. pages_for (8 * buckets)) 8

abbrev pub bucket_pages : ℕ → (ℕ → List ℕ) → ℕ
bucket_pages buckets strings = total (λ m. total (λ b. pages_for (length (strings (16 + 65536 * m + b)))) buckets) 8

unfoldable pub chain_pages : ℕ → (ℕ → List ℕ) → ℕ
chain_pages buckets strings = text_pages strings + directory_pages buckets + bucket_pages buckets strings

-- a store that had so many home pages, once it has so many buckets and these strings
abbrev pub needed : ℕ → ℕ → (ℕ → List ℕ) → ℕ
needed home buckets strings = max home (2 + chain_pages buckets strings)

-- a commit after which so many home pages are needed may give this answer: it leaves just those, where they are within the
-- limit, and StoreFull tells just those where they are above it
abbrev pub FitsNeeded : ℕ → ℕ → ℕ → Result (Unit {0}) StoreFault → Type 0
FitsNeeded need limit home (Ok done) = (home ≡ need) × (need ≤ limit)
FitsNeeded need limit home (Err (StoreFull pages)) = (pages ≡ need) × (limit < need)
FitsNeeded need limit home (Err _) = Unit {0}
