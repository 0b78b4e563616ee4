-- What is kept in memory of an open store: the root page, and the directories with their pages.
use Rattle.std.specs.Prelude.{◌≡◌, ℕ, zero, suc, ◌+◌, ◌*◌, ◌<◌, List, [], ◌∷◌, length}
use Rattle.page_journal.specs.Pages.{number}
use Rattle.chain_store.specs.declared.walking.Walked.{Walked}
use Rattle.chain_store.specs.Chain.{AreBehindRoot}
use Rattle.chain_store.specs.declared.layout.TheConstants.{BUCKETS_AT}

-- the pages and the bytes of the chain that was read at this place
abbrev pub pages_at : List Walked → ℕ → List ℕ
pages_at [] m = []
pages_at (walked ∷ others) zero = walked.pages.items
pages_at (walked ∷ others) (suc m) = pages_at others m

abbrev pub bytes_at : List Walked → ℕ → List ℕ
bytes_at [] m = []
bytes_at (walked ∷ others) zero = walked.bytes.items
bytes_at (walked ∷ others) (suc m) = bytes_at others m

-- the number of buckets that a root page tells
abbrev pub buckets_in : List ℕ → ℕ
buckets_in front = number front BUCKETS_AT

-- each of the eight directories has a first page for each bucket
abbrev pub AreLong : List Walked → ℕ → Type 0
AreLong directories buckets = (m : ℕ) → m < 8 → length (bytes_at directories m) ≡ 8 * buckets

-- and pages behind the root page
abbrev pub AreAllBehindRoot : ℕ → List Walked → Type 0
AreAllBehindRoot home directories = (m : ℕ) → m < 8 → AreBehindRoot home (pages_at directories m)

-- how many pages they have together
abbrev pub page_total : List Walked → ℕ
page_total [] = 0
page_total (walked ∷ others) = length walked.pages.items + page_total others
