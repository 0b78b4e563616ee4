-- The home pages of a store.
use Rattle.std.specs.Prelude.{◌≡◌, ◌≢◌, ◌⊎◌, ℕ, ◌+◌, ◌-◌, ◌*◌, ◌<◌, ◌≤◌, List, [], length, slice_index, slice_index_or}
use Rattle.page_journal.specs.Pages.{number, page_from, gate, first_page, page_count, number_pages, entry, body_at}
use Rattle.page_journal.specs.declared.layout.TheConstants.{MARK, OPEN, ROOT_AT, FORMAT_AT, FORMAT, PAGE_LEN}

-- there are two pages, and the first begins with the mark
pub record IsFormatted (bytes : List ℕ) : Type 0 where
  pub long : 8192 ≤ length bytes
  pub marked : number bytes 0 ≡ MARK

-- the numbers of a journal rise from at least 1 to below its first page
pub record AreRising (bytes : List ℕ) (first count : ℕ) : Type 0 where
  pub positive : (place : ℕ) → place < count → 1 ≤ number bytes (PAGE_LEN * first + 8 * place)
  pub below : (place : ℕ) → place < count → number bytes (PAGE_LEN * first + 8 * place) < first
  pub rises : (place : ℕ) → place + 1 < count
      → number bytes (PAGE_LEN * first + 8 * place) < number bytes (PAGE_LEN * first + 8 * (place + 1))

-- the journal has a page, its numbers rise so, and its pages are all there
pub record IsWellFormed (bytes : List ℕ) : Type 0 where
  pub some : 1 ≤ page_count bytes
  pub numbers : AreRising bytes (first_page bytes) (page_count bytes)
  pub long : PAGE_LEN * (first_page bytes + number_pages (page_count bytes) + page_count bytes) ≤ length bytes

-- the store is formatted, its gate is open, and the journal is well formed: it is to be finished
pub record HasOpenJournal (bytes : List ℕ) : Type 0 where
  pub formatted : IsFormatted bytes
  pub is_open : gate bytes ≡ OPEN
  pub journal : IsWellFormed bytes

-- the page with this number, once the journal is copied home: where the gate is open and the journal has the page,
-- the one in the journal
pub record InJournal (bytes : List ℕ) (number : ℕ) (page : List ℕ) : Type 0 where
  pub is_open : gate bytes ≡ OPEN
  pub place : ℕ
  pub within : place < page_count bytes
  pub here : entry bytes place ≡ number
  pub same : page ≡ page_from bytes (body_at bytes place)

-- and else the one in its place
pub record InPlace (bytes : List ℕ) (number : ℕ) (page : List ℕ) : Type 0 where
  pub not_there : gate bytes ≡ OPEN → (place : ℕ) → place < page_count bytes → entry bytes place ≢ number
  pub same : page ≡ page_from bytes (PAGE_LEN * number)

abbrev pub IsHomePage : List ℕ → ℕ → List ℕ → Type 0
IsHomePage bytes number page = InJournal bytes number page ⊎ InPlace bytes number page

-- these are the home pages from page 1 on, once the journal is copied home. Their number, page 0 among them, stands
-- at the front of page 1. A store that is not formatted has none, and neither has one whose gate is open and whose
-- journal is not well formed, or that does not hold them.
pub record Home (pages : List (List ℕ)) (bytes : List ℕ) : Type 0 where
  pub formatted : IsFormatted bytes
  pub journal : gate bytes ≡ OPEN → IsWellFormed bytes
  pub some : 1 ≤ length pages
  pub count : number (slice_index_or pages 0 []) 0 ≡ length pages + 1
  pub holds : PAGE_LEN * (length pages + 1) ≤ length bytes
  pub each : (n : ℕ) → 1 ≤ n → n ≤ length pages → IsHomePage bytes n (slice_index_or pages (n - 1) [])

-- the bytes that `format` leaves
pub record IsFresh (bytes : List ℕ) : Type 0 where
  pub long : length bytes ≡ 8192
  pub mark : number bytes 0 ≡ MARK
  pub home : number bytes ROOT_AT ≡ 2
  pub format : number bytes FORMAT_AT ≡ FORMAT
  pub zeros : (i : ℕ) → (8 ≤ i) × (i < 4096) ⊎ (4112 ≤ i) → slice_index bytes i ≡ 0
