-- Numbers, pages and the fields of page 0 in the bytes of a store. Numbers have eight bytes, the least first.
use Rattle.std.specs.Prelude.{ℕ, ◌+◌, ◌*◌, ◌/◌, List, take, drop, slice_index}
use Rattle.std.specs.Int.{w64, from_le_bytes}
use Rattle.page_journal.specs.declared.layout.TheConstants.{FIRST_AT, COUNT_AT, GATE_AT, PAGE_LEN}

-- the number that stands at this byte
unfoldable pub number : List ℕ → ℕ → ℕ
number bytes at = from_le_bytes w64 (take 8 (drop at bytes))

-- the page that begins at this byte
unfoldable pub page_from : List ℕ → ℕ → List ℕ
page_from bytes at = take PAGE_LEN (drop at bytes)

-- the first two pages
abbrev pub head_of : List ℕ → List ℕ
head_of bytes = take 8192 bytes

-- the journal's first page, its number of pages, and its gate
abbrev pub first_page : List ℕ → ℕ
first_page bytes = number bytes FIRST_AT

abbrev pub page_count : List ℕ → ℕ
page_count bytes = number bytes COUNT_AT

abbrev pub gate : List ℕ → ℕ
gate bytes = slice_index bytes GATE_AT

-- how many pages so many numbers take
abbrev pub number_pages : ℕ → ℕ
number_pages count = (count + 511) / 512

-- the number of the page that stands in the journal at this place
abbrev pub entry : List ℕ → ℕ → ℕ
entry bytes place = number bytes (PAGE_LEN * first_page bytes + 8 * place)

-- where that page stands
abbrev pub body_at : List ℕ → ℕ → ℕ
body_at bytes place = PAGE_LEN * (first_page bytes + number_pages (page_count bytes) + place)
