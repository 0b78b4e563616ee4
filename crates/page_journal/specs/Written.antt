-- What the parts of a commit leave on the disk.
use Rattle.std.specs.Prelude.{◌≡◌, ◌≢◌, ◌⊎◌, ℕ, ◌+◌, ◌-◌, ◌*◌, ◌<◌, ◌≤◌, List, [], length, slice_index, slice_index_or}
use Rattle.page_journal.specs.Crash.{Spares, BesideGate, BesideJournal, BesidePages}
use Rattle.page_journal.specs.Home.{IsFormatted, IsHomePage}
use Rattle.page_journal.specs.declared.layout.TheConstants.{OPEN, FIRST_AT, COUNT_AT, PAGE_LEN}
use Rattle.page_journal.specs.Pages.{number, page_from, gate, number_pages}
use Rattle.page_journal.specs.PageSet.{number_at, page_at}

-- the places in front of one
abbrev pub Below : ℕ → ℕ → Type 0
Below at i = i < at

-- the first `count` numbers of the entries stand from this byte on
pub record NumbersPut (entries : List (ℕ × List ℕ)) (count at : ℕ) (old new : List ℕ) : Type 0 where
  pub spares : Spares (Below at) old new
  pub numbers : (place : ℕ) → place < count → number new (at + 8 * place) ≡ number_at entries place
  pub long : 0 < count → at + 8 * count ≤ length new
  -- and zeros up to the end of the last page
  pub padded : (i : ℕ) → at + 8 * count ≤ i → i < at + PAGE_LEN * number_pages count → slice_index new i ≡ 0

-- the first `count` pages of the entries stand from this byte on
pub record PagesPut (entries : List (ℕ × List ℕ)) (count at : ℕ) (old new : List ℕ) : Type 0 where
  pub spares : Spares (Below at) old new
  pub pages : (place : ℕ) → place < count → page_from new (at + PAGE_LEN * place) ≡ page_at entries place
  pub long : 0 < count → at + PAGE_LEN * count ≤ length new

-- a number stands at this byte
pub record NumberPut (at value : ℕ) (old new : List ℕ) : Type 0 where
  pub spares : Spares (λ i. (i < at) ⊎ (at + 8 ≤ i)) old new
  pub here : number new at ≡ value
  pub long : at + 8 ≤ length new

-- the journal's first page and its number of pages stand in page 0
pub record FieldsPut (first count : ℕ) (old new : List ℕ) : Type 0 where
  pub spares : Spares (λ i. (i < 8) ⊎ (24 ≤ i)) old new
  pub start : number new FIRST_AT ≡ first
  pub pages : number new COUNT_AT ≡ count

-- the gate has this value
pub record GatePut (value : ℕ) (old new : List ℕ) : Type 0 where
  pub spares : Spares BesideGate old new
  pub gate : gate new ≡ value

-- the first `count` of these pages stand at the places that their numbers say
pub record HomePut (numbers : ℕ → ℕ) (pages : ℕ → List ℕ) (count : ℕ) (old new : List ℕ) : Type 0 where
  pub spares : Spares (BesidePages count numbers) old new
  pub stand : (place : ℕ) → place < count → page_from new (PAGE_LEN * numbers place) ≡ pages place
  pub long : (place : ℕ) → place < count → PAGE_LEN * numbers place + PAGE_LEN ≤ length new

-- numbers that are written a page at a time: of the first `count`, the last `filled` stand in the buffer, and the
-- others on the disk from `start` on; `at` is where the buffer goes
pub record NumbersHeld (entries : List (ℕ × List ℕ)) (count start at filled : ℕ) (buffer old new : List ℕ) : Type 0 where
  pub from : start ≤ at
  pub place : at + 8 * filled ≡ start + 8 * count
  pub spares : Spares (Below start) old new
  pub written : (place : ℕ) → place + filled < count → number new (start + 8 * place) ≡ number_at entries place
  pub held : (place : ℕ) → place < filled → number buffer (8 * place) ≡ number_at entries (count - filled + place)
  pub long : start < at → at ≤ length new
  pub size : length buffer ≡ PAGE_LEN
  pub whole : (pages : ℕ) × (at ≡ start + PAGE_LEN * pages)
  pub rest : (i : ℕ) → 8 * filled ≤ i → slice_index buffer i ≡ 0

-- the journal of these entries stands behind the home pages
pub record JournalPut (entries : List (ℕ × List ℕ)) (count home : ℕ) (old new : List ℕ) : Type 0 where
  pub spares : Spares (BesideJournal (PAGE_LEN * home)) old new
  pub first : number new FIRST_AT ≡ home
  pub pages_are : number new COUNT_AT ≡ count
  pub numbers : (place : ℕ) → place < count → number new (PAGE_LEN * home + 8 * place) ≡ number_at entries place
  pub bodies : (place : ℕ) → place < count → page_from new (PAGE_LEN * (home + number_pages count + place)) ≡ page_at entries place
  pub long : 0 < count → PAGE_LEN * (home + number_pages count + count) ≤ length new

-- entries, written over home pages, make other home pages of them
pub record Makes (entries : List (ℕ × List ℕ)) (count home : ℕ) (old new : List (List ℕ)) : Type 0 where
  pub some : 1 ≤ count
  pub positive : (place : ℕ) → place < count → 1 ≤ number_at entries place
  pub below : (place : ℕ) → place < count → number_at entries place < home
  pub rises : (one two : ℕ) → one < two → two < count → number_at entries one < number_at entries two
  pub more : length old + 1 ≤ home
  pub many : length new + 1 ≡ home
  pub pages : 1 ≤ length new
  pub says : number (slice_index_or new 0 []) 0 ≡ home
  pub inside : (place : ℕ) → place < count → slice_index_or new (number_at entries place - 1) [] ≡ page_at entries place
  pub others : (n : ℕ) → 1 ≤ n → n ≤ length new → ((place : ℕ) → place < count → number_at entries place ≢ n)
      → (n ≤ length old) × (slice_index_or new (n - 1) [] ≡ slice_index_or old (n - 1) [])

-- the gate is shut, and each home page that is there, once the journal is copied home, stands in its place
pub record Finished (old new : List ℕ) : Type 0 where
  pub formatted : IsFormatted new
  pub shut : gate new ≢ OPEN
  pub long : length old ≤ length new
  pub home : (n : ℕ) (page : List ℕ) → 1 ≤ n → PAGE_LEN * n + PAGE_LEN ≤ length old → IsHomePage old n page
      → page_from new (PAGE_LEN * n) ≡ page
