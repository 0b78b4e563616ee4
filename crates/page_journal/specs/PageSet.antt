-- Pages by their numbers, and what a commit of them makes of the home pages.
use Rattle.std.specs.Prelude.{◌≡◌, ℕ, zero, suc, ◌-◌, ◌^◌, ◌<◌, ◌≤◌, List, [], ◌∷◌, ◌++◌, map, length, slice_index_or, Option, Some, None}
use Rattle.std.specs.Prelude.{IsSome, Vec, T, replicate}
use Rattle.std.specs.Ordering.{nat_cmp}
use Rattle.std.specs.FinMap as map
use Rattle.std.specs.declared.alloc.Global.{Global}
use Rattle.page_journal.specs.Pages.{number}
use Rattle.page_journal.specs.declared.layout.TheConstants.{PAGE_LEN}

-- a finite map from numbers to pages
abbrev pub PageMap : Type 0
PageMap = map.FinMap nat_cmp (List ℕ)

-- the page that begins with these bytes: zeros stand behind them
unfoldable pub padded : List ℕ → List ℕ
padded bytes = bytes ++ replicate (PAGE_LEN - length bytes) 0

-- entries of a tree, with the pages that begin with their bytes
abbrev pub plain : List (ℕ × Vec ℕ Global) → List (ℕ × List ℕ)
plain entries = map (λ entry. (entry.0, padded entry.1.items)) entries

-- the number and the page at a place
abbrev pub number_at : List (ℕ × List ℕ) → ℕ → ℕ
number_at entries place = (slice_index_or entries place (0, [])).0

abbrev pub page_at : List (ℕ × List ℕ) → ℕ → List ℕ
page_at entries place = (slice_index_or entries place (0, [])).1

-- the list of what a function gives at 1 and on up to a number
abbrev pub up_to : (ℕ → List ℕ) → ℕ → List (List ℕ)
up_to page zero = []
up_to page (suc count) = up_to page count ++ page (suc count) ∷ []

-- a page of the set, or where it has none with this number, another
abbrev pub page_or : Option (List ℕ) → List ℕ → List ℕ
page_or None other = other
page_or (Some page) other = page

-- the home pages once the set is written over them; `home` is their number, with page 0
abbrev pub overwritten : PageMap → ℕ → List (List ℕ) → List (List ℕ)
overwritten set home pages = up_to (λ n. page_or (map.get set n) (slice_index_or pages (n - 1) [])) (home - 1)

-- page 1 of the set has this number of home pages at its front
abbrev pub TellsHome : PageMap → ℕ → Type 0
TellsHome set home = (page : List ℕ) × (map.get set 1 ≡ Some page) × (number page 0 ≡ home)

-- the set has each page from here to before there
abbrev pub HasAll : PageMap → ℕ → ℕ → Type 0
HasAll set from to = (n : ℕ) → from ≤ n → n < to → IsSome (map.get set n)

-- the entries' numbers are from 1 to below this one
abbrev pub AreWithin : List (ℕ × List ℕ) → ℕ → Type 0
AreWithin entries home = (place : ℕ) → place < length entries → (1 ≤ number_at entries place) × (number_at entries place < home)

-- a commit may write this set to so many home pages: it makes them no fewer, has pages from 1 to below `home` alone,
-- each new one among them, and page 1 with the number `home` at its front
pub record CanCommit (set : PageMap) (count home : ℕ) : Type 0 where
  pub more : count ≤ home
  pub within : (n : ℕ) → IsSome (map.get set n) → (1 ≤ n) × (n < home)
  pub root : TellsHome set home
  pub new : HasAll set count home

-- each page has its length
abbrev pub AreSized : List (ℕ × Vec ℕ Global) → Type 0
AreSized entries = (place : ℕ) → place < length entries → length (page_at (plain entries) place) ≡ PAGE_LEN

-- the journal of so many pages fits behind so many home pages
pub record FitsJournal (count home : ℕ) : Type 0 where
  pub some : 1 ≤ count
  pub few : count ≤ home
  pub room : home ≤ 2 ^ 28

-- the entries of a tree rise by their numbers, and each page has its length
pub record IsPageTree (entries : List (ℕ × Vec ℕ Global)) : Type 0 where
  pub sorted : T (map.is_sorted nat_cmp (plain entries))
  pub sized : AreSized entries
