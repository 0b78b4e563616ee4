-- Entries of a tree of pages, by their places.
use Rattle.std.proofs.Common.{◌≡◌, ℕ, zero, suc, List, [], ◌∷◌, length, slice_get, Some, Vec, ap}
use Rattle.std.proofs.lemmas.List.{length-map}
use Rattle.std.specs.declared.alloc.Global.{Global}
use Rattle.page_journal.specs.PageSet.{padded, plain, number_at, page_at}

-- what stands at a place
pub number_at-plain : (entries : List (ℕ × Vec ℕ Global)) (place n : ℕ) (page : Vec ℕ Global) → slice_get entries place ≡ Some (n, page)
    → number_at (plain entries) place ≡ n
number_at-plain [] place n page is = absurd (cc)
number_at-plain (entry ∷ entries) zero n page is =
    let same : entry ≡ (n, page) = cc in ap (λ (e : ℕ × Vec ℕ Global). e.0) same
number_at-plain (entry ∷ entries) (suc place) n page is = number_at-plain entries place n page is

pub page_at-plain : (entries : List (ℕ × Vec ℕ Global)) (place n : ℕ) (page : Vec ℕ Global) → slice_get entries place ≡ Some (n, page)
    → page_at (plain entries) place ≡ padded page.items
page_at-plain [] place n page is = absurd (cc)
page_at-plain (entry ∷ entries) zero n page is =
    let same : entry ≡ (n, page) = cc in ap (λ (e : ℕ × Vec ℕ Global). padded e.1.items) same
page_at-plain (entry ∷ entries) (suc place) n page is = page_at-plain entries place n page is

pub plain_long : (entries : List (ℕ × Vec ℕ Global)) → length (plain entries) ≡ length entries
plain_long entries = length-map entries (λ entry. (entry.0, padded entry.1.items))
