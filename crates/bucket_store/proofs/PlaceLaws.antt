-- The places of numbers in pages, and what a change of one page makes of them.
use Rattle.std.proofs.Common.{◌≡◌, ◌≢◌, ◌<◌, ◌/◌, ◌%◌, ℕ, zero, suc, List, [], ◌∷◌, ◌++◌, length, get_or, set, replicate}
use Rattle.std.proofs.Common.{refl, sym, ap, ◌∙◌, arith, inl, inr}
use Rattle.std.proofs.lemmas.Bool.{cases_eq, cases_order}
use Rattle.std.proofs.lemmas.List.{get_or-set_same, get_or-set_other, get_or_default, get_or_past, get_or-replicate}
use Rattle.std.proofs.lemmas.List.{length-replicate}

-- the place of a number in pages
abbrev at_number : List (List ℕ) → ℕ → ℕ
at_number pages n = get_or (get_or pages (n / 256) []) (n % 256) 0

apart_within : (n other : ℕ) → other ≢ n → other / 256 ≡ n / 256 → other % 256 ≢ n % 256
apart_within n other apart page same = apart (omega (arith, page, same))

pub set_here : (pages : List (List ℕ)) (n : ℕ) (new : List ℕ) → n / 256 < length pages
    → at_number (set pages (n / 256) new) n ≡ get_or new (n % 256) 0
set_here pages n new within = ap (λ (page : List ℕ). get_or page (n % 256) 0) (get_or-set_same pages (n / 256) new [] within)

pub set_beside : (pages : List (List ℕ)) (n other : ℕ) (old new : List ℕ) → n / 256 < length pages → old ≡ get_or pages (n / 256) old
    → ((at : ℕ) → at ≢ n % 256 → get_or new at 0 ≡ get_or old at 0) → other ≢ n
    → at_number (set pages (n / 256) new) other ≡ at_number pages other
set_beside pages n other old new within is others apart = elim (cases_eq (other / 256) (n / 256)) [
  | inl same ↦
      ap (λ k. get_or (get_or (set pages (n / 256) new) k []) (other % 256) 0) same
      ∙ ap (λ (page : List ℕ). get_or page (other % 256) 0) (get_or-set_same pages (n / 256) new [] within)
      ∙ others (other % 256) (apart_within n other apart same)
      ∙ ap (λ (page : List ℕ). get_or page (other % 256) 0) (is ∙ get_or_default pages (n / 256) old [] within)
      ∙ ap (λ k. get_or (get_or pages k []) (other % 256) 0) (sym same)
  | inr page ↦ ap (λ (page : List ℕ). get_or page (other % 256) 0) (get_or-set_other pages (n / 256) (other / 256) new [] page)
]

-- a page that stays
pub set_same : (pages : List (List ℕ)) (n : ℕ) (old new : List ℕ) → n / 256 < length pages → old ≡ get_or pages (n / 256) old → new ≡ old
    → at_number (set pages (n / 256) new) n ≡ at_number pages n
set_same pages n old new within is same =
    set_here pages n new within
    ∙ ap (λ (page : List ℕ). get_or page (n % 256) 0) (same ∙ is ∙ get_or_default pages (n / 256) old [] within)

-- what pages mean that have the same at each place
pub same_pages : (old new : List (List ℕ)) (n : ℕ) → ((k : ℕ) → get_or new k [] ≡ get_or old k []) → at_number new n ≡ at_number old n
same_pages old new n same = ap (λ (page : List ℕ). get_or page (n % 256) 0) (same (n / 256))

-- a page more that has none
pub page_more : (pages : List (List ℕ)) (k : ℕ) → get_or (pages ++ [] ∷ []) k [] ≡ get_or pages k []
page_more [] zero = refl
page_more [] (suc k) = refl
page_more (page ∷ pages) zero = refl
page_more (page ∷ pages) (suc k) = page_more pages k

zeros : (n k : ℕ) → get_or {A = ℕ} (replicate n 0) k 0 ≡ 0
zeros n k = elim (cases_order k n) [
  | inl same ↦ get_or_past (replicate n 0) k 0 (omega (arith, length-replicate {A = ℕ} n 0, same))
  | inr (inl low) ↦ get_or-replicate n k 0 0 low
  | inr (inr high) ↦ get_or_past (replicate n 0) k 0 (omega (arith, length-replicate {A = ℕ} n 0, high))
]

-- zeros behind a list say nothing new
pub zeros_behind : (list : List ℕ) (n k : ℕ) → get_or (list ++ replicate n 0) k 0 ≡ get_or list k 0
zeros_behind [] n k = zeros n k
zeros_behind (x ∷ list) n zero = refl
zeros_behind (x ∷ list) n (suc k) = zeros_behind list n k
