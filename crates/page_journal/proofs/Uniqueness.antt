-- The same bytes have one list of home pages.
use Rattle.std.proofs.Common.{◌≡◌, inl, inr, ℕ, ◌+◌, ◌-◌, List, [], length, slice_index_or, sym, ap, ◌∙◌, refl, subst, arith}
use Rattle.std.proofs.lemmas.List.{ext_get_or}
use Rattle.page_journal.specs.Home.{Home, IsHomePage, IsWellFormed}
use Rattle.page_journal.specs.Pages.{number, page_from, gate, first_page, page_count, entry, body_at}
use Rattle.page_journal.specs.declared.layout.TheConstants.{OPEN}
use Rattle.page_journal.proofs.Finishing.{numbers}
use Rattle.page_journal.proofs.Standing.{apart}

-- one page has a number
one_page : (bytes : List ℕ) (n : ℕ) (page other : List ℕ) → (gate bytes ≡ OPEN → IsWellFormed bytes)
    → IsHomePage bytes n page → IsHomePage bytes n other → page ≡ other
one_page bytes n page other well (inl here) (inl there) =
    let are = numbers bytes (first_page bytes) (page_count bytes) refl refl (well here.is_open) in
    let same : here.place ≡ there.place =
    apart (page_count bytes) (entry bytes) (first_page bytes) here.place there.place are here.within there.within
    (here.here ∙ sym there.here) in
    here.same ∙ ap (λ (place : ℕ). page_from bytes (body_at bytes place)) same ∙ sym there.same
one_page bytes n page other well (inl here) (inr not) = absurd (not.not_there here.is_open here.place here.within here.here)
one_page bytes n page other well (inr not) (inl there) = absurd (not.not_there there.is_open there.place there.within there.here)
one_page bytes n page other well (inr here) (inr there) = here.same ∙ sym there.same

-- and so the whole list
pub one_home : (pages others : List (List ℕ)) (bytes : List ℕ) → Home pages bytes → Home others bytes → pages ≡ others
one_home pages others bytes home other =
    let root : slice_index_or pages 0 [] ≡ slice_index_or others 0 [] =
    one_page bytes 1 (slice_index_or pages 0 []) (slice_index_or others 0 []) home.journal
    (home.each 1 (omega arith) home.some) (other.each 1 (omega arith) other.some) in
    let counts : length pages + 1 ≡ length others + 1 = sym home.count ∙ ap (λ (l : List ℕ). number l 0) root ∙ other.count in
    let long : length pages ≡ length others = omega (arith, counts) in
    ext_get_or [] pages others long (λ i inside.
    let back : i + 1 - 1 ≡ i = omega arith in
    let at : slice_index_or pages (i + 1 - 1) [] ≡ slice_index_or others (i + 1 - 1) [] =
    one_page bytes (i + 1) (slice_index_or pages (i + 1 - 1) []) (slice_index_or others (i + 1 - 1) []) home.journal
    (home.each (i + 1) (omega arith) (omega (arith, inside))) (other.each (i + 1) (omega arith) (omega (arith, inside, long))) in
    subst (λ (k : ℕ). slice_index_or pages k [] ≡ slice_index_or others k []) back at)
