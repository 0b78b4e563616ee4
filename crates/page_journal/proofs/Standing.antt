-- What the bytes of a store stand for: the home pages, with the journal and without it.
use Rattle.std.proofs.Common.{◌≡◌, ◌≢◌, inl, inr, ℕ, zero, suc, ◌+◌, ◌-◌, ◌*◌, ◌<◌, ◌≤◌, ◌⊎◌, List, [], length, slice_index_or, sym, ap}
use Rattle.std.proofs.Common.{◌∙◌, arith}
use Rattle.std.proofs.lemmas.Bool.{cases_eq, cases_lt}
use Rattle.page_journal.specs.Crash.{Spares, BesidePages}
use Rattle.page_journal.specs.Home.{IsFormatted, IsWellFormed, Home}
use Rattle.page_journal.specs.Pages.{number, page_from, gate, first_page, page_count, number_pages, entry, body_at}
use Rattle.page_journal.specs.declared.layout.TheConstants.{OPEN}
use Rattle.page_journal.proofs.Places.{number_spared, page_spared}

-- a place at which a function has a value, or none
pub find_place : (f : ℕ → ℕ) (n count : ℕ) → ((place : ℕ) × (place < count) × (f place ≡ n)) ⊎ ((place : ℕ) → place < count → f place ≢ n)
find_place f n zero = inr (λ place below. absurd (omega (arith, below)))
find_place f n (suc count) = elim (find_place f n count) [
  | inl found ↦ let near = found.1 in inl (found.0, omega (arith, near), found.2)
  | inr none ↦ elim (cases_eq (f count) n) [
    | inl here ↦ inl (count, omega arith, here)
    | inr other ↦ inr (λ place below. elim (cases_lt place count) [
      | inl earlier ↦ none place earlier
      | inr last ↦
          let same : place ≡ count = omega (arith, below, last) in
          λ is. other (ap f (sym same) ∙ is)
    ])
  ]
]

-- a journal with these numbers and pages stands behind the first `home` pages
pub record Stands (count : ℕ) (numbers : ℕ → ℕ) (pages : ℕ → List ℕ) (home : ℕ) (bytes : List ℕ) : Type 0 where
  pub formatted : IsFormatted bytes
  pub first : first_page bytes ≡ home
  pub pages_are : page_count bytes ≡ count
  pub entries : (place : ℕ) → place < count → number bytes (4096 * home + 8 * place) ≡ numbers place
  pub bodies : (place : ℕ) → place < count → page_from bytes (4096 * (home + number_pages count + place)) ≡ pages place
  pub long : 4096 * (home + number_pages count + count) ≤ length bytes

-- numbers of pages that a journal may have
pub record AreNumbers (count : ℕ) (numbers : ℕ → ℕ) (home : ℕ) : Type 0 where
  pub some : 1 ≤ count
  pub positive : (place : ℕ) → place < count → 1 ≤ numbers place
  pub below : (place : ℕ) → place < count → numbers place < home
  pub rises : (one two : ℕ) → one < two → two < count → numbers one < numbers two

-- home pages that have the pages of the journal at their numbers
pub record Has (count : ℕ) (numbers : ℕ → ℕ) (pages : ℕ → List ℕ) (home : List (List ℕ)) : Type 0 where
  pub some : 1 ≤ length home
  pub says : number (slice_index_or home 0 []) 0 ≡ length home + 1
  pub inside : (place : ℕ) → place < count → numbers place ≤ length home → slice_index_or home (numbers place - 1) [] ≡ pages place

-- the home pages that are not in the journal stand in their places
pub record Rest (count : ℕ) (numbers : ℕ → ℕ) (home : List (List ℕ)) (bytes : List ℕ) : Type 0 where
  pub holds : 4096 * (length home + 1) ≤ length bytes
  pub others : (n : ℕ) → 1 ≤ n → n ≤ length home → ((place : ℕ) → place < count → numbers place ≢ n)
      → page_from bytes (4096 * n) ≡ slice_index_or home (n - 1) []

-- and those that are in the journal do
pub record Placed (count : ℕ) (numbers : ℕ → ℕ) (pages : ℕ → List ℕ) (bytes : List ℕ) : Type 0 where
  pub each : (place : ℕ) → place < count → page_from bytes (4096 * numbers place) ≡ pages place

pub apart : (count : ℕ) (numbers : ℕ → ℕ) (home one two : ℕ) → AreNumbers count numbers home → one < count → two < count
    → numbers one ≡ numbers two → one ≡ two
apart count numbers home one two are in-one in-two same = elim (cases_lt one two) [
  | inl before ↦ absurd (omega (arith, are.rises one two before in-two, same))
  | inr from ↦ elim (cases_lt two one) [
    | inl behind ↦ absurd (omega (arith, are.rises two one behind in-one, same))
    | inr not ↦ omega (arith, from, not)
  ]
]

module _ (count : ℕ) (numbers : ℕ → ℕ) (pages : ℕ → List ℕ) (home : ℕ) (bytes : List ℕ) where
  pub entry_is : Stands count numbers pages home bytes → (place : ℕ) → place < count → entry bytes place ≡ numbers place
  entry_is stands place inside = ap (λ (n : ℕ). number bytes (4096 * n + 8 * place)) stands.first ∙ stands.entries place inside

  pub body_is : Stands count numbers pages home bytes → (place : ℕ) → place < count → page_from bytes (body_at bytes place) ≡ pages place
  body_is stands place inside =
      ap (λ (n : ℕ). page_from bytes (4096 * (n + number_pages (page_count bytes) + place))) stands.first
      ∙ ap (λ (n : ℕ). page_from bytes (4096 * (home + number_pages n + place))) stands.pages_are
      ∙ stands.bodies place inside

  well_formed : Stands count numbers pages home bytes → AreNumbers count numbers home → IsWellFormed bytes
  well_formed stands are =
      let many = stands.pages_are in
      let first = stands.first in
      record {
        some = omega (arith, are.some, many);
        numbers = record {
          positive = λ place inside.
              let fits : place < count = omega (arith, inside, many) in
              omega (arith, entry_is stands place fits, are.positive place fits);
          below = λ place inside.
              let fits : place < count = omega (arith, inside, many) in
              omega (arith, entry_is stands place fits, are.below place fits, first);
          rises = λ place inside.
              let next : place + 1 < count = omega (arith, inside, many) in
              let fits : place < count = omega (arith, next) in
              omega (arith, entry_is stands place fits, entry_is stands (place + 1) next, are.rises place (place + 1) (omega arith) next);
        };
        long =
            let same : 4096 * (first_page bytes + number_pages (page_count bytes) + page_count bytes)
            ≡ 4096 * (home + number_pages count + count) =
            ap (λ (n : ℕ). 4096 * (n + number_pages (page_count bytes) + page_count bytes)) first
            ∙ ap (λ (n : ℕ). 4096 * (home + number_pages n + n)) many in
            omega (arith, same, stands.long);
      }

  -- with the gate open, the journal's pages count
  pub home_open : (new : List (List ℕ)) → Stands count numbers pages home bytes → AreNumbers count numbers home
      → Has count numbers pages new → Rest count numbers new bytes → gate bytes ≡ OPEN → Home new bytes
  home_open new stands are has rest is_open = record {
    formatted = stands.formatted;
    journal = λ yes. well_formed stands are;
    some = has.some;
    count = has.says;
    holds = rest.holds;
    each = λ n from to. elim (find_place numbers n count) [
      | inl found ↦
          let place = found.0 in
          let inside = found.1 in
          let here = found.2 in
          let page : slice_index_or new (n - 1) [] ≡ pages place =
          ap (λ (k : ℕ). slice_index_or new (k - 1) []) (sym here) ∙ has.inside place inside (omega (arith, here, to)) in
          inl (record {
            is_open = is_open;
            place = place;
            within = omega (arith, inside, stands.pages_are);
            here = entry_is stands place inside ∙ here;
            same = page ∙ sym (body_is stands place inside);
          })
      | inr none ↦ inr (record {
        not_there = λ yes place inside is.
            let fits : place < count = omega (arith, inside, stands.pages_are) in
            none place fits (sym (entry_is stands place fits) ∙ is);
        same = sym (rest.others n from to none);
      })
    ];
  }

  -- with the gate shut, what stands in place
  pub home_shut : (new : List (List ℕ)) → IsFormatted bytes → Has count numbers pages new → Rest count numbers new bytes
      → Placed count numbers pages bytes → gate bytes ≢ OPEN → Home new bytes
  home_shut new formatted has rest placed shut = record {
    formatted = formatted;
    journal = λ yes. absurd (shut yes);
    some = has.some;
    count = has.says;
    holds = rest.holds;
    each = λ n from to. elim (find_place numbers n count) [
      | inl found ↦
          let place = found.0 in
          let here = found.2 in
          let page : slice_index_or new (n - 1) [] ≡ pages place =
          ap (λ (k : ℕ). slice_index_or new (k - 1) []) (sym here) ∙ has.inside place found.1 (omega (arith, here, to)) in
          inr (record {
            not_there = λ yes. absurd (shut yes);
            same = page ∙ sym (placed.each place found.1) ∙ ap (λ (k : ℕ). page_from bytes (4096 * k)) here;
          })
      | inr none ↦ inr (record { not_there = λ yes. absurd (shut yes); same = sym (rest.others n from to none) })
    ];
  }

-- home pages that stand in place
pub in_place : (pages : List (List ℕ)) (bytes : List ℕ) → Home pages bytes → gate bytes ≢ OPEN → (n : ℕ) → 1 ≤ n → n ≤ length pages
    → page_from bytes (4096 * n) ≡ slice_index_or pages (n - 1) []
in_place pages bytes home shut n from to = elim (home.each n from to) [
  | inl there ↦ absurd (shut there.is_open)
  | inr here ↦ sym here.same
]

pub formatted_spared : (K : ℕ → Type 0) (old new : List ℕ) → Spares K old new → IsFormatted old → ((i : ℕ) → i < 8 → K i) → IsFormatted new
formatted_spared K old new spares formatted keeps = record {
  long = omega (arith, formatted.long, spares.no_shorter);
  marked = number_spared K old new 0 spares (omega (arith, formatted.long)) (λ i from to. keeps i (omega (arith, to))) ∙ formatted.marked;
}

-- a journal stays where its places are spared
pub stands_spared : (K : ℕ → Type 0) (count : ℕ) (numbers : ℕ → ℕ) (pages : ℕ → List ℕ) (home : ℕ) (old new : List ℕ)
    → Spares K old new → ((i : ℕ) → (i < 24) ⊎ (4096 * home ≤ i) → K i) → Stands count numbers pages home old
    → Stands count numbers pages home new
stands_spared K count numbers pages home old new spares keeps stands =
    let size = stands.formatted.long in
    record {
      formatted = formatted_spared K old new spares stands.formatted (λ i low. keeps i (inl (omega (arith, low))));
      first = number_spared K old new 8 spares (omega (arith, size)) (λ i from to. keeps i (inl (omega (arith, to)))) ∙ stands.first;
      pages_are = number_spared K old new 16 spares (omega (arith, size)) (λ i from to. keeps i (inl (omega (arith, to))))
          ∙ stands.pages_are;
      entries = λ place inside.
          let fits : 4096 * home + 8 * place + 8 ≤ length old = omega (arith, stands.long, inside) in
          number_spared K old new (4096 * home + 8 * place) spares fits (λ i from to. keeps i (inr (omega (arith, from))))
          ∙ stands.entries place inside;
      bodies = λ place inside.
          let fits : 4096 * (home + number_pages count + place) + 4096 ≤ length old = omega (arith, stands.long, inside) in
          page_spared K old new (4096 * (home + number_pages count + place)) spares fits (λ i from to. keeps i (inr (omega (arith, from))))
          ∙ stands.bodies place inside;
      long = omega (arith, stands.long, spares.no_shorter);
    }

-- and so do pages that are in no journal
pub rest_spared : (K : ℕ → Type 0) (count : ℕ) (numbers : ℕ → ℕ) (home : List (List ℕ)) (old new : List ℕ) → Spares K old new
    → ((n i : ℕ) → 1 ≤ n → n ≤ length home → ((place : ℕ) → place < count → numbers place ≢ n) → 4096 * n ≤ i → i < 4096 * n + 4096 → K i)
    → Rest count numbers home old → Rest count numbers home new
rest_spared K count numbers home old new spares keeps rest = record {
  holds = omega (arith, rest.holds, spares.no_shorter);
  others = λ n from to none.
      page_spared K old new (4096 * n) spares (omega (arith, rest.holds, to)) (λ i low high. keeps n i from to none low high)
      ∙ rest.others n from to none;
}

-- a page that is none of these lies beside them
pub beside_others : (count : ℕ) (numbers : ℕ → ℕ) (n i : ℕ) → ((place : ℕ) → place < count → numbers place ≢ n) → 4096 * n ≤ i
    → i < 4096 * n + 4096 → BesidePages count numbers i
beside_others count numbers n i none low high = λ place inside.
    let other = none place inside in
    elim (cases_lt n (numbers place)) [
      | inl before ↦ inl (omega (arith, before, high))
      | inr from ↦
          let above : numbers place < n = omega (arith, from, other) in
          inr (omega (arith, above, low))
    ]
