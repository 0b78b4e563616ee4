-- A set of pages as its entries in order, and what it makes of the home pages.
use Rattle.std.proofs.Common.{◌≡◌, ◌≢◌, inl, inr, Bool, true, false, ◌&&◌, cond, T, ℕ, zero, suc, ◌+◌, ◌-◌, ◌<◌, ◌≤◌, List, [], ◌∷◌, length}
use Rattle.std.proofs.Common.{slice_index_or, Option, Some, None, refl, sym, ap, ◌∙◌, arith}
use Rattle.std.proofs.lemmas.Bool.{cases_lt}
use Rattle.std.proofs.lemmas.List.{get_or_append_left, get_or_push, length_push}
use Rattle.std.specs.Option.{is_some}
use Rattle.std.specs.Ordering.{nat_cmp, eq_by_cmp, is_lt, is_eq}
use Rattle.std.specs.declared.cmp.Ordering.TheVariants.{Less, Equal, Greater}
use Rattle.std.specs.Cmp.{nat_cmp_total, ranked, eq_by_cmp_equiv}
use Rattle.std.specs.FinMap as map
use Rattle.std.specs.FinMap.{find, is_sorted}
use Rattle.std.specs.FinMap.Entries.{below_all}
use Rattle.page_journal.specs.Pages.{number}
use Rattle.page_journal.specs.PageSet.{PageMap, CanCommit, number_at, page_at, page_or, up_to, overwritten}
use Rattle.page_journal.specs.Written.{Makes}

less_from : (a b : ℕ) → T (is_lt (nat_cmp a b)) → a < b
less_from a b less =
    elim (nat_cmp a b) as (λ r. r ≡ nat_cmp a b → T (is_lt r) → a < b) [
      | Less ↦ λ e t. ranked a b Less e
      | Equal ↦ λ e t. absurd t
      | Greater ↦ λ e t. absurd t
    ] refl less

pub not_equal : (a b : ℕ) → a ≢ b → eq_by_cmp nat_cmp a b ≡ false
not_equal a b other =
    elim (nat_cmp a b) as (λ r. r ≡ nat_cmp a b → is_eq r ≡ false) [
      | Less ↦ λ e. refl
      | Equal ↦ λ e. absurd (other (ranked a b Equal e))
      | Greater ↦ λ e. refl
    ] refl

both_first : (a b : Bool) → T (a && b) → T a
both_first true b is = tt
both_first false b is = is

both_second : (a b : Bool) → T (a && b) → T b
both_second true b is = is
both_second false b is = absurd is

below_number : (x : ℕ) (entries : List (ℕ × List ℕ)) → T (below_all nat_cmp x entries) → (place : ℕ) → place < length entries
    → x < number_at entries place
below_number x [] below place inside = absurd (omega arith)
below_number x (entry ∷ entries) below zero inside =
    less_from x entry.0 (both_first (is_lt (nat_cmp x entry.0)) (below_all nat_cmp x entries) below)
below_number x (entry ∷ entries) below (suc place) inside =
    below_number x entries (both_second (is_lt (nat_cmp x entry.0)) (below_all nat_cmp x entries) below) place (omega arith)

pub numbers_rise : (entries : List (ℕ × List ℕ)) → T (is_sorted nat_cmp entries) → (one two : ℕ) → one < two → two < length entries
    → number_at entries one < number_at entries two
numbers_rise [] sorted one two before inside = absurd (omega arith)
numbers_rise (entry ∷ entries) sorted one zero before inside = absurd (omega arith)
numbers_rise (entry ∷ entries) sorted zero (suc two) before inside =
    below_number entry.0 entries (both_first (below_all nat_cmp entry.0 entries) (is_sorted nat_cmp entries) sorted) two (omega arith)
numbers_rise (entry ∷ entries) sorted (suc one) (suc two) before inside =
    numbers_rise entries (both_second (below_all nat_cmp entry.0 entries) (is_sorted nat_cmp entries) sorted) one two (omega arith)
    (omega arith)

pub find_at : (entries : List (ℕ × List ℕ)) → T (is_sorted nat_cmp entries) → (place : ℕ) → place < length entries
    → find nat_cmp (number_at entries place) entries ≡ Some (page_at entries place)
find_at [] sorted place inside = absurd (omega arith)
find_at (entry ∷ entries) sorted zero inside =
    ap (λ (b : Bool). cond b (Some entry.1) (find nat_cmp entry.0 entries)) ((eq_by_cmp_equiv nat_cmp_total).refl entry.0)
find_at (entry ∷ entries) sorted (suc place) inside =
    let above = below_number entry.0 entries (both_first (below_all nat_cmp entry.0 entries) (is_sorted nat_cmp entries) sorted) place
    (omega arith) in
    let other : number_at entries place ≢ entry.0 = λ is. absurd (omega (arith, above, is)) in
    ap (λ (b : Bool). cond b (Some entry.1) (find nat_cmp (number_at entries place) entries))
    (not_equal (number_at entries place) entry.0 other)
    ∙ find_at entries (both_second (below_all nat_cmp entry.0 entries) (is_sorted nat_cmp entries) sorted) place (omega arith)

pub find_not : (entries : List (ℕ × List ℕ)) (n : ℕ) → ((place : ℕ) → place < length entries → number_at entries place ≢ n)
    → find nat_cmp n entries ≡ None
find_not [] n none = refl
find_not (entry ∷ entries) n none =
    let other : n ≢ entry.0 = λ is. none zero (omega arith) (sym is) in
    ap (λ (b : Bool). cond b (Some entry.1) (find nat_cmp n entries)) (not_equal n entry.0 other)
    ∙ find_not entries n (λ place inside. none (suc place) (omega arith))

pub length-up_to : (page : ℕ → List ℕ) (count : ℕ) → length (up_to page count) ≡ count
length-up_to page zero = refl
length-up_to page (suc count) = length_push (up_to page count) (page (suc count)) ∙ omega (arith, length-up_to page count)

pub get_or-up_to : (page : ℕ → List ℕ) (count n : ℕ) → 1 ≤ n → n ≤ count → slice_index_or (up_to page count) (n - 1) [] ≡ page n
get_or-up_to page zero n from to = absurd (omega arith)
get_or-up_to page (suc count) n from to =
    let long = length-up_to page count in
    elim (cases_lt n (suc count)) [
      | inl earlier ↦
          get_or_append_left (up_to page count) (page (suc count) ∷ []) [] (n - 1) (omega arith)
          ∙ get_or-up_to page count n from (omega (arith, earlier))
      | inr last ↦
          let same : n ≡ suc count = omega arith in
          get_or_push (up_to page count) (page (suc count)) [] (n - 1) (omega arith) ∙ ap page (sym same)
    ]

module _ (entries : List (ℕ × List ℕ)) (sorted : T (is_sorted nat_cmp entries)) (set : PageMap)
    (is : map.from_sorted {R = nat_cmp} entries ≡ set)
    (count home : ℕ) (can : CanCommit set count home) where
  got : (n : ℕ) → map.get set n ≡ find nat_cmp n entries
  got n = ap (λ (s : PageMap). map.get s n) (sym is) ∙ map.get-from_sorted nat_cmp entries n sorted

  got_at : (place : ℕ) → place < length entries → map.get set (number_at entries place) ≡ Some (page_at entries place)
  got_at place inside = got (number_at entries place) ∙ find_at entries sorted place inside

  within : (place : ℕ) → place < length entries → (1 ≤ number_at entries place) × (number_at entries place < home)
  within place inside = can.within (number_at entries place) (ap (λ (o : Option (List ℕ)). is_some o) (got_at place inside))

  pub set_below : (place : ℕ) → place < length entries → number_at entries place < home
  set_below place inside = (within place inside).1

  pub set_some : 1 ≤ length entries
  set_some = elim (cases_lt 0 (length entries)) [
    | inl some ↦ omega (arith, some)
    | inr none ↦
        let nothing = got 1 ∙ find_not entries 1 (λ place inside. absurd (omega (arith, inside, none))) in
        let root = can.root.1 in
        absurd (cc (nothing, root))
  ]

  counted : (place : ℕ) → place < length entries → place + 1 ≤ number_at entries place
  counted zero inside = omega (arith, (within zero inside).0)
  counted (suc place) inside =
      omega (arith, counted place (omega arith), numbers_rise entries sorted place (suc place) (omega arith) inside)

  pub set_few : length entries ≤ home
  set_few = elim (cases_lt 0 (length entries)) [
    | inl some ↦
        let last : length entries - 1 < length entries = omega (arith, some) in
        omega (arith, counted (length entries - 1) last, set_below (length entries - 1) last)
    | inr none ↦ omega (arith, none)
  ]

  pub set_makes : (old : List (List ℕ)) → length old + 1 ≡ count → 2 ≤ count
      → Makes entries (length entries) home old (overwritten set home old)
  set_makes old long above =
      let page : ℕ → List ℕ = λ n. page_or (map.get set n) (slice_index_or old (n - 1) []) in
      let many = length-up_to page (home - 1) in
      let more = can.more in
      record {
        some = set_some;
        positive = λ place inside. (within place inside).0;
        below = set_below;
        rises = numbers_rise entries sorted;
        more = omega arith;
        many = omega arith;
        pages = omega arith;
        says =
            ap (λ (l : List ℕ). number l 0) (get_or-up_to page (home - 1) 1 (omega arith) (omega arith)
            ∙ ap (λ (o : Option (List ℕ)). page_or o (slice_index_or old 0 [])) can.root.1)
            ∙ can.root.2;
        inside = λ place inside.
            let low = (within place inside).0 in
            let high = set_below place inside in
            get_or-up_to page (home - 1) (number_at entries place) low (omega (arith, high))
            ∙ ap (λ (o : Option (List ℕ)). page_or o (slice_index_or old (number_at entries place - 1) [])) (got_at place inside);
        others = λ n from to none.
            let nothing : map.get set n ≡ None = got n ∙ find_not entries n none in
            let fits : n ≤ home - 1 = omega (arith, to, many) in
            let kept : n < count = elim (cases_lt n count) [
              | inl before ↦ before
              | inr behind ↦ absurd (cc (nothing, can.new n behind (omega (arith, fits, more, above))))
            ] in (
              omega (arith, kept, long),
              get_or-up_to page (home - 1) n from fits ∙ ap (λ (o : Option (List ℕ)). page_or o (slice_index_or old (n - 1) [])) nothing,
            );
      }
