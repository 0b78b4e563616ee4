-- The pages of a sound store are counted: each behind the root page is one of just one chain, or free.
use Rattle.std.proofs.Common.{◌≡◌, ◌⊎◌, inl, inr, ℕ, ◌+◌, ◌-◌, ◌*◌, ◌%◌, ◌<◌, ◌≤◌, List, [], ◌++◌, length, sym, ap, subst, ◌∙◌, arith}
use Rattle.std.proofs.Common.{length-append}
use Rattle.std.proofs.lemmas.Bool.{cases_lt}
use Rattle.chain_store.specs.Chain.{HasPages, Holds, IsGood}
use Rattle.chain_store.specs.Directories.{IsChain}
use Rattle.chain_store.specs.Needed.{chain_pages, total}
use Rattle.chain_store.specs.Parts.{pages_for, times}
use Rattle.chain_store.specs.State.{IsSound}
use Rattle.chain_store.specs.declared.layout.TheConstants.{CHAIN_END, FREE}
use Rattle.chain_store.proofs.Times.{length-few, length-many, times-append, times_at}
use Rattle.chain_store.proofs.Totals.{gathered, length-gathered, times-gathered, total-add, total-blocks, total-cases, total-none}
use Rattle.chain_store.proofs.Totals.{total-one, total-same, total-some}
use Rattle.chain_store.proofs.Unique.{pages_one, path_good, path_once}

-- each chain has as many pages as its bytes need
abbrev pub AreCounted : (ℕ → List ℕ) → ℕ → (ℕ → ℕ) → Type 0
AreCounted page home first = (n : ℕ) (bytes : List ℕ) → IsChain n → Holds page home n (first n) bytes
    → (ns : List ℕ) × HasPages page home n (first n) ns × (length ns ≡ pages_for (length bytes))

-- the pages of each chain; behind the last chain there are none
abbrev list_of : (page : ℕ → List ℕ) (home : ℕ) (first : ℕ → ℕ) → IsSound page home first → (n : ℕ) → (n < CHAIN_END) ⊎ (CHAIN_END ≤ n)
    → List ℕ
list_of page home first sound n (inl chain) = (sound.chains n (inr chain)).0
list_of page home first sound n (inr past) = []

list_has : (page : ℕ → List ℕ) (home : ℕ) (first : ℕ → ℕ) (sound : IsSound page home first) (n : ℕ) (c : (n < CHAIN_END) ⊎ (CHAIN_END ≤ n))
    → IsChain n
    → HasPages page home n (first n) (list_of page home first sound n c)
list_has page home first sound n (inl chain) is = (sound.chains n (inr chain)).1
list_has page home first sound n (inr past) is = absurd (omega (arith, past, is))

module _ (page : ℕ → List ℕ) (home : ℕ) (first : ℕ → ℕ) (sound : IsSound page home first) (some : 2 ≤ home) (free : List ℕ)
    (has_free : HasPages page home FREE (first FREE) free) where
  abbrev pages_of : ℕ → List ℕ
  pages_of n = list_of page home first sound n (cases_lt n CHAIN_END)

  has : (n : ℕ) → IsChain n → HasPages page home n (first n) (pages_of n)
  has n chain = list_has page home first sound n (cases_lt n CHAIN_END) chain

  -- how often a page is one of a chain
  abbrev owners : ℕ → ℕ
  owners p = total (λ n. times p (pages_of n)) CHAIN_END

  chain_good : (n p : ℕ) → IsChain n → 1 ≤ times p (pages_of n) → IsGood page home n p
  chain_good n p chain there = path_good page home n (first n) (pages_of n) 0 p (has n chain).path there

  free_good : (p : ℕ) → 1 ≤ times p free → IsGood page home FREE p
  free_good p there = path_good page home FREE (first FREE) free 0 p has_free.path there

  chain_once : (p : ℕ) → owners p ≤ 1
  chain_once p = elim (total-cases (λ n. times p (pages_of n)) CHAIN_END) [
    | inl none ↦ omega (arith, none)
    | inr one ↦
        let good = chain_good one.0 p one.1 one.2 in
        let all = total-one (λ n. times p (pages_of n)) CHAIN_END one.0 one.1 (λ n below other. elim (cases_lt 0 (times p (pages_of n))) [
          | inl there ↦ absurd (other (sym (chain_good n p below (omega (arith, there))).link.owner ∙ good.link.owner))
          | inr none ↦ omega (arith, none)
        ]) in
        omega (arith, all, path_once page home one.0 (first one.0) (pages_of one.0) p (has one.0 one.1).path)
  ]

  page_once : (p : ℕ) → owners p + times p free ≤ 1
  page_once p = elim (cases_lt 0 (times p free)) [
    | inl there ↦
        let spare = free_good p (omega (arith, there)) in
        let none = total-none (λ n. times p (pages_of n)) CHAIN_END (λ n below. elim (cases_lt 0 (times p (pages_of n))) [
          | inl here ↦
              let same : n ≡ FREE = sym (chain_good n p below (omega (arith, here))).link.owner ∙ spare.link.owner in
              absurd (omega (arith, same, below))
          | inr not ↦ omega (arith, not)
        ]) in
        omega (arith, none, path_once page home FREE (first FREE) free p has_free.path)
    | inr none ↦ omega (arith, none, chain_once p)
  ]

  page_inside : (p : ℕ) → 1 ≤ owners p + times p free → (2 ≤ p) × (p < home)
  page_inside p there = elim (cases_lt 0 (times p free)) [
    | inl spare ↦ let good = free_good p (omega (arith, spare)) in (good.above, good.below)
    | inr none ↦ elim (total-cases (λ n. times p (pages_of n)) CHAIN_END) [
      | inl nothing ↦ absurd (omega (arith, there, none, nothing))
      | inr one ↦ let good = chain_good one.0 p one.1 one.2 in (good.above, good.below)
    ]
  ]

  page_there : (p : ℕ) → 2 ≤ p → p < home → 1 ≤ owners p + times p free
  page_there p above below =
      let own = sound.owned p above below in
      let is = own.2 in
      let there = times_at p is.ns is.place is.below is.here in
      elim own.1 [
        | inl is_free ↦
            let had : HasPages page home FREE (first FREE) is.ns = subst (λ (k : ℕ). HasPages page home k (first k) is.ns) is_free is.has in
            let same : is.ns ≡ free = pages_one page home FREE (first FREE) is.ns free had has_free in
            omega (arith, ap (λ (l : List ℕ). times p l) same, there)
        | inr chain ↦
            let same : is.ns ≡ pages_of own.0 = pages_one page home own.0 (first own.0) is.ns (pages_of own.0) is.has (has own.0 chain) in
            omega (arith, ap (λ (l : List ℕ). times p l) same, there, total-some (λ n. times p (pages_of n)) CHAIN_END own.0 chain)
      ]

  abbrev all_pages : List ℕ
  all_pages = gathered pages_of CHAIN_END ++ free

  times_all : (p : ℕ) → times p all_pages ≡ owners p + times p free
  times_all p = omega (arith, times-append p (gathered pages_of CHAIN_END) free, times-gathered p pages_of CHAIN_END)

  counted : total (λ n. length (pages_of n)) CHAIN_END + length free + 2 ≡ home
  counted =
      let few = length-few all_pages 2 home (λ p. omega (arith, times_all p, page_once p))
      (λ p there. page_inside p (omega (arith, times_all p, there))) in
      let many = length-many all_pages 2 home (λ p above below. omega (arith, times_all p, page_there p above below))
      (λ p there. (page_inside p (omega (arith, times_all p, there))).1) in
      omega (arith, some, few, many, length-append (gathered pages_of CHAIN_END) free, length-gathered pages_of CHAIN_END)

  module _ (buckets : ℕ) (strings : ℕ → List ℕ) (few : buckets ≤ 65536) (counts : AreCounted page home first)
      (each : (n : ℕ) → (n < 8) ⊎ (16 ≤ n) → IsChain n → Holds page home n (first n) (strings n))
      (directories : (m : ℕ) → m < 8 → (bytes : List ℕ) × Holds page home (8 + m) (first (8 + m)) bytes × (length bytes ≡ 8 * buckets))
      (beyond : (n : ℕ) → 16 ≤ n → IsChain n → buckets ≤ (n - 16) % 65536 → first n ≡ 0) where
    many_of : (n : ℕ) (bytes : List ℕ) → IsChain n → Holds page home n (first n) bytes → length (pages_of n) ≡ pages_for (length bytes)
    many_of n bytes chain holds =
        let one = counts n bytes chain holds in
        ap (λ (l : List ℕ). length l) (pages_one page home n (first n) (pages_of n) one.0 (has n chain) one.1) ∙ one.2

    none_of : (n : ℕ) → IsChain n → first n ≡ 0 → length (pages_of n) ≡ 0
    none_of n chain none =
        ap (λ (l : List ℕ). length l) (pages_one page home n (first n) (pages_of n) [] (has n chain)
        (record { path = none; few = omega arith }))

    texts_are : total (λ n. length (pages_of n)) 8 ≡ total (λ n. pages_for (length (strings n))) 8
    texts_are = total-same (λ n. length (pages_of n)) (λ n. pages_for (length (strings n))) 8 (λ n below.
        many_of n (strings n) (omega (arith, below)) (each n (inl below) (omega (arith, below))))

    directories_are : total (λ m. length (pages_of (8 + m))) 8 ≡ total (λ m. pages_for (8 * buckets)) 8
    directories_are = total-same (λ m. length (pages_of (8 + m))) (λ m. pages_for (8 * buckets)) 8 (λ m below.
        let one = directories m below in
        many_of (8 + m) one.0 (omega (arith, below)) one.1 ∙ ap (λ (k : ℕ). pages_for k) one.2)

    -- the buckets of a map
    map_are : (m : ℕ) → m < 8 → total (λ b. length (pages_of (16 + (65536 * m + b)))) 65536
        ≡ total (λ b. pages_for (length (strings (16 + 65536 * m + b)))) buckets
    map_are m below =
        let whole : 65536 ≡ buckets + (65536 - buckets) = omega (arith, few) in
        let inner = total-same (λ b. length (pages_of (16 + (65536 * m + b))))
        (λ b. pages_for (length (strings (16 + 65536 * m + b)))) buckets (λ b under.
        let place : 16 + (65536 * m + b) ≡ 16 + 65536 * m + b = omega arith in
        let chain : 16 + 65536 * m + b < CHAIN_END = omega (arith, below, under, few) in
        ap (λ (n : ℕ). length (pages_of n)) place
        ∙ many_of (16 + 65536 * m + b) (strings (16 + 65536 * m + b)) chain (each (16 + 65536 * m + b) (inr (omega arith)) chain)) in
        let outer = total-none (λ i. length (pages_of (16 + (65536 * m + (buckets + i))))) (65536 - buckets) (λ i under.
        none_of (16 + (65536 * m + (buckets + i))) (omega (arith, below, under))
        (beyond (16 + (65536 * m + (buckets + i))) (omega arith) (omega (arith, below, under)) (omega (arith, under)))) in
        ap (λ (k : ℕ). total (λ b. length (pages_of (16 + (65536 * m + b)))) k) whole
        ∙ omega (arith, total-add (λ b. length (pages_of (16 + (65536 * m + b)))) buckets (65536 - buckets), inner, outer)

    buckets_are : total (λ i. length (pages_of (16 + i))) (65536 * 8)
        ≡ total (λ m. total (λ b. pages_for (length (strings (16 + 65536 * m + b)))) buckets) 8
    buckets_are =
        total-blocks (λ i. length (pages_of (16 + i))) 8
        ∙ total-same (λ m. total (λ b. length (pages_of (16 + (65536 * m + b)))) 65536)
        (λ m. total (λ b. pages_for (length (strings (16 + 65536 * m + b)))) buckets) 8 map_are

    -- the pages of the chains, the free ones, the root page and page 0 are all home pages
    pub strings_counted : chain_pages buckets strings + length free + 2 ≡ home
    unfolding chain_pages
    strings_counted =
        omega (
          arith,
          counted,
          total-add (λ n. length (pages_of n)) 16 (65536 * 8),
          total-add (λ n. length (pages_of n)) 8 8,
          texts_are,
          directories_are,
          buckets_are,
        )
