-- A path to the end has its pages once, and is the only one.
use Rattle.std.proofs.Common.{◌≡◌, ◌≢◌, inl, inr, ℕ, ◌+◌, ◌<◌, ◌≤◌, List, [], ◌∷◌, ◌++◌, length, refl, sym, ap, subst, ◌∙◌, arith}
use Rattle.std.proofs.lemmas.Bool.{cases_lt}
use Rattle.chain_store.specs.Chain.{HasPages, Holds, IsGood, Path, Refused, data_in}
use Rattle.chain_store.specs.Links.{IsLink, data_of, next_of}
use Rattle.chain_store.specs.Parts.{times}
use Rattle.chain_store.proofs.Times.{once-cases}

module _ (page : ℕ → List ℕ) (home chain : ℕ) where
  pub path_one : (first : ℕ) (ns ms : List ℕ) → Path page home chain first ns 0 → Path page home chain first ms 0 → ns ≡ ms
  path_one first [] [] one two = refl
  path_one first [] (m ∷ ms) one two = absurd (omega (arith, one, two.0, two.1.above))
  path_one first (n ∷ ns) [] one two = absurd (omega (arith, two, one.0, one.1.above))
  path_one first (n ∷ ns) (m ∷ ms) one two =
      let same : n ≡ m = omega (arith, one.0, two.0) in
      let rest : ns ≡ ms = path_one (next_of (page n)) ns ms one.2
      (subst (λ (k : ℕ). Path page home chain (next_of (page k)) ms 0) (sym same) two.2) in
      ap (λ (k : ℕ). k ∷ ns) same ∙ ap (λ (l : List ℕ). m ∷ l) rest

  -- each page of a path is one of the chain
  pub path_good : (first : ℕ) (ns : List ℕ) (at p : ℕ) → Path page home chain first ns at → 1 ≤ times p ns → IsGood page home chain p
  path_good first [] at p path some = absurd (omega arith)
  path_good first (n ∷ ns) at p path some = elim (once-cases p n) [
    | inl here ↦ subst (λ (k : ℕ). IsGood page home chain k) here.0 path.1
    | inr there ↦ path_good (next_of (page n)) ns at p path.2 (omega (arith, some, there.1))
  ]

  -- from each page on there is a path
  path_at : (first : ℕ) (ns : List ℕ) (p : ℕ) → Path page home chain first ns 0 → 1 ≤ times p ns
      → (ms : List ℕ) × Path page home chain p ms 0 × (length ms ≤ length ns)
  path_at first [] p path some = absurd (omega arith)
  path_at first (n ∷ ns) p path some = elim (once-cases p n) [
    | inl here ↦ (n ∷ ns, (sym here.0, path.1, path.2), omega arith)
    | inr there ↦
        let later = path_at (next_of (page n)) ns p path.2 (omega (arith, some, there.1)) in
        (later.0, later.1, omega (arith, later.2))
  ]

  pub path_once : (first : ℕ) (ns : List ℕ) (p : ℕ) → Path page home chain first ns 0 → times p ns ≤ 1
  path_once first [] p path = omega arith
  path_once first (n ∷ ns) p path =
      let before = path_once (next_of (page n)) ns p path.2 in
      elim (once-cases p n) [
        | inl here ↦ elim (cases_lt 0 (times p ns)) [
          | inl again ↦
              let later = path_at (next_of (page n)) ns p path.2 (omega (arith, again)) in
              let whole : Path page home chain p (n ∷ ns) 0 = (sym here.0, path.1, path.2) in
              let same : later.0 ≡ n ∷ ns = path_one p later.0 (n ∷ ns) later.1 whole in
              let long : length later.0 ≡ length (n ∷ ns) = ap (λ (l : List ℕ). length l) same in
              absurd (omega (arith, long, later.2))
          | inr none ↦ omega (arith, here.1, none)
        ]
        | inr there ↦ omega (arith, before, there.1)
      ]

  -- each page on the way is one of the chain, and not the last
  path_along : (first : ℕ) (ns ms : List ℕ) (at : ℕ) → Path page home chain first ns 0 → Path page home chain first ms at → at ≢ 0
      → IsGood page home chain at × (length ms < length ns)
  path_along first [] [] at one two some = absurd (some (sym two ∙ one))
  path_along first (n ∷ ns) [] at one two some =
      (subst (λ (k : ℕ). IsGood page home chain k) (sym one.0 ∙ two) one.1, omega arith)
  path_along first [] (m ∷ ms) at one two some = absurd (omega (arith, one, two.0, two.1.above))
  path_along first (n ∷ ns) (m ∷ ms) at one two some =
      let same : n ≡ m = omega (arith, one.0, two.0) in
      let rest = path_along (next_of (page n)) ns ms at one.2
      (subst (λ (k : ℕ). Path page home chain (next_of (page k)) ms at) (sym same) two.2) some in
      (rest.0, omega (arith, rest.1))

  -- a chain that has its pages is not refused
  pub not_refused : (first : ℕ) (ns : List ℕ) (at : ℕ) → HasPages page home chain first ns → Refused page home chain first at → ⊥
  not_refused first ns at has refused =
      let along = path_along first ns refused.ns at has.path refused.path refused.some in
      elim refused.bad [
        | inl not ↦ not along.0
        | inr long ↦ absurd (omega (arith, long, along.1, has.few))
      ]

  pub pages_one : (first : ℕ) (ns ms : List ℕ) → HasPages page home chain first ns → HasPages page home chain first ms → ns ≡ ms
  pages_one first ns ms one two = path_one first ns ms one.path two.path

  pub bytes_one : (first : ℕ) (one other : List ℕ) → Holds page home chain first one → Holds page home chain first other → one ≡ other
  bytes_one first one other has two =
      sym has.held ∙ ap (λ (ns : List ℕ). data_in page ns) (pages_one first has.ns two.ns has.has two.has) ∙ two.held

-- the same pages in another store, where they are the same
module _ (page new : ℕ → List ℕ) (home more chain : ℕ) where
  pub path_same : (first : ℕ) (ns : List ℕ) (at : ℕ) → ((p : ℕ) → 1 ≤ times p ns → new p ≡ page p) → Path page home chain first ns at
      → Path new (home + more) chain first ns at
  path_same first [] at same path = path
  path_same first (n ∷ ns) at same path =
      let here : new n ≡ page n = elim (once-cases n n) [
        | inl is ↦ same n (omega (arith, is.1))
        | inr not ↦ absurd (not.0 refl)
      ] in (
        path.0,
        record {
          above = path.1.above;
          below = omega (arith, path.1.below);
          link = subst (λ (l : List ℕ). IsLink chain l) (sym here) path.1.link;
        },
        subst (λ (l : List ℕ). Path new (home + more) chain (next_of l) ns at) (sym here)
            (path_same (next_of (page n)) ns at (λ p some. same p (omega (arith, some))) path.2),
      )

  pub data_same : (ns : List ℕ) → ((p : ℕ) → 1 ≤ times p ns → new p ≡ page p) → data_in new ns ≡ data_in page ns
  data_same [] same = refl
  data_same (n ∷ ns) same =
      let here : new n ≡ page n = elim (once-cases n n) [
        | inl is ↦ same n (omega (arith, is.1))
        | inr not ↦ absurd (not.0 refl)
      ] in
      ap (λ (l : List ℕ). data_of l ++ data_in new ns) here
      ∙ ap (λ (l : List ℕ). data_of (page n) ++ l) (data_same ns (λ p some. same p (omega (arith, some))))
