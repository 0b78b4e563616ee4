-- Paths of pages grow at their ends.
use Rattle.std.proofs.Common.{◌≡◌, ◌≢◌, ℕ, ◌+◌, ◌-◌, List, [], ◌∷◌, ◌++◌, take, drop, refl, sym, ap, ◌∙◌, arith, append_assoc}
use Rattle.std.proofs.lemmas.Bool.Decides.{nat_tests}
use Rattle.std.proofs.lemmas.List.{append-nil}
use Rattle.chain_store.specs.Chain.{IsGood, Path, data_in}
use Rattle.chain_store.specs.Links.{data_of, held_in, many_of, next_of, owner_of}
use Rattle.chain_store.specs.declared.layout.TheConstants.{FREE}

pub data_of-free : (page : List ℕ) → owner_of page ≡ FREE → data_of page ≡ []
unfolding data_of
data_of-free page is = grind (arith, nat_tests)

pub data_of-link : (page : List ℕ) → owner_of page ≢ FREE → data_of page ≡ held_in (many_of page) page
unfolding data_of
data_of-link page other = grind (arith, nat_tests)

pub data_of-part : (page : List ℕ) → owner_of page ≢ FREE → take (16 + many_of page - 16) (drop 16 page) ≡ data_of page
unfolding data_of held_in
data_of-part page other =
    let many : 16 + many_of page - 16 ≡ many_of page = omega arith in
    ap (λ (n : ℕ). take n (drop 16 page)) many ∙ sym (data_of-link page other)

module _ (page : ℕ → List ℕ) (home chain : ℕ) where
  pub path_push : (first : ℕ) (ns : List ℕ) (at : ℕ) → Path page home chain first ns at → IsGood page home chain at
      → Path page home chain first (ns ++ at ∷ []) (next_of (page at))
  path_push first [] at path good = (path, good, refl)
  path_push first (n ∷ ns) at path good = (path.0, path.1, path_push (next_of (page n)) ns at path.2 good)

  pub data_push : (ns : List ℕ) (at : ℕ) → data_in page (ns ++ at ∷ []) ≡ data_in page ns ++ data_of (page at)
  data_push [] at = append-nil (data_of (page at))
  data_push (n ∷ ns) at = ap (λ l. data_of (page n) ++ l) (data_push ns at)
      ∙ sym (append_assoc (data_of (page n)) (data_in page ns) (data_of (page at)))
