-- Marks of the pages of chains, one after the other.
use Rattle.std.proofs.Common.{◌≡◌, ◌⊎◌, inl, inr, ℕ, zero, suc, ◌+◌, ◌<◌, ◌||◌, Bool, true, false, List, [], ◌∷◌, ◌++◌, length}
use Rattle.std.proofs.Common.{refl, sym, subst, ◌∙◌, arith}
use Rattle.std.specs.Prelude.{nat_eq, slice_index}
use Rattle.std.specs.List.{AllByRecursion}
use Rattle.std.proofs.lemmas.Bool.{eqb-true, or_left, or_right}
use Rattle.std.proofs.lemmas.Bool.Decides.{nat_tests}
use Rattle.osm_base.specs.values.Ids.{has}
use Rattle.chain_store.specs.Chain.{HasPages}
use Rattle.chain_store.specs.Links.{page_in}
use Rattle.chain_store.specs.State.{IsOwner}
use Rattle.chain_store.specs.Store.{IsRefused, kept_first}
use Rattle.chain_store.specs.declared.kept.Kept.{Kept}
use Rattle.chain_store.proofs.Unique.{not_refused, pages_one}
use Rattle.value_bytes.proofs.ListLaws.{each_append}
use Rattle.store_check.specs.Marks.{is_marked}
use Rattle.store_check.specs.Surveying.{IsCovered, MarksChains}

either : (a b : Bool) → (a || b) ≡ true → (a ≡ true) ⊎ (b ≡ true)
either true b is = inl refl
either false b is = inr is

itself : (n p : ℕ) → n ≡ p → nat_eq n p ≡ true
itself n p is = grind (arith, nat_tests)

-- a list has what stands in it
has_at : (ns : List ℕ) (place p : ℕ) → place < length ns → slice_index ns place ≡ p → has ns p ≡ true
has_at [] place p low here = absurd (omega (arith, low))
has_at (n ∷ ns) zero p low here = or_left (nat_eq n p) (has ns p) (itself n p here)
has_at (n ∷ ns) (suc place) p low here = or_right (nat_eq n p) (has ns p) (has_at ns place p (omega (arith, low)) here)

place_of : (ns : List ℕ) (p : ℕ) → has ns p ≡ true → (place : ℕ) × (place < length ns) × (slice_index ns place ≡ p)
place_of [] p is = absurd (cc)
place_of (n ∷ ns) p is = elim (either (nat_eq n p) (has ns p) is) [
  | inl here ↦ (0, omega arith, eqb-true n p here)
  | inr there ↦ let own = place_of ns p there in (suc own.0, omega (arith, own.1), own.2)
]

module _ (pages : List (List ℕ)) (kept : Kept) where
  -- a chain that had its marks keeps them
  covered_on : (old new : List Bool) (n : ℕ) → length new ≡ length old
      → ((p : ℕ) → p < length old → is_marked old p ≡ true → is_marked new p ≡ true) → IsCovered pages kept old n
      → IsCovered pages kept new n
  covered_on old new n many stay covered p low own =
      let under : p < length old = omega (arith, low, many) in
      stay p under (covered p under own)

  pub covered_all : (old new : List Bool) (chains : List ℕ) → length new ≡ length old
      → ((p : ℕ) → p < length old → is_marked old p ≡ true → is_marked new p ≡ true)
      → AllByRecursion (IsCovered pages kept old) chains → AllByRecursion (IsCovered pages kept new) chains
  covered_all old new [] many stay all = tt
  covered_all old new (n ∷ chains) many stay all =
      (covered_on old new n many stay all.0, covered_all old new chains many stay all.1)

  pub marks_none : (marks : List Bool) → MarksChains pages kept [] marks marks
  marks_none marks = record { many = refl; stay = λ p low is. is; all = tt; only = λ p low is. inl is }

  pub marks_then : (xs ys : List ℕ) (old mid new : List Bool) → MarksChains pages kept xs old mid → MarksChains pages kept ys mid new
      → MarksChains pages kept (xs ++ ys) old new
  marks_then xs ys old mid new first second = record {
    many = second.many ∙ first.many;
    stay = λ p low is. second.stay p (omega (arith, low, first.many)) (first.stay p low is);
    all = each_append (IsCovered pages kept new) xs ys (covered_all mid new xs second.many second.stay first.all) second.all;
    only = λ p low is. elim (second.only p (omega (arith, low, first.many)) is) [
      | inl was ↦ first.only p low was
      | inr owned ↦ inr owned
    ];
  }

  -- the pages of one chain
  pub marks_one : (n : ℕ) (ns : List ℕ) (old new : List Bool) → IsOwner n
      → HasPages (page_in pages) (length pages + 1) n (kept_first kept n) ns → length new ≡ length old
      → ((p : ℕ) → p < length old → is_marked new p ≡ (is_marked old p || has ns p)) → MarksChains pages kept (n ∷ []) old new
  marks_one n ns old new owner pages_are many each = record {
    many = many;
    stay = λ p low is. each p low ∙ or_left (is_marked old p) (has ns p) is;
    all = (
      λ p low own.
          let same : own.ns ≡ ns = pages_one (page_in pages) (length pages + 1) n (kept_first kept n) own.ns ns own.has pages_are in
          let place : own.place < length ns = subst (λ (l : List ℕ). own.place < length l) same own.below in
          let here : slice_index ns own.place ≡ p = subst (λ (l : List ℕ). slice_index l own.place ≡ p) same own.here in
          each p (omega (arith, low, many)) ∙ or_right (is_marked old p) (has ns p) (has_at ns own.place p place here),
      tt,
    );
    only = λ p low is. elim (either (is_marked old p) (has ns p) (sym (each p low) ∙ is)) [
      | inl was ↦ inl was
      | inr there ↦
          let own = place_of ns p there in
          inr (n, owner, record { ns = ns; has = pages_are; place = own.0; below = own.1; here = own.2 })
    ];
  }

  -- a chain that is not well formed has none
  pub marks_refused : (n at : ℕ) (marks : List Bool) → IsRefused pages n (kept_first kept n) at → MarksChains pages kept (n ∷ []) marks marks
  marks_refused n at marks refused = record {
    many = refl;
    stay = λ p low is. is;
    all = (
      λ p low own. absurd (not_refused (page_in pages) (length pages + 1) n (kept_first kept n) own.ns at own.has refused),
      tt,
    );
    only = λ p low is. inl is;
  }
