-- The directories that a commit writes.
use Rattle.std.proofs.Common.{◌≡◌, ◌⊎◌, inl, inr, ℕ, zero, suc, ◌+◌, ◌-◌, ◌*◌, ◌<◌, ◌≤◌, Bool, List, [], ◌∷◌, length, drop, map, refl, ap}
use Rattle.std.proofs.Common.{subst, ◌∙◌, arith}
use Rattle.std.specs.List.{All}
use Rattle.std.proofs.lemmas.List.Elements.{All-cons, All-nil}
use Rattle.chain_store.specs.Chain.{HasPages}
use Rattle.chain_store.specs.Firsts.{MayFill, filled, firsts_put}
use Rattle.chain_store.specs.Gathered.{IsNoNumber, base_of, base_parts}
use Rattle.chain_store.specs.Kept.{bytes_at, pages_at}
use Rattle.chain_store.specs.Parts.{AreWritten, IsNoPart, IsPart, growth_of, laid_all, laid_bytes_at, laid_pages_at}
use Rattle.chain_store.specs.declared.layout.TheConstants.{CHAIN_END}
use Rattle.chain_store.specs.declared.parts.Laid.{Laid}
use Rattle.chain_store.specs.declared.walking.Walked.{Walked}
use Rattle.chain_store.proofs.MarkLaws.{same_pages-are}
use Rattle.chain_store.proofs.Parting.{AreParts}

module _ (same : Bool) (count : ℕ) (chains : List Laid) where
  -- the bytes of the directory at a place
  pub directory_bytes : (k m : ℕ) (ws : List Walked) (pool : List ℕ) → m < length ws
      → laid_bytes_at (laid_all (map (filled count chains) (base_parts same count k ws)) pool) m
      ≡ firsts_put 0 (16 + 65536 * (k + m - 8)) count chains (base_of same count (bytes_at ws m))
  directory_bytes k m [] pool below = absurd (omega arith)
  directory_bytes k zero (w ∷ ws) pool below =
      ap (λ (n : ℕ). firsts_put 0 (16 + 65536 * n) count chains (base_of same count w.bytes.items))
      (let none : k - 8 ≡ k + 0 - 8 = omega arith in none)
  directory_bytes k (suc m) (w ∷ ws) pool below =
      directory_bytes (k + 1) m ws (drop (growth_of
      (filled count chains (record {
        number = k;
        old = w.pages.items;
        before = w.bytes.items;
        same = [];
        bytes =
            base_of same count w.bytes.items;
      }))) pool)
      (omega arith)
      ∙ ap (λ (n : ℕ). firsts_put 0 (16 + 65536 * n) count chains (base_of same count (bytes_at ws m)))
      (let more : k + 1 + m - 8 ≡ k + suc m - 8 = omega arith in more)

  -- it is a part
  pub directory_part : (k m : ℕ) (ws : List Walked) (pool : List ℕ) → m < length ws
      → IsPart (k + m) (laid_pages_at (laid_all (map (filled count chains) (base_parts same count k ws)) pool) m)
      (laid_bytes_at (laid_all (map (filled count chains) (base_parts same count k ws)) pool) m)
      (laid_all (map (filled count chains) (base_parts same count k ws)) pool)
  directory_part k m [] pool below = absurd (omega arith)
  directory_part k zero (w ∷ ws) pool below = inl (let none : k + 0 ≡ k = omega arith in none, refl, refl)
  directory_part k (suc m) (w ∷ ws) pool below =
      let rest : List ℕ = drop (growth_of (filled count chains
      (record { number = k; old = w.pages.items; before = w.bytes.items; same = []; bytes = base_of same count w.bytes.items })))
      pool in
      let laid : List Laid = laid_all (map (filled count chains) (base_parts same count (k + 1) ws)) rest in
      inr (subst (λ (n : ℕ). IsPart n (laid_pages_at laid m) (laid_bytes_at laid m) laid)
      (let more : k + 1 + m ≡ k + suc m = omega arith in more)
      (directory_part (k + 1) m ws rest (omega arith)))

  -- no other number is one
  pub no_directory : (n k : ℕ) (ws : List Walked) (pool : List ℕ) → (n < k) ⊎ (k + length ws ≤ n)
      → IsNoPart n (laid_all (map (filled count chains) (base_parts same count k ws)) pool)
  no_directory n k [] pool apart = tt
  no_directory n k (w ∷ ws) pool (inl low) = (
    λ is. absurd (omega (arith, is, low)),
    no_directory n (k + 1) ws
        (drop (growth_of (filled count chains (record {
          number = k;
          old = w.pages.items;
          before = w.bytes.items;
          same = [];
          bytes =
              base_of same count w.bytes.items;
        }))) pool) (inl (omega (arith, low))),
  )
  no_directory n k (w ∷ ws) pool (inr high) = (
    λ is. absurd (omega (arith, is, high)),
    no_directory n (k + 1) ws (drop (growth_of
        (filled count chains (record {
          number = k;
          old = w.pages.items;
          before = w.bytes.items;
          same = [];
          bytes =
              base_of same count w.bytes.items;
        }))) pool) (inr (omega (arith, high))),
  )

  pub directory_number : (n k : ℕ) (ws : List Walked) (pool pages bytes : List ℕ)
      → IsPart n pages bytes (laid_all (map (filled count chains) (base_parts same count k ws)) pool)
      → (k ≤ n) × (n < k + length ws)
  directory_number n k [] pool pages bytes part = absurd part
  directory_number n k (w ∷ ws) pool pages bytes (inl here) = (omega (arith, here.0), omega (arith, here.0))
  directory_number n k (w ∷ ws) pool pages bytes (inr there) =
      let later = directory_number n (k + 1) ws
      (drop (growth_of (filled count chains (record {
        number = k;
        old = w.pages.items;
        before = w.bytes.items;
        same = [];
        bytes =
            base_of same count w.bytes.items;
      }))) pool) pages bytes there in
      (omega (arith, later.0), omega (arith, later.1))

  no_base : (n k : ℕ) (ws : List Walked) → n < k → IsNoNumber n (map (filled count chains) (base_parts same count k ws))
  no_base n k [] low = tt
  no_base n k (w ∷ ws) low = (λ is. absurd (omega (arith, is, low)), no_base n (k + 1) ws (omega (arith, low)))

  -- they are parts of the store
  pub directories_are : (page : ℕ → List ℕ) (home : ℕ) (first : ℕ → ℕ) (k : ℕ) (ws : List Walked) → k + length ws ≤ CHAIN_END
      → ((m : ℕ) → m < length ws → HasPages page home (k + m) (first (k + m)) (pages_at ws m)
      × AreWritten page (k + m) 0 (pages_at ws m) (bytes_at ws m))
      → AreParts page home first (map (filled count chains) (base_parts same count k ws))
  directories_are page home first k [] few each = tt
  directories_are page home first k (w ∷ ws) few each =
      let here = each 0 (omega arith) in
      let same_number : k + 0 ≡ k = omega arith in (
        omega (arith, few),
        subst (λ (n : ℕ). HasPages page home n (first n) w.pages.items) same_number here.0,
        inr (
          w.bytes.items,
          subst (λ (n : ℕ). AreWritten page n 0 w.pages.items w.bytes.items) same_number here.1,
          same_pages-are w.bytes.items (firsts_put 0 (16 + 65536 * (k - 8)) count chains (base_of same count w.bytes.items)),
        ),
        no_base k (k + 1) ws (omega arith),
        directories_are page home first (k + 1) ws (omega (arith, few)) (λ m below.
            let later = each (suc m) (omega (arith, below)) in
            let more : k + suc m ≡ k + 1 + m = omega arith in (
              subst (λ (n : ℕ). HasPages page home n (first n) (pages_at ws m)) more later.0,
              subst (λ (n : ℕ). AreWritten page n 0 (pages_at ws m) (bytes_at ws m)) more later.1,
            )),
      )

-- so many first pages fit them
pub may_fill : (same : Bool) (count k : ℕ) (ws : List Walked) → 8 ≤ k → k + length ws ≤ 16
    → ((m : ℕ) → m < length ws → length (base_of same count (bytes_at ws m)) ≡ 8 * count) → All (MayFill count) (base_parts same count k ws)
may_fill same count k [] low high long = All-nil (MayFill count)
may_fill same count k (w ∷ ws) low high long =
    All-cons (MayFill count) _ (base_parts same count (k + 1) ws) (low, omega (arith, high), omega (arith, long 0 (omega arith)))
    (may_fill same count (k + 1) ws (omega (arith, low)) (omega (arith, high)) (λ m below. long (suc m) (omega (arith, below))))
