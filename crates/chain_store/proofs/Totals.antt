-- Sums of numbers, and lists one after another.
use Rattle.std.proofs.Common.{◌≡◌, ◌≢◌, ◌⊎◌, inl, inr, ℕ, zero, suc, ◌+◌, ◌*◌, ◌<◌, ◌≤◌, List, [], ◌++◌, length, refl, sym, ap, ◌∙◌, arith}
use Rattle.std.proofs.Common.{length-append}
use Rattle.std.proofs.lemmas.Bool.{cases_lt}
use Rattle.chain_store.specs.Needed.{total}
use Rattle.chain_store.specs.Parts.{times}
use Rattle.chain_store.proofs.Times.{same_or, times-append}

total-zero : (f : ℕ → ℕ) → total f zero ≡ 0
unfolding total
total-zero f = refl

total-suc : (f : ℕ → ℕ) (n : ℕ) → total f (suc n) ≡ total f n + f n
unfolding total
total-suc f n = refl

pub total-same : (f g : ℕ → ℕ) (n : ℕ) → ((i : ℕ) → i < n → f i ≡ g i) → total f n ≡ total g n
total-same f g zero same = total-zero f ∙ sym (total-zero g)
total-same f g (suc n) same =
    omega (arith, total-suc f n, total-suc g n, total-same f g n (λ i below. same i (omega (arith, below))), same n (omega arith))

pub total-none : (f : ℕ → ℕ) (n : ℕ) → ((i : ℕ) → i < n → f i ≡ 0) → total f n ≡ 0
total-none f zero none = total-zero f
total-none f (suc n) none = omega (arith, total-suc f n, total-none f n (λ i below. none i (omega (arith, below))), none n (omega arith))

-- only one of the numbers is not 0
pub total-one : (f : ℕ → ℕ) (n k : ℕ) → k < n → ((i : ℕ) → i < n → i ≢ k → f i ≡ 0) → total f n ≡ f k
total-one f zero k below none = absurd (omega arith)
total-one f (suc n) k below none = elim (same_or k n) [
  | inl last ↦
      let others = total-none f n (λ i under. none i (omega (arith, under)) (λ same. absurd (omega (arith, same, last, under)))) in
      omega (arith, total-suc f n, others, ap f last)
  | inr before ↦
      let rest = total-one f n k (omega (arith, before)) (λ i under other. none i (omega (arith, under)) other) in
      omega (arith, total-suc f n, rest, none n (omega arith) (λ same. before (sym same)))
]

pub total-some : (f : ℕ → ℕ) (n k : ℕ) → k < n → f k ≤ total f n
total-some f zero k below = absurd (omega arith)
total-some f (suc n) k below = elim (same_or k n) [
  | inl last ↦ omega (arith, total-suc f n, ap f last)
  | inr before ↦ omega (arith, total-suc f n, total-some f n k (omega (arith, before)))
]

pub total-cases : (f : ℕ → ℕ) (n : ℕ) → (total f n ≡ 0) ⊎ ((k : ℕ) × (k < n) × (1 ≤ f k))
total-cases f zero = inl (total-zero f)
total-cases f (suc n) = elim (cases_lt 0 (f n)) [
  | inl some ↦ inr (n, omega arith, omega (arith, some))
  | inr none ↦ elim (total-cases f n) [
    | inl nothing ↦ inl (omega (arith, total-suc f n, nothing, none))
    | inr one ↦ inr (one.0, omega (arith, one.1), one.2)
  ]
]

pub total-add : (f : ℕ → ℕ) (a k : ℕ) → total f (a + k) ≡ total f a + total (λ i. f (a + i)) k
total-add f a zero =
    let none : a + 0 ≡ a = omega arith in
    omega (arith, ap (λ (n : ℕ). total f n) none, total-zero (λ i. f (a + i)))
total-add f a (suc k) =
    let next : a + suc k ≡ suc (a + k) = omega arith in
    omega (arith, ap (λ (n : ℕ). total f n) next, total-suc f (a + k), total-add f a k, total-suc (λ i. f (a + i)) k)

-- block by block
pub total-blocks : (f : ℕ → ℕ) (k : ℕ) → total f (65536 * k) ≡ total (λ m. total (λ b. f (65536 * m + b)) 65536) k
total-blocks f zero = total-zero f ∙ sym (total-zero (λ m. total (λ b. f (65536 * m + b)) 65536))
total-blocks f (suc k) =
    let next : 65536 * suc k ≡ 65536 * k + 65536 = omega arith in
    ap (λ (n : ℕ). total f n) next
    ∙ total-add f (65536 * k) 65536
    ∙ ap (λ (n : ℕ). n + total (λ b. f (65536 * k + b)) 65536) (total-blocks f k)
    ∙ sym (total-suc (λ m. total (λ b. f (65536 * m + b)) 65536) k)

-- these lists one after another
unfoldable pub gathered : (ℕ → List ℕ) → ℕ → List ℕ
gathered lists zero = []
gathered lists (suc n) = gathered lists n ++ lists n

pub length-gathered : (lists : ℕ → List ℕ) (n : ℕ) → length (gathered lists n) ≡ total (λ i. length (lists i)) n
unfolding gathered
length-gathered lists zero = sym (total-zero (λ i. length (lists i)))
length-gathered lists (suc n) =
    omega (arith, length-append (gathered lists n) (lists n), length-gathered lists n, total-suc (λ i. length (lists i)) n)

pub times-gathered : (p : ℕ) (lists : ℕ → List ℕ) (n : ℕ) → times p (gathered lists n) ≡ total (λ i. times p (lists i)) n
unfolding gathered
times-gathered p lists zero = sym (total-zero (λ i. times p (lists i)))
times-gathered p lists (suc n) =
    omega (arith, times-append p (gathered lists n) (lists n), times-gathered p lists n, total-suc (λ i. times p (lists i)) n)
