-- Columns by a division.
use Rattle.std.proofs.Common.{◌≡◌, ℕ, ◌+◌, ◌*◌, ◌<◌, ◌≤◌, ◌-◌, ◌/◌, sym, ◌∙◌, arith, nat_le, min, max, true}
use Rattle.std.proofs.lemmas.Nat.{div_below, le-div, mul-le}
use Rattle.tile_cover.proofs.Touches.{same_tests, le_true, true_le, at_most}

-- the first column whose eastern side is not west of m, and the last one whose western side is not east of it
pub first_is : (m K x : ℕ) → 0 < K → nat_le ((m - 1) / K) x ≡ nat_le m ((x + 1) * K)
first_is m K x pos = same_tests _ _
    (λ e. true_le _ _ (at_most _ _ (λ f. let g : (x + 1) * K ≤ m - 1 = omega arith in
    let h : x + 1 ≤ (m - 1) / K = le-div (x + 1) (m - 1) K pos g in let i = le_true _ _ e in omega arith)))
    (λ e. true_le _ _ (let f = le_true _ _ e in
    let g : m - 1 < (x + 1) * K = below m x K pos f in
    let h : (m - 1) / K < x + 1 = div_below (m - 1) K (x + 1) pos g in omega arith))
  where
    below : (m x K : ℕ) → 0 < K → m ≤ (x + 1) * K → m - 1 < (x + 1) * K
    below m x K e f = omega arith

pub last_is : (m K x : ℕ) → 0 < K → nat_le x (m / K) ≡ nat_le (x * K) m
last_is m K x pos = same_tests _ _
    (λ e. true_le _ _ (at_most _ _ (λ f. let g : m / K < x = div_below m K x pos f in let i = le_true _ _ e in omega arith)))
    (λ e. true_le _ _ (le-div x m K pos (le_true _ _ e)))

pub last_within : (m K x columns : ℕ) → 0 < K → x < columns → nat_le x (min (m / K) (columns - 1)) ≡ nat_le (x * K) m
last_within m K x columns pos h = sym (clamped x (m / K) columns h) ∙ last_is m K x pos
  where
    clamped : (x d columns : ℕ) → x < columns → nat_le x d ≡ nat_le x (min d (columns - 1))
    clamped x d columns h = same_tests _ _
        (λ e. true_le _ _ (let f = le_true _ _ e in omega arith))
        (λ e. true_le _ _ (let f = le_true _ _ e in omega arith))

pub first_last : (low high K columns : ℕ) → 0 < K → 0 < columns → low ≤ columns * K → high ≤ columns * K
    → (min low high - 1) / K ≤ min (max low high / K) (columns - 1)
first_last low high K columns pos some e f =
    let d = (min low high - 1) / K in
    let least : nat_le d d ≡ true = true_le d d (omega arith) in
    let up : min low high ≤ (d + 1) * K = le_true _ _ (sym (first_is (min low high) K d pos) ∙ least) in
    let g : (d * K ≤ min low high - 1) = le_true _ _ (sym (last_is (min low high - 1) K d pos) ∙ least) in
    let h : d ≤ max low high / K = le-div d (max low high) K pos (omega arith) in
    let below : min low high - 1 < columns * K = under (min low high) columns K pos some (omega arith) in
    let i : d < columns = div_below (min low high - 1) K columns pos below in
    omega arith
  where
    under : (m columns K : ℕ) → 0 < K → 0 < columns → m ≤ columns * K → m - 1 < columns * K
    under m columns K e f g = let h : 1 * 1 ≤ columns * K = mul-le 1 1 columns K f e in omega arith

-- the same where a column is 3600000000 wide, taken as often as a segment is high
grouped : (x w h : ℕ) → (x * w) * h ≡ x * (w * h)
grouped x w h = omega arith

wide : (height : ℕ) → 0 < height → 0 < 3600000000 * height
wide height e = omega arith

pub span_first : (low high height m s w x : ℕ) → m ≡ min low high → s ≡ m - 1 → w ≡ height → 0 < height
    → nat_le (s / (3600000000 * w)) x ≡ nat_le (min low high) (((x + 1) * 3600000000) * height)
span_first low high height m s w x e f g h =
    rw (f, e, g, grouped (x + 1) 3600000000 height) (first_is (min low high) (3600000000 * height) x (wide height h))

pub span_last : (low high height m d w x columns n : ℕ) → m ≡ max low high → w ≡ height → n ≡ columns
    → d ≡ min (m / (3600000000 * w)) (n - 1) → 0 < height → x < columns
    → nat_le x d ≡ nat_le ((x * 3600000000) * height) (max low high)
span_last low high height m d w x columns n e f g h i j =
    rw (h, e, f, g, grouped x 3600000000 height) (last_within (max low high) (3600000000 * height) x columns (wide height i) j)

pub span_ordered : (low high height l s m d w columns n : ℕ) → l ≡ min low high → s ≡ l - 1 → m ≡ max low high → w ≡ height → n ≡ columns
    → d ≡ min (m / (3600000000 * w)) (n - 1)
    → 0 < height → 0 < columns → low ≤ (columns * 3600000000) * height → high ≤ (columns * 3600000000) * height → s / (3600000000 * w) ≤ d
span_ordered low high height l s m d w columns n e f g i j k some more below above =
    rw (k, g, i, j, f, e) (first_last low high (3600000000 * height) columns (wide height some) more
    (rw (← grouped columns 3600000000 height) below) (rw (← grouped columns 3600000000 height) above))
