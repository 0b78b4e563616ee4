-- The rows that a segment reaches, by a search of falling latitudes.
use Rattle.std.proofs.Common.{◌≡◌, ◌∙◌, ℕ, ◌+◌, ◌<◌, ◌≤◌, ◌-◌, zero, suc, refl, arith, nat_lt, nat_le, min, max, ℤ, pos, ◌-ℤ◌, ◌<ℤ◌, ◌≤ℤ◌}
use Rattle.std.proofs.Common.{int_lt, int_le, Bool, true, false, ◌&&◌, List, [], ◌∷◌, length, slice_index_or}
use Rattle.std.proofs.Common.{neg_ℤ, unsigned_abs, w32, FitsSigned}
use Rattle.std.specs.List.{AllByRecursion}
use Rattle.std.specs.List.Sorted.{IsPartitionedBy}
use Rattle.std.proofs.lemmas.Int.{fits_signed_from_abs, ints}
use Rattle.tile_cover.specs.Table.{AreFalling, IsLatitude}
use Rattle.tile_cover.proofs.Touches.{same_tests, both_true, true_le, le_true, true_lt, lt_true, at_most}

pub all_at : {A : Type 0} (P : A → Type 0) (xs : List A) (i : ℕ) (d : A) → AllByRecursion P xs → i < length xs → P (slice_index_or xs i d)
all_at P [] i d e h = absurd (omega arith)
all_at P (x ∷ xs) zero d e h = e.0
all_at P (x ∷ xs) (suc i) d e h = all_at P xs i d e.1 (omega arith)

pub is_partitioned : (lats : List ℤ) (lat : ℤ) → AreFalling lats → IsPartitionedBy (int_lt lat) lats
is_partitioned lats lat e i j d ordered within north = go lats e i j ordered within north
  where
    north_too : (lat y z : ℤ) → y <ℤ z → int_lt lat y ≡ true → int_lt lat z ≡ true
    north_too lat y z e f = grind (arith, ints)

    go : (rest : List ℤ) → AreFalling rest → (i j : ℕ) → i ≤ j → j < length rest → int_lt lat (slice_index_or rest j d) ≡ true
        → int_lt lat (slice_index_or rest i d) ≡ true
    go [] e i j ordered within north = absurd (omega arith)
    go (first ∷ rest) e zero zero ordered within north = north
    go (first ∷ rest) e zero (suc j) ordered within north =
        north_too lat _ first (all_at (λ next. next <ℤ first) rest j d e.0 (omega arith)) north
    go (first ∷ rest) e (suc i) zero ordered within north = absurd (omega arith)
    go (first ∷ rest) e (suc i) (suc j) ordered within north = go rest e.1 i j (omega arith) (omega arith) north

pub lt_north : (y z : ℤ) → int_lt y z ≡ true → y <ℤ z
lt_north y z e = grind (arith, ints)

pub not_lt_north : (y z : ℤ) → int_lt y z ≡ false → z ≤ℤ y
not_lt_north y z e = grind (arith, ints)

-- an item that is there is the same with any other
pub same_item : {A : Type 0} (xs : List A) (i : ℕ) (d other item : A) → item ≡ slice_index_or xs i d → i < length xs
    → item ≡ slice_index_or xs i other
same_item {A = A} xs i d other item e h = e ∙ go xs i h
  where
    go : (rest : List A) (k : ℕ) → k < length rest → slice_index_or rest k d ≡ slice_index_or rest k other
    go [] k f = absurd (omega arith)
    go (x ∷ rest) zero f = refl
    go (x ∷ rest) (suc k) f = go rest k (omega arith)

-- the rows between the two numbers
pub rows_told : (table : ℕ → ℤ) (n long above below from to row : ℕ) (north south N S : ℤ) → N ≡ north → S ≡ south -ℤ pos 1 → long ≡ n + 1
    → row < n
    → ((k : ℕ) → k < above → N <ℤ table k) → ((k : ℕ) → above ≤ k → k < long → table k ≤ℤ N)
    → ((k : ℕ) → k < below → S <ℤ table k) → ((k : ℕ) → below ≤ k → k < long → table k ≤ℤ S)
    → from ≡ above - 1 → to ≡ max (min below n) from
    → (nat_le from row && nat_lt row to) ≡ (int_le (table (row + 1)) north && int_le south (table row))
rows_told table n long above below from to row north south N S n_is s_is is_long within is_above not_above is_below not_below from_is
    to_is = same_tests _ _
    (λ e. let parts = both_true _ _ e in
    let first : from ≤ row = le_true from row parts.0 in
    let last : row < to = lt_true row to parts.1 in
    let inside : row < below = omega arith in
    both (le_test (table (row + 1)) north (rw n_is at not_above (row + 1) (omega arith) (omega arith)))
    (le_of_lt south (table row) (rw s_is at is_below row inside)))
    (λ e. let parts = both_true _ _ e in
    let first : above ≤ row + 1 = at_most above (row + 1)
    (λ f. not_both (table (row + 1)) north parts.0 (rw n_is at is_above (row + 1) f)) in
    let last : row < below = at_most (suc row) below
    (λ f. below_both (table row) south parts.1 (rw s_is at not_below row (omega arith) (omega arith))) in
    both (true_le from row (omega arith)) (true_lt row to (omega arith)))
  where
    both : {p q : Bool} → p ≡ true → q ≡ true → (p && q) ≡ true
    both e f = rw (e, f) refl

    le_test : (y z : ℤ) → y ≤ℤ z → int_le y z ≡ true
    le_test y z e = grind (arith, ints)

    le_of_lt : (y z : ℤ) → (y -ℤ pos 1) <ℤ z → int_le y z ≡ true
    le_of_lt y z e = grind (arith, ints)

    not_both : (y z : ℤ) → int_le y z ≡ true → z <ℤ y → ⊥
    not_both y z e f = grind (arith, ints)

    below_both : (y z : ℤ) → int_le z y ≡ true → y ≤ℤ (z -ℤ pos 1) → ⊥
    below_both y z e f = grind (arith, ints)

-- a boundary is south of the one before it
pub falls : (lats : List ℤ) (row : ℕ) (d : ℤ) → AreFalling lats → row + 1 < length lats
    → slice_index_or lats (row + 1) d <ℤ slice_index_or lats row d
falls [] row d e h = absurd (omega arith)
falls (lat ∷ lats) zero d e h = all_at (λ next. next <ℤ lat) lats 0 d e.0 (omega arith)
falls (lat ∷ lats) (suc row) d e h = rw (one_more row) (falls lats row d e.1 (omega arith))
  where
    one_more : (row : ℕ) → suc row + 1 ≡ suc (row + 1)
    one_more row = omega arith

-- a latitude is a number of 32 bits
pub fits_lat : (z : ℤ) → IsLatitude z → FitsSigned w32 z
fits_lat z e = fits_signed_from_abs w32 z (small z e.north e.south)
  where
    small : (z : ℤ) → z ≤ℤ pos 900000000 → neg_ℤ (pos 900000000) ≤ℤ z → unsigned_abs z < 2147483648
    small z e f = grind (arith, ints)

pub ordered : (south north : ℕ) (y z : ℤ) → pos south -ℤ pos 900000000 ≡ y → pos north -ℤ pos 900000000 ≡ z → y <ℤ z → south ≤ north
ordered south north y z e f g = grind (arith, ints)

-- and of each before it
pub falls_on : (lats : List ℤ) (i j : ℕ) (d : ℤ) → AreFalling lats → i ≤ j → j < length lats
    → slice_index_or lats j d ≤ℤ slice_index_or lats i d
falls_on [] i j d e h within = absurd (omega arith)
falls_on (lat ∷ lats) zero zero d e h within = level lat
  where
    level : (z : ℤ) → z ≤ℤ z
    level z = grind (arith, ints)
falls_on (lat ∷ lats) zero (suc j) d e h within = below _ _ (all_at (λ next. next <ℤ lat) lats j d e.0 (omega arith))
  where
    below : (y z : ℤ) → y <ℤ z → y ≤ℤ z
    below y z e = grind (arith, ints)
falls_on (lat ∷ lats) (suc i) zero d e h within = absurd (omega arith)
falls_on (lat ∷ lats) (suc i) (suc j) d e h within = falls_on lats i j d e.1 (omega arith) (omega arith)
