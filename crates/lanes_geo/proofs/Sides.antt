-- The two products of the definition, told by natural numbers.
use Rattle.std.proofs.Common.{◌≡◌, ℕ, ◌+◌, ◌*◌, ◌≤ℤ◌, unsigned_abs, suc, arith, nat_lt, ℤ, pos, negsuc, neg_ℤ, ◌+ℤ◌, ◌-ℤ◌, ◌*ℤ◌, int_lt}
use Rattle.std.proofs.lemmas.Int.{ints}

-- a product of two differences
product_of : (z w : ℤ) (x y u v : ℕ) → z ≡ pos x -ℤ pos y → w ≡ pos u -ℤ pos v → z *ℤ w ≡ pos (x * u + y * v) -ℤ pos (x * v + y * u)
product_of (pos i) (pos j) x y u v e f =
    let q : x ≡ y + i = omega (arith, ints) in
    let r : u ≡ v + j = omega (arith, ints) in
    rw (q, r) (omega (arith, ints))
product_of (pos i) (negsuc j) x y u v e f =
    let q : x ≡ y + i = omega (arith, ints) in
    let r : v ≡ u + suc j = omega (arith, ints) in
    rw (q, r) (omega (arith, ints))
product_of (negsuc i) (pos j) x y u v e f =
    let q : y ≡ x + suc i = omega (arith, ints) in
    let r : u ≡ v + j = omega (arith, ints) in
    rw (q, r) (omega (arith, ints))
product_of (negsuc i) (negsuc j) x y u v e f =
    let q : y ≡ x + suc i = omega (arith, ints) in
    let r : v ≡ u + suc j = omega (arith, ints) in
    rw (q, r) (omega (arith, ints))

-- a segment that goes north, from k below a place to m above it
up : (P A B a k m : ℕ) → int_lt (pos (P * ((a + k) + m) + A * a) -ℤ pos (P * a + A * ((a + k) + m)))
    (pos (B * (a + k) + A * a) -ℤ pos (B * a + A * (a + k))) ≡ nat_lt (P * (k + m)) (k * B + m * A)
up P A B a k m = grind (arith, ints)

-- and one that goes south, from k above it to m below it
down : (P A B b k m : ℕ) → int_lt (pos (B * (b + m) + A * ((b + m) + k)) -ℤ pos (B * ((b + m) + k) + A * (b + m)))
    (pos (P * b + A * ((b + m) + k)) -ℤ pos (P * ((b + m) + k) + A * b)) ≡ nat_lt (P * (k + m)) (k * B + m * A)
down P A B b k m = grind (arith, ints)

-- how far a longitude or a latitude is from its least value
pub shifted : (z : ℤ) (least : ℕ) → neg_ℤ (pos least) ≤ℤ z → z ≡ pos (unsigned_abs (z +ℤ pos least)) -ℤ pos least
shifted z least h = grind (arith, ints)

-- a segment that goes north
pub going_north : (z w z2 w2 : ℤ) (P A B h a b k m : ℕ) → z ≡ pos P -ℤ pos A → w ≡ pos b -ℤ pos a → z2 ≡ pos B -ℤ pos A
    → w2 ≡ pos h -ℤ pos a
    → h ≡ a + k → b ≡ (a + k) + m → int_lt (z *ℤ w) (z2 *ℤ w2) ≡ nat_lt (P * (k + m)) (k * B + m * A)
going_north z w z2 w2 P A B h a b k m e f e2 f2 g j =
    rw (product_of z w P A b a e f, product_of z2 w2 B A h a e2 f2, g, j) (up P A B a k m)

-- and one that goes south
pub going_south : (z w z2 w2 : ℤ) (P A B h a b k m : ℕ) → z ≡ pos P -ℤ pos A → w ≡ pos b -ℤ pos a → z2 ≡ pos B -ℤ pos A
    → w2 ≡ pos h -ℤ pos a
    → h ≡ b + m → a ≡ (b + m) + k → int_lt (z2 *ℤ w2) (z *ℤ w) ≡ nat_lt (P * (k + m)) (k * B + m * A)
going_south z w z2 w2 P A B h a b k m e f e2 f2 g j =
    rw (product_of z w P A b a e f, product_of z2 w2 B A h a e2 f2, g, j) (down P A B b k m)
