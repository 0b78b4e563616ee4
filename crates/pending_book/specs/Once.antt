-- Lists that have each number below some n exactly once.
use Rattle.std.specs.Prelude.{◌≡◌, ℕ, List, ◌==◌, nat_lt, if◌then◌else◌, count_by}

-- how often a number stands in a list
abbrev pub times : ℕ → List ℕ → ℕ
times x xs = count_by (λ y. y == x) xs

-- once below n, and else never
abbrev pub once_below : ℕ → ℕ → ℕ
once_below x n = if nat_lt x n then 1 else 0

-- each number below n stands there exactly once, and no other number
abbrev pub IsOnce : List ℕ → ℕ → Type 0
IsOnce xs n = (x : ℕ) → times x xs ≡ once_below x n
