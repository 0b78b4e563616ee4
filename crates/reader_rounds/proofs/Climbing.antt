-- Numbers that never fall.
use Rattle.std.proofs.Common.{ℕ, zero, suc, ◌≤◌, List, [], ◌∷◌, ◌++◌, flat_map, replicate, arith}
use Rattle.reader_rounds.specs.Rounds.{Climbs}

pub climbs_append : (from between to : ℕ) (xs ys : List ℕ) → Climbs from between xs → Climbs between to ys → Climbs from to (xs ++ ys)
climbs_append from between to [] [] up more = omega (arith, up, more)
climbs_append from between to [] (y ∷ ys) up more = (omega (arith, up, more.0), more.1)
climbs_append from between to (x ∷ xs) ys up more = (up.0, climbs_append x between to xs ys up.1 more)

-- the same number all the time
pub climbs_same : (from number count : ℕ) → from ≤ number → Climbs from number (replicate count number)
climbs_same from number zero low = low
climbs_same from number (suc count) low = (low, climbs_same number number count (omega arith))

pub climbs_same_all : (from number rounds count : ℕ) → from ≤ number
    → Climbs from number (flat_map (λ (round : List ℕ). round) (replicate rounds (replicate count number)))
climbs_same_all from number zero count low = low
climbs_same_all from number (suc rounds) count low =
    climbs_append from number number (replicate count number)
    (flat_map (λ (round : List ℕ). round) (replicate rounds (replicate count number)))
    (climbs_same from number count low) (climbs_same_all number number rounds count (omega arith))
