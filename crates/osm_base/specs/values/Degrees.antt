-- The text of a coordinate, which is a whole number of units of 1e-7 degree: `-` where it is negative, the whole
-- degrees, and where the rest is not zero a point and its seven digits without the zeros at their end.
use Rattle.std.specs.Prelude.{ℕ, ℤ, ◌-◌, ◌/◌, ◌%◌, Bool, ◌==◌, if◌then◌else◌, List, [], ◌++◌, length, drop, reverse, replicate, codes}
use Rattle.std.specs.Prelude.{decimal, unsigned_abs}
use Rattle.std.specs.List.{prefix_len}
use Rattle.std.specs.Int.{is_negative}

-- the digit 0
abbrev pub is_zero : ℕ → Bool
is_zero digit = digit == 48

-- digits with zeros in front, up to so many places
abbrev pub padded : ℕ → List ℕ → List ℕ
padded places digits = replicate (places - length digits) 48 ++ digits

-- digits without the zeros at their end
abbrev pub trimmed : List ℕ → List ℕ
trimmed digits = reverse (drop (prefix_len is_zero (reverse digits)) (reverse digits))

-- what stands behind the whole degrees, for so many units
unfoldable pub fraction : ℕ → List ℕ
fraction units = if units == 0 then [] else codes "." ++ trimmed (padded 7 (decimal units))

-- the text of a coordinate
unfoldable pub degrees : ℤ → List ℕ
degrees units =
    (if is_negative units then codes "-" else []) ++ decimal (unsigned_abs units / 10000000) ++ fraction (unsigned_abs units % 10000000)
