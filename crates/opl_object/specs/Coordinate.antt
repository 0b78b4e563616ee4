-- Longitudes and latitudes of a line.
-- osmium "OPL File Format": x and y are the coordinates of a node in degrees.
use Rattle.std.specs.Prelude.{ℕ, ℤ, pos, neg_ℤ, ◌+◌, ◌-◌, Bool, ◌&&◌, nat_le, if◌then◌else◌, List, [], ◌++◌, length, take, replicate}
use Rattle.std.specs.Prelude.{slice_index, Option, None, Some, Result, Ok, Err, unwrap_or}
use Rattle.std.specs.Str.Parse.{digits_value}
use Rattle.opl_object.specs.declared.ascii.TheConstants.{POINT, DIGIT_0, DIGIT_5}
use Rattle.opl_object.specs.declared.why.Why.{Why}
use Rattle.opl_object.specs.declared.why.Why.TheVariants.{Number, Range}
use Rattle.opl_object.specs.Fields.{is, cut_at}
use Rattle.opl_object.specs.Number.{is_negative, unsigned, are_digits}

-- digits, or digits on both sides of a point, at most 20 in all
abbrev pub is_decimal : List ℕ × Option (List ℕ) → Bool
is_decimal (whole, None) = are_digits 20 whole
is_decimal (whole, Some decimals) = (are_digits 20 whole && are_digits 20 decimals) && nat_le (length whole + length decimals) 20

-- seven decimals: those that stand there, and zeros for the others
abbrev pub seven : List ℕ → List ℕ
seven decimals = take 7 decimals ++ replicate (7 - length decimals) DIGIT_0

-- in units of 1e-7 degree: seven decimals are taken, and an eighth of 5 or more rounds away from zero
abbrev pub units : List ℕ → List ℕ → ℕ
units whole decimals = digits_value 10 (whole ++ seven decimals) + (if nat_le DIGIT_5 (slice_index decimals 7) then 1 else 0)

-- the decimals, where there are some
abbrev pub decimals_of : Option (List ℕ) → List ℕ
decimals_of decimals = unwrap_or decimals []

-- a coordinate from minus the greatest to the greatest
unfoldable pub coordinate : ℕ → List ℕ → Result ℤ Why
coordinate greatest text =
    let parts = cut_at (is POINT) (unsigned text) in
    if is_decimal parts
    then (if nat_le (units parts.0 (decimals_of parts.1)) greatest
    then Ok (if is_negative text then neg_ℤ (pos (units parts.0 (decimals_of parts.1))) else pos (units parts.0 (decimals_of parts.1)))
    else Err Range)
    else Err Number
