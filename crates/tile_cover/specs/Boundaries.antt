-- The lines of a table of boundaries.
-- One latitude a line, from north to south, in units of 1e-7 degree: one line more than the zoom has rows.
use Rattle.std.specs.Prelude.{◌≡◌, ◌≢◌, ℕ, ◌+◌, ◌*◌, ◌-◌, ◌^◌, ◌<◌, ◌≤◌, ◌==◌, min, nat_le, ℤ, pos, neg_ℤ, int_lt, ◌&&◌, if◌then◌else◌}
use Rattle.std.specs.Prelude.{List, [], ◌∷◌, length, drop, slice_index, Option, Some, None}
use Rattle.std.specs.Char.{is_ascii_digit}
use Rattle.std.specs.Option.{option_map}
use Rattle.tile_cover.specs.declared.fault.BoundsFault.{BoundsFault}
use Rattle.tile_cover.specs.declared.fault.BoundsFault.TheVariants.{Bad, OutOfMemory}
use Rattle.tile_cover.specs.declared.boundary_line.TheConstants.{MINUS, MOST_DIGITS, MOST_UNITS}
use Rattle.tile_cover.specs.declared.runs.TheConstants.{MAX_ZOOM}

-- the number that digits write behind this one, no greater than the greatest latitude: a digit more makes none smaller
abbrev pub size_from : ℕ → List ℕ → Option ℕ
size_from size [] = Some size
size_from size (digit ∷ digits) =
    if is_ascii_digit digit && nat_le (size * 10 + (digit - 48)) MOST_UNITS then size_from (size * 10 + (digit - 48)) digits else None

-- from one digit to ten
abbrev pub size_of : List ℕ → Option ℕ
size_of digits = if nat_le 1 (length digits) && nat_le (length digits) MOST_DIGITS then size_from 0 digits else None

-- a latitude: an optional minus, and digits
abbrev pub lat_of_line : List ℕ → Option ℤ
lat_of_line line =
    if slice_index line 0 == MINUS then option_map (λ size. neg_ℤ (pos size)) (size_of (drop 1 line))
    else option_map (λ size. pos size) (size_of line)

-- the latitude, where it is south of the one before
abbrev pub is_south : ℤ → Option ℤ → Option ℤ
is_south before None = None
is_south before (Some lat) = if int_lt lat before then Some lat else None

-- the latitudes of lines, up to the first line that is none or not south of the one before
abbrev pub lats_then : Option ℤ → (ℤ → List ℤ) → List ℤ
lats_then None rest = []
lats_then (Some lat) rest = lat ∷ rest lat

abbrev pub lats_from : ℤ → List (List ℕ) → List ℤ
lats_from before [] = []
lats_from before (line ∷ lines) = lats_then (is_south before (lat_of_line line)) (λ lat. lats_from lat lines)

-- the first line may be the north pole
abbrev pub lats_of : List (List ℕ) → List ℤ
lats_of lines = lats_from (pos 900000001) lines

-- all lines are latitudes, and a zoom has as many
pub record IsTableOf (lines : List (List ℕ)) (zoom : ℕ) : Type 0 where
  pub good : length (lats_of lines) ≡ length lines
  pub shallow : zoom ≤ MAX_ZOOM
  pub whole : length lines ≡ 2 ^ zoom + 1

-- the line that is not good: the first among the first 65,537 that is no latitude south of the one before; else line
-- 65,538; else, where no zoom has so many lines, the one that would follow the last
pub data IsBadLine (lines : List (List ℕ)) (line : ℕ) : Type 0 where
  Breaks : length (lats_of lines) < min (length lines) 65537 → line ≡ length (lats_of lines) + 1 → IsBadLine lines line
  TooMany : min (length lines) 65537 ≤ length (lats_of lines) → 65537 < length lines → line ≡ 65538 → IsBadLine lines line
  WrongCount : length (lats_of lines) ≡ length lines → length lines ≤ 65537 → ((zoom : ℕ) → zoom ≤ MAX_ZOOM → length lines ≢ 2 ^ zoom + 1)
      → line ≡ length lines + 1
      → IsBadLine lines line

abbrev pub HasItsLine : List (List ℕ) → BoundsFault → Type 0
HasItsLine lines (Bad line) = IsBadLine lines line
HasItsLine lines OutOfMemory = Unit {0}
