-- Numbers and coordinates are written in ASCII.
use Rattle.std.proofs.Common.{ℕ, zero, suc, ◌+◌, ◌-◌, ◌/◌, ◌%◌, ◌<◌, true, false, cond, eqb, ltb, List, [], ◌∷◌, ◌++◌, length, drop}
use Rattle.std.proofs.Common.{reverse, arith}
use Rattle.std.specs.Prelude.{decimal, codes, replicate, unsigned_abs, ℤ}
use Rattle.std.specs.Fmt.{digits, digits_onto, digit_glyph}
use Rattle.std.specs.Int.{is_negative}
use Rattle.std.specs.List.{prefix_len}
use Rattle.std.specs.Str.{IsAscii, IsUtf8}
use Rattle.std.proofs.lemmas.List.{get_or-reverse, length-reverse}
use Rattle.std.proofs.lemmas.Str.{IsAscii-append, IsAscii-drop, IsUtf8-from_ascii}
use Rattle.std.proofs.lemmas.Str.Ascii.{IsAscii-nil, IsAscii-cons, IsAscii-from_reads}
use Rattle.osm_base.specs.values.Degrees.{is_zero, padded, trimmed, fraction, degrees}

glyph_below : (d : ℕ) → d < 10 → digit_glyph false d < 128
glyph_below d below = elim (ltb d 10) as
    (λ b. cond b (48 + d) (cond false (55 + d) (87 + d)) < 128) [ true ↦ omega arith | false ↦ omega arith ]

IsAscii-digits_onto : (k n : ℕ) (after : List ℕ) → IsAscii after → IsAscii (digits_onto k 10 false n after)
IsAscii-digits_onto zero n after h = h
IsAscii-digits_onto (suc k) n after h =
    let more : IsAscii (digit_glyph false (n % 10) ∷ after) =
    IsAscii-cons (digit_glyph false (n % 10)) after (glyph_below (n % 10) (omega arith)) h in
    elim (eqb (n / 10) 0) as (λ b. IsAscii (cond b (digit_glyph false (n % 10) ∷ after)
    (digits_onto k 10 false (n / 10) (digit_glyph false (n % 10) ∷ after)))) [
      | true ↦ more
      | false ↦ IsAscii-digits_onto k (n / 10) (digit_glyph false (n % 10) ∷ after) more
    ]

-- a number is written in ASCII
pub IsAscii-decimal : (n : ℕ) → IsAscii (decimal n)
unfolding digits
IsAscii-decimal n = IsAscii-digits_onto 64 n [] IsAscii-nil

IsAscii-zeros : (n : ℕ) → IsAscii (replicate n 48)
IsAscii-zeros zero = IsAscii-nil
IsAscii-zeros (suc n) = IsAscii-cons 48 (replicate n 48) (omega arith) (IsAscii-zeros n)

IsAscii-reverse : (text : List ℕ) → IsAscii text → IsAscii (reverse text)
IsAscii-reverse text h =
    IsAscii-from_reads (reverse text) (length text) (omega (arith, length-reverse text))
    (λ k below. rw (get_or-reverse text k 0 below) (h (length text - 1 - k)))

IsAscii-trimmed : (text : List ℕ) → IsAscii text → IsAscii (trimmed text)
IsAscii-trimmed text h =
    let turned = reverse text in
    IsAscii-reverse (drop (prefix_len is_zero turned) turned) (IsAscii-drop turned (prefix_len is_zero turned) (IsAscii-reverse text h))

IsAscii-fraction : (units : ℕ) → IsAscii (fraction units)
unfolding fraction
IsAscii-fraction units = elim (eqb units 0) as (λ b. IsAscii (cond b [] (codes "." ++ trimmed (padded 7 (decimal units))))) [
  | true ↦ IsAscii-nil
  | false ↦ IsAscii-cons 46 (trimmed (padded 7 (decimal units))) (omega arith) (IsAscii-trimmed (padded 7 (decimal units))
      (IsAscii-append (replicate (7 - length (decimal units)) 48) (decimal units) (IsAscii-zeros (7 - length (decimal units)))
      (IsAscii-decimal units)))
]

IsAscii-size : (size : ℕ) → IsAscii (decimal (size / 10000000) ++ fraction (size % 10000000))
IsAscii-size size = IsAscii-append (decimal (size / 10000000)) (fraction (size % 10000000)) (IsAscii-decimal (size / 10000000))
    (IsAscii-fraction (size % 10000000))

IsAscii-degrees : (units : ℤ) → IsAscii (degrees units)
unfolding degrees
IsAscii-degrees units =
    let size = unsigned_abs units in
    elim (is_negative units) as (λ b. IsAscii (cond b (codes "-") [] ++ decimal (size / 10000000) ++ fraction (size % 10000000))) [
      | true ↦ IsAscii-cons 45 (decimal (size / 10000000) ++ fraction (size % 10000000)) (omega arith) (IsAscii-size size)
      | false ↦ IsAscii-size size
    ]

-- so a coordinate is a text
pub IsUtf8-degrees : (units : ℤ) → IsUtf8 (degrees units)
IsUtf8-degrees units = IsUtf8-from_ascii (degrees units) (IsAscii-degrees units)
