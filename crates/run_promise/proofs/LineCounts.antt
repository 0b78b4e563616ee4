-- How many lines a text has.
use Rattle.std.proofs.Common.{◌≡◌, ◌≤◌, ℕ, zero, suc, ◌+◌, ◌/◌, ◌%◌, ◌<◌, ◌∙◌, true, false, cond, eqb, ltb, refl, List, [], ◌∷◌, ◌++◌}
use Rattle.std.proofs.Common.{length, ap, arith, length-append}
use Rattle.std.specs.Prelude.{codes, decimal, filter, nat_eq}
use Rattle.std.specs.Fmt.{digits, digits_onto, digit_glyph}
use Rattle.std.proofs.lemmas.Bool.Decides.{nat_tests}
use Rattle.std.proofs.lemmas.List.Elements.{filter-append}
use Rattle.run_promise.specs.Courses.{version_line}
use Rattle.run_promise.specs.FeedBlocks.{lines_in}
use Rattle.run_promise.specs.World.{GrewBy}

pub lines-append : (one other : List ℕ) → lines_in (one ++ other) ≡ lines_in one + lines_in other
lines-append one other = ap (λ (bytes : List ℕ). length bytes) (filter-append (nat_eq 10) one other)
    ∙ length-append (filter (nat_eq 10) one) (filter (nat_eq 10) other)

no_end : (digit : ℕ) → digit < 10 → nat_eq 10 (digit_glyph false digit) ≡ false
no_end digit below = elim (ltb digit 10) as
    (λ b. nat_eq 10 (cond b (48 + digit) (cond false (55 + digit) (87 + digit))) ≡ false)
    [ true ↦ grind (arith, nat_tests) | false ↦ grind (arith, nat_tests) ]

lines-glyph : (digit : ℕ) (after : List ℕ) → digit < 10 → lines_in (digit_glyph false digit ∷ after) ≡ lines_in after
lines-glyph digit after below = ap (λ b. length (cond b (digit_glyph false digit ∷ filter (nat_eq 10) after) (filter (nat_eq 10) after)))
    (no_end digit below)

lines-digits_onto : (k n : ℕ) (after : List ℕ) → lines_in (digits_onto k 10 false n after) ≡ lines_in after
lines-digits_onto zero n after = refl
lines-digits_onto (suc k) n after =
    let here : lines_in (digit_glyph false (n % 10) ∷ after) ≡ lines_in after = lines-glyph (n % 10) after (omega arith) in
    elim (eqb (n / 10) 0) as (λ b. lines_in (cond b (digit_glyph false (n % 10) ∷ after)
    (digits_onto k 10 false (n / 10) (digit_glyph false (n % 10) ∷ after))) ≡ lines_in after) [
      | true ↦ here
      | false ↦ lines-digits_onto k (n / 10) (digit_glyph false (n % 10) ∷ after) ∙ here
    ]

pub lines-decimal : (n : ℕ) → lines_in (decimal n) ≡ 0
unfolding digits
lines-decimal n = lines-digits_onto 64 n []

-- a version is told in one line
pub one_line : (changes : ℕ) → lines_in (version_line changes) ≡ 1
one_line changes =
    let words : lines_in (codes "version ") ≡ 0 = refl in
    let end : lines_in (codes "\n") ≡ 1 = refl in
    let number = lines-decimal changes in
    let whole = lines-append (codes "version " ++ decimal changes) (codes "\n") in
    let rest = lines-append (codes "version ") (decimal changes) in
    omega (arith, words, end, number, whole, rest)

-- lines of bytes that grew by a text, and by a front of another one
pub lines-grew : (whole half before after : List ℕ) → GrewBy whole half before after
    → (front : ℕ) × (lines_in after ≡ lines_in before + lines_in whole + front) × (front ≤ lines_in half)
lines-grew whole half before after grew =
    let all = ap (λ (bytes : List ℕ). lines_in bytes) grew.grown in
    let one = lines-append (before ++ whole) grew.front in
    let two = lines-append before whole in
    let part = ap (λ (bytes : List ℕ). lines_in bytes) grew.cut in
    let both = lines-append grew.front grew.rest in
    (lines_in grew.front, omega (arith, all, one, two), omega (arith, part, both))
