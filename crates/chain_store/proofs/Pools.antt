-- The pool of pages that may be dealt.
use Rattle.std.proofs.Common.{◌≡◌, inl, inr, ℕ, zero, suc, ◌+◌, ◌-◌, ◌*◌, ◌≤◌, List, [], ◌∷◌, ◌++◌, length, drop, map, refl, ap, ◌∙◌, arith}
use Rattle.std.proofs.Common.{length-append}
use Rattle.std.proofs.lemmas.Bool.{cases_lt}
use Rattle.std.proofs.lemmas.List.{append-nil, drop_all}
use Rattle.std.proofs.lemmas.List.Elements.{All-head, All-tail}
use Rattle.std.specs.Int.{w64, to_le_bytes}
use Rattle.std.specs.List.{All}
use Rattle.outside.specs.Disk.{overlaid}
use Rattle.outside.proofs.Overlay.{length-overlaid}
use Rattle.chain_store.specs.Firsts.{MayFill, filled, first_put, firsts_put}
use Rattle.chain_store.specs.Parts.{given, given_by, growth, growth_of, head_or, pages_for, up_from}
use Rattle.chain_store.specs.Plan.{kept_free, more_of, spare_of, wanted, whole_pool}
use Rattle.chain_store.specs.declared.parts.Laid.{Laid}
use Rattle.chain_store.specs.declared.parts.Part.{Part}
use Rattle.chain_store.proofs.FirstLaws.{first_put-behind, first_put-here, first_put-low}

pub length-up_from : (n count : ℕ) → length (up_from n count) ≡ count
length-up_from n zero = refl
length-up_from n (suc count) = omega (arith, length-up_from (n + 1) count)

pub length-pool : (parts bases : List Part) (free : List ℕ) (home : ℕ)
    → length (whole_pool parts bases free home) ≡ length (spare_of parts bases) + length free + more_of parts bases free
length-pool parts bases free home =
    omega (
      arith,
      length-append (spare_of parts bases ++ free) (up_from home (more_of parts bases free)),
      length-append (spare_of parts bases) free,
      length-up_from home (more_of parts bases free),
    )

pub pool_enough : (parts bases : List Part) (free : List ℕ) (home : ℕ) → wanted parts bases ≤ length (whole_pool parts bases free home)
pool_enough parts bases free home = omega (arith, length-pool parts bases free home)

-- a number in place of another leaves the length
pub length-put : (at value : ℕ) (bytes : List ℕ) → at + 8 ≤ length bytes → length (overlaid at (to_le_bytes w64 value) bytes) ≡ length bytes
length-put at value bytes fits =
    let eight : length (to_le_bytes w64 value) ≡ 8 = refl in
    omega (arith, length-overlaid at (to_le_bytes w64 value) bytes, eight, fits)

length-first_put : (at low count : ℕ) (one : Laid) (bytes : List ℕ) → at + 8 * count ≤ length bytes
    → length (first_put at low count one bytes) ≡ length bytes
length-first_put at low count one bytes fits = elim (cases_lt one.number low) [
  | inl below ↦ ap (λ (l : List ℕ). length l) (first_put-low at low count one bytes below)
  | inr above ↦ elim (cases_lt (one.number - low) count) [
    | inl inside ↦
        ap (λ (l : List ℕ). length l) (first_put-here at low count one bytes above inside)
        ∙ length-put (at + 8 * (one.number - low)) (head_or one.pages 0) bytes (omega (arith, inside, fits))
    | inr behind ↦ ap (λ (l : List ℕ). length l) (first_put-behind at low count one bytes behind)
  ]
]

pub length-firsts_put : (at low count : ℕ) (laid : List Laid) (bytes : List ℕ) → at + 8 * count ≤ length bytes
    → length (firsts_put at low count laid bytes) ≡ length bytes
length-firsts_put at low count [] bytes fits = refl
length-firsts_put at low count (one ∷ others) bytes fits =
    let here = length-first_put at low count one bytes fits in
    length-firsts_put at low count others (first_put at low count one bytes) (omega (arith, here, fits)) ∙ here

pub length-filled : (count : ℕ) (laid : List Laid) (part : Part) → MayFill count part
    → length (filled count laid part).bytes ≡ length part.bytes
length-filled count laid part may = length-firsts_put 0 (16 + 65536 * (part.number - 8)) count laid part.bytes (omega (arith, may.2))

-- directories need as many pages with first pages in them
pub growth-filled : (count : ℕ) (laid : List Laid) (parts : List Part) → All (MayFill count) parts
    → growth (map (filled count laid) parts) ≡ growth parts
growth-filled count laid [] may = refl
growth-filled count laid (part ∷ parts) may =
    let long : length (filled count laid part).bytes ≡ length part.bytes =
    length-filled count laid part (All-head (MayFill count) part parts may) in
    let here : growth_of (filled count laid part) ≡ growth_of part = ap (λ (n : ℕ). pages_for n - length part.old) long in
    omega (arith, here, growth-filled count laid parts (All-tail (MayFill count) part parts may))

pub given-filled : (count : ℕ) (laid : List Laid) (parts : List Part) → All (MayFill count) parts
    → given (map (filled count laid) parts) ≡ given parts
given-filled count laid [] may = refl
given-filled count laid (part ∷ parts) may =
    let long : length (filled count laid part).bytes ≡ length part.bytes =
    length-filled count laid part (All-head (MayFill count) part parts may) in
    ap (λ (n : ℕ). drop (pages_for n) part.old ++ given (map (filled count laid) parts)) long
    ∙ ap (λ (l : List ℕ). given_by part ++ l) (given-filled count laid parts (All-tail (MayFill count) part parts may))

-- behind so many of two lists
drop_both : (n : ℕ) (xs ys : List ℕ) → drop n (xs ++ ys) ≡ drop n xs ++ drop (n - length xs) ys
drop_both zero xs ys = ap (λ (k : ℕ). xs ++ drop k ys) (let none : 0 ≡ 0 - length xs = omega arith in none)
drop_both (suc n) [] ys = ap (λ (k : ℕ). drop k ys) (let none : suc n ≡ suc n - 0 = omega arith in none)
drop_both (suc n) (x ∷ xs) ys =
    let less : n - length xs ≡ suc n - suc (length xs) = omega arith in
    drop_both n xs ys ∙ ap (λ (k : ℕ). drop n xs ++ drop k ys) less

-- no fresh page is left
none_fresh : (n : ℕ) (spare free : List ℕ) (home : ℕ)
    → drop (n - length (spare ++ free)) (up_from home (n - (length spare + length free))) ≡ []
none_fresh n spare free home =
    drop_all (n - length (spare ++ free)) (up_from home (n - (length spare + length free)))
    (omega (arith, length-up_from home (n - (length spare + length free)), length-append spare free))

-- what is left of the pool: what was given up and not taken, and then free pages that stay
pub pool_left : (parts bases : List Part) (free : List ℕ) (home : ℕ)
    → drop (wanted parts bases) (whole_pool parts bases free home) ≡ drop (wanted parts bases) (spare_of parts bases)
    ++ kept_free parts bases free
pool_left parts bases free home =
    let spare : List ℕ = spare_of parts bases in
    let n : ℕ = wanted parts bases in
    let fresh : List ℕ = up_from home (more_of parts bases free) in
    drop_both n (spare ++ free) fresh
    ∙ ap (λ l. drop n (spare ++ free) ++ l) (none_fresh n spare free home)
    ∙ append-nil (drop n (spare ++ free))
    ∙ drop_both n spare free
