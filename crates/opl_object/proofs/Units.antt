-- The units of a coordinate, as far as they count.
use Rattle.std.proofs.Common.{◌≡◌, ℕ, ◌-◌, ◌≤◌, Bool, true, cond, List, ◌++◌, length, take, replicate, min, Option, Result, Ok, Err, leb}
use Rattle.std.proofs.Common.{sym, ◌∙◌, ap, arith}
use Rattle.std.specs.Prelude.{ℤ, pos, neg_ℤ, if◌then◌else◌}
use Rattle.std.specs.Str.Parse.{digits_value, digits_value_after}
use Rattle.std.proofs.lemmas.Bool.{le-leb}
use Rattle.std.proofs.lemmas.List.{take_min, take-replicate}
use Rattle.opl_object.specs.declared.why.Why.{Why}
use Rattle.opl_object.specs.declared.why.Why.TheVariants.{Number, Range}
use Rattle.opl_object.specs.Fields.{is, cut_at}
use Rattle.opl_object.specs.Number.{is_negative, unsigned}
use Rattle.opl_object.specs.Coordinate.{is_decimal, seven, units, decimals_of, coordinate}
use Rattle.opl_object.proofs.Digits.{digits_value_after-append, capped_after}

-- the seven decimals, in the two parts that are read
pub seven_parts : (decimals : List ℕ) (shown : ℕ) → shown ≡ min (length decimals) 7
    → seven decimals ≡ take shown decimals ++ take (7 - shown) (replicate 7 48)
seven_parts decimals shown e =
    let front : take 7 decimals ≡ take shown decimals =
    sym (take_min 7 decimals) ∙ ap (λ n. take n decimals) (let same : min 7 (length decimals) ≡ shown = omega arith in same) in
    let left : 7 - length decimals ≡ 7 - shown = omega arith in
    let few : 7 - shown ≤ 7 = omega arith in
    ap (λ d. d ++ replicate (7 - length decimals) 48) front ∙ ap (λ n. take shown decimals ++ replicate n 48) left
    ∙ ap (λ zeros. take shown decimals ++ zeros) (sym (take-replicate (7 - shown) 7 48 few))

-- reading three runs of digits, each up to a cap, is reading them all
pub capped_parts : (cap : ℕ) (a b c : List ℕ)
    → min (digits_value_after 10 (min (digits_value_after 10 (min (digits_value_after 10 0 a) cap) b) cap) c) cap
    ≡ min (digits_value 10 (a ++ (b ++ c))) cap
capped_parts cap a b c =
    let front = digits_value_after 10 0 a in
    let whole : digits_value 10 (a ++ (b ++ c)) ≡ digits_value_after 10 (digits_value_after 10 front b) c
    = digits_value_after-append 10 0 a (b ++ c) ∙ digits_value_after-append 10 front b c in
    ap (λ n. min (digits_value_after 10 n c) cap) (capped_after cap front b)
    ∙ capped_after cap (digits_value_after 10 front b) c
    ∙ ap (λ n. min n cap) (sym whole)

-- a coordinate in its form and range
pub coordinate_some : (greatest : ℕ) (text whole : List ℕ) (decimals : Option (List ℕ)) (size : ℕ)
    → (whole, decimals) ≡ cut_at (is 46) (unsigned text) → is_decimal (whole, decimals) ≡ true → units whole (decimals_of decimals) ≡ size
    → size ≤ greatest
    → coordinate greatest text ≡ Ok (if is_negative text then neg_ℤ (pos size) else pos size)
unfolding coordinate
coordinate_some greatest text whole decimals size cut form value le =
    let within : leb (units whole (decimals_of decimals)) greatest ≡ true = le-leb _ greatest (omega arith) in
    let cases : List ℕ × Option (List ℕ) → Bool → Bool → Result ℤ Why
    = λ parts fits near. cond fits (cond near
    (Ok (cond (is_negative text) (neg_ℤ (pos (units parts.0 (decimals_of parts.1)))) (pos (units parts.0 (decimals_of parts.1)))))
    (Err Range)) (Err Number) in
    ap (λ parts. cases parts (is_decimal parts) (leb (units parts.0 (decimals_of parts.1)) greatest)) (sym cut)
    ∙ ap (λ fits. cases (whole, decimals) fits (leb (units whole (decimals_of decimals)) greatest)) form
    ∙ ap (λ near. cases (whole, decimals) true near) within
    ∙ ap (λ n. Ok (cond (is_negative text) (neg_ℤ (pos n)) (pos n))) value
