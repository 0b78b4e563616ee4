-- The laws of bytes behind their number.
use Rattle.std.proofs.Common.{◌≡◌, ℕ, ◌<◌, List, ◌++◌, length, sym, ap, ◌∙◌, arith, append_assoc, length-append}
use Rattle.value_bytes.specs.Forms.{Begins, IsFront, IsFrontless}
use Rattle.value_bytes.specs.Numbers.{number_bytes, IsNumber, counted_bytes, IsCounted}
use Rattle.value_bytes.proofs.NumberLaws.{front_same, behind_same}

-- what begins with counted bytes begins with their number
pub counted_number : (bytes counted rest : List ℕ) → Begins counted_bytes IsCounted bytes counted rest
    → Begins number_bytes IsNumber bytes (length counted) (counted ++ rest)
unfolding counted_bytes
counted_number bytes counted rest begins = record {
  is = begins.is;
  bytes_are = begins.bytes_are ∙ append_assoc (number_bytes (length counted)) counted rest;
}

pub counted_front : (bytes : List ℕ) (count : ℕ) (behind counted rest : List ℕ) → IsFront number_bytes IsNumber bytes count behind
    → length counted ≡ count → behind ≡ counted ++ rest → IsFront counted_bytes IsCounted bytes counted rest
unfolding counted_bytes
counted_front bytes count behind counted rest front long cut = record {
  begins = record {
    is = omega (arith, long, front.begins.is);
    bytes_are = front.begins.bytes_are ∙ ap (λ (n : ℕ). number_bytes n ++ behind) (sym long)
        ∙ ap (λ (l : List ℕ). number_bytes (length counted) ++ l) cut
        ∙ sym (append_assoc (number_bytes (length counted)) counted rest);
  };
  alone = λ other after begins.
      let same = front.alone (length other) (other ++ after) (counted_number bytes other after begins) in (
        front_same other counted after rest (same.0 ∙ sym long) (same.1 ∙ cut),
        behind_same other counted after rest (same.0 ∙ sym long) (same.1 ∙ cut),
      );
}

pub counted_frontless : (bytes : List ℕ) → IsFrontless number_bytes IsNumber bytes → IsFrontless counted_bytes IsCounted bytes
counted_frontless bytes none counted rest begins = none (length counted) (counted ++ rest) (counted_number bytes counted rest begins)

pub counted_short : (bytes : List ℕ) (count : ℕ) (behind : List ℕ) → IsFront number_bytes IsNumber bytes count behind
    → length behind < count → IsFrontless counted_bytes IsCounted bytes
counted_short bytes count behind front short counted rest begins =
    let same = front.alone (length counted) (counted ++ rest) (counted_number bytes counted rest begins) in
    omega (arith, same.0, ap (λ (l : List ℕ). length l) same.1, length-append counted rest)
