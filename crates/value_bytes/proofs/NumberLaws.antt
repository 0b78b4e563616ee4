-- The laws of numbers in bytes.
use Rattle.std.proofs.Common.{◌≡◌, ℕ, ℤ, ◌<◌, List, [], ◌∷◌, ◌++◌, length, take, drop, refl, sym, ap, ◌∙◌, arith, length-append}
use Rattle.std.proofs.Math.Seq.{take-append_seam, drop-append_seam}
use Rattle.std.proofs.lemmas.Nat.{from_le_bytes-to_le_bytes_8}
use Rattle.std.proofs.lemmas.Int.{of_z-to_z, to_z-of_z}
use Rattle.std.proofs.Math.Facts.{Fits-of_z, sfits_to_z}
use Rattle.std.specs.Int.{w64, from_le_bytes, cast_signed, cast_unsigned}
use Rattle.value_bytes.specs.Forms.{Begins, IsFront, IsFrontless}
use Rattle.value_bytes.specs.Numbers.{number_bytes, IsNumber, int_bytes, IsInt, byte_bytes, IsByte}
use Rattle.value_bytes.proofs.Seen.{AreSeen, front_seen, frontless_seen}

pub length-number_bytes : (number : ℕ) → length (number_bytes number) ≡ 8
unfolding number_bytes
length-number_bytes number = refl

number_again : (number : ℕ) → IsNumber number → from_le_bytes w64 (number_bytes number) ≡ number
unfolding number_bytes
number_again number small = from_le_bytes-to_le_bytes_8 number small

-- what stands at the front and behind it, where the fronts are of one length
pub front_same : (xs ys after behind : List ℕ) → length xs ≡ length ys → xs ++ after ≡ ys ++ behind → xs ≡ ys
front_same xs ys after behind long same =
    sym (take-append_seam xs after) ∙ ap (λ (l : List ℕ). take (length xs) l) same
    ∙ ap (λ (n : ℕ). take n (ys ++ behind)) long ∙ take-append_seam ys behind

pub behind_same : (xs ys after behind : List ℕ) → length xs ≡ length ys → xs ++ after ≡ ys ++ behind → after ≡ behind
behind_same xs ys after behind long same =
    sym (drop-append_seam xs after) ∙ ap (λ (l : List ℕ). drop (length xs) l) same
    ∙ ap (λ (n : ℕ). drop n (ys ++ behind)) long ∙ drop-append_seam ys behind

-- two numbers of one spelling are one
pub number_same : (one two : ℕ) → IsNumber one → IsNumber two → number_bytes one ≡ number_bytes two → one ≡ two
number_same one two is-one is-two same =
    sym (number_again one is-one) ∙ ap (λ (l : List ℕ). from_le_bytes w64 l) same ∙ number_again two is-two

-- bytes that begin with a number begin with no other
pub number_front : (bytes : List ℕ) (number : ℕ) (rest : List ℕ) → Begins number_bytes IsNumber bytes number rest
    → IsFront number_bytes IsNumber bytes number rest
number_front bytes number rest begins = record {
  begins = begins;
  alone = λ other behind others.
      let same = sym others.bytes_are ∙ begins.bytes_are in
      let long = length-number_bytes other ∙ sym (length-number_bytes number) in (
        number_same other number others.is begins.is (front_same (number_bytes other) (number_bytes number) behind rest long same),
        behind_same (number_bytes other) (number_bytes number) behind rest long same,
      );
}

-- fewer than eight bytes begin with none
pub number_frontless : (bytes : List ℕ) → length bytes < 8 → IsFrontless number_bytes IsNumber bytes
number_frontless bytes short number rest begins =
    let long = ap (λ (l : List ℕ). length l) begins.bytes_are ∙ length-append (number_bytes number) rest in
    omega (arith, long, length-number_bytes number)

-- a byte
pub byte_front : (bytes : List ℕ) (byte : ℕ) (behind : List ℕ) → bytes ≡ byte ∷ behind → IsFront byte_bytes IsByte bytes byte behind
byte_front bytes byte behind cut = record {
  begins = record { is = tt; bytes_are = cut };
  alone = λ other after others. (cc (others.bytes_are, cut), cc (others.bytes_are, cut));
}

pub byte_frontless : (bytes : List ℕ) → bytes ≡ [] → IsFrontless byte_bytes IsByte bytes
byte_frontless bytes none byte rest begins = absurd (cc (begins.bytes_are, none))

-- signed numbers are seen through their bits
ints_seen : AreSeen number_bytes IsNumber int_bytes IsInt (λ number. cast_unsigned w64 number)
unfolding int_bytes
ints_seen = record { is = λ number fits. (Fits-of_z {w = w64} fits).fits; told = λ number. refl }

pub int_front : (bytes : List ℕ) (number : ℕ) (rest : List ℕ) → IsFront number_bytes IsNumber bytes number rest
    → IsFront int_bytes IsInt bytes (cast_signed w64 number) rest
int_front bytes number rest front =
    let again = of_z-to_z w64 number front.begins.is in
    front_seen number_bytes IsNumber int_bytes IsInt (λ number. cast_unsigned w64 number) ints_seen bytes number rest front
    (cast_signed w64 number)
    (sfits_to_z {w = w64} (record { fits = front.begins.is })) again
    (λ other fits here. sym (to_z-of_z w64 other fits) ∙ ap (λ n. cast_signed w64 n) here)

pub int_frontless : (bytes : List ℕ) → IsFrontless number_bytes IsNumber bytes → IsFrontless int_bytes IsInt bytes
int_frontless bytes none = frontless_seen number_bytes IsNumber int_bytes IsInt (λ number. cast_unsigned w64 number) ints_seen bytes none

pub int_put : (number : ℤ) → number_bytes (cast_unsigned w64 number) ≡ int_bytes number
unfolding int_bytes
int_put number = refl
