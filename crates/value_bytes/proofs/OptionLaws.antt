-- The laws of what may be absent.
use Rattle.std.proofs.Common.{◌≡◌, ◌≢◌, ℕ, List, [], ◌∷◌, ◌++◌, Option, None, Some, refl, append_assoc}
use Rattle.value_bytes.specs.Forms.{IsFrontless}
use Rattle.value_bytes.specs.Options.{option_bytes, IsOption}
use Rattle.value_bytes.proofs.Variants.{IsVariant, nothing, IsNothing}

only_absent : {V : Type 0} (spell : V → List ℕ) (Is : V → Type 0) (other : Option V) (rest behind : List ℕ) → IsOption Is other
    → option_bytes spell other ++ rest ≡ 0 ∷ behind
    → (value : Unit {0}) × IsNothing value × (other ≡ None) × (behind ≡ nothing value ++ rest)
unfolding option_bytes
only_absent spell Is None rest behind is same = (tt, tt, refl, cc)
only_absent spell Is (Some value) rest behind is same = absurd (cc)

pub absent : {V : Type 0} (spell : V → List ℕ) (Is : V → Type 0)
    → IsVariant 0 nothing IsNothing (option_bytes spell) (IsOption Is) (λ _. None)
unfolding option_bytes IsOption
absent spell Is = record { is = λ value is. tt; told = λ value. refl; only = only_absent spell Is }

only_present : {V : Type 0} (spell : V → List ℕ) (Is : V → Type 0) (other : Option V) (rest behind : List ℕ) → IsOption Is other
    → option_bytes spell other ++ rest ≡ 1 ∷ behind → (value : V) × Is value × (other ≡ Some value) × (behind ≡ spell value ++ rest)
unfolding option_bytes IsOption
only_present spell Is None rest behind is same = absurd (cc)
only_present spell Is (Some value) rest behind is same = (value, is, refl, cc)

pub present : {V : Type 0} (spell : V → List ℕ) (Is : V → Type 0) → IsVariant 1 spell Is (option_bytes spell) (IsOption Is) Some
unfolding option_bytes IsOption
present spell Is = record { is = λ value is. is; told = λ value. refl; only = only_present spell Is }

-- another byte is in front of no such value
pub other_option : {V : Type 0} (spell : V → List ℕ) (Is : V → Type 0) (bytes : List ℕ) (byte : ℕ) (behind : List ℕ) → bytes ≡ byte ∷ behind
    → byte ≢ 0 → byte ≢ 1 → IsFrontless (option_bytes spell) (IsOption Is) bytes
unfolding option_bytes
other_option spell Is bytes byte behind cut no_zero no_one None rest begins = no_zero (cc (begins.bytes_are))
other_option spell Is bytes byte behind cut no_zero no_one (Some value) rest begins = no_one (cc (begins.bytes_are))

pub no_option : {V : Type 0} (spell : V → List ℕ) (Is : V → Type 0) (bytes : List ℕ) → bytes ≡ []
    → IsFrontless (option_bytes spell) (IsOption Is) bytes
unfolding option_bytes
no_option spell Is bytes none None rest begins = absurd (cc (begins.bytes_are))
no_option spell Is bytes none (Some value) rest begins = absurd (cc (begins.bytes_are))

-- what was put
pub option_absent : {V : Type 0} (spell : V → List ℕ) (old : List ℕ) → old ++ 0 ∷ [] ≡ old ++ option_bytes spell None
unfolding option_bytes
option_absent spell old = refl

pub option_present : {V : Type 0} (spell : V → List ℕ) (value : V) (old : List ℕ)
    → (old ++ 1 ∷ []) ++ spell value ≡ old ++ option_bytes spell (Some value)
unfolding option_bytes
option_present spell value old = append_assoc old (1 ∷ []) (spell value)

pub is_absent : {V : Type 0} (Is : V → Type 0) → IsOption Is None
unfolding IsOption
is_absent Is = tt

pub is_present : {V : Type 0} (Is : V → Type 0) (value : V) → Is value → IsOption Is (Some value)
unfolding IsOption
is_present Is value is = is
