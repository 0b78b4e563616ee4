-- How values are spelled in bytes. A spelling is a function from values to bytes, and a condition on the values that
-- have one.
use Rattle.std.specs.Prelude.{◌≡◌, ◌≢◌, ℕ, List, [], ◌∷◌, ◌++◌, length}
use Rattle.std.specs.List.{AllByRecursion}
use Rattle.value_bytes.specs.declared.fault.ValueFault.{ValueFault}
use Rattle.value_bytes.specs.declared.fault.ValueFault.TheVariants.{NotSpelled, OutOfMemory}

-- the bytes begin with this value, and behind it stand these
pub record Begins {V : Type 0} (spell : V → List ℕ) (Is : V → Type 0) (bytes : List ℕ) (value : V) (rest : List ℕ) : Type 0 where
  pub is : Is value
  pub bytes_are : bytes ≡ spell value ++ rest

-- they begin so, and in no other way
pub record IsFront {V : Type 0} (spell : V → List ℕ) (Is : V → Type 0) (bytes : List ℕ) (value : V) (rest : List ℕ) : Type 0 where
  pub begins : Begins spell Is bytes value rest
  pub alone : (other : V) (behind : List ℕ) → Begins spell Is bytes other behind → (other ≡ value) × (behind ≡ rest)

-- whatever stands behind it
abbrev pub IsAtFront : {V : Type 0} → (V → List ℕ) → (V → Type 0) → List ℕ → V → Type 0
IsAtFront {V} spell Is bytes value = (rest : List ℕ) × IsFront spell Is bytes value rest

-- they begin with no value
abbrev pub IsFrontless : {V : Type 0} → (V → List ℕ) → (V → Type 0) → List ℕ → Type 0
IsFrontless {V} spell Is bytes = (value : V) (rest : List ℕ) → ¬ Begins spell Is bytes value rest

-- these are the bytes of this value, and of no other
pub record Spells {V : Type 0} (spell : V → List ℕ) (Is : V → Type 0) (bytes : List ℕ) (value : V) : Type 0 where
  pub is : Is value
  pub bytes_are : bytes ≡ spell value
  pub alone : (other : V) → Is other → bytes ≡ spell other → other ≡ value

-- they are no value's bytes
abbrev pub IsNoValue : {V : Type 0} → (V → List ℕ) → (V → Type 0) → List ℕ → Type 0
IsNoValue {V} spell Is bytes = (value : V) → Is value → bytes ≢ spell value

-- that no value is spelled comes only with this fact
abbrev pub NeedsFor : Type 0 → ValueFault → Type 0
NeedsFor Fact NotSpelled = Fact
NeedsFor Fact OutOfMemory = Unit {0}

-- one value and then another
abbrev pub both_bytes : {V W : Type 0} → (V → List ℕ) → (W → List ℕ) → V × W → List ℕ
both_bytes one two p = one p.0 ++ two p.1

abbrev pub Both : {V W : Type 0} → (V → Type 0) → (W → Type 0) → V × W → Type 0
Both One Two p = One p.0 × Two p.1

-- values one after another
abbrev pub all_bytes : {V : Type 0} → (V → List ℕ) → List V → List ℕ
all_bytes spell [] = []
all_bytes spell (value ∷ values) = spell value ++ all_bytes spell values

-- so many values
pub record AreMany {V : Type 0} (count : ℕ) (Is : V → Type 0) (values : List V) : Type 0 where
  pub count_is : length values ≡ count
  pub each : AllByRecursion Is values
