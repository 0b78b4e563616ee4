-- What a call does to the bytes that an object tells, beside the words of `Rattle.std.specs.Io.KnownBytes`.
use Rattle.std.specs.Prelude.{◌≡◌, List, ℕ, ◌++◌, Option, Some, None, ⊤}

-- where bytes are told, this holds of them
abbrev pub IfTold : Option (List ℕ) → (List ℕ → Type 0) → Type 0
IfTold told P = (bytes : List ℕ) → told ≡ Some bytes → P bytes

-- bytes are told
abbrev pub IsTold : Option (List ℕ) → Type 0
IsTold told = (bytes : List ℕ) × (told ≡ Some bytes)

-- where bytes are told before, bytes are told after, and this holds of the two
abbrev pub BothKnown : Option (List ℕ) → Option (List ℕ) → (List ℕ → List ℕ → Type 0) → Type 0
BothKnown None after P = ⊤
BothKnown (Some before) None P = ⊥
BothKnown (Some before) (Some after) P = P before after

-- the list is the old one and then some front of the bytes, perhaps none of them or all
abbrev pub GrowsByFront : List ℕ → List ℕ → List ℕ → Type 0
GrowsByFront bytes before after = (front : List ℕ) × (rest : List ℕ) × (bytes ≡ front ++ rest) × (after ≡ before ++ front)

-- told bytes stay told, and some front of these bytes was added to them
abbrev pub AppendsPrefix : Option (List ℕ) → Option (List ℕ) → List ℕ → Type 0
AppendsPrefix before after bytes = BothKnown before after (GrowsByFront bytes)
