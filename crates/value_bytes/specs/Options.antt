-- What may be absent, in bytes: a byte 0, or a byte 1 and the value.
use Rattle.std.specs.Prelude.{ℕ, List, [], ◌∷◌, Option, None, Some}

unfoldable pub option_bytes : {V : Type 0} → (V → List ℕ) → Option V → List ℕ
option_bytes spell None = 0 ∷ []
option_bytes spell (Some value) = 1 ∷ spell value

-- the value, if there is one, has a spelling
unfoldable pub IsOption : {V : Type 0} → (V → Type 0) → Option V → Type 0
IsOption Is None = Unit {0}
IsOption Is (Some value) = Is value
