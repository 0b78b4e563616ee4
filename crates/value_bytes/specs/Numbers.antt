-- Numbers in bytes, the lowest byte first.
use Rattle.std.specs.Prelude.{ℕ, ℤ, ◌^◌, ◌<◌, List, [], ◌∷◌, ◌++◌, length, FitsSigned}
use Rattle.std.specs.Int.{w64, to_le_bytes, cast_unsigned}

-- a number of eight bytes
unfoldable pub number_bytes : ℕ → List ℕ
number_bytes number = to_le_bytes w64 number

abbrev pub IsNumber : ℕ → Type 0
IsNumber number = number < 2 ^ 64

-- bytes behind their number
unfoldable pub counted_bytes : List ℕ → List ℕ
counted_bytes bytes = number_bytes (length bytes) ++ bytes

abbrev pub IsCounted : List ℕ → Type 0
IsCounted bytes = IsNumber (length bytes)

-- a signed number of eight bytes
unfoldable pub int_bytes : ℤ → List ℕ
int_bytes number = number_bytes (cast_unsigned w64 number)

abbrev pub IsInt : ℤ → Type 0
IsInt number = FitsSigned w64 number

-- a byte
abbrev pub byte_bytes : ℕ → List ℕ
byte_bytes byte = byte ∷ []

abbrev pub IsByte : ℕ → Type 0
IsByte byte = Unit {0}
