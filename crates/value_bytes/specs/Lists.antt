-- Lists in bytes: their number, and then one value after another.
use Rattle.std.specs.Prelude.{ℕ, List, ◌++◌, length}
use Rattle.std.specs.List.{AllByRecursion}
use Rattle.value_bytes.specs.Forms.{all_bytes}
use Rattle.value_bytes.specs.Numbers.{number_bytes, IsNumber}

-- a list behind its number
unfoldable pub list_bytes : {V : Type 0} → (V → List ℕ) → List V → List ℕ
list_bytes spell values = number_bytes (length values) ++ all_bytes spell values

-- a list that has a spelling
pub record IsList {V : Type 0} (Is : V → Type 0) (values : List V) : Type 0 where
  pub few : IsNumber (length values)
  pub each : AllByRecursion Is values
