-- Maps of bytes that hold values, by the keys of both.
use Rattle.std.specs.Prelude.{◌≡◌, ℕ, List, Option, None, Some}
use Rattle.std.specs.Ordering.{nat_cmp}
use Rattle.std.specs.FinMap as map
use Rattle.value_bytes.specs.Forms.{Spells}

-- the bytes, if there are any, are those of the value, if there is one
abbrev pub Decodes : {V : Type 0} → (V → List ℕ) → (V → Type 0) → Option (List ℕ) → Option V → Type 0
Decodes spell Is None None = Unit {0}
Decodes spell Is (Some bytes) (Some value) = Is value × (bytes ≡ spell value)
Decodes spell Is None (Some value) = ⊥
Decodes spell Is (Some bytes) None = ⊥

-- each key has a value exactly where it has bytes, and they are the value's
abbrev pub HoldsMap : {V : Type 0} → (V → List ℕ) → (V → Type 0) → map.FinMap nat_cmp (List ℕ) → map.FinMap nat_cmp V → Type 0
HoldsMap spell Is bytes values = (key : ℕ) → Decodes spell Is (map.get bytes key) (map.get values key)

-- the bytes, if there are any, are those of the value, if there is one, and of no other
abbrev pub ReadAs : {V : Type 0} → (V → List ℕ) → (V → Type 0) → Option (List ℕ) → Option V → Type 0
ReadAs spell Is None None = Unit {0}
ReadAs spell Is (Some bytes) (Some value) = Spells spell Is bytes value
ReadAs spell Is None (Some value) = ⊥
ReadAs spell Is (Some bytes) None = ⊥
