-- How a text is cut.
use Rattle.std.specs.Prelude.{ℕ, List, [], ◌∷◌, ◌==◌, if◌then◌else◌, Option, None, Some}
use Rattle.std.specs.Option.{option_map}

-- what stands behind this beginning, where a text has it
unfoldable pub behind : (front text : List ℕ) → Option (List ℕ)
behind [] text = Some text
behind (byte ∷ front) [] = None
behind (byte ∷ front) (first ∷ text) = if first == byte then behind front text else None

-- what stands before this last byte, where a text has it
unfoldable pub before_last : ℕ → List ℕ → Option (List ℕ)
before_last byte [] = None
before_last byte (only ∷ []) = if only == byte then Some [] else None
before_last byte (first ∷ next ∷ rest) = option_map (λ front. first ∷ front) (before_last byte (next ∷ rest))

-- what stands before and behind the first such byte, where a text has one
unfoldable pub around_first : ℕ → List ℕ → Option (List ℕ × List ℕ)
around_first byte [] = None
around_first byte (first ∷ rest) = if first == byte then Some ([], rest)
    else option_map (λ (front, back). (first ∷ front, back)) (around_first byte rest)
