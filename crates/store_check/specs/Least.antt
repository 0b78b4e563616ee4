-- The least key of which something is not so, as keys are seen one after another.
use Rattle.std.specs.Prelude.{ℕ, Bool, true, false, Option, None, Some, nat_lt, if◌then◌else◌}

-- the lesser of this and what there was
abbrev pub lesser : Option ℕ → ℕ → ℕ
lesser None key = key
lesser (Some own) key = if nat_lt key own then key else own

-- one more key was seen, of which it is so or not
abbrev pub with_key : Option ℕ → ℕ → (is_so : Bool) → Option ℕ
with_key found key true = found
with_key found key false = Some (lesser found key)

-- the lesser of two keys, where both are told, or the one that is
abbrev pub lesser_of : Option ℕ → Option ℕ → Option ℕ
lesser_of None other = other
lesser_of (Some key) None = Some key
lesser_of (Some key) (Some own) = Some (if nat_lt own key then own else key)
