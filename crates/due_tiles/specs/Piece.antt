-- Bytes that are held back in front of an output.
use Rattle.std.specs.Prelude.{◌≡◌, ◌≤◌, ℕ, List, ◌++◌, length, Option}
use Rattle.std.specs.Io.KnownBytes.{Appends}
use Rattle.due_tiles.specs.declared.piece.TheConstants.{PIECE}

-- what is held fits its buffer
pub record Fits (filled : ℕ) (buffer : List ℕ) : Type 0 where
  pub size : length buffer ≡ PIECE
  pub inside : filled ≤ PIECE

-- of what was held, and then these bytes, a front was written, and the rest is held
abbrev pub Puts : (before now : Option (List ℕ)) → (held left bytes : List ℕ) → Type 0
Puts before now held left bytes = (front : List ℕ) × Appends before now front × (held ++ bytes ≡ front ++ left)
