-- Bytes of a file that are read ahead of its lines.
use Rattle.std.specs.Prelude.{◌≡◌, ◌≤◌, ◌<◌, ℕ, ◌+◌, List, [], ◌++◌, length, Option, Result, OnOk, false}
use Rattle.outside.specs.Bytes.{BothKnown}
use Rattle.outside.specs.Inputs.{FilesView}
use Rattle.opl_files.specs.declared.ahead.Ahead.{Ahead}
use Rattle.opl_files.specs.declared.fault.FileFault.{FileFault}
use Rattle.opl_files.specs.declared.scan.TheConstants.{PIECE}
use Rattle.opl_files.specs.ReadsOnly.{ReadsOnly}

-- behind bytes that are kept some were read, with those so many at most
abbrev pub ReadsBehind : ℕ → List ℕ → Option (List ℕ) → Option (List ℕ) → Type 0
ReadsBehind most kept left rest =
    BothKnown left rest (λ bytes later. (piece : List ℕ) × (kept ++ bytes ≡ piece ++ later) × (length piece ≤ most))

-- the most bytes of a lot
abbrev pub most_of_lot : Ahead → ℕ
most_of_lot ahead = ahead.lot + PIECE

-- there is room for a read
pub record HasRoom (ahead : Ahead) : Type 0 where
  pub some : 0 < length ahead.buffer.items
  pub room : length ahead.buffer.items ≤ PIECE

-- bytes were moved from the front of the file behind those that are kept; where no more comes none is left, if that was so before
abbrev pub MovesOn : Ahead → Ahead → Option (List ℕ) → Option (List ℕ) → Type 0
MovesOn old new left rest = BothKnown left rest (λ before after. (old.kept.items ++ before ≡ new.kept.items ++ after)
    × ((old.more ≡ false → before ≡ []) → new.more ≡ false → after ≡ []))

-- more was read ahead, up to a lot
pub record Fills (old new : Ahead) (left rest : Option (List ℕ)) : Type 0 where
  pub moves : MovesOn old new left rest
  pub lot : new.lot ≡ old.lot
  pub room : HasRoom new
  pub few : length new.kept.items ≤ most_of_lot old

-- more of this file was read ahead, up to a lot; where it stops, no more was read than that
pub record ReadsAhead {A : Type 0} (outcome : Result A FileFault) (old new : Ahead) (file : ℕ) (asks : List ℕ → Type 0)
    (before after : FilesView) : Type 0 where
  pub filled : OnOk outcome (Fills old new (before.left file) (after.left file))
  pub left : ReadsBehind (most_of_lot old) old.kept.items (before.left file) (after.left file)
  pub reads : ReadsOnly outcome file (λ _. ⊥) asks before after
