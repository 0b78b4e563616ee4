-- What reads of one file leave alone, and where its bytes go.
use Rattle.std.specs.Prelude.{◌≡◌, ◌≢◌, ◌≤◌, ◌∷◌, ◌++◌, [], ℕ, List, Bool, false, Option, replicate}
use Rattle.outside.specs.Bytes.{BothKnown}
use Rattle.outside.specs.Inputs.{FilesView}

-- no other file was touched, and the count of faults did not fall
pub record IsReadAlone (file : ℕ) (old new : FilesView) : Type 0 where
  pub others : (other : ℕ) → other ≢ file → new.left other ≡ old.left other
  pub later : old.faults ≤ new.faults

-- one read was asked for, of this file
pub record ReadsOnce (file : ℕ) (asks : List ℕ → Type 0) (old new : FilesView) : Type 0 where
  pub asked : asks (file ∷ [])
  pub alone : IsReadAlone file old new

-- some reads were asked for, each of this file
pub record ReadsNoOther (file : ℕ) (asks : List ℕ → Type 0) (old new : FilesView) : Type 0 where
  pub asked : (count : ℕ) × asks (replicate count file)
  pub alone : IsReadAlone file old new

-- bytes were moved from the front of the file to the end of the kept ones; where no more come, none is left
abbrev pub MovesBytes : List ℕ → List ℕ → Bool → Option (List ℕ) → Option (List ℕ) → Type 0
MovesBytes old new more left rest = BothKnown left rest (λ before after. (old ++ before ≡ new ++ after) × (more ≡ false → after ≡ []))
