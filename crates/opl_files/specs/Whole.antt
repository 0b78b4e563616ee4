-- All bytes of a file, up to a number of them.
use Rattle.std.specs.Prelude.{◌≡◌, ◌<◌, ℕ, ◌+◌, List, [], length, Option, IfSome}
use Rattle.outside.specs.Bytes.{BothKnown}
use Rattle.opl_files.specs.declared.whole.WholeFault.{WholeFault}
use Rattle.opl_files.specs.declared.whole.WholeFault.TheVariants.{TooLong, ReadFault, OutOfMemory}

-- the bytes are the file, and none is left
abbrev pub IsWhole : List ℕ → Option (List ℕ) → Option (List ℕ) → Type 0
IsWhole bytes left rest = BothKnown left rest (λ before after. (before ≡ bytes) × (after ≡ []))

-- behind so many bytes that are kept more are left than there may be
abbrev pub IsOver : ℕ → ℕ → Option (List ℕ) → Type 0
IsOver max kept left = IfSome left (λ before. max < kept + length before)

-- Why a file is not read whole: it is too long, and this is so; a read failed, and this is so; or memory ran out.
abbrev pub StopsWhole : Type 0 → Type 0 → WholeFault → Type 0
StopsWhole over failed TooLong = over
StopsWhole over failed ReadFault = failed
StopsWhole over failed OutOfMemory = Unit {0}
