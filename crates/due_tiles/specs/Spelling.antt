-- Sets of tiles in bytes: a run behind another, each its zoom, its row and its first and last column, as numbers of eight bytes.
-- docs/FILES.md, "The due tiles", states the rule.
use Rattle.std.specs.Prelude.{◌≡◌, ℕ, List, [], ◌∷◌, ◌++◌}
use Rattle.tile_cover.specs.declared.runs.Run.{Run}
use Rattle.tile_cover.specs.Runs.{IsRun, IsTileSet, has}
use Rattle.value_bytes.specs.Forms.{Begins, all_bytes, both_bytes, Both}
use Rattle.value_bytes.specs.Numbers.{number_bytes, IsNumber}
use Rattle.due_tiles.specs.declared.fault.DueFault.{DueFault}
use Rattle.due_tiles.specs.declared.fault.DueFault.TheVariants.{NotSpelled, OutOfMemory}

-- four numbers, and their bytes
abbrev pub Four : Type 0
Four = ℕ × (ℕ × (ℕ × ℕ))

abbrev pub four_bytes : Four → List ℕ
four_bytes = both_bytes number_bytes (both_bytes number_bytes (both_bytes number_bytes number_bytes))

abbrev pub IsFour : Four → Type 0
IsFour = Both IsNumber (Both IsNumber (Both IsNumber IsNumber))

-- those of a run
abbrev pub numbers_of : Run → Four
numbers_of run = (run.zoom, (run.y, (run.first, run.last)))

abbrev pub NumbersOf : Run → Four → Type 0
NumbersOf run four = numbers_of run ≡ four

unfoldable pub run_bytes : Run → List ℕ
run_bytes run = four_bytes (numbers_of run)

-- the bytes of a set
abbrev pub set_bytes : List Run → List ℕ
set_bytes runs = all_bytes run_bytes runs

-- these are the bytes of each set that has the tiles of these runs, and no other
abbrev pub IsSpelling : List Run → List ℕ → Type 0
IsSpelling runs bytes = (other : List Run) → IsTileSet other → ((zoom x y : ℕ) → has other zoom x y ≡ has runs zoom x y)
    → set_bytes other ≡ bytes

-- that no set is spelled comes only with this fact
abbrev pub NeedsFor : Type 0 → DueFault → Type 0
NeedsFor Fact NotSpelled = Fact
NeedsFor Fact OutOfMemory = Unit {0}

-- a run was taken from the front of the bytes to the end of a set, and no other stands there
pub record TakesRun (old new : List Run) (bytes rest : List ℕ) : Type 0 where
  pub run : Run
  pub pushed : new ≡ old ++ run ∷ []
  pub bytes_are : bytes ≡ run_bytes run ++ rest
  pub alone : (other : Run) (behind : List ℕ) → Begins run_bytes IsRun bytes other behind → (other ≡ run) × (behind ≡ rest)

-- no set goes on behind these runs with these bytes
abbrev pub IsRead : List Run → List ℕ → Type 0
IsRead runs bytes = (run : Run) (later : List Run) → IsTileSet (runs ++ run ∷ later) → bytes ≡ set_bytes (run ∷ later) → ⊥

-- so far the bytes are those of these runs, and each set with these bytes goes on behind them with those that are left
pub record HasRead (bytes : List ℕ) (runs : List Run) (rest : List ℕ) : Type 0 where
  pub bytes_are : bytes ≡ set_bytes runs ++ rest
  pub goes_on : (all : List Run) → IsTileSet all → bytes ≡ set_bytes all
      → (later : List Run) × (all ≡ runs ++ later) × (rest ≡ set_bytes later)
