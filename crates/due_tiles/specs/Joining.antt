-- Two lists of runs, of which the one that begins first is taken.
use Rattle.std.specs.Prelude.{◌≡◌, ◌≤◌, ◌⊎◌, List, ◌∷◌}
use Rattle.std.specs.List.{AllByRecursion}
use Rattle.tile_cover.specs.declared.runs.Run.{Run}
use Rattle.tile_cover.specs.Runs.{start_of}

-- a run begins before each of these, or with it
abbrev pub BeginsBefore : Run → List Run → Type 0
BeginsBefore run runs = AllByRecursion (λ other. start_of run ≤ start_of other) runs

-- it is the first of one list, and the other one is left as it is
pub record IsFirst (from rest kept left : List Run) (run : Run) : Type 0 where
  pub parts : from ≡ run ∷ rest
  pub same : left ≡ kept
  pub before : BeginsBefore run kept

-- it is the first of one of the two
abbrev pub IsTaken : List Run → List Run → Run → List Run → List Run → Type 0
IsTaken left right run left_rest right_rest = IsFirst left left_rest right right_rest run ⊎ IsFirst right right_rest left left_rest run
