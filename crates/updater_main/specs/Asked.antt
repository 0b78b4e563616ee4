-- What the words behind the program's name ask for.
-- GNU Coding Standards, "Command-Line Interfaces": each program answers --help and --version on standard output.
use Rattle.std.specs.Prelude.{ℕ, Bool, List, [], ◌∷◌, Option, Some, None, codes, if◌then◌else◌}
use Rattle.std.specs.Str.{bytes_eq}
use Rattle.run_promise.specs.CommandOf.{CommandOf, makes_store, only_looks, store_of}
use Rattle.updater.specs.Command.{command}
use Rattle.updater_main.specs.declared.Asked.{Asked}
use Rattle.updater_main.specs.declared.Asked.TheVariants.{Help, Version, Store, Run}

-- a text of the program, or a run with a store or without one
pub data AskedOf : Type 0 where
  help : AskedOf
  version : AskedOf
  run_with : (store : List ℕ) → (make looks : Bool) → AskedOf
  run_alone : AskedOf

-- what is asked for, as contracts see it
abbrev pub seen : Asked → AskedOf
seen Help = help
seen Version = version
seen (Store path make looks) = run_with path.now make looks
seen Run = run_alone

-- a run, with the store that a command names, which it makes or not, and only looks at or not
abbrev pub run_of : Option (List ℕ) → (make looks : Bool) → AskedOf
run_of (Some store) make looks = run_with store make looks
run_of None make looks = run_alone

-- the run of a command
abbrev pub run_for : Option CommandOf → AskedOf
run_for own = run_of (store_of own) (makes_store own) (only_looks own)

-- a text is asked for by the first word alone, and all other words are those of a run
abbrev pub asked : List (List ℕ) → AskedOf
asked [] = run_for (command [])
asked (word ∷ words) =
    if bytes_eq word (codes "--help") then help else
    if bytes_eq word (codes "--version") then version else run_for (command (word ∷ words))
