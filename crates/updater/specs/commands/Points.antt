-- `points KEY INPUT CHANGE*`.
use Rattle.std.specs.Prelude.{ℕ, Option, List}
use Rattle.run_promise.specs.CommandOf.{CommandOf, points_of}
use Rattle.updater.specs.Forms.{keyed}

-- the form of its words
abbrev pub form : (options words : List (List ℕ)) → (place : ℕ) → Option CommandOf
form options words place = keyed points_of options words place
