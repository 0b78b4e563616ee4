-- `init STORE`.
use Rattle.std.specs.Prelude.{ℕ, List, Option}
use Rattle.run_promise.specs.CommandOf.{CommandOf, init_of}
use Rattle.updater.specs.Forms.{stored}

-- the form of its words
abbrev pub form : (options words : List (List ℕ)) → (place : ℕ) → Option CommandOf
form options words place = stored init_of options words
