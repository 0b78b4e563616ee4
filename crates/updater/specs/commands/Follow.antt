-- `follow STORE FEED+`.
use Rattle.std.specs.Prelude.{ℕ, Option, Some, None, List, [], ◌∷◌}
use Rattle.std.specs.Option.{option_and_then}
use Rattle.run_promise.specs.CommandOf.{CommandOf, follow_of}
use Rattle.updater.specs.Forms.{stored_files}

-- the form of its words: no option
abbrev pub form : (options words : List (List ℕ)) → (place : ℕ) → Option CommandOf
form [] words place = option_and_then (λ (store, files). Some (follow_of store files)) (stored_files 1 words place)
form _ _ _ = None
