-- `export STORE TABLE`.
use Rattle.std.specs.Prelude.{ℕ, Option, Some, None, List, [], ◌∷◌}
use Rattle.run_promise.specs.CommandOf.{CommandOf, export_of}

-- the form of its words
abbrev pub form : (options words : List (List ℕ)) → (place : ℕ) → Option CommandOf
form [] (store ∷ table ∷ []) place = Some (export_of store table)
form _ _ _ = None
