-- `query STORE QUERIES`.
use Rattle.std.specs.Prelude.{ℕ, ◌+◌, Option, Some, None, List, [], ◌∷◌}
use Rattle.run_promise.specs.CommandOf.{CommandOf, query_of}

-- the form of its words; place is that of the first of them
abbrev pub form : (options words : List (List ℕ)) → (place : ℕ) → Option CommandOf
form [] (store ∷ queries ∷ []) place = Some (query_of store (record { first = place + 1; count = 1 }))
form _ _ _ = None
