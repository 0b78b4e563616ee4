-- `demo N STORE`, with `workers=`.
use Rattle.std.specs.Prelude.{ℕ, nat_eq, nat_lt, ◌||◌, if◌then◌else◌, true, false, Option, Some, None, List, [], ◌∷◌, codes}
use Rattle.std.specs.List.{starts_with}
use Rattle.std.specs.Option.{option_and_then, unwrap_or}
use Rattle.demo_map.specs.declared.squares.TheConstants.{MAX_SQUARES}
use Rattle.run_promise.specs.CommandOf.{CommandOf, demo_of}
use Rattle.updater.specs.Number.{number}
use Rattle.updater.specs.Options.{options_read}
use Rattle.updater.specs.declared.options.TheConstants.{WORKERS}
use Rattle.updater.specs.declared.options.Allowed.{Allowed}
use Rattle.updater.specs.declared.options.Options.{Options}

-- the options that belong to it
abbrev pub allowed : Allowed
allowed = record { workers = true; readers = false; buckets = false; clear = false; ahead = false; full = false }

-- how many squares a word tells: from 1 to MAX_SQUARES, and no zero stands in front
abbrev pub squares : List ℕ → Option ℕ
squares word = if starts_with nat_eq word (codes "0") then None else
    option_and_then (λ count. if nat_lt count 1 || nat_lt MAX_SQUARES count then None else Some count) (number word)

-- the form of its words, once the options are read
abbrev pub form_with : List (List ℕ) → Options → Option CommandOf
form_with (count ∷ store ∷ []) options = option_and_then
    (λ count. Some (demo_of count store (unwrap_or options.workers WORKERS))) (squares count)
form_with _ options = None

-- the form of its words
abbrev pub form : (options words : List (List ℕ)) → (place : ℕ) → Option CommandOf
form options words place = option_and_then (form_with words) (options_read allowed options)
