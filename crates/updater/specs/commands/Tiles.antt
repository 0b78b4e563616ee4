-- `tiles STORE MINZOOM`, with `clear=yes`.
use Rattle.std.specs.Prelude.{ℕ, nat_lt, if◌then◌else◌, true, false, Option, Some, None, List, [], ◌∷◌}
use Rattle.std.specs.Option.{option_and_then}
use Rattle.tile_cover.specs.declared.runs.TheConstants.{MAX_ZOOM}
use Rattle.run_promise.specs.CommandOf.{CommandOf, tiles_of}
use Rattle.updater.specs.Number.{number}
use Rattle.updater.specs.Options.{options_read}
use Rattle.updater.specs.declared.options.Allowed.{Allowed}
use Rattle.updater.specs.declared.options.Options.{Options}

-- the options that belong to it
abbrev pub allowed : Allowed
allowed = record { workers = false; readers = false; buckets = false; clear = true; ahead = false; full = false }

-- the form of its words, once the options are read
abbrev pub form_with : List (List ℕ) → Options → Option CommandOf
form_with (store ∷ zoom ∷ []) options = option_and_then
    (λ least. if nat_lt MAX_ZOOM least then None else Some (tiles_of store least options.clear)) (number zoom)
form_with _ options = None

-- the form of its words
abbrev pub form : (options words : List (List ℕ)) → (place : ℕ) → Option CommandOf
form options words place = option_and_then (form_with words) (options_read allowed options)
