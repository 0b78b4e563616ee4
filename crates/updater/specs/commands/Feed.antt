-- `feed STORE BOUNDS CHANGE*`, with `workers=` and `full=yes`.
use Rattle.std.specs.Prelude.{ℕ, true, false, Option, Some, List}
use Rattle.std.specs.Option.{option_and_then, unwrap_or}
use Rattle.run_promise.specs.CommandOf.{CommandOf, feed_of}
use Rattle.updater.specs.Forms.{stored_files}
use Rattle.updater.specs.Options.{options_read}
use Rattle.updater.specs.declared.options.TheConstants.{WORKERS}
use Rattle.updater.specs.declared.options.Allowed.{Allowed}

-- the options that belong to it
abbrev pub allowed : Allowed
allowed = record { workers = true; readers = false; buckets = false; clear = false; ahead = false; full = true }

-- the form of its words
abbrev pub form : (options words : List (List ℕ)) → (place : ℕ) → Option CommandOf
form options words place = option_and_then
    (λ own. option_and_then (λ (store, files). Some (feed_of store files own.full (unwrap_or own.workers WORKERS)))
    (stored_files 1 words place)) (options_read allowed options)
