-- `import STORE STYLE INPUT`, with `workers=` and `buckets=`.
use Rattle.std.specs.Prelude.{ℕ, ◌==◌, if◌then◌else◌, true, false, Option, Some, None, List}
use Rattle.std.specs.Option.{option_and_then, unwrap_or}
use Rattle.run_promise.specs.CommandOf.{CommandOf, import_of}
use Rattle.updater.specs.Forms.{stored_files}
use Rattle.updater.specs.Options.{options_read}
use Rattle.updater.specs.declared.options.TheConstants.{BUCKETS, WORKERS}
use Rattle.updater.specs.declared.options.Allowed.{Allowed}

-- the options that belong to it
abbrev pub allowed : Allowed
allowed = record { workers = true; readers = false; buckets = true; clear = false; ahead = false; full = false }

-- the form of its words
abbrev pub form : (options words : List (List ℕ)) → (place : ℕ) → Option CommandOf
form options words place = option_and_then (λ own. option_and_then (λ (store, files).
    if files.count == 2 then Some (import_of store files (unwrap_or own.buckets BUCKETS) (unwrap_or own.workers WORKERS)) else None)
    (stored_files 2 words place)) (options_read allowed options)
