-- Forms of words that commands share.
use Rattle.std.specs.Prelude.{ℕ, ◌+◌, nat_le, nat_lt, ◌&&◌, if◌then◌else◌, Option, Some, None, List, [], ◌∷◌, length}
use Rattle.run_promise.specs.CommandOf.{CommandOf}
use Rattle.run_promise.specs.declared.files.Files.{Files}
use Rattle.updater.specs.declared.forms.TheConstants.{MAX_KEY}

-- `KEY INPUT CHANGE*`: no option, and a KEY of 1 to MAX_KEY bytes; place is that of the first word of the form
abbrev pub keyed : (List ℕ → Files → CommandOf) → (options form : List (List ℕ)) → (place : ℕ) → Option CommandOf
keyed command [] (key ∷ input ∷ changes) place =
    if nat_le 1 (length key) && nat_le (length key) MAX_KEY
    then Some (command key (record { first = place + 1; count = length changes + 1 })) else None
keyed command _ _ _ = None

-- `STORE`: no option
abbrev pub stored : (List ℕ → CommandOf) → (options form : List (List ℕ)) → Option CommandOf
stored command [] (store ∷ []) = Some (command store)
stored command _ _ = None

-- `STORE` and so many files or more; no other word is of the form
abbrev pub stored_files : (fewest : ℕ) → (form : List (List ℕ)) → (place : ℕ) → Option (List ℕ × Files)
stored_files fewest [] place = None
stored_files fewest (store ∷ files) place =
    if nat_lt (length files) fewest then None else Some (store, record { first = place + 1; count = length files })
