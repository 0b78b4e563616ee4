-- The options of a command: `workers=` a number from 1 to MAX_WORKERS, `readers=` one from 1 to MAX_READERS, `buckets=` a power of two
-- up to MAX_BUCKETS, `ahead=` a number up to MAX_AHEAD, `clear=yes`, `full=yes`.
-- Each has to belong to the command, and stands once at most.
use Rattle.std.specs.Prelude.{◌≡◌, ◌≤◌, ℕ, true, false, not, nat_lt, ◌||◌, if◌then◌else◌, Option, Some, None, IfSome, is_some, List, []}
use Rattle.std.specs.Prelude.{◌∷◌, length, take, drop, codes, nat_eq}
use Rattle.std.specs.Cmp.Lexicographic.{pointwise}
use Rattle.std.specs.Int.{is_power_of_two}
use Rattle.std.specs.Option.{option_and_then}
use Rattle.std.specs.Str.{bytes_eq}
use Rattle.updater.specs.Number.{in_range, number}
use Rattle.updater.specs.declared.options.Options.{Options}
use Rattle.updater.specs.declared.options.Allowed.{Allowed}
use Rattle.run_promise.specs.declared.ranges.TheConstants.{MAX_AHEAD, MAX_BUCKETS, MAX_READERS, MAX_WORKERS}

-- what stands behind a name at the front of a word
abbrev pub behind_name : (name : List ℕ) → List ℕ → Option (List ℕ)
behind_name name word = if pointwise nat_eq (take (length name) word) name then Some (drop (length name) word) else None

-- with `clear=yes`
abbrev pub with_clear : Allowed → Options → Option Options
with_clear allowed options = if not allowed.clear || options.clear then None else Some (record options { clear = true })

-- with `full=yes`
abbrev pub with_full : Allowed → Options → Option Options
with_full allowed options = if not allowed.full || options.full then None else Some (record options { full = true })

-- with this number of workers
abbrev pub with_workers : Allowed → Options → List ℕ → Option Options
with_workers allowed options value = option_and_then (λ workers.
    if not allowed.workers || is_some options.workers then None else Some (record options { workers = Some workers }))
    (in_range 1 MAX_WORKERS (number value))

-- with this number of readers
abbrev pub with_readers : Allowed → Options → List ℕ → Option Options
with_readers allowed options value = option_and_then (λ readers.
    if (not allowed.readers || is_some options.readers) || (nat_lt readers 1 || nat_lt MAX_READERS readers) then None
    else Some (record options { readers = Some readers })) (number value)

-- with this number of buckets
abbrev pub with_buckets : Allowed → Options → List ℕ → Option Options
with_buckets allowed options value = option_and_then (λ buckets.
    if (not allowed.buckets || is_some options.buckets) || (not (is_power_of_two buckets) || nat_lt MAX_BUCKETS buckets) then None
    else Some (record options { buckets = Some buckets })) (number value)

-- with this number of files to be read ahead
abbrev pub with_ahead : Allowed → Options → List ℕ → Option Options
with_ahead allowed options value = option_and_then (λ ahead.
    if (not allowed.ahead || is_some options.ahead) || nat_lt MAX_AHEAD ahead then None
    else Some (record options { ahead = Some ahead })) (number value)

-- with the one of them whose name stands in front
abbrev pub with_named : Allowed → Options → (workers buckets readers ahead : Option (List ℕ)) → Option Options
with_named allowed options (Some workers) buckets readers ahead = with_workers allowed options workers
with_named allowed options None (Some buckets) readers ahead = with_buckets allowed options buckets
with_named allowed options None None (Some readers) ahead = with_readers allowed options readers
with_named allowed options None None None (Some ahead) = with_ahead allowed options ahead
with_named allowed options None None None None = None

-- with a word more
unfoldable pub with_option : Allowed → Options → List ℕ → Option Options
with_option allowed options word = if bytes_eq word (codes "clear=yes") then with_clear allowed options else
    if bytes_eq word (codes "full=yes") then with_full allowed options else
    with_named allowed options (behind_name (codes "workers=") word) (behind_name (codes "buckets=") word)
    (behind_name (codes "readers=") word) (behind_name (codes "ahead=") word)

-- with all words
abbrev pub with_options : Allowed → Options → List (List ℕ) → Option Options
with_options allowed options [] = Some options
with_options allowed options (word ∷ words) = option_and_then (λ more. with_options allowed more words) (with_option allowed options word)

-- what the options say
abbrev pub options_read : Allowed → List (List ℕ) → Option Options
options_read allowed words = with_options allowed
    (record { workers = None; readers = None; buckets = None; clear = false; ahead = None; full = false }) words

-- each value is in its range
pub record AreInRange (options : Options) : Type 0 where
  pub few_readers : IfSome options.readers (λ readers. (1 ≤ readers) × (readers ≤ MAX_READERS))
  pub power : IfSome options.buckets (λ buckets. (is_power_of_two buckets ≡ true) × (buckets ≤ MAX_BUCKETS))
  pub few_ahead : IfSome options.ahead (λ ahead. ahead ≤ MAX_AHEAD)
