-- What a command line asks for: a command with its words.
use Rattle.std.specs.Prelude.{◌≡◌, ℕ, ◌+◌, ◌<◌, ◌≤◌, Bool, true, false, Option, Some, None, List}
use Rattle.std.specs.Int.{is_power_of_two}
use Rattle.tile_cover.specs.declared.runs.TheConstants.{MAX_ZOOM}
use Rattle.demo_map.specs.declared.squares.TheConstants.{MAX_SQUARES}
use Rattle.run_promise.specs.declared.files.Files.{Files}
use Rattle.run_promise.specs.declared.ranges.TheConstants.{MAX_AHEAD, MAX_BUCKETS, MAX_READERS}

-- a command with its words; a file is told by the place of its word among all words, the command word being at 0
pub data CommandOf : Type 0 where
  points_of : (key : List ℕ) → (files : Files) → CommandOf
  lines_of : (key : List ℕ) → (files : Files) → CommandOf
  init_of : (store : List ℕ) → CommandOf
  import_of : (store : List ℕ) → (files : Files) → (buckets : ℕ) → (workers : ℕ) → CommandOf
  append_of : (store : List ℕ) → (files : Files) → (ahead : ℕ) → (workers : ℕ) → CommandOf
  feed_of : (store : List ℕ) → (files : Files) → (full : Bool) → (workers : ℕ) → CommandOf
  follow_of : (store : List ℕ) → (files : Files) → CommandOf
  export_of : (store : List ℕ) → (table : List ℕ) → CommandOf
  tiles_of : (store : List ℕ) → (least : ℕ) → (clear : Bool) → CommandOf
  query_of : (store : List ℕ) → (files : Files) → CommandOf
  serve_of : (store : List ℕ) → (files : Files) → (workers : ℕ) → (readers : ℕ) → CommandOf
  replay_of : (store : List ℕ) → (files : Files) → (workers : ℕ) → CommandOf
  migrate_of : (store : List ℕ) → CommandOf
  check_of : (store : List ℕ) → CommandOf
  demo_of : (count : ℕ) → (store : List ℕ) → (workers : ℕ) → CommandOf

-- the path of the store that words ask for
abbrev pub store_of : Option CommandOf → Option (List ℕ)
store_of (Some (init_of store)) = Some store
store_of (Some (import_of store files buckets workers)) = Some store
store_of (Some (append_of store files ahead workers)) = Some store
store_of (Some (feed_of store files full workers)) = Some store
store_of (Some (follow_of store files)) = Some store
store_of (Some (export_of store table)) = Some store
store_of (Some (tiles_of store least clear)) = Some store
store_of (Some (query_of store files)) = Some store
store_of (Some (serve_of store files workers readers)) = Some store
store_of (Some (replay_of store files workers)) = Some store
store_of (Some (migrate_of store)) = Some store
store_of (Some (check_of store)) = Some store
store_of (Some (demo_of count store workers)) = Some store
store_of _ = None

-- whether it makes its store
abbrev pub makes_store : Option CommandOf → Bool
makes_store (Some (init_of store)) = true
makes_store (Some (replay_of store files workers)) = true
makes_store (Some (demo_of count store workers)) = true
makes_store _ = false

-- whether it only looks at its store
abbrev pub only_looks : Option CommandOf → Bool
only_looks (Some (export_of store table)) = true
only_looks (Some (query_of store files)) = true
only_looks (Some (tiles_of store least false)) = true
only_looks (Some (check_of store)) = true
only_looks _ = false

-- how a command takes its disk: it has none, it makes a store on it, or the store is there
pub data Use : Type 0 where
  no_store : Use
  new_store : Use
  old_store : Use

abbrev pub use_of : CommandOf → Use
use_of (points_of key files) = no_store
use_of (lines_of key files) = no_store
use_of (init_of store) = new_store
use_of (import_of store files buckets workers) = old_store
use_of (append_of store files ahead workers) = old_store
use_of (feed_of store files full workers) = old_store
use_of (follow_of store files) = old_store
use_of (export_of store table) = old_store
use_of (tiles_of store least clear) = old_store
use_of (query_of store files) = old_store
use_of (serve_of store files workers readers) = old_store
use_of (replay_of store files workers) = new_store
use_of (migrate_of store) = old_store
use_of (check_of store) = old_store
use_of (demo_of count store workers) = new_store

-- the files that a command names, by the places of their words
abbrev pub files_of : CommandOf → Files
files_of (points_of key files) = files
files_of (lines_of key files) = files
files_of (import_of store files buckets workers) = files
files_of (append_of store files ahead workers) = files
files_of (feed_of store files full workers) = files
files_of (follow_of store files) = files
files_of (query_of store files) = files
files_of (serve_of store files workers readers) = files
files_of (replay_of store files workers) = files
files_of _ = record { first = 0; count = 0 }

abbrev pub Names : CommandOf → ℕ → Type 0
Names command file = ((files_of command).first ≤ file) × (file < (files_of command).first + (files_of command).count)

-- there is a file at least, and each is numbered by a word
pub record Fit (files : Files) : Type 0 where
  pub some : 0 < files.count
  pub few : files.first + files.count ≤ 8192

-- there are readers, and not too many
pub record AreReaders (readers : ℕ) : Type 0 where
  pub one : 1 ≤ readers
  pub limit : readers ≤ MAX_READERS

pub record AreBuckets (buckets : ℕ) : Type 0 where
  pub power : is_power_of_two buckets ≡ true
  pub limit : buckets ≤ MAX_BUCKETS

-- there is a square at least, and not too many
pub record AreSquares (count : ℕ) : Type 0 where
  pub one : 1 ≤ count
  pub limit : count ≤ MAX_SQUARES

-- files of which there are so many at least
pub record FitFrom (count : ℕ) (files : Files) : Type 0 where
  pub fit : Fit files
  pub least : count ≤ files.count

abbrev pub FilesFit : CommandOf → Type 0
FilesFit (points_of key files) = Fit files
FilesFit (lines_of key files) = Fit files
FilesFit (init_of store) = Unit {0}
FilesFit (import_of store files buckets workers) = FitFrom 2 files × (files.count ≡ 2) × AreBuckets buckets
FilesFit (append_of store files ahead workers) = FitFrom 2 files × (ahead ≤ MAX_AHEAD)
FilesFit (feed_of store files full workers) = FitFrom 1 files
FilesFit (follow_of store files) = FitFrom 1 files
FilesFit (export_of store table) = Unit {0}
FilesFit (tiles_of store least clear) = least ≤ MAX_ZOOM
FilesFit (query_of store files) = FitFrom 1 files × (files.count ≡ 1)
FilesFit (serve_of store files workers readers) = FitFrom 2 files × AreReaders readers
FilesFit (replay_of store files workers) = FitFrom 3 files
FilesFit (migrate_of store) = Unit {0}
FilesFit (check_of store) = Unit {0}
FilesFit (demo_of count store workers) = AreSquares count
