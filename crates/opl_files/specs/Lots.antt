-- A file that is read by lots: the lines of each are read side by side, and put behind those before.
-- So at each moment the whole file comes to what the lines that were taken come to with all that is behind them (`HasLines`): the bytes
-- that are kept, of which no line was taken yet, and those that are left in the file.
use Rattle.std.specs.Prelude.{◌≡◌, ◌≤◌, ℕ, ◌*◌, List, [], ◌++◌, length, take, Option, Bool, false, true}
use Rattle.osm_base.specs.declared.bounds.limits.LimitNumbers.{LimitNumbers}
use Rattle.osm_base.specs.declared.values.object.Entry.{Entry}
use Rattle.osm_base.specs.values.Key.{KeyOf}
use Rattle.outside.specs.Bytes.{BothKnown}
use Rattle.opl_files.specs.declared.ahead.Ahead.{Ahead}
use Rattle.opl_files.specs.declared.lots.LotReader.{LotReader}
use Rattle.opl_files.specs.declared.passed.Passed.{Passed}
use Rattle.opl_files.specs.declared.waiting.Waiting.{Waiting}
use Rattle.opl_files.specs.Ahead.{HasRoom, most_of_lot}
use Rattle.opl_files.specs.Entries.{entries_of}
use Rattle.opl_files.specs.Keeps.{kept_all}
use Rattle.opl_files.specs.Parts.{AreShares, GoesOn, TakesLines, keeps_to, none_passed}
use Rattle.opl_files.specs.Reading.{LeavesOpen}

-- of these bytes those that come later were not read: so many at most were behind bytes that left each fault open
pub record StopsWithin (most : ℕ) (limits : LimitNumbers) (bytes later : List ℕ) : Type 0 where
  pub before : List ℕ
  pub last : List ℕ
  pub parts : bytes ≡ before ++ (last ++ later)
  pub undecided : LeavesOpen limits before
  pub few : length last ≤ most

-- the file was read no further than so many bytes behind the last that left each fault open
abbrev pub ReadsNoFurtherThan : ℕ → LimitNumbers → Option (List ℕ) → Option (List ℕ) → Type 0
ReadsNoFurtherThan most limits left rest = BothKnown left rest (λ bytes later. StopsWithin most limits bytes later)

-- of the bytes of a file these lines were taken, behind them these bytes are kept, and the later ones are not read: the file makes of the
-- first keeper what the rest of it makes of this one
pub record HasLines {K : Type 0} (after : K → Entry → K) (limits : LimitNumbers) (first : K) (passed : Passed) (keeper : K)
    (kept bytes later : List ℕ) : Type 0 where
  pub front : List ℕ
  pub parts : bytes ≡ front ++ (kept ++ later)
  pub same : (rest : List ℕ) → kept_all after first (entries_of limits (front ++ rest)) ≡ keeps_to after limits passed keeper rest

-- so far was read since the start of the file: these lines were taken, and these bytes are kept
abbrev pub HasLots : {K : Type 0} → (K → Entry → K) → LimitNumbers → K → Passed → K → List ℕ → Option (List ℕ) → Option (List ℕ) → Type 0
HasLots after limits first passed keeper kept left rest =
    BothKnown left rest (λ bytes later. HasLines after limits first passed keeper kept bytes later)

-- the file is at its end
abbrev pub IsAtEnd : Option (List ℕ) → Option (List ℕ) → Type 0
IsAtEnd left rest = BothKnown left rest (λ bytes later. later ≡ [])

-- so far was read, and where no more comes the file is at its end
pub record HasCome {K : Type 0} (after : K → Entry → K) (limits : LimitNumbers) (first : K) (passed : Passed) (keeper : K) (kept : List ℕ)
    (more : Bool) (left rest : Option (List ℕ)) : Type 0 where
  pub lots : HasLots after limits first passed keeper kept left rest
  pub ended : more ≡ false → IsAtEnd left rest

-- the bytes of the lot that waits, and then those that were read behind it
abbrev pub all_kept : LotReader → List ℕ
all_kept reader = reader.waiting.bytes.items ++ reader.ahead.kept.items

-- so far a reader has come
abbrev pub IsThere : {K : Type 0} → (K → Entry → K) → LimitNumbers → K → LotReader → K → Option (List ℕ) → Option (List ℕ) → Type 0
IsThere after limits first reader keeper left rest =
    HasCome after limits first reader.waiting.passed keeper (all_kept reader) reader.ahead.more left rest

-- the most bytes that are kept: those of the lot that waits, of the one that is read, and of the next
abbrev pub most_kept : LotReader → ℕ
most_kept reader = 3 * most_of_lot reader.ahead

-- nothing is read yet
pub record IsNew (lot : ℕ) (reader : LotReader) : Type 0 where
  pub room : HasRoom reader.ahead
  pub size : reader.ahead.lot ≡ lot
  pub more : reader.ahead.more ≡ true
  pub kept : reader.ahead.kept.items ≡ []
  pub bytes : reader.waiting.bytes.items ≡ []
  pub shares : reader.waiting.shares.items ≡ []
  pub passed : reader.waiting.passed ≡ none_passed

-- a keeper may be given the entries of the lot that waits, and the next one be read ahead
pub record IsReady {K : Type 0} (takes : K → KeyOf → Type 0) (limits : LimitNumbers) (waiting : Waiting) (keeper : K) (ahead : Ahead) : Type 0 where
  pub goes : GoesOn takes limits waiting.passed keeper
  pub shares : AreShares limits waiting.bytes.items waiting.shares.items
  pub room : HasRoom ahead
  pub few : length ahead.kept.items ≤ most_of_lot ahead

-- of a lot that waited so many bytes were taken, and no share waits any longer
pub record Gives {K : Type 0} (takes : K → KeyOf → Type 0) (after : K → Entry → K) (limits : LimitNumbers) (old : Waiting) (before : K)
    (used : ℕ) (new : Waiting) (now : K) : Type 0 where
  pub bytes : new.bytes.items ≡ old.bytes.items
  pub none : new.shares.items ≡ []
  pub within : used ≤ length old.bytes.items
  pub lines : TakesLines after limits old.passed before (take used old.bytes.items) new.passed now []
  pub goes : GoesOn takes limits new.passed now

-- there is room for a read, a keeper may be given the entries behind the lines that were taken, the lot that waits has its
-- shares, and there are no more bytes than may be
pub record IsReading {K : Type 0} (takes : K → KeyOf → Type 0) (limits : LimitNumbers) (reader : LotReader) (keeper : K) : Type 0 where
  pub room : HasRoom reader.ahead
  pub goes : GoesOn takes limits reader.waiting.passed keeper
  pub shares : AreShares limits reader.waiting.bytes.items reader.waiting.shares.items
  pub few : length reader.waiting.bytes.items ≤ most_of_lot reader.ahead
  pub next : length reader.ahead.kept.items ≤ 2 * most_of_lot reader.ahead

-- the next lot may be read beside the one that waits
pub record MayTakeLot {K : Type 0} (takes : K → KeyOf → Type 0) (limits : LimitNumbers) (reader : LotReader) (keeper : K) : Type 0 where
  pub reading : IsReading takes limits reader keeper
  pub next : length reader.ahead.kept.items ≤ most_of_lot reader.ahead

-- no lot waits, and one reader may go on behind the lines that were taken
pub record IsSettled {K : Type 0} (takes : K → KeyOf → Type 0) (limits : LimitNumbers) (reader : LotReader) (keeper : K) : Type 0 where
  pub room : HasRoom reader.ahead
  pub goes : GoesOn takes limits reader.waiting.passed keeper
  pub few : length reader.ahead.kept.items ≤ most_kept reader

-- one reader may go on, and lots are as long as they were
pub record Settles {K : Type 0} (takes : K → KeyOf → Type 0) (limits : LimitNumbers) (old new : LotReader) (keeper : K) : Type 0 where
  pub settled : IsSettled takes limits new keeper
  pub lot : new.ahead.lot ≡ old.ahead.lot
