-- When each fault comes: the words, the bytes or the failed call that is to blame for it.
use Rattle.std.specs.Prelude.{◌≡◌, ◌≢◌, ◌⊎◌, ℕ, length}
use Rattle.osm_base.specs.declared.bounds.limits.LimitKind.{LimitKind}
use Rattle.osm_base.specs.declared.bounds.limits.LimitKind.TheVariants.{Pages, Pending, Changes}
use Rattle.outside.specs.Bytes.{IfTold}
use Rattle.page_journal.specs.Home.{IsFormatted}
use Rattle.run_promise.specs.declared.fault.Fault.{Fault}
use Rattle.run_promise.specs.declared.fault.Fault.TheVariants.{Usage, Malformed, BadStyle, BadBounds, BadQuery, BadFeed, Gap, Limit}
use Rattle.run_promise.specs.declared.fault.Fault.TheVariants.{ReadFault}
use Rattle.run_promise.specs.declared.fault.Fault.TheVariants.{NotFormatted, NotEmpty, NotImported, AlreadyImported, OldFormat, Follower}
use Rattle.run_promise.specs.declared.fault.Fault.TheVariants.{UnknownTable, BadStore, WriteFault, DiskFault, OutOfMemory}
use Rattle.run_promise.specs.CommandOf.{CommandOf, migrate_of, Names, no_store, new_store, old_store, use_of}
use Rattle.run_promise.specs.Reading.{HasFault}
use Rattle.run_promise.specs.World.{World, Before, ReadFailed, WriteFailed, DiskFailed}

-- a file of the command has this fault, where it is told
abbrev pub FileHas : CommandOf → Before → (file : ℕ) → Fault → Type 0
FileHas command old file fault = Names command file × IfTold (old.left file) (λ bytes. HasFault command file bytes fault)

-- how the command takes its disk
abbrev pub HasStore : CommandOf → Type 0
HasStore command = use_of command ≢ no_store

abbrev pub MakesStore : CommandOf → Type 0
MakesStore command = use_of command ≡ new_store

abbrev pub OpensStore : CommandOf → Type 0
OpensStore command = use_of command ≡ old_store

-- it opens its store, and does not migrate it
abbrev pub WantsNewFormat : CommandOf → Type 0
WantsNewFormat (migrate_of store) = ⊥
WantsNewFormat command = OpensStore command

-- a limit of stores
abbrev pub IsStoreLimit : LimitKind → Type 0
IsStoreLimit Pages = Unit {0}
IsStoreLimit Pending = Unit {0}
IsStoreLimit Changes = Unit {0}
IsStoreLimit _ = ⊥

-- a store passed its limit, or a file of the command did
abbrev pub IsOver : CommandOf → Before → (which : LimitKind) → (value : ℕ) → Type 0
IsOver command old which value = (IsStoreLimit which × HasStore command) ⊎ ((file : ℕ) × FileHas command old file (Limit which value))

abbrev pub Cause : CommandOf → Before → World → Fault → Type 0
Cause command old new Usage = ⊥
Cause command old new (Malformed file line why) = FileHas command old file (Malformed file line why)
Cause command old new (BadStyle file why part) = FileHas command old file (BadStyle file why part)
Cause command old new (BadBounds file line) = FileHas command old file (BadBounds file line)
Cause command old new (BadQuery file line why) = FileHas command old file (BadQuery file line why)
Cause command old new (BadFeed file line why) = FileHas command old file (BadFeed file line why)
Cause command old new (Gap file have got) = FileHas command old file (Gap file have got)
Cause command old new (Limit which value) = IsOver command old which value
Cause command old new (ReadFault file) = Names command file × ReadFailed old new
Cause command old new NotFormatted = OpensStore command × IfTold old.content (λ bytes. ¬ IsFormatted bytes)
Cause command old new NotImported = HasStore command
Cause command old new AlreadyImported = HasStore command
Cause command old new OldFormat = WantsNewFormat command
Cause command old new Follower = OpensStore command
Cause command old new UnknownTable = OpensStore command
-- a store that was made on a disk that tells what it holds is not damaged
Cause command old new (BadStore page) = HasStore command × IfTold old.content (λ _. OpensStore command)
Cause command old new NotEmpty = MakesStore command × IfTold old.content (λ bytes. length bytes ≢ 0)
Cause command old new WriteFault = WriteFailed old new
Cause command old new DiskFault = HasStore command × DiskFailed old new
Cause command old new OutOfMemory = Unit {0}
