-- What an import, an append, a feed, a following, a clearing and a check that end well have made of the history that the disk kept, and
-- what they have told.
use Rattle.std.specs.Prelude.{Bool, true, false, ◌≡◌, ◌≤◌, ℕ, zero, suc, ◌+◌, ◌-◌, List, [], ◌∷◌, ◌++◌, flat_map, fold, length, map, Ok}
use Rattle.osm_base.specs.declared.values.object.Entry.{Entry}
use Rattle.delta_feed.specs.Text.{full_text}
use Rattle.delta_feed.specs.declared.block.Block.{Block}
use Rattle.outside.specs.Bytes.{IfTold}
use Rattle.row_rules.specs.Row.{tables}
use Rattle.style_read.specs.Style.{StyleOf}
use Rattle.tile_cover.specs.Table.{BoundsOf}
use Rattle.update_flow.specs.History.{state_after}
use Rattle.update_flow.specs.State.{Holding, formatted, imported, State, Import, Append, Clear, Follow, after, changed, changes_in}
use Rattle.run_promise.specs.Comes.{AreTold}
use Rattle.run_promise.specs.Courses.{IsDeltaText, IsTileText, sound_line, version_line}
use Rattle.run_promise.specs.Files.{IsBounds, IsChange, IsStyle}
use Rattle.run_promise.specs.Followed.{IsFeed, over}
use Rattle.run_promise.specs.Keeps.{Kept, first, whole, with_steps}
use Rattle.run_promise.specs.Progress.{Ending, IsIn, keeps}
use Rattle.run_promise.specs.World.{Before}
use Rattle.run_promise.specs.declared.files.Files.{Files}

-- so many steps of the history that the disk kept stood as the store was opened
pub record StoodAt (before : Kept) (cut : ℕ) : Type 0 where
  pub from : before.least ≤ cut
  pub to : cut ≤ before.most

-- files from this one on were read, and hold these changes where they are told
abbrev pub AreAccepted : Before → (file : ℕ) → List (List Entry) → List ℕ → Type 0
AreAccepted old file [] read = Unit {0}
AreAccepted old file (change ∷ changes) read =
    IsIn read file × IfTold (old.left file) (λ bytes. IsChange file bytes (Ok change)) × AreAccepted old (file + 1) changes read

-- the lines that tell of so many changes, each by its number, behind this one
abbrev pub version_lines : (changes count : ℕ) → List ℕ
version_lines changes zero = []
version_lines changes (suc count) = version_line (changes + 1) ++ version_lines (changes + 1) count

-- The steps behind those that stood are the changes of the files, each file was read whole, and of what was held before, of the boundaries
-- and of the changes this was told.
pub record HasAppended (Told : Holding → BoundsOf → List (List Entry) → Type 0) (old : Before) (files : Files) (before : Kept)
    (ending : Ending) : Type 0 where
  pub cut : ℕ
  pub stood : StoodAt before cut
  pub held : Holding
  pub held_is : state_after (first cut before.history) ≡ imported held
  pub bounds : BoundsOf
  pub bounds_read : IsIn ending.done.read files.first
  pub bounds_are : IfTold (old.left files.first) (λ bytes. IsBounds files.first bytes (Ok bounds))
  pub changes : List (List Entry)
  pub many : length changes ≡ files.count - 1
  pub accepted : AreAccepted old (files.first + 1) changes ending.done.read
  pub kept : ending.done.store ≡ keeps (whole (with_steps (map (λ change. Append bounds change) changes) (first cut before.history)))
  pub told : Told held bounds changes

-- a line was told of each change
abbrev pub IsAppended : Before → Files → (before : Kept) → Ending → Type 0
IsAppended old files before ending =
    HasAppended (λ held bounds changes. ending.done.written ≡ version_lines held.changes (length changes)) old files before ending

-- one block behind another, each tells what a change has made of the tables
abbrev pub TellChanges : BoundsOf → Holding → List (List Entry) → List ℕ → Type 0
TellChanges bounds held [] text = text ≡ []
TellChanges bounds held (change ∷ changes) text = (own : List ℕ) × (later : List ℕ) × IsDeltaText held (changed bounds change held) own
    × TellChanges bounds (changed bounds change held) changes later × (text ≡ own ++ later)

-- the block of all tables, where it is asked for
abbrev pub first_block : (full : Bool) → Holding → List ℕ
first_block false held = []
first_block true held = full_text held.changes held.style_bytes (tables held.style held.objects)

-- where all files are told, the output took the block of each change, behind that of all tables where it is asked for
abbrev pub IsFed : Before → Files → (full : Bool) → (before : Kept) → Ending → Type 0
IsFed old files full before ending =
    HasAppended (λ held bounds changes. AreTold old ending.done.read → (later : List ℕ) × TellChanges bounds held changes later
    × (ending.done.written ≡ first_block full held ++ later)) old files before ending

-- the state behind blocks
abbrev pub behind_all : State → List Block → State
behind_all state told = fold (λ now block. after now (Follow block)) state told

-- the lines that tell of these blocks, each by the version of the tables behind it
abbrev pub versions_told : State → List Block → List ℕ
versions_told state [] = []
versions_told state (block ∷ later) =
    let next = after state (Follow block) in version_line (changes_in next) ++ versions_told next later

-- files from this one on were read, and are these blocks for a store of this state where they are told
abbrev pub AreFollowed : Before → (file : ℕ) → State → List (List Block) → List ℕ → Type 0
AreFollowed old file state [] read = Unit {0}
AreFollowed old file state (told ∷ others) read =
    IsIn read file × IfTold (old.left file) (λ bytes. IsFeed file state bytes told over)
    × AreFollowed old (file + 1) (behind_all state told) others read

-- the steps behind those that stood are the blocks of the files, each file was read whole, and each block was told
pub record IsFollowed (old : Before) (files : Files) (before : Kept) (ending : Ending) : Type 0 where
  pub cut : ℕ
  pub stood : StoodAt before cut
  pub each : List (List Block)
  pub many : length each ≡ files.count
  pub accepted : AreFollowed old files.first (state_after (first cut before.history)) each ending.done.read
  pub kept : ending.done.store ≡ keeps (whole (with_steps (map Follow (flat_map (λ told. told) each)) (first cut before.history)))
  pub told : ending.done.written ≡ versions_told (state_after (first cut before.history)) (flat_map (λ told. told) each)

-- nothing was imported before, the one step behind is the import of the file, both files were read whole, and that was told
pub record IsFirstImport (old : Before) (files : Files) (buckets : ℕ) (before : Kept) (ending : Ending) : Type 0 where
  pub cut : ℕ
  pub stood : StoodAt before cut
  pub blank : state_after (first cut before.history) ≡ formatted
  pub style : StyleOf × List ℕ
  pub style_read : IsIn ending.done.read files.first
  pub style_is : IfTold (old.left files.first) (λ bytes. IsStyle files.first bytes (Ok style))
  pub entries : List Entry
  pub accepted : AreAccepted old (files.first + 1) (entries ∷ []) ending.done.read
  pub kept : ending.done.store ≡ keeps (whole (with_steps (Import style.0 style.1 buckets entries ∷ []) (first cut before.history)))
  pub told : ending.done.written ≡ version_line 0

-- the tiles that were due were written, and the one step behind is their clearing
pub record IsCleared (least : ℕ) (before : Kept) (ending : Ending) : Type 0 where
  pub cut : ℕ
  pub stood : StoodAt before cut
  pub held : Holding
  pub held_is : state_after (first cut before.history) ≡ imported held
  pub kept : ending.done.store ≡ keeps (whole (with_steps (Clear ∷ []) (first cut before.history)))
  pub told : IsTileText held.due least ending.done.written

-- no step is behind those that stood, and that the store is sound was told
pub record IsFoundSound (before : Kept) (ending : Ending) : Type 0 where
  pub cut : ℕ
  pub stood : StoodAt before cut
  pub kept : ending.done.store ≡ keeps (whole (first cut before.history))
  pub told : ending.done.written ≡ sound_line
