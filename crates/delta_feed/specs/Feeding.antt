-- How far a file of blocks was read.
use Rattle.std.specs.Prelude.{◌≡◌, ◌⊎◌, ◌<◌, ◌≤◌, ℕ, ◌+◌, ◌==◌, ◌&&◌, ◌||◌, List, [], ◌∷◌, ◌++◌, length, Bool, true, false, Option, None, Some, Result, Ok, Err, if◌then◌else◌, Contains}
use Rattle.opl_lines.specs.declared.reader.TheConstants.{NEWLINE}
use Rattle.opl_lines.specs.Lines.{lines_of}
use Rattle.opl_lines.specs.Reading.{KeepsLimits, begun}
use Rattle.style_read.specs.Style.{StyleOf}
use Rattle.delta_feed.specs.Blocks.{Comes, Found, limit_at, whole}
use Rattle.delta_feed.specs.Line.{line_in}
use Rattle.delta_feed.specs.Stage.{place_of}
use Rattle.delta_feed.specs.Turn.{IsTurn}
use Rattle.delta_feed.specs.declared.block.Block.{Block}
use Rattle.delta_feed.specs.declared.block.Stage.{Stage}
use Rattle.delta_feed.specs.declared.block.Stage.TheVariants as stages
use Rattle.delta_feed.specs.declared.fault.FeedFault.{FeedFault}
use Rattle.delta_feed.specs.declared.fault.FeedFault.TheVariants as faults
use Rattle.delta_feed.specs.declared.fault.FeedWhy.TheVariants as whys
use Rattle.delta_feed.specs.declared.line.FeedLine.{FeedLine}
use Rattle.delta_feed.specs.declared.reader.FeedReader.{FeedReader}
use Rattle.delta_feed.specs.declared.turn.Turn.{Turn}
use Rattle.delta_feed.specs.declared.turn.Turn.TheVariants as turns
use Rattle.delta_feed.specs.declared.words.TheConstants.{SPACE}

-- its lines keep its limits, and have passed none
pub record IsReading (reader : FeedReader) : Type 0 where
  pub no_fault : reader.lines.failed ≡ None
  pub line_bytes : reader.lines.line_bytes ≡ reader.limits.line_bytes
  pub most : reader.lines.lines ≡ reader.limits.lines
  pub keeps : KeepsLimits reader.lines

-- it may be asked for a block: no line is begun, and it has refused nothing
pub record IsGoing (reader : FeedReader) : Type 0 where
  pub whole : reader.lines.whole ≡ true
  pub ready : IsReading reader

-- the file and the limits of a reader stay
pub record IsSameReader (old new : FeedReader) : Type 0 where
  pub file : new.file ≡ old.file
  pub limits : new.limits ≡ old.limits

-- the lines that are left, where so many bytes are left of the file
abbrev pub lines_left : FeedReader → List ℕ → List (List ℕ)
lines_left reader left = lines_of (reader.ahead ++ left)

-- one line was taken, if there was one
abbrev pub TakesOne : (taken : Bool) → (line : List ℕ) → (before after : List (List ℕ)) → Type 0
TakesOne true line before after = before ≡ line ∷ after
TakesOne false line before after = (before ≡ []) × (after ≡ [])

-- how many lines that are
abbrev pub one_if : Bool → ℕ
one_if taken = if taken then 1 else 0

-- the line that comes passes this limit
abbrev pub PassesLimit : FeedReader → List (List ℕ) → FeedFault → Type 0
PassesLimit reader [] fault = ⊥
PassesLimit reader (line ∷ rest) fault = limit_at reader.limits reader.lines.number line ≡ Some fault

-- and this line passes none
pub record IsWithinLimits (reader : FeedReader) (line : List ℕ) : Type 0 where
  pub counted : reader.lines.number < reader.limits.lines
  pub fits : length line ≤ reader.limits.line_bytes

-- bytes were taken up to and with a newline, or all of them
pub record TakesPiece (old new : FeedReader) (taken : Bool) : Type 0 where
  pub lines_are : (later : List ℕ) → lines_of (begun old.lines ++ (old.ahead ++ later))
      ≡ (if taken then new.lines.line ∷ [] else []) ++ lines_of (begun new.lines ++ (new.ahead ++ later))
  pub ends : taken ≡ true → new.lines.whole ≡ true
  pub all : taken ≡ false → new.ahead ≡ []
  pub number : new.lines.number ≡ old.lines.number + one_if taken
  pub fits : taken ≡ true → IsWithinLimits old new.lines.line

-- behind the first word of a line stands a space, a newline, or nothing
abbrev pub ends_word : ℕ → Bool
ends_word byte = (byte == SPACE) || (byte == NEWLINE)

-- bytes begin with this word, as far as they go
abbrev pub says : (word : List ℕ) → List ℕ → Bool
says [] [] = true
says [] (byte ∷ bytes) = ends_word byte
says (letter ∷ letters) [] = false
says (letter ∷ letters) (byte ∷ bytes) = (byte == letter) && says letters bytes

-- bytes that tell whether the line that they begin says `more`
abbrev pub IsEnough : List ℕ → Type 0
IsEnough bytes = (5 ≤ length bytes) ⊎ Contains bytes NEWLINE

-- bytes were read until there were enough, or the file was at its end
abbrev pub IsSeen : (old new : List ℕ) → (before after : List ℕ) → Type 0
IsSeen old new before after = (old ++ before ≡ new ++ after) × (IsEnough new ⊎ (after ≡ []))

-- the first cause of a line by itself
abbrev pub IsLineFault : Stage → (number : ℕ) → List ℕ → FeedFault → Type 0
IsLineFault stage number line (faults.Bad at why) = (line_in (place_of stage) line ≡ Err why) × (at ≡ number)
IsLineFault stage number line fault = ⊥

-- and that of a line behind so much of a block
abbrev pub IsTurnFault : Option StyleOf → Stage → FeedLine → (goes_on : Bool) → (number : ℕ) → FeedFault → Type 0
IsTurnFault base stage read goes_on number (faults.Bad at why) = IsTurn base stage read goes_on (Err why) × (at ≡ number)
IsTurnFault base stage read goes_on number (faults.NoBase at) = IsTurn base stage read goes_on (Ok turns.NoBase) × (at ≡ number)
IsTurnFault base stage read goes_on number fault = ⊥

-- a turn goes on with a block, or ends it
abbrev pub onward : Turn → (number : ℕ) → Result (Option Turn) FeedFault
onward turns.NoBase number = Err (faults.NoBase number)
onward turn number = Ok (Some turn)

abbrev pub IsOnward : Option Turn → Type 0
IsOnward None = ⊥
IsOnward (Some turns.NoBase) = ⊥
IsOnward (Some turn) = Unit {0}

-- where no line comes any more behind so many lines
abbrev pub ended : Stage → (number : ℕ) → Result (Option Turn) FeedFault
ended stages.Between number = Ok None
ended stage number = Err (faults.Bad (number + 1) whys.End)

-- what lines come to is what those come to that are left behind a turn
abbrev pub Leads : Option StyleOf → Stage → (old new : FeedReader) → (before after : List (List ℕ)) → Option Turn → Type 0
Leads base stage old new before after None = (stage ≡ stages.Between) × (before ≡ []) × (after ≡ [])
Leads base stage old new before after (Some (turns.On next)) = (found : Found)
    → Comes old.limits base next new.lines.number after found → Comes old.limits base stage old.lines.number before found
Leads base stage old new before after (Some (turns.Whole block)) =
    Comes old.limits base stage old.lines.number before (whole block new.lines.number after)
Leads base stage old new before after (Some turns.NoBase) = ⊥

-- the next block, or none
abbrev pub GivesBlock : Option StyleOf → (old new : FeedReader) → (before after : List (List ℕ)) → Option Block → Type 0
GivesBlock base old new before after None = (before ≡ []) × (after ≡ [])
GivesBlock base old new before after (Some block) =
    Comes old.limits base stages.Between old.lines.number before (whole block new.lines.number after)
