-- What the lines of a file of blocks come to, as docs/STANDARDS.md, "Feeds", states it: the next block, nothing, or the first fault.
use Rattle.std.specs.Prelude.{◌≡◌, ◌⊎◌, ℕ, ◌+◌, ◌==◌, ◌&&◌, nat_lt, Bool, false, if◌then◌else◌, List, [], ◌∷◌, length, Option, None, Some, Result, Ok, Err, codes}
use Rattle.std.specs.Str.{bytes_eq}
use Rattle.osm_base.specs.declared.bounds.limits.LimitKind.TheVariants as kinds
use Rattle.osm_base.specs.declared.bounds.limits.LimitNumbers.{LimitNumbers}
use Rattle.style_read.specs.Style.{StyleOf}
use Rattle.delta_feed.specs.Line.{line_in}
use Rattle.delta_feed.specs.Stage.{place_of}
use Rattle.delta_feed.specs.Turn.{IsTurn}
use Rattle.delta_feed.specs.Words.{words_of}
use Rattle.delta_feed.specs.declared.block.Block.{Block}
use Rattle.delta_feed.specs.declared.block.Stage.{Stage}
use Rattle.delta_feed.specs.declared.block.Stage.TheVariants as stages
use Rattle.delta_feed.specs.declared.fault.FeedFault.{FeedFault}
use Rattle.delta_feed.specs.declared.fault.FeedFault.TheVariants as faults
use Rattle.delta_feed.specs.declared.fault.FeedWhy.{FeedWhy}
use Rattle.delta_feed.specs.declared.fault.FeedWhy.TheVariants as whys
use Rattle.delta_feed.specs.declared.hexes.TheConstants.{LINE_BYTES}
use Rattle.delta_feed.specs.declared.line.FeedLine.{FeedLine}
use Rattle.delta_feed.specs.declared.line.FeedLine.TheVariants as lines
use Rattle.delta_feed.specs.declared.turn.Turn.{Turn}
use Rattle.delta_feed.specs.declared.turn.Turn.TheVariants as turns

-- ---- a line and the next one

-- the first of words is `more`
abbrev pub is_more : List (List ℕ) → Bool
is_more [] = false
is_more (word ∷ words) = bytes_eq word (codes "more")

-- the first of lines says `more`
unfoldable pub more_comes : List (List ℕ) → Bool
more_comes [] = false
more_comes (line ∷ lines) = is_more (words_of line)

-- a line has the most digits
abbrev pub is_full : FeedLine → Bool
is_full (lines.Style bytes) = length bytes == LINE_BYTES
is_full (lines.Set spot bytes) = length bytes == LINE_BYTES
is_full (lines.More bytes) = length bytes == LINE_BYTES
is_full line = false

-- its bytes go on in the lines behind it
abbrev pub goes_on : FeedLine → List (List ℕ) → Bool
goes_on line behind = is_full line && more_comes behind

-- the limit that the line behind so many lines passes, if it passes one
abbrev pub limit_at : LimitNumbers → (number : ℕ) → List ℕ → Option FeedFault
limit_at limits number line =
    if number == limits.lines then Some (faults.Limit kinds.FileLines (limits.lines + 1)) else
    if nat_lt limits.line_bytes (length line) then Some (faults.Limit kinds.LineBytes (limits.line_bytes + 1)) else None

-- the line behind so many lines, or the fault that it has by itself: a limit that it passes, or the first cause
abbrev pub unless_bad : (number : ℕ) → Result FeedLine FeedWhy → Result FeedLine FeedFault
unless_bad number (Ok line) = Ok line
unless_bad number (Err why) = Err (faults.Bad (number + 1) why)

abbrev pub unless_limit : Option FeedFault → Result FeedLine FeedFault → Result FeedLine FeedFault
unless_limit None read = read
unless_limit (Some fault) read = Err fault

unfoldable pub line_at : LimitNumbers → Stage → (number : ℕ) → List ℕ → Result FeedLine FeedFault
line_at limits stage number line = unless_limit (limit_at limits number line) (unless_bad number (line_in (place_of stage) line))

-- ---- what lines come to

-- nothing, as the file ended between two blocks; a block, behind so many lines, and the lines behind it; or a fault
pub data Found : Type 0 where
  nothing : Found
  whole : Block → (number : ℕ) → (rest : List (List ℕ)) → Found
  refused : FeedFault → Found

-- where no line comes any more behind so many lines
abbrev pub over : Stage → (number : ℕ) → Found
over stages.Between number = nothing
over stage number = refused (faults.Bad (number + 1) whys.End)

-- what follows from what a line made, which is now the last of so many lines
abbrev pub Follows : (Stage → Found → Type 0) → (number : ℕ) → List (List ℕ) → Result Turn FeedWhy → Found → Type 0
Follows Goes number rest (Ok (turns.On stage)) found = Goes stage found
Follows Goes number rest (Ok (turns.Whole block)) found = found ≡ whole block number rest
Follows Goes number rest (Ok turns.NoBase) found = found ≡ refused (faults.NoBase number)
Follows Goes number rest (Err why) found = found ≡ refused (faults.Bad number why)

-- a line has this fault by itself, or says this and makes that of so much of a block
abbrev pub Takes : LimitNumbers → Option StyleOf → (Stage → Found → Type 0) → Stage → (number : ℕ) → List ℕ → List (List ℕ) → Found → Type 0
Takes limits base Goes stage number line rest found =
    ((fault : FeedFault) × (line_at limits stage number line ≡ Err fault) × (found ≡ refused fault))
    ⊎ ((read : FeedLine) × (result : Result Turn FeedWhy) × (line_at limits stage number line ≡ Ok read)
    × IsTurn base stage read (goes_on read rest) result × Follows Goes (number + 1) rest result found)

-- lines behind so many others, of which so much of a block was read over this style, come to this
unfoldable pub Comes : LimitNumbers → Option StyleOf → Stage → (number : ℕ) → List (List ℕ) → Found → Type 0
Comes limits base stage number [] found = found ≡ over stage number
Comes limits base stage number (line ∷ rest) found =
    Takes limits base (λ next own. Comes limits base next (number + 1) rest own) stage number line rest found
