-- From what is said of a line to what lines come to.
use Rattle.std.proofs.Common.{◌≡◌, ℕ, ◌+◌, ◌==◌, Bool, false, List, [], ◌∷◌, length, Ok, Err, Option, Some, None, refl, sym, ap, ◌∙◌, subst, inl, inr, arith}
use Rattle.std.proofs.lemmas.Bool.{le-ltb, ne_eqb}
use Rattle.osm_base.specs.declared.bounds.limits.LimitNumbers.{LimitNumbers}
use Rattle.style_read.specs.Style.{StyleOf}
use Rattle.delta_feed.specs.Blocks.{Comes, Found, goes_on, limit_at, line_at, over, refused, whole}
use Rattle.delta_feed.specs.Feeding.{IsLineFault, IsOnward, IsTurnFault, IsWithinLimits, Leads, PassesLimit}
use Rattle.delta_feed.specs.Line.{line_in}
use Rattle.delta_feed.specs.Stage.{place_of}
use Rattle.delta_feed.specs.Turn.{IsTurn}
use Rattle.delta_feed.specs.declared.block.Stage.{Stage}
use Rattle.delta_feed.specs.declared.fault.FeedFault.{FeedFault}
use Rattle.delta_feed.specs.declared.fault.FeedFault.TheVariants as faults
use Rattle.delta_feed.specs.declared.fault.FeedWhy.{FeedWhy}
use Rattle.delta_feed.specs.declared.line.FeedLine.{FeedLine}
use Rattle.delta_feed.specs.declared.reader.FeedReader.{FeedReader}
use Rattle.delta_feed.specs.declared.turn.Turn.{Turn}
use Rattle.delta_feed.specs.declared.turn.Turn.TheVariants as turns

-- a line that passes no limit
within : (reader : FeedReader) (line : List ℕ) → IsWithinLimits reader line → limit_at reader.limits reader.lines.number line ≡ None
within reader line fits =
    let other : (reader.lines.number == reader.limits.lines) ≡ false = ne_eqb _ _ (λ e. omega (arith, e, fits.counted)) in
    rw (other, le-ltb reader.limits.line_bytes (length line) fits.fits) refl

said : (reader : FeedReader) (stage : Stage) (line : List ℕ) (read : FeedLine) → IsWithinLimits reader line → line_in (place_of stage) line ≡ Ok read
    → line_at reader.limits stage reader.lines.number line ≡ Ok read
unfolding line_at
said reader stage line read fits is = rw (within reader line fits, is) refl

unsaid : (reader : FeedReader) (stage : Stage) (line : List ℕ) (why : FeedWhy) → IsWithinLimits reader line → line_in (place_of stage) line ≡ Err why
    → line_at reader.limits stage reader.lines.number line ≡ Err (faults.Bad (reader.lines.number + 1) why)
unfolding line_at
unsaid reader stage line why fits is = rw (within reader line fits, is) refl

limited : (reader : FeedReader) (stage : Stage) (line : List ℕ) (fault : FeedFault) → limit_at reader.limits reader.lines.number line ≡ Some fault
    → line_at reader.limits stage reader.lines.number line ≡ Err fault
unfolding line_at
limited reader stage line fault is = rw is refl

-- a line that was taken leads on
taken : (base : Option StyleOf) (stage : Stage) (old new : FeedReader) (line : List ℕ) (rest : List (List ℕ)) (read : FeedLine) (goes : Bool) (turn : Turn)
    → IsWithinLimits old line → line_in (place_of stage) line ≡ Ok read → goes ≡ goes_on read rest → IsTurn base stage read goes (Ok turn)
    → new.lines.number ≡ old.lines.number + 1 → IsOnward (Some turn) → Leads base stage old new (line ∷ rest) rest (Some turn)
unfolding Comes
taken base stage old new line rest read goes (turns.On next) fits is same turn number some = λ found comes.
    inr (
      read,
      Ok (turns.On next),
      said old stage line read fits is,
      subst (λ own. IsTurn base stage read own (Ok (turns.On next))) same turn,
      subst (λ n. Comes old.limits base next n rest found) number comes,
    )
taken base stage old new line rest read goes (turns.Whole block) fits is same turn number some =
    inr (
      read,
      Ok (turns.Whole block),
      said old stage line read fits is,
      subst (λ own. IsTurn base stage read own (Ok (turns.Whole block))) same turn,
      ap (λ n. whole block n rest) number,
    )
taken base stage old new line rest read goes turns.NoBase fits is same turn number some = absurd some

pub leads : (base : Option StyleOf) (stage : Stage) (old new : FeedReader) (line : List ℕ) (lines behind rest : List (List ℕ)) (read : FeedLine) (goes : Bool) (turn : Turn)
    → IsWithinLimits old line → line_in (place_of stage) line ≡ Ok read → IsTurn base stage read goes (Ok turn)
    → new.lines.number ≡ old.lines.number + 1 → IsOnward (Some turn)
    → lines ≡ line ∷ behind → (behind ≡ rest) × (goes ≡ goes_on read rest) → Leads base stage old new lines rest (Some turn)
leads base stage old new line lines behind rest read goes turn fits is made number some first seen =
    let all : line ∷ rest ≡ lines = ap (λ own. line ∷ own) (sym seen.0) ∙ sym first in
    subst (λ own. Leads base stage old new own rest (Some turn)) all (taken base stage old new line rest read goes turn fits is seen.1 made number some)

-- the file is at its end
pub ends : (base : Option StyleOf) (stage : Stage) (limits : LimitNumbers) (number : ℕ) (lines : List (List ℕ)) (found : Found) → lines ≡ [] → found ≡ over stage number
    → Comes limits base stage number lines found
unfolding Comes
ends base stage limits number lines found none is = subst (λ own. Comes limits base stage number own found) (sym none) is

-- a line that is refused
pub stops_limit : (base : Option StyleOf) (stage : Stage) (reader : FeedReader) (lines : List (List ℕ)) (fault : FeedFault) → PassesLimit reader lines fault
    → Comes reader.limits base stage reader.lines.number lines (refused fault)
unfolding Comes
stops_limit base stage reader [] fault passes = absurd passes
stops_limit base stage reader (line ∷ rest) fault passes = inl (fault, limited reader stage line fault passes, refl)

line_stops : (base : Option StyleOf) (stage : Stage) (reader : FeedReader) (line : List ℕ) (rest : List (List ℕ)) (number : ℕ) (fault : FeedFault)
    → IsWithinLimits reader line → number ≡ reader.lines.number + 1 → IsLineFault stage number line fault
    → Comes reader.limits base stage reader.lines.number (line ∷ rest) (refused fault)
unfolding Comes
line_stops base stage reader line rest number (faults.Bad at why) fits is fault =
    inl (faults.Bad at why, unsaid reader stage line why fits fault.0 ∙ ap (λ n. Err (faults.Bad n why)) (sym (fault.1 ∙ is)), refl)
line_stops base stage reader line rest number (faults.NoBase at) fits is fault = absurd fault
line_stops base stage reader line rest number (faults.Limit which value) fits is fault = absurd fault
line_stops base stage reader line rest number faults.ReadFault fits is fault = absurd fault
line_stops base stage reader line rest number faults.OutOfMemory fits is fault = absurd fault

pub stops_line : (base : Option StyleOf) (stage : Stage) (reader : FeedReader) (line : List ℕ) (lines rest : List (List ℕ)) (number : ℕ) (fault : FeedFault)
    → IsWithinLimits reader line → number ≡ reader.lines.number + 1 → IsLineFault stage number line fault → lines ≡ line ∷ rest
    → Comes reader.limits base stage reader.lines.number lines (refused fault)
stops_line base stage reader line lines rest number fault fits is own first =
    subst (λ all. Comes reader.limits base stage reader.lines.number all (refused fault)) (sym first)
    (line_stops base stage reader line rest number fault fits is own)

turn_stops : (base : Option StyleOf) (stage : Stage) (reader : FeedReader) (line : List ℕ) (rest : List (List ℕ)) (read : FeedLine) (goes : Bool) (number : ℕ) (fault : FeedFault)
    → IsWithinLimits reader line → line_in (place_of stage) line ≡ Ok read → goes ≡ goes_on read rest → number ≡ reader.lines.number + 1
    → IsTurnFault base stage read goes number fault → Comes reader.limits base stage reader.lines.number (line ∷ rest) (refused fault)
unfolding Comes
turn_stops base stage reader line rest read goes number (faults.Bad at why) fits is same counted fault =
    inr (
      read,
      Err why,
      said reader stage line read fits is,
      subst (λ own. IsTurn base stage read own (Err why)) same fault.0,
      ap (λ n. refused (faults.Bad n why)) (fault.1 ∙ counted),
    )
turn_stops base stage reader line rest read goes number (faults.NoBase at) fits is same counted fault =
    inr (
      read,
      Ok turns.NoBase,
      said reader stage line read fits is,
      subst (λ own. IsTurn base stage read own (Ok turns.NoBase)) same fault.0,
      ap (λ n. refused (faults.NoBase n)) (fault.1 ∙ counted),
    )
turn_stops base stage reader line rest read goes number (faults.Limit which value) fits is same counted fault = absurd fault
turn_stops base stage reader line rest read goes number faults.ReadFault fits is same counted fault = absurd fault
turn_stops base stage reader line rest read goes number faults.OutOfMemory fits is same counted fault = absurd fault

pub stops_turn : (base : Option StyleOf) (stage : Stage) (reader : FeedReader) (line : List ℕ) (lines behind rest : List (List ℕ)) (read : FeedLine) (goes : Bool) (number : ℕ) (fault : FeedFault)
    → IsWithinLimits reader line → line_in (place_of stage) line ≡ Ok read → number ≡ reader.lines.number + 1
    → IsTurnFault base stage read goes number fault → lines ≡ line ∷ behind → (behind ≡ rest) × (goes ≡ goes_on read rest)
    → Comes reader.limits base stage reader.lines.number lines (refused fault)
stops_turn base stage reader line lines behind rest read goes number fault fits is counted own first seen =
    let all : line ∷ rest ≡ lines = ap (λ own. line ∷ own) (sym seen.0) ∙ sym first in
    subst (λ own. Comes reader.limits base stage reader.lines.number own (refused fault)) all
    (turn_stops base stage reader line rest read goes number fault fits is seen.1 counted own)
