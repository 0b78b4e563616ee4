-- What a line that was taken makes of a block, from the calls that take it.
use Rattle.std.proofs.Common.{◌≡◌, ℕ, ◌+◌, Bool, true, false, List, Ok, Err, Result, Option, Some, None, refl, sym, ap, ◌∙◌, subst, arith}
use Rattle.std.specs.Prelude.{IfErr, IfOk, IfSome}
use Rattle.outside.specs.Bytes.{BothKnown}
use Rattle.style_read.specs.Style.{StyleOf}
use Rattle.delta_feed.specs.Blocks.{Comes, goes_on, refused}
use Rattle.delta_feed.specs.Feeding.{IsLineFault, IsOnward, IsTurnFault, IsWithinLimits, Leads, PassesLimit, TakesOne, ended, lines_left, one_if}
use Rattle.delta_feed.specs.Line.{line_in, verb_of}
use Rattle.delta_feed.specs.Place.{may_stand}
use Rattle.delta_feed.specs.Sound.{IsFitLine, IsSoundStage, IsSoundTurn}
use Rattle.delta_feed.specs.Stage.{place_of}
use Rattle.delta_feed.specs.Stops.{Stops, StopsAt}
use Rattle.delta_feed.specs.Turn.{IsTurn}
use Rattle.delta_feed.specs.declared.block.Stage.{Stage}
use Rattle.delta_feed.specs.declared.block.Stage.TheVariants as stages
use Rattle.delta_feed.specs.declared.fault.FeedFault.{FeedFault}
use Rattle.delta_feed.specs.declared.line.FeedLine.{FeedLine}
use Rattle.delta_feed.specs.declared.reader.FeedReader.{FeedReader}
use Rattle.delta_feed.specs.declared.turn.Turn.{Turn}
use Rattle.delta_feed.proofs.Known.{before, before_two, both, some_less, stops_less}
use Rattle.delta_feed.proofs.Soundness.{turn_sound}
use Rattle.delta_feed.proofs.Turns.{ends, leads, stops_limit, stops_line, stops_turn}

-- how many lines were taken
pub counted_none : (taken : Bool) (old new : ℕ) → taken ≡ false → new ≡ old + one_if taken → new ≡ old
counted_none taken old new none is = is ∙ ap (λ (own : Bool). old + one_if own) none ∙ nothing old
  where
    nothing : (n : ℕ) → n + 0 ≡ n
    nothing n = omega arith

pub counted_one : (taken : Bool) (old new : ℕ) → taken ≡ true → new ≡ old + one_if taken → new ≡ old + 1
counted_one taken old new one is = is ∙ ap (λ (own : Bool). old + one_if own) one

-- the lines come to this fault, where bytes are told
abbrev pub ComesTo : Option StyleOf → Stage → FeedReader → Option (List ℕ) → FeedFault → Type 0
ComesTo base stage reader start fault =
    IfSome start (λ before. Comes reader.limits base stage reader.lines.number (lines_left reader before) (refused fault))

module _ (base : Option StyleOf) (reader new : FeedReader) (line : List ℕ) (start left : Option (List ℕ)) (failed : Type 0)
    (none : BothKnown start left (λ before after. TakesOne false line (lines_left reader before) (lines_left new after))) where
  -- the file is at its end
  ended_stops : (stage : Stage) → IfErr (ended stage reader.lines.number) (Stops (ComesTo base stage reader start) failed)
  ended_stops stages.Between = tt
  ended_stops (stages.Opened version) = before start left _ _ none
      (λ a b one. ends base (stages.Opened version) reader.limits reader.lines.number (lines_left reader a) _ one.0 refl)
  ended_stops (stages.Style version bytes) = before start left _ _ none
      (λ a b one. ends base (stages.Style version bytes) reader.limits reader.lines.number (lines_left reader a) _ one.0 refl)
  ended_stops (stages.Rows rows) = before start left _ _ none
      (λ a b one. ends base (stages.Rows rows) reader.limits reader.lines.number (lines_left reader a) _ one.0 refl)
  ended_stops (stages.Row rows spot bytes) = before start left _ _ none
      (λ a b one. ends base (stages.Row rows spot bytes) reader.limits reader.lines.number (lines_left reader a) _ one.0 refl)

  pub end_stops : (stage : Stage) (number : ℕ) (result : Result (Option Turn) FeedFault) → number ≡ reader.lines.number → result ≡ ended stage number
      → IfErr result (Stops (ComesTo base stage reader start) failed)
  end_stops stage number result same is = subst (λ (own : Result (Option Turn) FeedFault). IfErr own (Stops (ComesTo base stage reader start) failed))
      (sym (is ∙ ap (λ (n : ℕ). ended stage n) same)) (ended_stops stage)

-- a limit is passed
pub limit_stops : (base : Option StyleOf) (stage : Stage) (reader : FeedReader) (start : Option (List ℕ)) (failed : Type 0) (fault : FeedFault)
    → Stops (λ own. IfSome start (λ before. PassesLimit reader (lines_left reader before) own)) failed fault
    → Stops (ComesTo base stage reader start) failed fault
limit_stops base stage reader start failed fault stops = stops_less _ _ failed failed fault
    (λ own some. some_less start _ _ some (λ before passes. stops_limit base stage reader (lines_left reader before) own passes)) (λ own. own) stops

module _ (base : Option StyleOf) (stage : Stage) (reader mid : FeedReader) (line : List ℕ) (start left : Option (List ℕ))
    (fits : IsWithinLimits reader line)
    (first : BothKnown start left (λ before after. TakesOne true line (lines_left reader before) (lines_left mid after))) where
  -- the line is none that may stand there
  pub line_stops : (number : ℕ) (failed : Type 0) (fault : FeedFault) → number ≡ reader.lines.number + 1 → StopsAt (IsLineFault stage number line) fault
      → Stops (ComesTo base stage reader start) failed fault
  line_stops number failed fault counted stops = stops_less _ _ ⊥ failed fault
      (λ own bad. before start left _ _ first
      (λ a b one. stops_line base stage reader line (lines_left reader a) (lines_left mid b) number own fits counted bad one)) (λ none. absurd none) stops

  module _ (new : FeedReader) (rest : Option (List ℕ)) (read : FeedLine) (goes : Bool) (said : line_in (place_of stage) line ≡ Ok read)
      (seen : BothKnown left rest (λ before after. (lines_left mid before ≡ lines_left new after) × (goes ≡ goes_on read (lines_left new after)))) where
    -- the line is refused behind so much of a block
    pub turn_stops : (number : ℕ) (failed : Type 0) (result : Result (Option Turn) FeedFault) → number ≡ reader.lines.number + 1
        → IfErr result (StopsAt (IsTurnFault base stage read goes number)) → IfErr result (Stops (ComesTo base stage reader start) failed)
    turn_stops number failed (Ok turn) counted stops = tt
    turn_stops number failed (Err fault) counted stops = stops_less _ _ ⊥ failed fault
        (λ own bad. before_two start left rest _ _ _ first seen
        (λ a b c one two. stops_turn base stage reader line (lines_left reader a) (lines_left mid b) (lines_left new c) read goes number own fits said
        counted bad one two)) (λ none. absurd none) stops

    -- it leads on
    pub turn_leads : (result : Result (Option Turn) FeedFault) → new.lines.number ≡ reader.lines.number + 1
        → IfOk result (λ turn. IfSome turn (λ own. IsTurn base stage read goes (Ok own))) → IfOk result IsOnward
        → IfOk result (λ turn. BothKnown start rest (λ before after. Leads base stage reader new (lines_left reader before) (lines_left new after) turn))
    turn_leads (Err fault) counted made some = tt
    turn_leads (Ok None) counted made some = absurd some
    turn_leads (Ok (Some turn)) counted made some = both start left rest _ _ _ first seen
        (λ a b c one two. leads base stage reader new line (lines_left reader a) (lines_left mid b) (lines_left new c) read goes turn fits said made
        counted some one two)

-- and leaves a sound block
pub turn_sounds : (base : Option StyleOf) (stage : Stage) (read : FeedLine) (goes : Bool) (result : Result (Option Turn) FeedFault) → IsSoundStage base stage
    → may_stand (place_of stage) (verb_of read) ≡ true → IsFitLine read
    → IfOk result (λ turn. IfSome turn (λ own. IsTurn base stage read goes (Ok own))) → IfOk result (λ turn. IfSome turn (IsSoundTurn base))
turn_sounds base stage read goes (Err fault) sound stands fits made = tt
turn_sounds base stage read goes (Ok None) sound stands fits made = tt
turn_sounds base stage read goes (Ok (Some turn)) sound stands fits made = turn_sound base stage read goes turn sound stands fits made
