-- A block of a file, from one line to the next.
use Rattle.std.proofs.Common.{◌≡◌, ℕ, ◌&&◌, Bool, true, false, List, ◌++◌, Option, Some, None, refl, sym, ap, ◌∙◌, subst, inl, inr}
use Rattle.std.specs.Prelude.{IfSome, codes}
use Rattle.outside.specs.Reads.{MovesBytes}
use Rattle.opl_lines.specs.Lines.{lines_of}
use Rattle.osm_base.specs.declared.bounds.limits.LimitNumbers.{LimitNumbers}
use Rattle.outside.specs.Bytes.{BothKnown}
use Rattle.style_read.specs.Style.{StyleOf}
use Rattle.delta_feed.specs.Blocks.{Comes, Found, goes_on, is_full, more_comes, refused, whole}
use Rattle.delta_feed.specs.Feeding.{GivesBlock, IsEnough, IsSeen, Leads, lines_left, says}
use Rattle.delta_feed.specs.Sound.{IsSoundStage, IsSoundTurn}
use Rattle.delta_feed.specs.declared.block.Block.{Block}
use Rattle.delta_feed.specs.declared.block.Stage.{Stage}
use Rattle.delta_feed.specs.declared.block.Stage.TheVariants as stages
use Rattle.delta_feed.specs.declared.fault.FeedFault.{FeedFault}
use Rattle.delta_feed.specs.declared.line.FeedLine.{FeedLine}
use Rattle.delta_feed.specs.declared.reader.FeedReader.{FeedReader}
use Rattle.delta_feed.specs.declared.turn.Turn.TheVariants as turns
use Rattle.delta_feed.proofs.Known.{before_then, both, less, nothing_read}
use Rattle.delta_feed.proofs.Peeks.{tells_more}

-- ---- a look at what comes

abbrev pub Moved : (old now : List ℕ) → Option (List ℕ) → Option (List ℕ) → Type 0
Moved old now start left = BothKnown start left (λ before after. old ++ before ≡ now ++ after)

pub moved_none : (held : List ℕ) (left : Option (List ℕ)) → Moved held held left left
moved_none held left = nothing_read left _ (λ a. refl)

pub moved_more : (old now new : List ℕ) (more : Bool) (start left rest : Option (List ℕ)) → Moved old now start left → MovesBytes now new more left rest
    → Moved old new start rest
moved_more old now new more start left rest so_far moves = both start left rest _ _ _ so_far moves (λ a b c one two. one ∙ two.0)

pub seen_enough : (old now : List ℕ) (start left : Option (List ℕ)) → Moved old now start left → IsEnough now → BothKnown start left (IsSeen old now)
seen_enough old now start left so_far enough = less start left _ _ so_far (λ a b one. (one, inl enough))

pub seen_end : (old now new : List ℕ) (start left rest : Option (List ℕ)) → Moved old now start left → MovesBytes now new false left rest
    → BothKnown start rest (IsSeen old new)
seen_end old now new start left rest so_far moves = both start left rest _ _ _ so_far moves (λ a b c one two. (one ∙ two.0, inr (two.1 refl)))

pub looked : (old new : FeedReader) (read : FeedLine) (value : Bool) (start left : Option (List ℕ)) → is_full read ≡ true
    → value ≡ says (codes "more") new.ahead → BothKnown start left (IsSeen old.ahead new.ahead)
    → BothKnown start left (λ before after. (lines_left old before ≡ lines_left new after) × (value ≡ goes_on read (lines_left new after)))
looked old new read value start left full is seen = less start left _ _ seen (λ a b one. (
  ap lines_of one.0,
  is ∙ tells_more new.ahead b one.1 ∙ sym (ap (λ own. own && more_comes (lines_left new b)) full),
))

pub not_looked : (reader : FeedReader) (read : FeedLine) (left : Option (List ℕ)) → is_full read ≡ false
    → BothKnown left left (λ before after. (lines_left reader before ≡ lines_left reader after) × (false ≡ goes_on read (lines_left reader after)))
not_looked reader read left short = nothing_read left _ (λ a. (refl, sym (ap (λ own. own && more_comes (lines_left reader a)) short)))

-- ---- lines of a block

-- whatever the lines that are left come to, behind so much of a block, all come to
abbrev pub LeadsTo : Option StyleOf → Stage → (first now : FeedReader) → Option (List ℕ) → Option (List ℕ) → Type 0
LeadsTo base stage first now start left = BothKnown start left (λ before after. (found : Found)
    → Comes first.limits base stage now.lines.number (lines_left now after) found
    → Comes first.limits base stages.Between first.lines.number (lines_left first before) found)

pub leads_start : (base : Option StyleOf) (reader : FeedReader) (left : Option (List ℕ)) → LeadsTo base stages.Between reader reader left left
leads_start base reader left = nothing_read left _ (λ a found comes. comes)

pub leads_on : (base : Option StyleOf) (stage next : Stage) (first now new : FeedReader) (start left rest : Option (List ℕ)) → now.limits ≡ first.limits
    → LeadsTo base stage first now start left
    → BothKnown left rest (λ before after. Leads base stage now new (lines_left now before) (lines_left new after) (Some (turns.On next)))
    → LeadsTo base next first new start rest
leads_on base stage next first now new start left rest same so_far turn = both start left rest _ _ _ so_far turn
    (λ a b c one two found comes. one found (subst (λ (own : LimitNumbers). Comes own base stage now.lines.number (lines_left now b) found) same
    (two found (subst (λ (own : LimitNumbers). Comes own base next new.lines.number (lines_left new c) found) (sym same) comes))))

pub leads_whole : (base : Option StyleOf) (stage : Stage) (first now new : FeedReader) (block : Block) (start left rest : Option (List ℕ)) → now.limits ≡ first.limits
    → LeadsTo base stage first now start left
    → BothKnown left rest (λ before after. Leads base stage now new (lines_left now before) (lines_left new after) (Some (turns.Whole block)))
    → BothKnown start rest (λ before after. GivesBlock base first new (lines_left first before) (lines_left new after) (Some block))
leads_whole base stage first now new block start left rest same so_far turn = both start left rest _ _ _ so_far turn
    (λ a b c one two. one (whole block new.lines.number (lines_left new c))
    (subst (λ (own : LimitNumbers). Comes own base stage now.lines.number (lines_left now b) (whole block new.lines.number (lines_left new c))) same two))

-- as long as no block has begun no line was taken
abbrev pub IsFirst : Stage → (first now : FeedReader) → Option (List ℕ) → Option (List ℕ) → Type 0
IsFirst stage first now start left =
    BothKnown start left (λ before after. stage ≡ stages.Between → lines_left first before ≡ lines_left now after)

pub first_start : (stage : Stage) (reader : FeedReader) (left : Option (List ℕ)) → IsFirst stage reader reader left left
first_start stage reader left = nothing_read left _ (λ a is. refl)

pub leads_none : (base : Option StyleOf) (stage : Stage) (first now new : FeedReader) (start left rest : Option (List ℕ))
    → IsFirst stage first now start left
    → BothKnown left rest (λ before after. Leads base stage now new (lines_left now before) (lines_left new after) None)
    → BothKnown start rest (λ before after. GivesBlock base first new (lines_left first before) (lines_left new after) None)
leads_none base stage first now new start left rest first_time turn = both start left rest _ _ _ first_time turn
    (λ a b c one two. (one two.0 ∙ two.1, two.2))

-- after a turn a block has begun
pub not_first : (base : Option StyleOf) (next : Stage) (first new : FeedReader) (start rest : Option (List ℕ)) → IsSoundTurn base (turns.On next)
    → LeadsTo base next first new start rest → IsFirst next first new start rest
not_first base next first new start rest sound leads = less start rest _ _ leads
    (λ a b one is. absurd (subst (λ (own : Stage). IsSoundTurn base (turns.On own)) is sound))

-- a block that has begun is sound
pub goes_sound : (base : Option StyleOf) (next : Stage) → IsSoundTurn base (turns.On next) → IsSoundStage base next
goes_sound base stages.Between sound = absurd sound
goes_sound base (stages.Opened version) sound = sound
goes_sound base (stages.Style version bytes) sound = sound
goes_sound base (stages.Rows rows) sound = sound
goes_sound base (stages.Row rows spot bytes) sound = sound

pub leads_stop : (base : Option StyleOf) (stage : Stage) (first now : FeedReader) (fault : FeedFault) (start left : Option (List ℕ)) → now.limits ≡ first.limits
    → LeadsTo base stage first now start left
    → IfSome left (λ before. Comes now.limits base stage now.lines.number (lines_left now before) (refused fault))
    → IfSome start (λ before. Comes first.limits base stages.Between first.lines.number (lines_left first before) (refused fault))
leads_stop base stage first now fault start left same so_far stop = before_then start left _ _ _ so_far stop
    (λ a b one two. one (refused fault)
    (subst (λ (own : LimitNumbers). Comes own base stage now.lines.number (lines_left now b) (refused fault)) same two))
