-- Lines come to one thing at most.
use Rattle.std.proofs.Common.{◌≡◌, ℕ, ◌+◌, Bool, true, false, List, [], ◌∷◌, ◌++◌, Ok, Err, Result, Option, Some, sym, ap, ◌∙◌, subst, inl, inr, arith}
use Rattle.osm_base.specs.declared.bounds.limits.LimitNumbers.{LimitNumbers}
use Rattle.osm_base.specs.declared.values.row.Row.{Row}
use Rattle.osm_base.specs.map.Spots.{SpotOf}
use Rattle.style_read.specs.Style.{StyleOf}
use Rattle.style_read.specs.declared.style.TableDef.{TableDef}
use Rattle.delta_feed.specs.Blocks.{Comes, Follows, Found, Takes, goes_on, refused}
use Rattle.delta_feed.specs.Stage.{style_for, tables_of}
use Rattle.delta_feed.specs.Turn.{Ends, IsRowLine, IsRowMore, IsSet, IsSetOn, IsTurn, placed}
use Rattle.delta_feed.specs.declared.block.Rows.{Rows}
use Rattle.delta_feed.specs.declared.block.Stage.{Stage}
use Rattle.delta_feed.specs.declared.block.Stage.TheVariants as stages
use Rattle.delta_feed.specs.declared.fault.FeedWhy.{FeedWhy}
use Rattle.delta_feed.specs.declared.line.FeedLine.{FeedLine}
use Rattle.delta_feed.specs.declared.line.FeedLine.TheVariants as lines
use Rattle.delta_feed.specs.declared.turn.Turn.{Turn}
use Rattle.delta_feed.specs.declared.turn.Turn.TheVariants as turns

ends_once : (tables : List TableDef) (rows : Rows) (spot : SpotOf) (bytes : List ℕ) (one other : Result Turn FeedWhy)
    → Ends tables rows spot bytes one → Ends tables rows spot bytes other → one ≡ other
ends_once tables rows spot bytes one other (inl (none, is)) (inl (also, same)) = is ∙ sym same
ends_once tables rows spot bytes one other (inl (inl beyond, is)) (inr (row, own, same)) = absurd (omega (arith, beyond, own.there))
ends_once tables rows spot bytes one other (inl (inr none, is)) (inr (row, own, same)) = absurd (none row own.spells.is own.spells.bytes_are)
ends_once tables rows spot bytes one other (inr (row, own, is)) (inl (inl beyond, same)) = absurd (omega (arith, beyond, own.there))
ends_once tables rows spot bytes one other (inr (row, own, is)) (inl (inr none, same)) = absurd (none row own.spells.is own.spells.bytes_are)
ends_once tables rows spot bytes one other (inr (row, own, is)) (inr (else, also, same)) =
    is ∙ ap (λ (it : Row). placed rows spot (Some it)) (also.spells.alone row own.spells.is own.spells.bytes_are) ∙ sym same

set_once : (tables : List TableDef) (rows : Rows) (spot : SpotOf) (bytes : List ℕ) (goes : Bool) (one other : Result Turn FeedWhy)
    → IsSet tables rows spot bytes goes one → IsSet tables rows spot bytes goes other → one ≡ other
set_once tables rows spot bytes true one other is same = is ∙ sym same
set_once tables rows spot bytes false one other is same = ends_once tables rows spot bytes one other is same

set_on_once : (tables : List TableDef) (rows : Rows) (spot : SpotOf) (bytes : List ℕ) (goes : Bool) (one other : Result Turn FeedWhy)
    → IsSetOn tables rows spot bytes goes one → IsSetOn tables rows spot bytes goes other → one ≡ other
set_on_once tables rows spot bytes true one other is same = is ∙ sym same
set_on_once tables rows spot bytes false one other is same = ends_once tables rows spot bytes one other is same

row_once : (tables : List TableDef) (rows : Rows) (read : FeedLine) (goes : Bool) (one other : Result Turn FeedWhy)
    → IsRowLine tables rows read goes one → IsRowLine tables rows read goes other → one ≡ other
row_once tables rows (lines.Set spot bytes) goes one other is same = set_once tables rows spot bytes goes one other is same
row_once tables rows (lines.Del spot) goes one other is same = is ∙ sym same
row_once tables rows lines.End goes one other is same = is ∙ sym same
row_once tables rows (lines.Full version) goes one other is same = is ∙ sym same
row_once tables rows (lines.Delta version) goes one other is same = is ∙ sym same
row_once tables rows (lines.Style bytes) goes one other is same = is ∙ sym same
row_once tables rows (lines.More bytes) goes one other is same = is ∙ sym same

more_once : (tables : List TableDef) (rows : Rows) (spot : SpotOf) (front : List ℕ) (read : FeedLine) (goes : Bool) (one other : Result Turn FeedWhy)
    → IsRowMore tables rows spot front read goes one → IsRowMore tables rows spot front read goes other → one ≡ other
more_once tables rows spot front (lines.More bytes) goes one other is same = set_on_once tables rows spot (front ++ bytes) goes one other is same
more_once tables rows spot front (lines.Set else bytes) goes one other is same = is ∙ sym same
more_once tables rows spot front (lines.Del else) goes one other is same = is ∙ sym same
more_once tables rows spot front lines.End goes one other is same = is ∙ sym same
more_once tables rows spot front (lines.Full version) goes one other is same = is ∙ sym same
more_once tables rows spot front (lines.Delta version) goes one other is same = is ∙ sym same
more_once tables rows spot front (lines.Style bytes) goes one other is same = is ∙ sym same

turn_once : (base : Option StyleOf) (stage : Stage) (read : FeedLine) (goes : Bool) (one other : Result Turn FeedWhy)
    → IsTurn base stage read goes one → IsTurn base stage read goes other → one ≡ other
turn_once base stages.Between read goes one other is same = is ∙ sym same
turn_once base (stages.Opened version) read goes one other is same = is ∙ sym same
turn_once base (stages.Style version front) read goes one other is same = is ∙ sym same
turn_once base (stages.Rows rows) read goes one other is same = row_once (tables_of (style_for rows.head base)) rows read goes one other is same
turn_once base (stages.Row rows spot front) read goes one other is same =
    more_once (tables_of (style_for rows.head base)) rows spot front read goes one other is same

follows_once : (Goes : Stage → Found → Type 0) (number : ℕ) (rest : List (List ℕ)) (result : Result Turn FeedWhy) (one other : Found)
    → ((next : Stage) (first second : Found) → Goes next first → Goes next second → first ≡ second)
    → Follows Goes number rest result one → Follows Goes number rest result other → one ≡ other
follows_once Goes number rest (Ok (turns.On next)) one other once is same = once next one other is same
follows_once Goes number rest (Ok (turns.Whole block)) one other once is same = is ∙ sym same
follows_once Goes number rest (Ok turns.NoBase) one other once is same = is ∙ sym same
follows_once Goes number rest (Err why) one other once is same = is ∙ sym same

takes_once : (limits : LimitNumbers) (base : Option StyleOf) (Goes : Stage → Found → Type 0) (stage : Stage) (number : ℕ) (line : List ℕ) (rest : List (List ℕ))
    (one other : Found) → ((next : Stage) (first second : Found) → Goes next first → Goes next second → first ≡ second)
    → Takes limits base Goes stage number line rest one → Takes limits base Goes stage number line rest other → one ≡ other
takes_once limits base Goes stage number line rest one other once (inl (fault, bad, is)) (inl (also, worse, same)) =
    let single : fault ≡ also = cc (bad, worse) in
    is ∙ ap refused single ∙ sym same
takes_once limits base Goes stage number line rest one other once (inl (fault, bad, is)) (inr (read, result, good, turn, follows)) = absurd (cc (bad, good))
takes_once limits base Goes stage number line rest one other once (inr (read, result, good, turn, follows)) (inl (fault, bad, is)) = absurd (cc (bad, good))
takes_once limits base Goes stage number line rest one other once (inr (read, result, good, turn, follows)) (inr (else, made, also, again, goes)) =
    let single : else ≡ read = cc (good, also) in
    let same : made ≡ result = turn_once base stage read (goes_on read rest) made result
    (subst (λ (own : FeedLine). IsTurn base stage own (goes_on own rest) made) single again) turn in
    follows_once Goes (number + 1) rest result one other once follows
    (subst (λ (own : Result Turn FeedWhy). Follows Goes (number + 1) rest own other) same goes)

pub comes_once : (limits : LimitNumbers) (base : Option StyleOf) (lines : List (List ℕ)) (stage : Stage) (number : ℕ) (one other : Found)
    → Comes limits base stage number lines one → Comes limits base stage number lines other → one ≡ other
unfolding Comes
comes_once limits base [] stage number one other is same = is ∙ sym same
comes_once limits base (line ∷ rest) stage number one other is same =
    takes_once limits base (λ next own. Comes limits base next (number + 1) rest own) stage number line rest one other
    (λ next first second. comes_once limits base rest next (number + 1) first second) is same
