use Rattle.std.proofs.Common.{◌∙◌, ◌+◌, ◌-◌, ◌<◌, length, sym, arith}
use Rattle.piece_ends.proofs.Neighbours.{equal_neighbours, more_differ}
use Rattle.piece_ends.proofs.piece.is_piece.Goals as goal

pub returns-then-eq : goal.returns-then-eq
returns-then-eq c =
    let line = c.args.line.now in
    let index = c.loop-index.index in
    let below : index < length line = omega arith in
    let within : index - 1 + 1 < length line = omega arith in
    let same = equal_neighbours line index _ _ c.loop-index.auto.index below c.index-line-index.is c.index-line-index-in-loop-index.is
    (sym c.eq.ensures ∙ c.if-eq.true) in
    record { piece = (λ e. absurd (cc), λ own. absurd (own.moves (index - 1) within same)) }

pub loop-index-preserved : goal.loop-index-preserved
loop-index-preserved c =
    let below : c.loop-index.index < length c.args.line.now = omega arith in
    more_differ c.args.line.now c.loop-index.index _ _ c.loop-index.auto.index below c.index-line-index.is
    c.index-line-index-in-loop-index.is (sym c.eq.ensures ∙ c.if-eq.false) c.loop-index.invariant
