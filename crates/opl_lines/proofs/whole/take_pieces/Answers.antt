use Rattle.std.proofs.Common.{ℕ, List, Bor, flat_map, sym, ◌∙◌, ap, arith}
use Rattle.std.proofs.lemmas.List.{drop_all}
use Rattle.opl_lines.specs.Whole.{limit_left}
use Rattle.opl_lines.proofs.Walk.{limit_left-end}
use Rattle.opl_lines.proofs.whole.take_pieces.Goals as goal

pub returns-clause-within : goal.returns-clause-within
returns-clause-within c =
    sym c.loop-piece.invariant.1
    ∙ ap (λ (pieces : List (Bor (List ℕ))). limit_left c.loop-piece.reader (flat_map (λ (piece : Bor (List ℕ)). piece.now) pieces))
    (drop_all c.loop-piece.piece-index c.args.pieces.now (omega arith))
    ∙ limit_left-end c.loop-piece.reader c.finish.new.self c.finish.result c.finish.ensures.lines c.finish.ensures.ended
    c.finish.ensures.fits c.finish.ensures.limits
