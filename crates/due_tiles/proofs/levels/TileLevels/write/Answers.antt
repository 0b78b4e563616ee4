use Rattle.std.proofs.Common.{List, ℕ, ◌∙◌, ap, subst}
use Rattle.due_tiles.specs.Levels.{levels_text}
use Rattle.due_tiles.specs.Piece.{Puts}
use Rattle.due_tiles.proofs.PieceLaws.{on_err_so, unwritten}
use Rattle.due_tiles.proofs.levels.TileLevels.write.Goals as goal

pub returns-clause-err : goal.returns-clause-err
returns-clause-err g c =
    let view = g.S.Sink.view in
    let text = ap levels_text c.deref.ensures.value ∙ c.self.view_is in
    let puts = subst (λ (own : List ℕ). Puts (view c.args.out.now).taken (view c.put_levels.new.out).taken own c.put_levels.new.piece c.args.self.now)
    c.new-piece.ensures.none
    (subst (λ (own : List ℕ). Puts (view c.args.out.now).taken (view c.put_levels.new.out).taken c.new-piece.result c.put_levels.new.piece own)
    text c.in_ok-put_levels.ensures.ok) in
    on_err_so _ _ c.flush.result (unwritten (view c.args.out.now).taken (view c.put_levels.new.out).taken (view c.flush.new.out).taken
    c.put_levels.new.piece c.args.self.now puts) c.flush.ensures.err
