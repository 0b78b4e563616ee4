use Rattle.std.proofs.Common.{◌≡◌, ◌++◌, ◌∙◌, ℕ, List, ap, append_assoc, rules, subst}
use Rattle.std.specs.Prelude.{codes}
use Rattle.std.specs.Fmt.{decimal}
use Rattle.outside.specs.Bytes.{AppendsPrefix}
use Rattle.due_tiles.specs.Piece.{Puts}
use Rattle.due_tiles.specs.TileText.{tile_line}
use Rattle.due_tiles.proofs.PieceLaws.{fails_first, fails_then, on_err, on_err_so, on_ok_so, puts_then}
use Rattle.due_tiles.proofs.levels.put_tile.Goals as goal

-- the line by its numbers, each with the mark behind it
line_is : (zoom x y : ℕ) → (decimal zoom ++ codes "/") ++ ((decimal x ++ codes "/") ++ (decimal y ++ codes "\n")) ≡ tile_line zoom x y
unfolding tile_line
line_is zoom x y = search (rules, append_assoc)

pub returns-in_err-put_number-clause-err : goal.returns-in_err-put_number-clause-err
returns-in_err-put_number-clause-err g c =
    let view = g.S.Sink.view in
    let text = line_is c.from.result c.args.x c.args.y ∙ ap (λ zoom. tile_line zoom c.args.x c.args.y) c.from.ensures in
    on_err _ c.from_residual.result
    (subst (λ (own : List ℕ). AppendsPrefix (view c.args.out.now).taken (view c.put_number.new.out).taken (c.args.piece.now ++ own)) text
    (fails_first (view c.args.out.now).taken (view c.put_number.new.out).taken c.args.piece.now (decimal c.from.result ++ codes "/")
    ((decimal c.args.x ++ codes "/") ++ (decimal c.args.y ++ codes "\n")) c.in_err-put_number.ensures.err))

pub returns-in_err-put_number-2-clause-err : goal.returns-in_err-put_number-2-clause-err
returns-in_err-put_number-2-clause-err g c =
    let view = g.S.Sink.view in
    let text = line_is c.from.result c.args.x c.args.y ∙ ap (λ zoom. tile_line zoom c.args.x c.args.y) c.from.ensures in
    on_err _ c.from_residual-in_err-put_number-2.result
    (subst (λ (own : List ℕ). AppendsPrefix (view c.args.out.now).taken (view c.put_number-2.new.out).taken (c.args.piece.now ++ own)) text
    (fails_then (view c.args.out.now).taken (view c.put_number.new.out).taken (view c.put_number-2.new.out).taken c.args.piece.now
    c.put_number.new.piece (decimal c.from.result ++ codes "/") ((decimal c.args.x ++ codes "/") ++ (decimal c.args.y ++ codes "\n"))
    c.in_ok-put_number.ensures.ok
    (fails_first (view c.put_number.new.out).taken (view c.put_number-2.new.out).taken c.put_number.new.piece (decimal c.args.x ++ codes "/")
    (decimal c.args.y ++ codes "\n") c.in_err-put_number-2.ensures.err)))

pub returns-clause-ok : goal.returns-clause-ok
returns-clause-ok g c =
    let view = g.S.Sink.view in
    let before = (view c.args.out.now).taken in
    let text = line_is c.from.result c.args.x c.args.y ∙ ap (λ zoom. tile_line zoom c.args.x c.args.y) c.from.ensures in
    on_ok_so _ _ c.put_number-3.result (λ third.
    subst (λ (own : List ℕ). Puts before (view c.put_number-3.new.out).taken c.args.piece.now c.put_number-3.new.piece own) text
    (puts_then before (view c.put_number.new.out).taken (view c.put_number-3.new.out).taken c.args.piece.now c.put_number.new.piece
    c.put_number-3.new.piece (decimal c.from.result ++ codes "/") ((decimal c.args.x ++ codes "/") ++ (decimal c.args.y ++ codes "\n"))
    c.in_ok-put_number.ensures.ok
    (puts_then (view c.put_number.new.out).taken (view c.put_number-2.new.out).taken (view c.put_number-3.new.out).taken
    c.put_number.new.piece c.put_number-2.new.piece c.put_number-3.new.piece (decimal c.args.x ++ codes "/") (decimal c.args.y ++ codes "\n")
    c.in_ok-put_number-2.ensures.ok third))) c.put_number-3.ensures.ok

pub returns-clause-err : goal.returns-clause-err
returns-clause-err g c =
    let view = g.S.Sink.view in
    let before = (view c.args.out.now).taken in
    let text = line_is c.from.result c.args.x c.args.y ∙ ap (λ zoom. tile_line zoom c.args.x c.args.y) c.from.ensures in
    on_err_so _ _ c.put_number-3.result (λ third.
    subst (λ (own : List ℕ). AppendsPrefix before (view c.put_number-3.new.out).taken (c.args.piece.now ++ own)) text
    (fails_then before (view c.put_number.new.out).taken (view c.put_number-3.new.out).taken c.args.piece.now
    c.put_number.new.piece (decimal c.from.result ++ codes "/") ((decimal c.args.x ++ codes "/") ++ (decimal c.args.y ++ codes "\n"))
    c.in_ok-put_number.ensures.ok
    (fails_then (view c.put_number.new.out).taken (view c.put_number-2.new.out).taken (view c.put_number-3.new.out).taken
    c.put_number.new.piece c.put_number-2.new.piece (decimal c.args.x ++ codes "/") (decimal c.args.y ++ codes "\n")
    c.in_ok-put_number-2.ensures.ok third))) c.put_number-3.ensures.err
