use Rattle.std.proofs.Common.{◌≡◌, ◌++◌, ℕ, List, subst, ◌∙◌}
use Rattle.std.specs.Fmt.{decimal}
use Rattle.outside.specs.Bytes.{AppendsPrefix}
use Rattle.due_tiles.specs.Piece.{Puts}
use Rattle.due_tiles.proofs.PieceLaws.{fails_first, fails_then, on_err, on_err_so, on_ok_so, puts_then}
use Rattle.due_tiles.proofs.levels.put_number.Goals as goal

pub returns-in_err-put-clause-err : goal.returns-in_err-put-clause-err
returns-in_err-put-clause-err g c =
    let view = g.S.Sink.view in
    let digits : c.as_bytes.result.now ≡ decimal c.args.number = c.as_bytes.ensures.value ∙ c.format.ensures.text in
    on_err _ c.from_residual.result (fails_first (view c.args.out.now).taken (view c.put.new.out).taken c.args.piece.now
    (decimal c.args.number) c.args.behind.now
    (subst (λ (own : List ℕ). AppendsPrefix (view c.args.out.now).taken (view c.put.new.out).taken (c.args.piece.now ++ own)) digits
    c.in_err-put.ensures.err))

pub returns-clause-ok : goal.returns-clause-ok
returns-clause-ok g c =
    let view = g.S.Sink.view in
    let digits : c.as_bytes.result.now ≡ decimal c.args.number = c.as_bytes.ensures.value ∙ c.format.ensures.text in
    let first = subst (λ (own : List ℕ). Puts (view c.args.out.now).taken (view c.put.new.out).taken c.args.piece.now c.put.new.self own) digits
    c.in_ok-put.ensures.ok in
    on_ok_so _ _ c.put-2.result (puts_then (view c.args.out.now).taken (view c.put.new.out).taken (view c.put-2.new.out).taken
    c.args.piece.now c.put.new.self c.put-2.new.self (decimal c.args.number) c.args.behind.now first) c.put-2.ensures.ok

pub returns-clause-err : goal.returns-clause-err
returns-clause-err g c =
    let view = g.S.Sink.view in
    let digits : c.as_bytes.result.now ≡ decimal c.args.number = c.as_bytes.ensures.value ∙ c.format.ensures.text in
    let first = subst (λ (own : List ℕ). Puts (view c.args.out.now).taken (view c.put.new.out).taken c.args.piece.now c.put.new.self own) digits
    c.in_ok-put.ensures.ok in
    on_err_so _ _ c.put-2.result (fails_then (view c.args.out.now).taken (view c.put.new.out).taken (view c.put-2.new.out).taken
    c.args.piece.now c.put.new.self (decimal c.args.number) c.args.behind.now first) c.put-2.ensures.err
