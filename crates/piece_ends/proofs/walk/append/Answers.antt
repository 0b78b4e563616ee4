use Rattle.std.proofs.Common.{◌≡◌, ◌∙◌, ◌++◌, false, drop, reverse, ap, sym, Ok, cond}
use Rattle.std.specs.declared.alloc.AllocError.{AllocError}
use Rattle.std.proofs.lemmas.Iterator.Consumers.{YieldsList-from_copied}
use Rattle.std.proofs.lemmas.Iterator.Adapters.{items_from_extend, YieldsList-from_skip, YieldsList-from_rev_slice}
use Rattle.piece_ends.specs.Pieces.{same_place, first_place, last_place}
use Rattle.piece_ends.proofs.walk.append.Goals as goal

-- the piece is turned, since it does not begin where the line ends
pub returns-in_ok-extend-clause-longer : goal.returns-in_ok-extend-clause-longer
returns-in_ok-extend-clause-longer c =
    let line = c.args.line.now.items in
    let piece = c.args.piece.now in
    let last : c.last_place.result ≡ last_place line = c.last_place.ensures.last ∙ ap last_place c.deref.ensures.value in
    let turned : same_place (first_place piece) (last_place line) ≡ false =
    ap (λ place. same_place place (last_place line)) (sym c.first_place.ensures.first) ∙ ap (same_place c.first_place.result) (sym last)
    ∙ sym c.eq.ensures ∙ c.if-eq.false in
    (items_from_extend {E = AllocError} (Ok c.in_ok-extend.field-0) c.in_ok-extend.ensures.ran
    (YieldsList-from_copied (YieldsList-from_skip 1 (YieldsList-from_rev_slice piece cc) cc))).0
    ∙ ap (λ begins. line ++ drop 1 (cond begins piece (reverse piece))) (sym turned)
