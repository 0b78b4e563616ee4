use Rattle.std.proofs.Common.{◌≡◌, ◌∙◌, ◌∷◌, ◌<◌, true, false, [], length, set, sym, ap, subst, arith, get_or}
use Rattle.std.proofs.lemmas.List.{get_or_read}
use Rattle.piece_ends.specs.Pieces.{Line}
use Rattle.piece_ends.specs.Index.{AreUsedBelow, unused_of}
use Rattle.piece_ends.proofs.Taken.{unused_of-first, unused_of-all}
use Rattle.piece_ends.proofs.unused.UnusedPieces.take_first.Goals as goal

pub returns-then-self-len-clause-first : goal.returns-then-self-len-clause-first
returns-then-self-len-clause-first c =
    let passed = subst (λ used. AreUsedBelow used c.self.inside.first → AreUsedBelow used c.next_unused-self-inside.result)
    c.as_slice.ensures.value c.next_unused-self-inside.ensures.passed c.self.invariant.passed in
    let all : length c.self.inside.used.items ≡ c.next_unused-self-inside.result = omega (arith, ap length c.as_slice.ensures.value) in
    rw (← c.self.view_is) (unused_of-all c.self.inside.used.items c.self.inside.pieces.now
    (subst (AreUsedBelow c.self.inside.used.items) (sym all) passed))

pub returns-clause-first : goal.returns-clause-first
returns-clause-first c =
    let number = c.next_unused-self-inside.result in
    let marks = c.self.invariant.index.marks in
    let passed = subst (λ used. AreUsedBelow used c.self.inside.first → AreUsedBelow used number) c.as_slice.ensures.value
    c.next_unused-self-inside.ensures.passed c.self.invariant.passed in
    let some : number < length c.as_slice.result.now = omega (arith, c.if-self-len.false, c.next_unused-self-inside.ensures.bound) in
    let below : number < length c.self.inside.pieces.now = omega (arith, ap length c.as_slice.ensures.value) in
    let free : get_or c.self.inside.used.items number true ≡ false =
    ap (λ used. get_or used number true) (sym c.as_slice.ensures.value) ∙ c.next_unused-self-inside.ensures.free some in
    let piece = get_or_read c.self.inside.pieces.now number c.index-self-self.result below c.index-self-self.is [] in
    rw (← c.self.view_is)
    (unused_of-first c.self.inside.used.items c.self.inside.pieces.now number below free passed
    ∙ ap (λ (own : Line). own ∷ unused_of (set c.self.inside.used.items number true) c.self.inside.pieces.now)
    (sym piece ∙ c.index-self-self.is))
