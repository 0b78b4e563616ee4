use Rattle.std.proofs.Common.{◌∙◌, true, Some, [], set, sym, ap, subst, arith, length-set}
use Rattle.std.proofs.lemmas.List.{get_or_read}
use Rattle.piece_ends.specs.Pieces.{Line}
use Rattle.piece_ends.specs.Index.{IsLowestAt, NoneAt, unused_of}
use Rattle.piece_ends.proofs.Taken.{next_at-lowest, next_at-none, AreUsedBelow-set, IsIndex-put}
use Rattle.piece_ends.proofs.unused.UnusedPieces.take_at.Goals as goal

pub returns-in_default-clause-none : goal.returns-in_default-clause-none
returns-in_default-clause-none c =
    rw (← c.self.view_is)
    (next_at-none c.self.inside.pieces.now c.self.inside.used.items c.args.place
    (subst (λ used. NoneAt c.self.inside.pieces.now used c.args.place) c.as_slice.ensures.value c.in_default.ensures.none))

pub invariant_of-self : goal.invariant_of-self
invariant_of-self c =
    let held = c.self.invariant in
    let low = subst (λ used. IsLowestAt c.self.inside.pieces.now used c.args.place c.in-Some.number) c.as_slice.ensures.value
    c.in-Some.ensures.some in
    record {
      index = IsIndex-put _ c.self.inside.used.items _ c.self.inside.heads held.index c.in-Some.number c.args.place c.put.result
          c.put.new.self c.put.ensures.ok c.put.ensures.err low;
      within = omega (arith, held.within, length-set c.self.inside.used.items c.in-Some.number true);
      passed = AreUsedBelow-set c.self.inside.used.items c.self.inside.first c.in-Some.number held.passed;
    }

pub returns-clause-some : goal.returns-clause-some
returns-clause-some c =
    let low = subst (λ used. IsLowestAt c.self.inside.pieces.now used c.args.place c.in-Some.number) c.as_slice.ensures.value
    c.in-Some.ensures.some in
    let piece = get_or_read c.self.inside.pieces.now c.in-Some.number c.index-self-number.result low.at_place.below c.index-self-number.is
    [] in
    rw (← c.self.view_is)
    (next_at-lowest c.self.inside.pieces.now c.self.inside.used.items c.args.place c.in-Some.number low
    ∙ ap (λ (own : Line). Some (own, unused_of (set c.self.inside.used.items c.in-Some.number true) c.self.inside.pieces.now))
    (sym piece ∙ c.index-self-number.is))
