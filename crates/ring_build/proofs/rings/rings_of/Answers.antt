use Rattle.std.proofs.Common.{◌≡◌, ◌∙◌, ◌∷◌, ◌++◌, List, [], true, false, refl, sym, ap, subst, append_assoc}
use Rattle.std.proofs.lemmas.List.{append-nil}
use Rattle.std.proofs.lemmas.List.Elements.{All-push}
use Rattle.std.specs.Prelude.{All}
use Rattle.std.specs.List.{list_all}
use Rattle.piece_ends.specs.Pieces.{Line}
use Rattle.piece_ends.specs.Walk.{lines_by}
use Rattle.piece_ends.proofs.Lines.{lines_by-more, lines_by-fewer, lines_by-none}
use Rattle.piece_ends.specs.Rings.{ring_begun, has_four_points}
use Rattle.osm_base.specs.values.Line.{IsRing}
use Rattle.ring_build.proofs.Closed.{ring_begun-Grows, AreAlike, AreAlike-closed, odd-open, rings-not, rings-all, four-more}
use Rattle.ring_build.proofs.rings.rings_of.Goals as goal

-- a line that is no ring
pub returns-then-not-is_ring-clause-rings : goal.returns-then-not-is_ring-clause-rings
returns-then-not-is_ring-clause-rings c =
    let ring = c.in_ok-ring.ring.items in
    let others = lines_by ring_begun c.begun.new.unused in
    let more = lines_by-more ring_begun ring_begun-Grows _ _ _ _ _ c.in-Some.ensures.first c.in_ok-ring.ensures.ring c.rings.rings in
    let all = sym (sym (append_assoc c.rings.rings (ring ∷ []) others) ∙ more ∙ c.rings.invariant.all) in
    let odd = odd-open c.args.pieces.now _ _ _ _ _ c.in-Some.ensures.points c.in-Some.ensures.first c.in_ok-ring.ensures.ring
    c.rings.invariant.alike in
    sym (rings-not c.args.pieces.now c.rings.rings others ring all odd (λ own.
    let h : false ≡ true = c.if-not-is_ring.ensures.ring.1 (subst IsRing (sym c.deref.ensures.value) own) in (cc)))

pub rings-smaller : goal.rings-smaller
rings-smaller c =
    lines_by-fewer ring_begun ring_begun-Grows _ _ _ _ _ c.in-Some.ensures.first c.in_ok-ring.ensures.ring

pub rings-preserved : goal.rings-preserved
rings-preserved c =
    let ring = c.in_ok-ring.ring.items in
    let kept = c.rings.invariant in
    let own = subst IsRing c.deref.ensures.value (c.if-not-is_ring.ensures.ring.0 refl) in
    let pushed : c.push.new.self ≡ c.rings.rings ++ ring ∷ [] =
    c.in_ok-push.ensures.ok ∙ ap (λ (line : Line). c.rings.rings ++ line ∷ []) c.from_vec.ensures.items in
    let more = lines_by-more ring_begun ring_begun-Grows _ _ _ _ _ c.in-Some.ensures.first c.in_ok-ring.ensures.ring c.rings.rings in
    record {
      all = ap (λ rings. rings ++ lines_by ring_begun c.begun.new.unused) pushed ∙ more ∙ kept.all;
      alike = AreAlike-closed c.args.pieces.now _ _ _ _ _ c.in-Some.ensures.points c.in-Some.ensures.first c.in_ok-ring.ensures.ring
          kept.alike own.closed;
      four = ap (list_all has_four_points) pushed ∙ four-more c.rings.rings ring kept.four own.points;
      closed = subst (λ (rings : List Line). All IsRing rings) (sym pushed) (All-push IsRing c.rings.rings ring kept.closed own);
    }

pub returns-clause-rings : goal.returns-clause-rings
returns-clause-rings c =
    let kept = c.rings.invariant in
    let done : c.rings.rings ++ lines_by ring_begun [] ≡ lines_by ring_begun c.args.pieces.now =
    ap (λ unused. c.rings.rings ++ lines_by ring_begun unused) (sym c.in_default.ensures.first) ∙ kept.all in
    let all = sym done ∙ ap (λ rest. c.rings.rings ++ rest) (lines_by-none ring_begun ring_begun-Grows) ∙ append-nil c.rings.rings in
    sym (rings-all c.args.pieces.now c.rings.rings all (subst (AreAlike c.args.pieces.now) c.in_default.ensures.first kept.alike) kept.four)
