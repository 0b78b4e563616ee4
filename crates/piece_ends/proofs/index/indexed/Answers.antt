use Rattle.std.proofs.Common.{◌≡◌, ◌+◌, ◌-◌, ◌<◌, ◌∙◌, true, false, [], length, sym, ap, subst, refl, arith, rules, length-set}
use Rattle.std.proofs.lemmas.List.{get_or_read}
use Rattle.piece_ends.specs.Pieces.{is_closed, first_place, last_place}
use Rattle.piece_ends.specs.Index.{AreHeadsFrom, AreLinks, piece_at}
use Rattle.piece_ends.proofs.IndexBuilt.{AreHeadsFrom-none, AreLinks-none, AreHeadsFrom-closed, AreLinks-closed, AreHeadsFrom-open}
use Rattle.piece_ends.proofs.IndexBuilt.{AreLinks-open}
use Rattle.piece_ends.proofs.index.indexed.Goals as goal

pub loop-number-init : goal.loop-number-init
loop-number-init c = record {
  all = refl;
  below = omega arith;
  rows = search rules;
  heads = rw c.new-heads.ensures.empty (AreHeadsFrom-none c.args.pieces.now);
  linked = AreLinks-none c.args.pieces.now c.in_ok-links.links.items;
}

pub loop-number-preserved-then-not-is_closed : goal.loop-number-preserved-then-not-is_closed
loop-number-preserved-then-not-is_closed c =
    let pieces = c.args.pieces.now in
    let number = c.loop-number.number - 1 in
    let kept = c.loop-number.invariant in
    let step : c.loop-number.number ≡ number + 1 = omega arith in
    let below : number < length pieces = omega arith in
    let piece_is : c.as_slice-piece.result.now ≡ piece_at pieces number =
    c.as_slice-piece.ensures.items ∙ get_or_read pieces number c.index-pieces-number.result below c.index-pieces-number.is [] in
    let later = subst (AreHeadsFrom pieces c.loop-number.heads) step kept.heads in
    let linked = subst (AreLinks pieces c.loop-number.links.items) step kept.linked in
    let apart : is_closed c.as_slice-piece.result.now ≡ false = sym c.is_closed.ensures.closed ∙ c.if-not-is_closed.true in
    record {
      all = refl;
      below = omega arith;
      rows = length-set c.loop-number.links.items number c.in_ok-links-2.field-0 ∙ kept.rows;
      heads = rw c.in_ok-links-2.ensures.heads
          (AreHeadsFrom-open pieces c.loop-number.heads c.loop-number.links.items number later linked below kept.rows _ _
          (ap first_place piece_is) (ap last_place piece_is) apart);
      linked = AreLinks-open pieces c.loop-number.heads c.loop-number.links.items number later linked below kept.rows _ _
          (ap first_place piece_is) (ap last_place piece_is) apart c.in_ok-links-2.field-0 c.in_ok-links-2.ensures.first
          c.in_ok-links-2.ensures.last;
    }

pub loop-number-preserved : goal.loop-number-preserved
loop-number-preserved c =
    let pieces = c.args.pieces.now in
    let number = c.loop-number.number - 1 in
    let kept = c.loop-number.invariant in
    let step : c.loop-number.number ≡ number + 1 = omega arith in
    let below : number < length pieces = omega arith in
    let piece_is : c.as_slice-piece.result.now ≡ piece_at pieces number =
    c.as_slice-piece.ensures.items ∙ get_or_read pieces number c.index-pieces-number.result below c.index-pieces-number.is [] in
    let later = subst (AreHeadsFrom pieces c.loop-number.heads) step kept.heads in
    let linked = subst (AreLinks pieces c.loop-number.links.items) step kept.linked in
    let closed : is_closed (piece_at pieces number) ≡ true =
    ap is_closed (sym piece_is) ∙ sym c.is_closed.ensures.closed ∙ c.if-not-is_closed.false in
    record {
      all = refl;
      below = omega arith;
      rows = kept.rows;
      heads = AreHeadsFrom-closed pieces c.loop-number.heads c.loop-number.links.items number later linked closed;
      linked = AreLinks-closed pieces c.loop-number.heads c.loop-number.links.items number later linked closed;
    }
