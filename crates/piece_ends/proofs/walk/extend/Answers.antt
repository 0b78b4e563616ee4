use Rattle.std.proofs.Common.{◌≡◌, ◌∙◌, ap, sym, length, Some, None, subst, arith, true, false}
use Rattle.piece_ends.specs.Pieces.{is_closed, last_place}
use Rattle.piece_ends.specs.Walk.{next_at, appended, extended}
use Rattle.piece_ends.proofs.Steps.{found_of, length-next_at, extended-closed, extended-none, extended-some}
use Rattle.piece_ends.proofs.walk.extend.Goals as goal

pub walk-smaller : goal.walk-smaller
walk-smaller c = omega (
  arith,
  length-next_at c.last_place.result c.walk.unused c.in-Some.piece.now c.take_at.new.self
      c.in-Some.ensures.some,
)

pub walk-preserved : goal.walk-preserved
walk-preserved c =
    let open_line : is_closed c.walk.line.items ≡ false =
    ap is_closed (sym c.deref.ensures.value) ∙ sym c.is_closed.ensures.closed ∙ c.walk-test.true in
    let place : c.last_place.result ≡ last_place c.walk.line.items =
    c.last_place.ensures.last ∙ ap last_place c.deref-in-walk.ensures.value in
    let found = subst (λ q. next_at q c.walk.unused ≡ Some (found_of c.in-Some.piece.now c.take_at.new.self)) place
    c.in-Some.ensures.some in
    let longer : c.append.new.line.items ≡ appended c.walk.line.items c.in-Some.piece.now =
    c.in_ok-append.ensures.longer ∙ ap (appended c.walk.line.items) c.as_slice.ensures.items in
    record {
      points = c.in_ok-append.ensures.points;
      walk = ap (λ line. extended (length c.take_at.new.self) line c.take_at.new.self) longer ∙ sym (extended-some _ _ _ _ open_line found)
          ∙ c.walk.invariant.walk;
    }

pub returns-after-walk-clause-longer : goal.returns-after-walk-clause-longer
returns-after-walk-clause-longer c =
    let closed : is_closed c.walk.line.items ≡ true =
    ap is_closed (sym c.deref.ensures.value) ∙ sym c.is_closed.ensures.closed ∙ c.walk-test.false in
    sym (extended-closed (length c.walk.unused) _ _ closed) ∙ c.walk.invariant.walk

pub returns-in_default-clause-longer : goal.returns-in_default-clause-longer
returns-in_default-clause-longer c =
    let place : c.last_place.result ≡ last_place c.walk.line.items =
    c.last_place.ensures.last ∙ ap last_place c.deref-in-walk.ensures.value in
    let none = subst (λ q. next_at q c.walk.unused ≡ None) place c.in_default.ensures.none in
    rw c.in_default.ensures.none_stays (sym (extended-none (length c.walk.unused) _ _ none) ∙ c.walk.invariant.walk)
