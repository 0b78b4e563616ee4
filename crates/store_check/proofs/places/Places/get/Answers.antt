use Rattle.std.proofs.Common.{◌%◌, refl, ap, ◌∙◌, arith}
use Rattle.std.specs.FinMap as finite
use Rattle.store_check.specs.Places.{PlaceMap}
use Rattle.store_check.proofs.PlaceLists.{get_in, get_past}
use Rattle.store_check.proofs.places.Places.get.Goals as goal

pub returns-then-at-len : goal.returns-then-at-len
returns-then-at-len c = record {
  place = get_past c.self.inside.count c.self.inside.lists.items (c.args.id % c.self.inside.count) c.args.id c.self.invariant.own
      (omega (arith, c.len.ensures, c.if-at-len.true)) refl
      ∙ ap (λ (own : PlaceMap). finite.get own c.args.id) c.self.view_is;
}

pub returns : goal.returns
returns c = record {
  place = c.get.ensures.place
      ∙ ap (λ (own : PlaceMap). finite.get own c.args.id) c.index.ensures
      ∙ get_in c.self.inside.count c.self.inside.lists.items (c.args.id % c.self.inside.count) c.args.id c.index.result.now c.self.invariant.own
      (omega (arith, c.len.ensures, c.if-at-len.false)) refl
      ∙ ap (λ (own : PlaceMap). finite.get own c.args.id) c.self.view_is;
}
