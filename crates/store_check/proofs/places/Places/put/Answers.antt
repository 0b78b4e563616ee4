use Rattle.std.proofs.Common.{◌%◌, refl, ap, ◌∙◌}
use Rattle.std.specs.FinMap as finite
use Rattle.store_check.specs.Places.{PlaceMap}
use Rattle.store_check.proofs.PlaceLists.{joined_same, on_err, own_put, own_same, put_in}
use Rattle.store_check.proofs.places.Places.put.Goals as goal

pub returns-clause-ok : goal.returns-clause-ok
returns-clause-ok c =
    put_in c.self.inside.count c.reach.new.lists.items (c.args.id % c.self.inside.count) c.args.id c.args.place c.index_mut.result.now
    c.put.new.self (c.in_ok-reach.ensures.own c.self.inside.count c.self.invariant.own) c.in_ok-reach.ensures.there refl
    (c.in_ok-put.ensures.ok ∙ ap (λ (own : PlaceMap). finite.insert own c.args.id c.args.place) c.index_mut.ensures.value)
    ∙ ap (λ (own : PlaceMap). finite.insert own c.args.id c.args.place) (c.in_ok-reach.ensures.same ∙ c.self.view_is)

pub returns-in_err-reach-clause-err : goal.returns-in_err-reach-clause-err
returns-in_err-reach-clause-err c = on_err c.from_residual.result (c.in_err-reach.ensures.same ∙ c.self.view_is)

pub returns-in_err-put-clause-err : goal.returns-in_err-put-clause-err
returns-in_err-put-clause-err c =
    on_err c.from_residual-in_err-put.result
    (joined_same c.reach.new.lists.items (c.args.id % c.self.inside.count) c.index_mut.result.now c.put.new.self
    c.in_ok-reach.ensures.there (c.in_err-put.ensures.err ∙ c.index_mut.ensures.value)
    ∙ c.in_ok-reach.ensures.same ∙ c.self.view_is)

pub invariant_of-self-2 : goal.invariant_of-self-2
invariant_of-self-2 c = record {
  some = c.self.invariant.some;
  own = own_put c.self.inside.count c.reach.new.lists.items (c.args.id % c.self.inside.count) c.args.id c.args.place c.index_mut.result.now
      c.put.new.self (c.in_ok-reach.ensures.own c.self.inside.count c.self.invariant.own) c.in_ok-reach.ensures.there refl
      (c.in_ok-put.ensures.ok ∙ ap (λ (own : PlaceMap). finite.insert own c.args.id c.args.place) c.index_mut.ensures.value);
}

pub invariant_of-self-in_err-put : goal.invariant_of-self-in_err-put
invariant_of-self-in_err-put c = record {
  some = c.self.invariant.some;
  own = own_same c.self.inside.count c.reach.new.lists.items (c.args.id % c.self.inside.count) c.index_mut.result.now c.put.new.self
      (c.in_ok-reach.ensures.own c.self.inside.count c.self.invariant.own) c.in_ok-reach.ensures.there
      (c.in_err-put.ensures.err ∙ c.index_mut.ensures.value);
}
