use Rattle.std.proofs.Common.{ap, ◌∙◌}
use Rattle.std.specs.FinMap as finite
use Rattle.store_check.specs.Held.{HeldOf}
use Rattle.store_check.proofs.held.HeldLookup.place_of.Goals as goal

pub returns : goal.returns
returns c = record {
  place = c.get.ensures.place ∙ ap (λ (own : HeldOf). finite.get own.places c.args.id) c.self.view_is;
}
