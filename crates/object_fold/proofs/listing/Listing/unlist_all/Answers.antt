use Rattle.std.proofs.Common.{subst}
use Rattle.object_fold.specs.Listing.{Unlists}
use Rattle.std.proofs.lemmas.List.{take_all}
use Rattle.object_fold.proofs.listing.Listing.unlist_all.Goals as goal

pub returns : goal.returns
returns c = record {
  left = subst (λ ids. Unlists ids c.args.but.now c.args.lister c.args.self.now c.loop-id.self)
      (take_all c.loop-id.id-index c.args.ids.now c.loop-id-test.false) c.loop-id.invariant;
}
