use Rattle.std.proofs.Common.{sym, ap, ◌∙◌}
use Rattle.std.specs.FinMap as finite
use Rattle.std.specs.Ordering.{nat_cmp}
use Rattle.store_check.proofs.PlaceFinds.{got_listed, got_rest, tree_find}
use Rattle.store_check.proofs.node_list.NodeList.get.Goals as goal

pub returns-in-Some : goal.returns-in-Some
returns-in-Some c = record {
  place = got_rest c.self.inside.rest.entries c.self.inside.listed.items c.args.self.now c.self.view_is c.args.id c.in-Some.place
      (sym c.in-Some.is ∙ c.copied.ensures ∙ c.get.ensures.value ∙ tree_find c.self.inside.rest c.args.id);
}

pub returns-in-None : goal.returns-in-None
returns-in-None c = record {
  place = c.listed_at.ensures.found
      ∙ ap (finite.find nat_cmp c.args.id) c.deref.ensures.value
      ∙ got_listed c.self.inside.rest.entries c.self.inside.listed.items c.args.self.now c.self.view_is c.args.id
      (sym c.in-None.is ∙ c.copied.ensures ∙ c.get.ensures.value ∙ tree_find c.self.inside.rest c.args.id);
}
