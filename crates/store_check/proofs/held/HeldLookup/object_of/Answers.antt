use Rattle.std.proofs.Common.{rules}
use Rattle.store_check.proofs.HeldLaws.{way_found}
use Rattle.store_check.proofs.held.HeldLookup.object_of.Goals as goal

pub returns-in-Way : goal.returns-in-Way
returns-in-Way c = record {
  object = way_found c.self.inside.places c.self.inside.ways c.self.inside.relations c.self.inside.members c.args.self.now c.self.view_is
      c.args.key c.get.ensures.value (search rules) (search rules);
}
