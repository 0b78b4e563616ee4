use Rattle.store_check.proofs.HeldLaws.{way_put}
use Rattle.store_check.proofs.held.Held.put_way.Goals as goal

pub returns : goal.returns
returns c = record {
  ok = way_put c.self.inside.places c.self.inside.ways c.self.inside.relations c.self.inside.members c.args.self.now c.self.view_is
      c.args.id c.insert.new.self c.args.way c.in_ok-insert.ensures.updates;
}
