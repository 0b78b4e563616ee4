use Rattle.std.proofs.Common.{sym, subst}
use Rattle.osm_base.specs.values.Ids.{AreRisingIds}
use Rattle.object_fold.proofs.OfObjects.{relations_of_ways-are, relations_of_ways-ids}
use Rattle.object_fold.proofs.objects.ObjectsLookup.relations_of_way.Goals as goal

pub returns : goal.returns
returns c =
    let is = relations_of_ways-are c.self.inside.objects c.self.inside.listings c.args.self.now c.self.view_is c.self.invariant c.args.id
    c.listers.result.now c.listers.ensures.ids c.listers.ensures.rise in
    record {
      relations = is;
      rising = subst AreRisingIds (sym is) (relations_of_ways-ids c.self.inside.objects c.self.inside.listings c.args.self.now
          c.self.view_is c.self.invariant c.args.id);
    }
