use Rattle.std.proofs.Common.{◌≡◌, Some, rules}
use Rattle.osm_base.specs.declared.values.object.Object.TheVariants as objects
use Rattle.placed_objects.proofs.Joined.{plain-of}
use Rattle.placed_objects.proofs.objects.plain_place.Goals as goal

pub returns-in-Some-Node : goal.returns-in-Some-Node
returns-in-Some-Node c =
    let there : c.args.entry.now.object ≡ Some (objects.Node c.in-Some-Node.place c.in-Some-Node.tags) = search rules in
    record {
      plain = plain-of c.args.entry.now.object c.in-Some-Node.place c.in-Some-Node.tags there
          (c.is_empty.ensures.none.0 c.if-is_empty.true);
    }
