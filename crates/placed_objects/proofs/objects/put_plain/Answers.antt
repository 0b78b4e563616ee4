use Rattle.std.proofs.Common.{ap}
use Rattle.osm_base.specs.values.Key.{KeyOf}
use Rattle.placed_objects.proofs.Joined.{put-answer}
use Rattle.placed_objects.proofs.objects.put_plain.Goals as goal

pub returns-in-Some-clause-ok : goal.returns-in-Some-clause-ok
returns-in-Some-clause-ok c =
    put-answer c.args.entry.now c.requires c.key.inside.id (ap (λ (own : KeyOf). own.id) c.key.view_is) c.args.places.now c.put.new.self
    c.put.result c.in-Some.place c.in-Some.ensures.plain c.put.ensures.ok
