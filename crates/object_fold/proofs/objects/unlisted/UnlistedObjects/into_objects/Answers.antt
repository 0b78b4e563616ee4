use Rattle.std.proofs.Common.{◌∙◌}
use Rattle.object_fold.proofs.Gathered.{with_all, with_entries}
use Rattle.object_fold.proofs.objects.unlisted.UnlistedObjects.into_objects.Goals as goal

pub loop-key-init : goal.loop-key-init
loop-key-init c =
    (λ i. with_entries (c.new-listed.ensures.empty i) (c.into_iter-key-iterator.ensures.into_iter_gives.0 i))
    ∙ with_all c.self.inside.objects.entries c.into_iter-key-iterator.ensures.into_iter_gives.5
    ∙ c.self.view_is
