use Rattle.std.proofs.Common.{◌∙◌}
use Rattle.object_fold.proofs.OfObjects.{got, listed_by, listed-none, if_ok}
use Rattle.object_fold.proofs.objects.listed_at.Goals as goal

pub returns-in-Some : goal.returns-in-Some
returns-in-Some c = record {
  ids = if_ok c.of.result
      (listed_by c.args.objects.now c.args.key c.in-Some.object.now (c.in-Some.ensures.value ∙ got c.args.objects.now c.args.key))
      c.of.ensures.ids;
}

pub returns-in-None : goal.returns-in-None
returns-in-None c = record {
  ids = listed-none c.args.objects.now c.args.key c.none.result
      (c.in-None.ensures.value ∙ got c.args.objects.now c.args.key) c.none.ensures.nodes c.none.ensures.ways;
}
