use Rattle.std.proofs.Common.{sym, ap, ◌∙◌}
use Rattle.std.specs.Prelude.{codes}
use Rattle.delta_feed.specs.Feeding.{says}
use Rattle.delta_feed.proofs.BlockSteps.{looked}
use Rattle.delta_feed.proofs.reader.FeedReader.goes_on.Goals as goal

pub returns-in-Ok-clause-value : goal.returns-in-Ok-clause-value
returns-in-Ok-clause-value g c = looked c.args.self.now c.look.new.self c.args.read.now c.begins_more.result _ _
    (sym c.is_full.ensures.value ∙ c.if-not-is_full.false) (c.begins_more.ensures.value ∙ ap (says (codes "more")) c.bytes.ensures.bytes)
    c.in-Ok.ensures.seen
