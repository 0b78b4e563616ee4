use Rattle.tile_cover.proofs.Divided.{span_first, span_last, span_ordered}
use Rattle.tile_cover.proofs.span.span_between.Goals as goal

pub returns-clause-first : goal.returns-clause-first
returns-clause-first c = λ x. span_first c.args.low c.args.high c.args.height c.min.result c.saturating_sub.result c.from-width.result x
    c.min.ensures c.saturating_sub.ensures c.from-width.ensures c.requires.height.0

pub returns-clause-last : goal.returns-clause-last
returns-clause-last c = λ x h. span_last c.args.low c.args.high c.args.height c.max.result c.min-last.result c.from-width.result x
    c.args.columns c.from.result
    c.max.ensures c.from-width.ensures c.from.ensures c.min-last.ensures c.requires.height.0 h

pub returns-clause-ordered : goal.returns-clause-ordered
returns-clause-ordered c = span_ordered c.args.low c.args.high c.args.height c.min.result c.saturating_sub.result c.max.result
    c.min-last.result c.from-width.result c.args.columns c.from.result
    c.min.ensures c.saturating_sub.ensures c.max.ensures c.from-width.ensures c.from.ensures c.min-last.ensures c.requires.height.0
    c.requires.columns.0 c.requires.low c.requires.high
