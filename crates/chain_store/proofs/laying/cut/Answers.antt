use Rattle.std.proofs.Common.{◌∙◌}
use Rattle.chain_store.proofs.PairLaws.{cut_held, cut_later}
use Rattle.chain_store.proofs.laying.cut.Goals as goal

pub returns-clause-held : goal.returns-clause-held
returns-clause-held c = c.split_at.ensures.front ∙ cut_held c.args.bytes.now c.min.result c.min.ensures

pub returns-clause-behind : goal.returns-clause-behind
returns-clause-behind c = c.split_at.ensures.back ∙ cut_later c.args.bytes.now c.min.result c.min.ensures
