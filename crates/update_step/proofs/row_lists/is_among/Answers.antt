use Rattle.std.proofs.Common.{sym, ◌∙◌}
use Rattle.update_step.proofs.WithoutRows.{found-lacks}
use Rattle.update_step.proofs.row_lists.is_among.Goals as goal

pub returns : goal.returns
returns c = record {
  lacking = λ rows all same.
      found-lacks c.args.keys.now c.args.key c.binary_search.result c.binary_search.ensures.bound c.binary_search.ensures.ok
      (sym c.is_ok.ensures.value ∙ same) rows all;
}
