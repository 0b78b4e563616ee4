-- What no table may want has no rows.
use Rattle.std.proofs.Common.{◌≡◌, false, rules, sym, subst, ◌∙◌}
use Rattle.store_maps.specs.Append.{MayKeep}
use Rattle.store_maps.proofs.KeptRows.{may_keep}
use Rattle.store_check.specs.Judged.{known_with}
use Rattle.store_check.proofs.RowRight.{unwanted_spelled}
use Rattle.store_check.proofs.row_judge.is_right_known.Goals as goal

pub returns-then-not-may_have_rows : goal.returns-then-not-may_have_rows
returns-then-not-may_have_rows c = record {
  right =
      let unwanted : c.may_have_rows.result ≡ false = search rules in
      unwanted_spelled c.args.style.now c.args.held.now c.args.node.now c.args.key c.args.kept.now c.is_none.result c.requires.node
      (sym c.may_have_rows.ensures.may ∙ unwanted) c.is_none.ensures;
}

pub are_bytes_of-requires : goal.are_bytes_of-requires
are_bytes_of-requires c = record {
  may = subst (MayKeep c.args.style.now.tables) (sym c.in_ok-rows.ensures.known)
      (may_keep c.args.style.now (known_with c.args.held.now c.args.node.now) c.args.key);
}
