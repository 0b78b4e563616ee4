use Rattle.std.proofs.Common.{sym, subst}
use Rattle.store_maps.specs.Append.{MayKeep}
use Rattle.store_maps.proofs.KeptRows.{may_keep}
use Rattle.store_check.specs.Held.{held_known}
use Rattle.store_check.proofs.row_judge.is_right_other.Goals as goal

pub are_bytes_of-requires : goal.are_bytes_of-requires
are_bytes_of-requires c = record {
  may = subst (MayKeep c.args.style.now.tables) (sym c.in_ok-rows.ensures.known)
      (may_keep c.args.style.now (held_known c.args.held.now) c.args.key);
}
