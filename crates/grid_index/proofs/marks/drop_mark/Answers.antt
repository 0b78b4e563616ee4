use Rattle.std.proofs.Common.{◌≡◌, false, cond, subst}
use Rattle.std.specs.BTreeMap.{is_at}
use Rattle.std.specs.BTreeSet.{contains}
use Rattle.grid_index.specs.declared.marks.Mark.{Mark}
use Rattle.grid_index.proofs.Order.{tree_cmp-mark_cmp}
use Rattle.grid_index.proofs.marks.drop_mark.Goals as goal

pub returns : goal.returns
returns c = record {
  others = subst (λ cmp. (other : Mark) → contains cmp c.remove.new.self other
      ≡ cond (is_at (cmp c.args.mark) other) false (contains cmp c.args.marks.now other)) tree_cmp-mark_cmp
      c.remove.ensures.updates.0;
}
