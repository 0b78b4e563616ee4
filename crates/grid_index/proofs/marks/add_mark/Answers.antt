use Rattle.std.proofs.Common.{◌≡◌, true, cond, subst}
use Rattle.std.specs.BTreeMap.{is_at}
use Rattle.std.specs.BTreeSet.{contains}
use Rattle.grid_index.specs.declared.marks.Mark.{Mark}
use Rattle.grid_index.proofs.Order.{tree_cmp-mark_cmp}
use Rattle.grid_index.proofs.marks.add_mark.Goals as goal

pub returns-clause-ok : goal.returns-clause-ok
returns-clause-ok c =
    subst (λ cmp. (other : Mark) → contains cmp c.insert.new.self other
    ≡ cond (is_at (cmp c.args.mark) other) true (contains cmp c.args.marks.now other)) tree_cmp-mark_cmp
    c.in_ok-insert.ensures.updates.0
