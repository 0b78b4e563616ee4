use Rattle.std.proofs.Common.{ℕ, List, Vec, ap, ◌∙◌}
use Rattle.std.specs.Ordering.{nat_cmp}
use Rattle.std.specs.FinMap as map
use Rattle.std.specs.declared.alloc.Global.{Global}
use Rattle.page_journal.specs.PageSet.{plain}
use Rattle.page_journal.proofs.Trees.{view_none}
use Rattle.page_journal.proofs.page_set.PageSet.new.Goals as goal

pub returns : goal.returns
returns c = record {
  empty = ap (λ (es : List (ℕ × Vec ℕ Global)). map.from_sorted {R = nat_cmp} (plain es)) c.new.ensures.empty ∙ view_none;
}
