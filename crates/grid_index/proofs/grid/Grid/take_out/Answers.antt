use Rattle.std.proofs.Common.{sym, subst}
use Rattle.std.specs.FinMap as finite
use Rattle.grid_index.specs.Grid.{boxes_in}
use Rattle.grid_index.proofs.Marked.{AreMarked, Drops, dropped_marked, gone_free, less_marked}
use Rattle.grid_index.proofs.grid.Grid.take_out.Goals as goal

pub invariant_of-self : goal.invariant_of-self
invariant_of-self c =
    let old = c.self.inside.marks.keys in
    let new = c.drop_mark.new.marks.keys in
    let boxes = boxes_in c.self.inside.boxes in
    let drops = subst (λ mark. Drops mark old new) c.mark_of.ensures.mark c.drop_mark.ensures.others in
    subst (AreMarked new) (sym c.drop_box-before.ensures.gone)
    (dropped_marked _ old new (finite.remove boxes c.args.spot) drops (gone_free boxes c.args.spot c.in-Some.before)
    (less_marked old boxes c.args.spot c.self.invariant))

pub invariant_of-self-in_default : goal.invariant_of-self-in_default
invariant_of-self-in_default c =
    subst (AreMarked c.self.inside.marks.keys) (sym c.drop_box-before.ensures.gone)
    (less_marked c.self.inside.marks.keys (boxes_in c.self.inside.boxes) c.args.spot c.self.invariant)
