use Rattle.std.proofs.Common.{sym, subst}
use Rattle.grid_index.specs.Grid.{boxes_in}
use Rattle.grid_index.proofs.Marked.{AreMarked, Adds, moved_marked, put_marked}
use Rattle.grid_index.proofs.grid.Grid.put.Goals as goal

pub invariant_of-self-in-Some : goal.invariant_of-self-in-Some
invariant_of-self-in-Some c =
    let old = c.self.inside.marks.keys in
    let mid = c.add_mark.new.marks.keys in
    let new = c.drop_moved.new.marks.keys in
    let boxes = boxes_in c.self.inside.boxes in
    let adds = subst (λ mark. Adds mark old mid) c.mark_of-mark.ensures.mark c.in_ok-add_mark.ensures.ok in
    subst (AreMarked new) (sym c.in_ok-before.ensures.ok)
    (moved_marked old mid new boxes c.args.spot c.args.around c.in-Some.before adds c.self.invariant
    c.drop_moved.ensures.moved c.drop_moved.ensures.same)

pub invariant_of-self-in_default : goal.invariant_of-self-in_default
invariant_of-self-in_default c =
    let old = c.self.inside.marks.keys in
    let mid = c.add_mark.new.marks.keys in
    let adds = subst (λ mark. Adds mark old mid) c.mark_of-mark.ensures.mark c.in_ok-add_mark.ensures.ok in
    subst (AreMarked mid) (sym c.in_ok-before.ensures.ok)
    (put_marked old mid (boxes_in c.self.inside.boxes) c.args.spot c.args.around adds c.self.invariant)
