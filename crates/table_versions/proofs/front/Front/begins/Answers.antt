use Rattle.std.proofs.Common.{◌≡◌, List, ap, subst}
use mathlib.Core.List.{IsPrefix}
use Rattle.table_versions.specs.declared.history.Entry.{Entry}
use Rattle.table_versions.specs.Fronts.{FrontOf}
use Rattle.table_versions.proofs.Shapes.{begins_other}
use Rattle.table_versions.proofs.front.Front.begins.Goals as goal

pub returns-clause-begins : goal.returns-clause-begins
returns-clause-begins c =
    let both = c.learn.new.self.log in
    let one = c.self.inside.seen in
    let two = c.other.inside.seen in
    let this : IsPrefix one.log both = subst (λ (log : List Entry). IsPrefix log both)
    (ap (λ seen. seen.log) c.again-both.ensures) c.learn.ensures.2 in
    let same : two.book ≡ one.book = rw (
      ap (λ (front : FrontOf). front.book) c.self.view_is,
      ap (λ (front : FrontOf). front.book) c.other.view_is,
    ) c.requires in
    rw (← c.self.view_is, ← c.other.view_is) (begins_other one.book two.book one.log two.log both c.self.inside.deltas c.other.inside.deltas
    same c.self.invariant.0 c.other.invariant.0 c.self.invariant.1 c.other.invariant.1 this c.learn.ensures.3)
