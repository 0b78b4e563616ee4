use Rattle.std.proofs.Common.{refl, sym, subst}
use Rattle.table_versions.specs.Fronts.{Begins, FrontOf}
use Rattle.table_versions.proofs.Shapes.{begins_back, begins_itself}
use Rattle.table_versions.proofs.front.Front.longer.Goals as goal

pub returns-then-begins-clause-this : goal.returns-then-begins-clause-this
returns-then-begins-clause-this c = subst (λ (front : FrontOf). Begins c.args.self.now front)
    (sym c.again.ensures.same) c.if-begins.ensures.begins

pub returns-then-begins-clause-that : goal.returns-then-begins-clause-that
returns-then-begins-clause-that c = subst (λ (front : FrontOf). Begins c.args.other.now front) (sym c.again.ensures.same)
    (begins_itself c.args.other.now)

pub returns-clause-this : goal.returns-clause-this
returns-clause-this c = subst (λ (front : FrontOf). Begins c.args.self.now front) (sym c.again-2.ensures.same)
    (begins_itself c.args.self.now)

pub returns-clause-that : goal.returns-clause-that
returns-clause-that c =
    let back : Begins c.args.other.now c.args.self.now =
    begins_back c.args.self.now c.args.other.now _ _ c.if-begins.ensures.len c.begins-shorter.ensures.len c.begins-shorter.ensures.begins
    refl in
    subst (λ (front : FrontOf). Begins c.args.other.now front) (sym c.again-2.ensures.same) back
