use Rattle.std.proofs.Common.{rules, ◌≡◌, ◌++◌, ◌∙◌, Bool, List, ℕ, ap, drop, subst, sym}
use Rattle.opl_files.specs.Lots.{HasCome}
use Rattle.opl_files.specs.declared.ahead.Ahead.{Ahead}
use Rattle.opl_files.proofs.LotLaws.{taken}
use Rattle.opl_files.proofs.lots.LotReader.settle.Goals as goal

pub returns-clause-lots : goal.returns-clause-lots
returns-clause-lots g c = λ first start left come.
    let old = c.args.self.now in
    let bytes = old.waiting.bytes.items in
    let kept = old.ahead.kept.items in
    let used = c.in_ok-used.used in
    let given = c.in_ok-used.ensures.given in
    let more = ap (λ (own : Ahead). own.more) c.in_ok-put_back.ensures.same in
    let rest : c.drop_front.new.kept.items ≡ drop used bytes = c.in_ok-drop_front.ensures.ok ∙ ap (λ own. drop used own) given.bytes in
    let front : c.replace-front.result.items ≡ c.drop_front.new.kept.items = search rules in
    let all : c.put_back.new.self.kept.items ≡ drop used bytes ++ kept =
    c.in_ok-put_back.ensures.kept ∙ ap (λ own. own ++ kept) (front ∙ rest) in
    subst (λ (own : Bool × List ℕ). HasCome g.K.Keeper.after c.args.limits.now first c.give.new.self.passed c.give.new.keeper own.1 own.0 start left)
    (λ i. (sym more i, sym all i))
    (taken g.K.Keeper.after c.args.limits.now first old.waiting.passed c.args.keeper.now c.give.new.self.passed c.give.new.keeper bytes kept old.ahead.more used
    start left come given.lines)
