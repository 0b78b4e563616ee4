use Rattle.std.proofs.Common.{◌≡◌, ◌++◌, ◌-◌, ◌+◌, ℕ, suc, List, sym, ap, ◌∙◌, arith}
use Rattle.std.proofs.lemmas.List.{append-nil}
use Rattle.chain_store.specs.Marks.{same_from}
use Rattle.chain_store.proofs.MarkLaws.{same-more, same-whole}
use Rattle.chain_store.proofs.marks.same_pages.Goals as goal

pub loop-preserved : goal.loop-preserved
loop-preserved c =
    let many : ℕ = c.page_count-many.result in
    let left : many - c.loop.counter ≡ suc (many - (c.loop.counter + 1)) = omega (arith, c.loop-test.true) in
    ap (λ (l : List ℕ). l ++ same_from (many - (c.loop.counter + 1)) c.cut.result.1.now c.cut-in-loop.result.1.now)
    c.in_ok-push.ensures.items
    ∙ same-more c.loop.marks.items c.mark_of.result (many - (c.loop.counter + 1))
    (many - c.loop.counter) c.loop.rest_before.now c.loop.rest.now
    c.cut.result.0.now c.cut-in-loop.result.0.now c.cut.result.1.now c.cut-in-loop.result.1.now left c.cut.ensures.held
    c.cut-in-loop.ensures.held
    c.cut.ensures.behind c.cut-in-loop.ensures.behind c.mark_of.ensures
    ∙ c.loop.invariant

pub returns : goal.returns
returns c =
    let many : ℕ = c.page_count-many.result in
    let none : many - c.loop.counter ≡ 0 = omega (arith, c.loop-test.false) in
    c.from_vec.ensures.items
    ∙ same-whole c.loop.marks.items c.args.before.now c.args.bytes.now many c.page_count-many.ensures
    (sym (append-nil c.loop.marks.items)
    ∙ ap (λ (n : ℕ). c.loop.marks.items ++ same_from n c.loop.rest_before.now c.loop.rest.now) (sym none)
    ∙ c.loop.invariant)
