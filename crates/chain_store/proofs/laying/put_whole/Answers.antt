use Rattle.std.proofs.Common.{List, sym, ap, ◌∙◌}
use Rattle.std.specs.Vec.Iter.{into_iter_items}
use Rattle.page_journal.specs.PageSet.{PageMap}
use Rattle.chain_store.specs.Pairs.{chain_pairs, laid_pairs, puts}
use Rattle.chain_store.specs.declared.parts.Laid.{Laid}
use Rattle.chain_store.proofs.PairLaws.{puts-append}
use Rattle.chain_store.proofs.laying.put_whole.Goals as goal

pub loop-one-preserved : goal.loop-one-preserved
loop-one-preserved c =
    let one : Laid = c.in-Some.one in
    let rest : List Laid = into_iter_items c.next.new.self in
    ap (λ (s : PageMap). puts s (laid_pairs rest)) c.in_ok-put_laid.ensures.put
    ∙ sym (puts-append c.loop-one.set (chain_pairs one.number 0 one.pages one.bytes one.old one.same) (laid_pairs rest))
    ∙ ap (λ (l : List Laid). puts c.loop-one.set (laid_pairs l)) (sym c.in-Some.ensures.steps.0)
    ∙ c.loop-one.invariant
