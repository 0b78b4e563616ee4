use Rattle.std.proofs.Common.{◌∷◌, drop, ◌+◌, List, sym, ap, ◌∙◌}
use Rattle.page_journal.specs.PageSet.{PageMap}
use Rattle.chain_store.specs.Pairs.{chain_pairs, laid_pairs, puts}
use Rattle.chain_store.specs.declared.parts.Laid.{Laid}
use Rattle.chain_store.proofs.PairLaws.{drop-at, puts-append}
use Rattle.chain_store.proofs.laying.put_all.Goals as goal

pub loop-one-preserved : goal.loop-one-preserved
loop-one-preserved c =
    let laid : List Laid = c.args.laid.now in
    let one : Laid = c.one-item.result in
    let rest : List Laid = drop (c.loop-one.one-index + 1) laid in
    ap (λ (s : PageMap). puts s (laid_pairs rest)) c.in_ok-put_laid.ensures.put
    ∙ sym (puts-append c.loop-one.set (chain_pairs one.number 0 one.pages one.bytes one.old one.same) (laid_pairs rest))
    ∙ ap (λ (l : Laid). puts c.loop-one.set (laid_pairs (l ∷ rest))) c.one-item.is
    ∙ ap (λ (l : List Laid). puts c.loop-one.set (laid_pairs l)) (sym (drop-at laid c.loop-one.one-index one c.loop-one-test.true))
    ∙ c.loop-one.invariant
