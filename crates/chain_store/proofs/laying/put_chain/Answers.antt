use Rattle.std.proofs.Common.{◌∙◌}
use Rattle.chain_store.proofs.PairLaws.{chain-more}
use Rattle.chain_store.proofs.laying.put_chain.Goals as goal

pub loop-place-preserved : goal.loop-place-preserved
loop-place-preserved c =
    chain-more c.loop-place.set c.put_page.new.set c.args.chain.now.owner c.args.chain.now.tail c.args.chain.now.pages.now
    c.args.chain.now.old.now
    c.args.chain.now.same.now c.loop-place.rest.now c.cut.result.0.now c.cut.result.1.now c.loop-place.place c.loop-place-test.true
    c.cut.ensures.held
    c.cut.ensures.behind c.in_ok-put_page.ensures.put
    ∙ c.loop-place.invariant
