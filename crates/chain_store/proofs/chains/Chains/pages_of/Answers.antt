-- What was read of a chain is what it has.
use Rattle.std.proofs.Common.{◌+◌, length, subst}
use Rattle.chain_store.specs.Chain.{HasPages}
use Rattle.chain_store.specs.Links.{page_in}
use Rattle.chain_store.specs.Store.{kept_first}
use Rattle.chain_store.specs.declared.kept.Kept.{Kept}
use Rattle.chain_store.proofs.chains.Chains.pages_of.Goals as goal

pub returns-in-Ok-clause-answers : goal.returns-in-Ok-clause-answers
returns-in-Ok-clause-answers g c = λ pages opened.
    subst (λ (kept : Kept). HasPages (page_in pages) (length pages + 1) c.args.n (kept_first kept c.args.n) c.in-Ok.pages)
    c.in_default.ensures.looks.stays.kept
    ((c.in_default.ensures.looks.opens pages opened).known c.args.n c.in-Ok.pages c.in-Ok.ensures.pages)
