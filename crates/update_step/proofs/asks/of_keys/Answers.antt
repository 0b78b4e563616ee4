use Rattle.std.proofs.Common.{[], ◌∷◌, ◌++◌, List, ap, sym, ◌∙◌}
use Rattle.update_step.specs.Gather.{Ask, OfKey}
use Rattle.update_step.proofs.KeyedLists.{map-more}
use Rattle.update_step.proofs.asks.of_keys.Goals as goal

pub loop-key-preserved : goal.loop-key-preserved
loop-key-preserved c =
    c.in_ok-push.ensures.items
    ∙ ap (λ (asks : List Ask). asks ++ OfKey c.key-item.result ∷ []) c.loop-key.invariant
    ∙ sym (map-more OfKey c.args.keys.now c.loop-key.key-index c.key-item.result c.key-item.result c.loop-key-test.true c.key-item.is)
