use Rattle.std.proofs.Common.{◌++◌, List, ap, sym, ◌∙◌}
use Rattle.osm_base.specs.values.Key.{KeyOf}
use Rattle.update_step.specs.Gather.{Ask, gathered_in, known_in}
use Rattle.update_step.specs.Rounds.{parts_of}
use Rattle.update_step.proofs.KeyedLists.{flat-more}
use Rattle.update_step.proofs.asks.of_parts.Goals as goal

pub loop-key-preserved : goal.loop-key-preserved
loop-key-preserved c =
    let own = c.key-item.result in
    let of : KeyOf → List Ask = parts_of c.args.style.now c.args.reaches (known_in (gathered_in c.args.answers.now)) in
    c.in_ok-add_parts_of.ensures.added
    ∙ ap (λ (asks : List Ask). asks ++ of own) c.loop-key.invariant
    ∙ sym (flat-more of c.args.keys.now c.loop-key.key-index own own c.loop-key-test.true c.key-item.is)
