use Rattle.std.proofs.Common.{rules, ◌≡◌, ◌≤◌, List, None, arith, ap, length, subst, sym, ◌∙◌}
use Rattle.osm_base.specs.declared.values.object.Entry.{Entry}
use Rattle.osm_base.specs.values.Key.{KeyOf}
use Rattle.geom_workers.specs.Keys.{keys_of}
use Rattle.update_step.specs.Importing.{keys_named, wanted_among}
use Rattle.update_step.proofs.NamedKeys.{by_kind, keys-are}
use Rattle.update_step.proofs.WantedEntries.{wanted-few, wanted-rise}
use Rattle.update_step.proofs.importing.wanted_keys.Goals as goal

pub invariant_of-result : goal.invariant_of-result
invariant_of-result c =
    let style = c.args.style.now in
    let change : List Entry = c.args.change.now in
    let few = c.requires.few in
    let are : keys_of c.new-set.result ≡ keys_named (wanted_among style change) = ap keys_of c.new-set.ensures.ids
    ∙ (λ i. by_kind (c.in_ok-nodes.ensures.ids i) (c.in_ok-ways.ensures.ids i) (c.in_ok-relations.ensures.ids i))
    ∙ keys-are None (wanted_among style change) (wanted-rise style change c.entries-entries.ensures.rise) in
    let fewer : length (keys_of c.new-set.result) ≤ length change =
    subst (λ (own : List KeyOf). length own ≤ length change) (sym are) (wanted-few style change) in
    first_of (omega (arith, few, fewer), search (rules, few, fewer), grind (arith, few, fewer))

pub returns : goal.returns
returns c =
    let wanted : List Entry = wanted_among c.args.style.now c.args.change.now in
    record {
      keys = ap keys_of c.new-set.ensures.ids
          ∙ (λ i. by_kind (c.in_ok-nodes.ensures.ids i) (c.in_ok-ways.ensures.ids i) (c.in_ok-relations.ensures.ids i))
          ∙ keys-are None wanted (wanted-rise c.args.style.now c.args.change.now c.entries-entries.ensures.rise);
    }
