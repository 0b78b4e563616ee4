-- The changes of a key stay in their order.
use Rattle.std.proofs.Common.{◌≡◌, List, rules, ap, ◌∙◌}
use Rattle.std.proofs.lemmas.Fn.{always_returns_same}
use Rattle.osm_base.specs.declared.values.row.RowChange.{RowChange}
use Rattle.osm_base.specs.map.Spots.{changed_all}
use Rattle.update_flow.proofs.ChangeOrder.{same_by_keys}
use Rattle.update_flow.proofs.taking.by_key.Goals as goal

pub returns-clause-same : goal.returns-clause-same
returns-clause-same c tables =
    same_by_keys c.into_vec-changes.result.items c.sort_by_key.new.self.items
    (c.sort_by_key.ensures.stable (λ (change : RowChange). change.key)
    (always_returns_same _ (λ a r. r ≡ a.0.now.key) _ (λ a r q k. search rules))) tables
    ∙ ap (λ (l : List RowChange). changed_all tables l) c.into_vec-changes.ensures.items
