use Rattle.std.proofs.Common.{◌≡◌, List, map, sym, ap, subst, ◌∙◌}
use Rattle.std.specs.FinMap as finite
use Rattle.std.specs.List.{AllByRecursion}
use Rattle.osm_base.specs.map.Listers.{known_of}
use Rattle.osm_base.specs.map.Objects.{ObjectSet, folded_all}
use Rattle.osm_base.specs.values.Key.{KeyOf}
use Rattle.row_rules.specs.Rows.{rows_in}
use Rattle.geom_workers.specs.Keys.{keys_of}
use Rattle.store_maps.specs.Append.{MayKeep}
use Rattle.update_step.proofs.Imported.{known-rows, may-keep-all}
use Rattle.update_step.proofs.importing.rows_of.Goals as goal

pub returns-clause-rows : goal.returns-clause-rows
returns-clause-rows g c =
    let style = c.args.style.now in
    let keys : List KeyOf = keys_of c.args.keys.now.set in
    let objects : ObjectSet = c.in_ok-objects.objects in
    let objects_are : objects ≡ folded_all finite.empty c.args.change.now = c.in_ok-objects.ensures.objects in
    c.in_ok-rows.ensures.rows ∙ known-rows style objects keys ∙ ap (λ (own : ObjectSet). map (rows_in style own) keys) objects_are

pub returns-clause-kept : goal.returns-clause-kept
returns-clause-kept g c =
    subst (AllByRecursion (MayKeep c.args.style.now.tables)) (sym c.in_ok-rows.ensures.rows)
    (may-keep-all c.args.style.now (known_of c.in_ok-objects.objects) (keys_of c.args.keys.now.set))
