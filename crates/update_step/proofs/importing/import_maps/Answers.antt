use Rattle.std.proofs.Common.{rules, ◌≡◌, List, map, sym, subst, ◌∙◌}
use Rattle.std.specs.FinMap as finite
use Rattle.std.specs.List.{AllByRecursion}
use Rattle.osm_base.specs.declared.values.row.TableRow.{TableRow}
use Rattle.osm_base.specs.map.Objects.{folded_all}
use Rattle.osm_base.specs.values.Key.{KeyOf}
use Rattle.style_read.specs.Style.{StyleOf}
use Rattle.row_rules.specs.Rows.{rows_in}
use Rattle.geom_workers.specs.Keys.{keys_of}
use Rattle.store_maps.specs.Append.{MayKeep, appended}
use Rattle.store_maps.specs.Maps.{Maps, empty_maps}
use Rattle.store_maps.specs.Step.{change_on}
use Rattle.update_step.proofs.Imported.{imported-stands, lacks-first}
use Rattle.update_step.proofs.importing.import_maps.Goals as goal

pub put_all-requires-clause-kept : goal.put_all-requires-clause-kept
put_all-requires-clause-kept g c =
    let first = c.args.store.now in
    let style = g.met.S.MapStore.same_style first c.add_beside-added.new.store
    (c.add_beside-added.ensures.sets.looked first (g.met.S.MapStore.looked_none first)) ∙ c.requires.style in
    subst (λ (own : StyleOf). AllByRecursion (MayKeep own.tables) c.as_slice.result.now) (sym style)
    (subst (AllByRecursion (MayKeep c.args.style.now.tables)) (sym c.as_slice.ensures.items) (search rules))

pub returns-in-Ok-clause-stands : goal.returns-in-Ok-clause-stands
returns-in-Ok-clause-stands g c under held =
    let style = c.args.style.now in
    let keys : List KeyOf = keys_of c.in_ok-keys.keys.set in
    let rows : KeyOf → List TableRow = rows_in style (folded_all finite.empty c.args.change) in
    let changed : Maps = change_on empty_maps c.args.change in
    let read : g.S.MapStore.holds c.add_beside-added.new.store under changed = search (rules, held) in
    let are : c.as_slice.result.now ≡ map rows keys = c.as_slice.ensures.items ∙ search rules in (
      appended empty_maps c.args.change rows keys,
      c.in-Ok.ensures.holds under changed rows are (lacks-first rows c.args.change) read,
      imported-stands style c.args.change keys c.entries-entries.ensures.rise c.in_ok-keys.ensures.keys,
    )

pub returns-clause-allowed : goal.returns-clause-allowed
returns-clause-allowed g c under held =
    let keys : List KeyOf = keys_of c.in_ok-keys.keys.set in
    let rows : KeyOf → List TableRow = rows_in c.args.style.now (folded_all finite.empty c.args.change) in
    let changed : Maps = change_on empty_maps c.args.change in
    let read : g.S.MapStore.holds c.add_beside-added.new.store under changed = search (rules, held) in
    let are : c.as_slice.result.now ≡ map rows keys = c.as_slice.ensures.items ∙ search rules in
    c.in-Err.ensures.allowed under changed rows are (lacks-first rows c.args.change) read
