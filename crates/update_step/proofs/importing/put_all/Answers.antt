use Rattle.std.proofs.Common.{rules, ◌≡◌, ◌<◌, ◌∙◌, ℕ, List, [], ap, length, subst, sym, take, arith}
use Rattle.std.proofs.lemmas.List.Sums.{fold_more}
use Rattle.osm_base.specs.declared.values.row.TableRow.{TableRow}
use Rattle.osm_base.specs.values.Key.{KeyOf, node_key}
use Rattle.style_read.specs.Style.{StyleOf}
use Rattle.geom_workers.specs.Keys.{keys_of}
use Rattle.store_maps.specs.Append.{MayKeep, set_all_rows}
use Rattle.store_maps.specs.Maps.{Maps, set_rows, unless_empty}
use Rattle.update_step.proofs.Imported.{lacks-still}
use Rattle.update_step.proofs.KeyedLists.{all_at, rows_there}
use Rattle.update_step.proofs.RowsStill.{no-items}
use Rattle.update_step.proofs.importing.put_all.Goals as goal

pub put_turned-requires-clause-kept : goal.put_turned-requires-clause-kept
put_turned-requires-clause-kept g c =
    let first = c.args.store.now in
    let style = g.met.S.MapStore.same_style first c.loop-index.store
    (c.loop-index.invariant.sets.looked first (g.met.S.MapStore.looked_none first)) in
    let test = c.loop-index-test.true in
    let most = c.key_count-index-end.ensures.count in
    let count = c.requires.count in
    let below : c.loop-index.index < length c.args.rows.now = omega (arith, test, most, count) in
    subst (λ (own : StyleOf). MayKeep own.tables c.index-rows-index.result) (sym style)
    (all_at (MayKeep (g.S.MapStore.style first).tables) c.args.rows.now c.loop-index.index c.index-rows-index.result
    c.index-rows-index.result c.requires.kept below c.index-rows-index.is)

pub returns-in_err-put_turned-clause-allowed : goal.returns-in_err-put_turned-clause-allowed
returns-in_err-put_turned-clause-allowed g c under maps new are lacks held =
    let is = c.in_err-put_turned.ensures.allowed under (set_all_rows maps new (take c.loop-index.index (keys_of c.args.keys.now.set)))
    (c.loop-index.invariant.holds under maps new are lacks held) in
    search (rules, is)

pub loop-index-preserved : goal.loop-index-preserved
loop-index-preserved g c =
    let keys : List KeyOf = keys_of c.args.keys.now.set in
    let at : ℕ = c.loop-index.index in
    let key : KeyOf = c.key_of.result in
    let own : List TableRow = c.index-rows-index.result in
    let test = c.loop-index-test.true in
    let most = c.key_count-index-end.ensures.count in
    let below : at < length keys = omega (arith, test, most) in
    record {
      holds = λ under maps new are lacks held.
          let put : Maps → KeyOf → Maps = λ (own : Maps) (other : KeyOf). set_rows own other.kind other.id (new other) in
          let before : Maps = set_all_rows maps new (take at keys) in
          let rows_are : own ≡ new key = rows_there new keys c.args.rows.now at key
          (node_key 0) own are below c.key_of.ensures.key c.index-rows-index.is in
          let step = c.in_ok-put_turned.ensures.holds under before (c.loop-index.invariant.holds under maps new are lacks held)
          (λ stays.
          let empty : own ≡ [] = sym c.as_slice.ensures.items ∙ no-items c.as_slice.result.now c.is_empty.result c.is_empty.ensures stays in
          lacks-still new (take at keys) maps lacks key (sym rows_are ∙ empty) ∙ ap unless_empty (sym empty)) in
          subst (g.S.MapStore.holds c.put_turned.new.store under) (ap (set_rows before key.kind key.id) rows_are
          ∙ sym (fold_more put maps keys at (node_key 0) below ∙ ap (put before) (sym c.key_of.ensures.key))) step;
      sets = search rules;
    }
