use Rattle.std.proofs.Common.{rules, ◌≡◌, ◌<◌, ◌∙◌, Bool, false, List, ap, get_or, length, subst, sym, take}
use Rattle.std.proofs.lemmas.List.{get_or_default}
use Rattle.osm_base.specs.declared.values.row.TableRow.{TableRow}
use Rattle.osm_base.specs.values.Key.{KeyOf}
use Rattle.style_read.specs.Style.{StyleOf}
use Rattle.store_maps.specs.Append.{MayKeep, set_all_rows}
use Rattle.store_maps.specs.Asked.{MayRows}
use Rattle.store_maps.specs.Maps.{Maps, set_rows, unless_empty}
use Rattle.update_step.specs.Turned.{is_turned}
use Rattle.update_step.proofs.ByTables.{kept-by-table, still-same}
use Rattle.update_step.proofs.KeyedLists.{all_at, fold-more, rows_there}
use Rattle.update_step.proofs.RowsStill.{rows-still}
use Rattle.update_step.proofs.row_lists.put_rows.Goals as goal

pub put_turned-requires-clause-kept : goal.put_turned-requires-clause-kept
put_turned-requires-clause-kept g c =
    let first = c.args.store.now in
    let style = g.met.S.MapStore.same_style first c.loop-index.store
    (c.loop-index.invariant.sets.looked first (g.met.S.MapStore.looked_none first)) in
    subst (λ (own : StyleOf). MayKeep own.tables c.index-rows-index.result) (sym style)
    (all_at (MayKeep (g.S.MapStore.style first).tables) c.args.news.rows.now c.loop-index.index c.index-rows-index.result
    c.index-rows-index.result c.requires.kept
    (subst (λ most. c.loop-index.index < most) (sym c.args.news.same) c.loop-index-test.true) c.index-rows-index.is)

pub loop-index-preserved : goal.loop-index-preserved
loop-index-preserved g c =
    let keys : List KeyOf = c.args.news.keys.now in
    let key : KeyOf = c.index-keys-index.result in
    let own : List TableRow = c.index-rows-index.result in
    let tables = (g.S.MapStore.style c.args.store.now).tables in
    let kept : MayKeep tables own =
    all_at (MayKeep tables) c.args.news.rows.now c.loop-index.index own own c.requires.kept
    (subst (λ most. c.loop-index.index < most) (sym c.args.news.same) c.loop-index-test.true) c.index-rows-index.is in
    record {
      holds = λ under maps old new held has.
          let before : Maps = set_all_rows maps new (take c.loop-index.index keys) in
          let rows_are : own ≡ new key = rows_there new keys c.args.news.rows.now c.loop-index.index key key own has.are
          c.loop-index-test.true c.index-keys-index.is c.index-rows-index.is in
          let at_turned : Bool = get_or c.args.turned.now c.loop-index.index false in
          let told : at_turned ≡ is_turned (length tables) (old key) (new key) =
          rows_there (λ (own : KeyOf). is_turned (length tables) (old own) (new own)) keys c.args.turned.now c.loop-index.index key key
          at_turned has.told c.loop-index-test.true c.index-keys-index.is (get_or_default c.args.turned.now c.loop-index.index false
          at_turned (subst (λ most. c.loop-index.index < most) (sym c.requires.turned) c.loop-index-test.true)) in
          let step = c.in_ok-put_turned.ensures.holds under before (c.loop-index.invariant.holds under maps old new held has)
          (λ stays. rows-still old new maps (take c.loop-index.index keys) has.held key
          (still-same (length tables) (old key) (new key) (has.by_table key)
          (kept-by-table tables (new key) (subst (MayKeep tables) rows_are kept)) (sym told ∙ stays))
          ∙ ap (λ (rows : List TableRow). unless_empty rows) (sym rows_are)) in
          subst (g.S.MapStore.holds c.put_turned.new.store under) (ap (set_rows before key.kind key.id) rows_are
          ∙ sym (fold-more (λ (own : Maps) (other : KeyOf). set_rows own other.kind other.id (new other)) maps keys c.loop-index.index key
          c.loop-index-test.true c.index-keys-index.is)) step;
      within = λ may all before. c.put_turned.ensures.within may
          (all_at (MayRows may) c.args.news.keys.now c.loop-index.index c.index-keys-index.result c.index-keys-index.result all
          c.loop-index-test.true c.index-keys-index.is)
          (c.loop-index.invariant.within may all before);
      sets = search rules;
    }

pub returns-in_err-put_turned-clause-allowed : goal.returns-in_err-put_turned-clause-allowed
returns-in_err-put_turned-clause-allowed g c under maps old new held has =
    let is = c.in_err-put_turned.ensures.allowed under (set_all_rows maps new (take c.loop-index.index c.args.news.keys.now))
    (c.loop-index.invariant.holds under maps old new held has) in
    search (rules, is)

pub returns-in_err-put_turned-clause-within : goal.returns-in_err-put_turned-clause-within
returns-in_err-put_turned-clause-within g c may all before =
    c.put_turned.ensures.within may (all_at
    (MayRows may) c.args.news.keys.now c.loop-index.index c.index-keys-index.result c.index-keys-index.result all c.loop-index-test.true
    c.index-keys-index.is)
    (c.loop-index.invariant.within may all before)
