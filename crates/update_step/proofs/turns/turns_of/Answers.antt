use Rattle.std.proofs.Common.{◌≡◌, ◌++◌, ◌||◌, [], ◌∷◌, Bool, List, length, map, sym, ap, ◌∙◌, take, arith}
use Rattle.std.specs.List.{list_any}
use Rattle.std.proofs.lemmas.Grind.{common_steps}
use Rattle.std.proofs.lemmas.List.{take_all}
use Rattle.osm_base.specs.declared.values.row.RowChange.{RowChange}
use Rattle.osm_base.specs.declared.values.row.TableRow.{TableRow}
use Rattle.osm_base.specs.values.Key.{KeyOf}
use Rattle.store_maps.specs.Told.{told_all, told_key}
use Rattle.tile_cover.specs.Runs.{has}
use Rattle.update_step.specs.Due.{is_due_key}
use Rattle.update_step.specs.Turned.{is_turned}
use Rattle.update_step.proofs.KeyedLists.{any-more, flat-more, map-more, or-assoc, rows_there}
use Rattle.update_step.proofs.turns.turns_of.Goals as goal

pub loop-index-preserved : goal.loop-index-preserved
loop-index-preserved c =
    let keys : List KeyOf = c.args.news.keys.now in
    let key : KeyOf = c.index-keys-index.result in
    let style = c.args.style.now in
    let count = length style.tables in
    let was = λ (old : KeyOf → List TableRow) (olds : c.args.olds.now ≡ map old keys).
    c.as_slice-old.ensures.items ∙ rows_there old keys c.args.olds.now c.loop-index.index key key c.index-olds-index.result olds
    c.loop-index-test.true c.index-keys-index.is c.index-olds-index.is in
    let is = λ (new : KeyOf → List TableRow) (news : c.args.news.rows.now ≡ map new keys).
    c.as_slice-new.ensures.items ∙ rows_there new keys c.args.news.rows.now c.loop-index.index key key c.index-rows-index.result news
    c.loop-index-test.true c.index-keys-index.is c.index-rows-index.is in
    record {
      told = λ old new olds news.
          c.in_ok-here.ensures.told
          ∙ ap (λ (rows : List TableRow). c.loop-index.changes ++ told_key count key rows c.as_slice-new.result.now) (was old olds)
          ∙ ap (λ (rows : List TableRow). c.loop-index.changes ++ told_key count key (old key) rows) (is new news)
          ∙ ap (λ (front : List RowChange). front ++ told_key count key (old key) (new key))
          (c.loop-index.invariant.told old new olds news)
          ∙ sym (flat-more (λ (own : KeyOf). told_key count own (old own) (new own)) keys c.loop-index.index key key
          c.loop-index-test.true c.index-keys-index.is);
      due = λ old new olds news zoom x y.
          let due : List TableRow → List TableRow → Bool = λ before after. is_due_key style c.args.bounds.now before after zoom x y in
          let of_key : KeyOf → Bool = λ own. due (old own) (new own) in
          let first : Bool = has c.args.due.now zoom x y in
          let set : Bool = has c.loop-index.due zoom x y in
          let batch : Bool = has c.loop-index.batch zoom x y in
          c.in_ok-unite_batch.ensures.same zoom x y
          ∙ ap (λ (b : Bool). set || b) (c.in_ok-here.ensures.due zoom x y
          ∙ ap (λ (rows : List TableRow). batch || due rows c.as_slice-new.result.now) (was old olds)
          ∙ ap (λ (rows : List TableRow). batch || due (old key) rows) (is new news))
          ∙ sym (or-assoc set batch (of_key key))
          ∙ ap (λ (b : Bool). b || of_key key) (c.loop-index.invariant.due old new olds news zoom x y)
          ∙ or-assoc first (list_any of_key (take c.loop-index.index keys)) (of_key key)
          ∙ ap (λ (b : Bool). first || b) (sym (any-more of_key keys c.loop-index.index key key c.loop-index-test.true
          c.index-keys-index.is));
      turned = λ old new olds news.
          c.in_ok-push.ensures.items
          ∙ ap (λ (turned : List Bool). turned ++ c.in_ok-here.here ∷ []) (c.loop-index.invariant.turned old new olds news)
          ∙ ap (λ (own : Bool). map (λ (own : KeyOf). is_turned count (old own) (new own)) (take c.loop-index.index keys) ++ own ∷ [])
          (c.in_ok-here.ensures.turned
          ∙ ap (λ (rows : List TableRow). is_turned count rows c.as_slice-new.result.now) (was old olds)
          ∙ ap (λ (rows : List TableRow). is_turned count (old key) rows) (is new news))
          ∙ sym (map-more (λ (own : KeyOf). is_turned count (old own) (new own)) keys c.loop-index.index key key
          c.loop-index-test.true c.index-keys-index.is);
      count = grind (arith, common_steps);
    }

pub returns-clause-turns : goal.returns-clause-turns
returns-clause-turns c old new olds news =
    let all = take_all c.loop-index.index c.args.news.keys.now c.loop-index-test.false in
    let count = length c.args.style.now.tables in
    record {
      told = c.loop-index.invariant.told old new olds news ∙ ap (told_all count old new) all;
      due = λ zoom x y.
          c.in_ok-union.ensures.ok zoom x y
          ∙ c.loop-index.invariant.due old new olds news zoom x y
          ∙ ap (λ (keys : List KeyOf). has c.args.due.now zoom x y || list_any
          (λ (key : KeyOf). is_due_key c.args.style.now c.args.bounds.now (old key) (new key) zoom x y) keys) all;
      turned = c.loop-index.invariant.turned old new olds news
          ∙ ap (map (λ (key : KeyOf). is_turned count (old key) (new key))) all;
    }
