use Rattle.std.proofs.Common.{◌≡◌, Bool, List, length, map, subst, sym, ◌∙◌}
use Rattle.std.specs.List.{AllByRecursion}
use Rattle.osm_base.specs.declared.values.row.TableRow.{TableRow}
use Rattle.osm_base.specs.values.Key.{KeyOf}
use Rattle.style_read.specs.Style.{StyleOf}
use Rattle.store_maps.specs.Append.{MayKeep}
use Rattle.store_maps.specs.Maps.{Maps}
use Rattle.update_step.specs.Turned.{HadRows, HasTurned, is_turned}
use Rattle.update_step.proofs.rebuilding.replace.Goals as goal

-- of the rows that were there it is told which are others now
has_turned : (own style : StyleOf) (maps : Maps) (lacking keys : List KeyOf) (old new : KeyOf → List TableRow) (turned : List Bool)
    (news : List (List TableRow)) → own ≡ style → HadRows (length style.tables) lacking maps old
    → turned ≡ map (λ key. is_turned (length style.tables) (old key) (new key)) keys → news ≡ map new keys
    → HasTurned (length own.tables) maps keys old new turned news
has_turned own style maps lacking keys old new turned news same had told are =
    subst (λ (own : StyleOf). HasTurned (length own.tables) maps keys old new turned news) (sym same)
    (record { held = had.held; by_table = had.by_table; told = told; are = are })

pub put_rows-requires-clause-kept : goal.put_rows-requires-clause-kept
put_rows-requires-clause-kept g c =
    let first = c.args.store.now in
    let style_is = g.met.S.MapStore.same_style first c.all_before.new.store
    (c.all_before.ensures.looks.looked first (g.met.S.MapStore.looked_none first)) ∙ c.requires.style in
    subst (λ (own : StyleOf). AllByRecursion (MayKeep own.tables) c.args.news.rows.now) (sym style_is) c.requires.kept

pub returns-in-Ok-clause-replaces : goal.returns-in-Ok-clause-replaces
returns-in-Ok-clause-replaces g c under maps old new held had news =
    let first = c.args.store.now in
    let style = c.args.style.now in
    let style_is = g.met.S.MapStore.same_style first c.all_before.new.store
    (c.all_before.ensures.looks.looked first (g.met.S.MapStore.looked_none first)) ∙ c.requires.style in
    let olds : c.as_slice-olds.result.now ≡ map old c.args.news.keys.now =
    c.as_slice-olds.ensures.items ∙ c.in_ok-before.ensures.kept under maps old held had.held had.none in
    let turns = c.in_ok-turns.ensures.turns old new olds news in
    record {
      holds = c.in-Ok.ensures.holds under maps old new (c.in_ok-before.ensures.looks.holds under maps held)
          (has_turned (g.S.MapStore.style c.all_before.new.store) style maps c.args.lacking.now c.args.news.keys.now old new
          c.as_slice-turned.result.now c.args.news.rows.now style_is had (c.as_slice-turned.ensures.value ∙ turns.turned) news);
      told = turns.told;
      due = turns.due;
    }

pub returns-clause-allowed : goal.returns-clause-allowed
returns-clause-allowed g c under maps old new held had news =
    let first = c.args.store.now in
    let style = c.args.style.now in
    let style_is = g.met.S.MapStore.same_style first c.all_before.new.store
    (c.all_before.ensures.looks.looked first (g.met.S.MapStore.looked_none first)) ∙ c.requires.style in
    let olds : c.as_slice-olds.result.now ≡ map old c.args.news.keys.now =
    c.as_slice-olds.ensures.items ∙ c.in_ok-before.ensures.kept under maps old held had.held had.none in
    let turns = c.in_ok-turns.ensures.turns old new olds news in
    c.in-Err.ensures.allowed under maps old new (c.in_ok-before.ensures.looks.holds under maps held)
    (has_turned (g.S.MapStore.style c.all_before.new.store) style maps c.args.lacking.now c.args.news.keys.now old new
    c.as_slice-turned.result.now c.args.news.rows.now style_is had (c.as_slice-turned.ensures.value ∙ turns.turned) news)
