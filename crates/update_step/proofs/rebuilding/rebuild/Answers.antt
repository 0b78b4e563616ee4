use Rattle.std.proofs.Common.{◌≡◌, Bool, List, length, map, sym, subst, ap, ◌∙◌}
use Rattle.std.specs.List.{AllByRecursion}
use Rattle.std.proofs.lemmas.List.{length-map}
use Rattle.osm_base.specs.declared.values.row.TableRow.{TableRow}
use Rattle.osm_base.specs.values.Key.{KeyOf}
use Rattle.style_read.specs.Style.{StyleOf}
use Rattle.row_rules.specs.Condition.{reaches_nodes}
use Rattle.row_rules.specs.Rows.{rows_known}
use Rattle.geom_workers.specs.Keys.{keys_of}
use Rattle.tile_cover.specs.Runs.{has}
use Rattle.store_maps.specs.Append.{MayKeep}
use Rattle.store_maps.specs.Maps.{Maps}
use Rattle.store_maps.specs.Named.{known_on}
use Rattle.update_step.specs.Changing.{Replaces}
use Rattle.update_step.specs.Gather.{AreAsked, Gathered, IsRight, all_needs, gathered_in, known_in}
use Rattle.update_step.specs.Suffices.{IsBuilt}
use Rattle.update_step.specs.Touch.{MayAllRows, MayAskAll}
use Rattle.update_step.proofs.Endings.{ends-then, if_err-then}
use Rattle.update_step.proofs.PendingKeys.{all-kept}
use Rattle.update_step.proofs.rebuilding.rebuild.Goals as goal

-- the rows that were built of right answers are these
rows_are : (style : StyleOf) (maps : Maps) (keys own : List KeyOf) (rows : KeyOf → List TableRow) (known : Gathered) (reaches : Bool)
    (news : List (List TableRow)) → IsBuilt style maps keys rows
    → own ≡ keys → reaches ≡ reaches_nodes style → IsRight known (known_on maps)
    → AreAsked known (all_needs style reaches (known_on maps) own) → news ≡ map (rows_known style (known_in known)) keys
    → news ≡ map rows own
rows_are style maps keys own rows known reaches news built same reach right asked are =
    are ∙ built known right (subst (λ (all : Bool). AreAsked known (all_needs style all (known_on maps) keys)) reach
    (subst (λ (all : List KeyOf). AreAsked known (all_needs style reaches (known_on maps) all)) same asked))
    ∙ ap (map rows) (sym same)

pub invariant_of-news : goal.invariant_of-news
invariant_of-news g c =
    let keys : List KeyOf = keys_of c.args.pending.now.set in
    let g_in : Gathered = gathered_in c.in_ok-known.known in
    record {
      same = ap length (c.as_slice-rows.ensures.items ∙ c.in_ok-built.ensures.rows)
          ∙ length-map keys (rows_known c.args.style.now (known_in g_in))
          ∙ sym (ap length (c.as_slice-keys.ensures.value ∙ c.in_ok-keys.ensures.keys));
    }

pub replace-requires-clause-style : goal.replace-requires-clause-style
replace-requires-clause-style g c =
    let first = c.args.store.now in
    g.met.S.MapStore.same_style first c.gathered.new.store
    (c.gathered.ensures.looks.looked first (g.met.S.MapStore.looked_none first)) ∙ c.requires.style

pub replace-requires-clause-kept : goal.replace-requires-clause-kept
replace-requires-clause-kept g c =
    let style = c.args.style.now in
    let keys : List KeyOf = keys_of c.args.pending.now.set in
    let g_in : Gathered = gathered_in c.in_ok-known.known in
    let news_are : c.as_slice-rows.result.now ≡ map (rows_known style (known_in g_in)) keys =
    c.as_slice-rows.ensures.items ∙ c.in_ok-built.ensures.rows in
    subst (λ (lists : List (List TableRow)). AllByRecursion (MayKeep style.tables) lists) (sym news_are) (all-kept style g_in keys)

pub returns-clause-replaces : goal.returns-clause-replaces
returns-clause-replaces g c under maps old rows held had built known =
    let style = c.args.style.now in
    let keys : List KeyOf = keys_of c.args.pending.now.set in
    let same : c.as_slice-keys.result.now ≡ keys = c.as_slice-keys.ensures.value ∙ c.in_ok-keys.ensures.keys in
    let news = rows_are style maps keys c.as_slice-keys.result.now rows
    (gathered_in c.in_ok-known.known) c.reaches_nodes.result c.as_slice-rows.result.now built same c.reaches_nodes.ensures.reaches
    (c.in_ok-known.ensures.right under maps held known) (c.in_ok-known.ensures.asked under maps held known)
    (c.as_slice-rows.ensures.items ∙ c.in_ok-built.ensures.rows) in
    subst (λ (own : List KeyOf). Replaces (g.S.MapStore.holds c.replace.new.store under) style c.args.bounds.now maps own old rows
    (has c.args.due.now) (has c.replace.new.due) c.replace.result) same
    (c.replace.ensures.replaces under maps old rows (c.in_ok-known.ensures.looks.holds under maps held) had news)

pub returns-clause-goes : goal.returns-clause-goes
returns-clause-goes g c = record {
  looked = λ first looked. c.replace.ensures.goes.looked first (c.gathered.ensures.looks.looked first looked);
  spent = c.replace.ensures.goes.spent;
  ends = if_err-then c.replace.result c.replace.ensures.goes.ends (λ why ends.
      ends-then _ _ _ _ _ _ why (λ refusal bears first looked. bears first (c.gathered.ensures.looks.looked first looked))
      (λ unspent. unspent) (λ value never. never) ends);
}

pub returns-clause-allowed : goal.returns-clause-allowed
returns-clause-allowed g c under maps old held had =
    let style = c.args.style.now in
    let keys : List KeyOf = keys_of c.args.pending.now.set in
    let g_in : Gathered = gathered_in c.in_ok-known.known in
    let same : c.as_slice-keys.result.now ≡ keys = c.as_slice-keys.ensures.value ∙ c.in_ok-keys.ensures.keys in
    let news : c.as_slice-rows.result.now ≡ map (rows_known style (known_in g_in)) c.as_slice-keys.result.now =
    c.as_slice-rows.ensures.items ∙ c.in_ok-built.ensures.rows ∙ ap (map (rows_known style (known_in g_in))) (sym same) in
    c.replace.ensures.allowed under maps old (rows_known style (known_in g_in))
    (c.in_ok-known.ensures.looks.holds under maps held) had news

pub returns-clause-within : goal.returns-clause-within
returns-clause-within g c under maps held known may asks rows before =
    let same : c.as_slice-keys.result.now ≡ keys_of c.args.pending.now.set = c.as_slice-keys.ensures.value ∙ c.in_ok-keys.ensures.keys in
    let asked = subst (λ (reaches : Bool). MayAskAll may (all_needs c.args.style.now reaches (known_on maps) c.as_slice-keys.result.now))
    (sym c.reaches_nodes.ensures.reaches)
    (subst (λ (own : List KeyOf). MayAskAll may (all_needs c.args.style.now (reaches_nodes c.args.style.now) (known_on maps) own))
    (sym same) asks) in
    c.replace.ensures.within may (subst (MayAllRows may) (sym same) rows) (c.gathered.ensures.within under maps held known may asked before)
