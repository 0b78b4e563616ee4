-- Each turn makes the change that is told first of those that are left.
use Rattle.std.proofs.Common.{◌≡◌, ◌∙◌, ◌-◌, ◌++◌, ℕ, take, List, [], ◌∷◌, Some, None, reverse, ap, arith, refl, rules, subst, sym}
use Rattle.osm_base.specs.declared.values.row.RowChange.{RowChange}
use Rattle.osm_base.specs.map.Spots.{TableMap, changed, changed_all}
use Rattle.bucket_store.proofs.Holding.{looks_same}
use Rattle.update_flow.specs.Taking.{AllFit, HasTables}
use Rattle.update_flow.proofs.Running.{runs_then}
use Rattle.update_flow.proofs.Takings.{all_turned, beside_same, fit_moved, fit_turned, last_first, tables_then}
use Rattle.update_flow.proofs.taking.take_rows.Goals as goal

pub loop-change-init : goal.loop-change-init
loop-change-init g c =
    let sorted = c.in-Ok.changes.items in
    let turned = c.reverse.new.self.items in
    let is : turned ≡ reverse sorted = c.reverse.ensures.items in
    record {
      going = c.requires.filled.ready.going;
      runs = record {
        looks = looks_same c.args.buckets.now;
        alone = tt;
        whole = λ no. c.requires.filled.ready.whole;
        failed = λ none. absurd (cc (none));
      };
      count = refl;
      fit = fit_turned c.args.style.now.tables sorted turned is
          (fit_moved c.args.style.now.tables c.args.changes sorted c.in-Ok.ensures.moved c.requires.fit);
      taken = λ rest now tables has holds. (
        tables,
        record { later = now; has = has; holds = holds; beside = beside_same now },
        all_turned sorted turned tables is ∙ c.in-Ok.ensures.same tables,
      );
    }

pub take_row-requires-clause-filled : goal.take_row-requires-clause-filled
take_row-requires-clause-filled g c = record {
  ready = record { going = c.loop-change.invariant.going; whole = c.loop-change.invariant.runs.whole tt };
  some = omega (arith, c.loop-change.invariant.count, c.requires.filled.some);
}

pub take_row-requires-clause-fits : goal.take_row-requires-clause-fits
take_row-requires-clause-fits g c =
    (subst (λ (l : List RowChange). AllFit c.args.style.now.tables l)
    (ap (λ (l : List RowChange). reverse l) c.in-Some.ensures.items ∙ last_first c.pop.new.self.items c.in-Some.change)
    c.loop-change.invariant.fit).0

pub loop-change-preserved : goal.loop-change-preserved
loop-change-preserved g c =
    let so-far = c.loop-change.invariant in
    let done = c.in_default-take_row.ensures in
    let front = c.pop.new.self.items in
    let change = c.in-Some.change in
    let definitions = c.args.style.now.tables in
    let same : reverse c.loop-change.changes.items ≡ change ∷ reverse front =
    ap (λ (l : List RowChange). reverse l) c.in-Some.ensures.items ∙ last_first front change in
    record {
      going = done.goes.going;
      runs = runs_then c.args.buckets.now c.loop-change.buckets c.take_row.new.buckets None so-far.runs done.goes.runs;
      count = done.count ∙ so-far.count;
      fit = (subst (λ (l : List RowChange). AllFit definitions l) same so-far.fit).1;
      taken = λ rest now tables has holds.
          let one = so-far.taken rest now tables has holds in
          let next = changed one.0 change in (
            next,
            tables_then definitions rest now one.0 next c.loop-change.buckets c.take_row.new.buckets one.1
                (done.taken rest one.1.later one.0 one.1.has one.1.holds),
            sym (ap (λ (l : List RowChange). changed_all one.0 l) same) ∙ one.2,
          );
    }

pub returns-in-Err-clause-sound : goal.returns-in-Err-clause-sound
returns-in-Err-clause-sound g c rest now tables has holds =
    let one = c.loop-change.invariant.taken rest now tables has holds in
    c.in-Err.ensures.sound rest one.1.later one.0 one.1.has one.1.holds

pub returns-in-Err-clause-goes : goal.returns-in-Err-clause-goes
returns-in-Err-clause-goes g c = record {
  going = search rules;
  runs = runs_then c.args.buckets.now c.loop-change.buckets c.take_row.new.buckets (Some c.in-Err.fault) c.loop-change.invariant.runs
      c.in-Err.ensures.goes.runs;
}

pub returns-clause-taken : goal.returns-clause-taken
returns-clause-taken g c rest now tables has holds =
    let one = c.loop-change.invariant.taken rest now tables has holds in
    let front : c.pop.new.self.items ≡ [] =
    c.in_default-pop.ensures.rest ∙ ap (λ (n : ℕ). take (n - 1) c.loop-change.changes.items) c.in_default-pop.ensures.cases.0 in
    let none : c.loop-change.changes.items ≡ [] = c.in_default-pop.ensures.items ∙ ap (λ (l : List RowChange). l ++ []) front in
    subst (λ (t : TableMap). HasTables c.args.style.now.tables t rest now c.loop-change.buckets)
    (ap (λ (l : List RowChange). changed_all one.0 (reverse l)) (sym none) ∙ one.2) one.1
