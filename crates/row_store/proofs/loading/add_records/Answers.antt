-- A record more is rows, and fills in its own.
use Rattle.std.proofs.Common.{◌≡◌, ◌+◌, ℕ, List, sym, subst, take, arith}
use Rattle.row_store.specs.Loading.{Among, AreRowsOf, IsTold}
use Rattle.row_store.proofs.LoadLaws.{among_all, among_more, fills_fewer, fills_then, told_at}
use Rattle.row_store.proofs.SpelledLaws.{all_all, all_more}
use Rattle.value_bytes.specs.StoreMap.{map_number}
use Rattle.row_store.proofs.loading.add_records.Goals as goal

pub loop-number-preserved : goal.loop-number-preserved
loop-number-preserved g c =
    let definitions = c.args.style.now.tables in
    let records = c.args.records.now in
    let place = c.loop-number.number-index in
    let one = c.loop-number-item.result in
    record {
      filled = λ rows each.
          let here = told_at (λ (e : ℕ × List ℕ). IsTold definitions c.args.wanted (map_number c.args.map) rows e.0 e.1) records place one
          each c.loop-number-test.true c.loop-number-item.is in
          let told = subst (λ (bytes : List ℕ). IsTold definitions c.args.wanted (map_number c.args.map) rows one.0 bytes)
          (sym c.as_slice.ensures.items) here in
          fills_then (map_number c.args.map) rows (Among (take place records)) (λ n. one.0 ≡ n) (Among (take (place + 1) records))
          (g.F.Filled.tables c.args.tables.now) (g.F.Filled.tables c.loop-number.tables)
          (g.F.Filled.tables c.add_record.new.tables) (c.loop-number.invariant.filled rows each)
          (c.in_default.ensures.filled rows told)
          (λ n among. among_more records place one n c.loop-number-test.true c.loop-number-item.is among);
      spelled = all_more (λ (e : ℕ × List ℕ). AreRowsOf definitions (map_number c.args.map) e.0 e.1) records place one
          c.loop-number-test.true c.loop-number-item.is c.loop-number.invariant.spelled
          (subst (λ (bytes : List ℕ). AreRowsOf definitions (map_number c.args.map) one.0 bytes) c.as_slice.ensures.items
          c.in_default.ensures.spelled);
    }

pub returns-clause-filled : goal.returns-clause-filled
returns-clause-filled g c rows each =
    let records = c.args.records.now in
    let place = c.loop-number.number-index in
    fills_fewer (map_number c.args.map) rows (Among records) (Among (take place records)) (g.F.Filled.tables c.args.tables.now)
    (g.F.Filled.tables c.loop-number.tables)
    (c.loop-number.invariant.filled rows each)
    (λ n among. among_all records place n (omega (arith, c.loop-number-test.false)) among)

pub returns-clause-spelled : goal.returns-clause-spelled
returns-clause-spelled g c =
    all_all (λ (e : ℕ × List ℕ). AreRowsOf c.args.style.now.tables (map_number c.args.map) e.0 e.1) c.args.records.now
    c.loop-number.number-index (omega (arith, c.loop-number-test.false)) c.loop-number.invariant.spelled
