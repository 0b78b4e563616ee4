-- A record more is rows, and fills in its own.
use Rattle.std.proofs.Common.{◌≡◌, ◌+◌, ◌<◌, ℕ, List, length, take, arith}
use Rattle.row_store.specs.Loading.{Among, AreRowsOf, IsTold}
use Rattle.row_store.proofs.LoadLaws.{among_more, fills_then, told_at}
use Rattle.row_store.proofs.SpelledLaws.{all_more, one_at}
use Rattle.value_bytes.specs.StoreMap.{map_number}
use Rattle.row_store.proofs.loading.add_lent.Goals as goal

pub loop-place-preserved : goal.loop-place-preserved
loop-place-preserved g c =
    let definitions = c.args.style.now.tables in
    let records = c.args.records.now in
    let place = c.loop-place.place in
    let one : ℕ × List ℕ = (c.front-number.result.0, c.front-number.result.1.now) in
    let within : place < length records = omega (arith, c.loop-place-test.true, c.len.ensures.len) in
    let is = one_at records place one within c.front-number.ensures.key c.front-number.ensures.value in
    record {
      within = omega (arith, within);
      rest = c.front-number.ensures.behind;
      filled = λ rows each.
          fills_then (map_number c.args.map) rows (Among (take place records)) (λ n. one.0 ≡ n) (Among (take (place + 1) records))
          (g.F.Filled.tables c.args.tables.now) (g.F.Filled.tables c.loop-place.tables)
          (g.F.Filled.tables c.add_record.new.tables) (c.loop-place.invariant.filled rows each)
          (c.in_default.ensures.filled rows
          (told_at (λ (e : ℕ × List ℕ). IsTold definitions c.args.wanted (map_number c.args.map) rows e.0 e.1) records place one each within is))
          (λ n among. among_more records place one n within is among);
      spelled = all_more (λ (e : ℕ × List ℕ). AreRowsOf definitions (map_number c.args.map) e.0 e.1) records place one
          within is c.loop-place.invariant.spelled c.in_default.ensures.spelled;
    }
