-- A record more is written anew.
use Rattle.std.proofs.Common.{◌≡◌, ◌∙◌, ℕ, List, Ok, Err, Some, sym, subst}
use Rattle.std.specs.FinMap as finite
use Rattle.std.proofs.lemmas.List.{take_all}
use Rattle.value_bytes.specs.Forms.{IsNoValue}
use Rattle.middle_nodes.specs.Old.{IsOldPlace, old_bytes}
use Rattle.value_bytes.specs.StoreMap.{map_number}
use Rattle.value_bytes.specs.declared.store_map.StoreMap.TheVariants.{Nodes}
use Rattle.row_store.specs.Loading.{Among}
use Rattle.row_store.proofs.LoadLaws.{told_at}
use Rattle.back_index.specs.Calls.{page_in}
use Rattle.back_index.proofs.Chained.{page_same}
use Rattle.back_index.proofs.Reading.{refuses_more}
use Rattle.update_flow.specs.maps.Migrating.{HasOldUnread, Renews}
use Rattle.update_flow.proofs.Migrations.{among_at, once_none, once_of, once_then, ready_once, renews_more, renews_none, renews_once}
use Rattle.update_flow.proofs.maps.migrating.renew_records.Goals as goal

pub loop-id-init : goal.loop-id-init
loop-id-init g c = record {
  ready = c.requires.ready;
  once = once_none c.args.buckets.now c.requires.ready.going;
  renews = λ rest now owns there. (now, owns, renews_none now);
}

pub loop-id-preserved : goal.loop-id-preserved
loop-id-preserved g c =
    let inv = c.loop-id.invariant in
    let did = c.in_default.ensures in
    let old = c.args.buckets.now in
    let mid = c.loop-id.buckets in
    let new = c.renew.new.buckets in
    let records = c.args.records.now in
    let one = c.loop-id-item.result in
    record {
      ready = ready_once mid new inv.ready (once_of did.once);
      once = once_then old mid new (Ok tt) inv.once (once_of did.once);
      renews = λ rest now owns there.
          let was = inv.renews rest now owns there in
          let done = did.renews rest was.0 was.1 in
          let here = told_at (λ (e : ℕ × List ℕ). finite.get (now.maps (map_number Nodes)) e.0 ≡ Some e.1) records c.loop-id.id-index one
          there
          c.loop-id-test.true c.loop-id-item.is in (
            _,
            done.3,
            renews_more records c.loop-id.id-index one now was.0 one.1 done.0 c.loop-id-test.true c.loop-id-item.is was.2 here done.1
                (sym c.as_slice.ensures.items ∙ done.2),
          );
    }

pub returns-in-Err-clause-once : goal.returns-in-Err-clause-once
returns-in-Err-clause-once g c =
    renews_once
    (once_then {T = Unit {0}} c.args.buckets.now c.loop-id.buckets c.renew.new.buckets
    (Err c.in-Err.fault) c.loop-id.invariant.once (once_of c.in-Err.ensures.once))
    (λ rest now owns there.
    let inv = c.loop-id.invariant in
    let old = c.args.buckets.now in
    let mid = c.loop-id.buckets in
    let one = c.loop-id-item.result in
    let was = inv.renews rest now owns there in
    let here = told_at (λ (e : ℕ × List ℕ). finite.get (now.maps (map_number Nodes)) e.0 ≡ Some e.1) c.args.records.now c.loop-id.id-index
    one there
    c.loop-id-test.true c.loop-id-item.is in
    refuses_more (λ at. IsNoValue old_bytes IsOldPlace c.as_slice.result.now × (at ≡ page_in mid (map_number Nodes) one.0))
    (HasOldUnread (Among c.args.records.now) old now)
    (λ at bad. record {
      id = one.0;
      among = among_at c.args.records.now c.loop-id.id-index one c.loop-id-test.true c.loop-id-item.is;
      bytes = one.1;
      there = here;
      none = subst (λ (l : List ℕ). IsNoValue old_bytes IsOldPlace l) c.as_slice.ensures.items bad.0;
      page_is = bad.1 ∙ page_same old mid (map_number Nodes) one.0 inv.once.looks.stays;
    }) c.in-Err.fault (c.in-Err.ensures.once.stops rest was.0 was.1 tt))

pub returns-clause-renews : goal.returns-clause-renews
returns-clause-renews g c rest now owns there =
    let was = c.loop-id.invariant.renews rest now owns there in (
      was.0,
      was.1,
      subst (λ (l : List (ℕ × List ℕ)). Renews (Among l) now was.0)
          (take_all c.loop-id.id-index c.args.records.now c.loop-id-test.false) was.2,
    )

pub returns-clause-once : goal.returns-clause-once
returns-clause-once g c =
    renews_once
    (c.loop-id.invariant.once)
    (λ rest now owns given. tt)
