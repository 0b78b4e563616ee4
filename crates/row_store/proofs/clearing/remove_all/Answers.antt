-- A key more is taken out.
use Rattle.std.proofs.Common.{◌≡◌, ◌⊎◌, ◌≤◌, ◌+◌, inl, inr, ℕ, take, sym, subst}
use Rattle.chain_store.specs.declared.root.Root.{Root}
use Rattle.row_store.specs.Loading.{Among}
use Rattle.row_store.proofs.ClearLaws.{err_then, key_refused, key_taken, took_none, took_then}
use Rattle.row_store.proofs.LoadLaws.{among_more}
use Rattle.value_bytes.specs.StoreMap.{map_number}
use Rattle.row_store.proofs.clearing.remove_all.Goals as goal

pub loop-key-init : goal.loop-key-init
loop-key-init g c = took_none (map_number c.args.map) c.args.buckets.now c.requires.ready.going

pub returns-in-Err : goal.returns-in-Err
returns-in-Err g c =
    let which = map_number c.args.map in
    let records = c.args.records.now in
    let one = c.loop-key-item.result in
    let mid = c.loop-key.buckets in
    record {
      out = err_then which (Among (take c.loop-key.key-index records)) (λ key. ⊥) (Among records) c.args.buckets.now mid c.remove.new.self
          c.in-Err.fault c.loop-key.invariant
          (key_refused which one.0 (λ key. ⊥) mid c.remove.new.self c.in-Err.fault
          (subst (λ (r : Root). 1 ≤ r.buckets) (sym c.loop-key.invariant.stays.root) c.requires.ready.some) c.in-Err.ensures.value
          c.in-Err.ensures.touches);
    }

pub loop-key-preserved : goal.loop-key-preserved
loop-key-preserved g c =
    let which = map_number c.args.map in
    let records = c.args.records.now in
    let place = c.loop-key.key-index in
    let one = c.loop-key-item.result in
    let mid = c.loop-key.buckets in
    let split : (key : ℕ) → Among (take (place + 1) records) key → Among (take place records) key ⊎ (key ≡ one.0) = λ key among.
    elim (among_more records place one key c.loop-key-test.true c.loop-key-item.is among) [
      | inl before ↦ inl before
      | inr same ↦ inr (sym same)
    ] in
    took_then which (Among (take place records)) (λ key. key ≡ one.0) (Among (take (place + 1) records)) c.args.buckets.now mid
    c.remove.new.self c.loop-key.invariant
    (key_taken which one.0 mid c.remove.new.self c.in_default.field-0 c.in_default.ensures.value c.in_default.ensures.touches) split
