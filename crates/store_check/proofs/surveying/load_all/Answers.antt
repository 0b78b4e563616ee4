-- The texts, the maps and the free pages, one after the other.
use Rattle.std.proofs.Common.{◌++◌, ◌∷◌, [], Err, Ok, flat_map}
use Rattle.std.specs.List.{range_with_len}
use Rattle.chain_store.specs.declared.layout.TheConstants.{FREE}
use Rattle.store_check.specs.BadPage.{IsLoaded, IsRefusedAt, chains_in}
use Rattle.store_check.proofs.Steps.{front, then}
use Rattle.store_check.proofs.surveying.load_all.Goals as goal

pub returns-in-Err : goal.returns-in-Err
returns-in-Err g c = record {
  loads = front IsLoaded IsRefusedAt (1 ∷ []) (2 ∷ (flat_map (chains_in c.args.count) (range_with_len 0 8) ++ FREE ∷ []))
      c.args.buckets.now c.load_text.new.buckets c.args.marks.now c.load_text.new.marks c.load_text.new.marks c.in-Err.fault
      c.in-Err.ensures.loads;
}

pub returns-in-Err-load_text : goal.returns-in-Err-load_text
returns-in-Err-load_text g c =
    let maps = flat_map (chains_in c.args.count) (range_with_len 0 8) in
    let last = c.load_text-2.new.marks in
    let fault = c.in-Err-load_text.fault in
    record {
      loads = then IsLoaded IsRefusedAt (1 ∷ []) (2 ∷ (maps ++ FREE ∷ [])) c.args.buckets.now c.load_text.new.buckets
          c.load_text-2.new.buckets c.args.marks.now c.load_text.new.marks last c.in_default.field-0 (Err fault)
          c.in_default.ensures.loads
          (front IsLoaded IsRefusedAt (2 ∷ []) (maps ++ FREE ∷ []) c.load_text.new.buckets c.load_text-2.new.buckets c.load_text.new.marks
          last last fault c.in-Err-load_text.ensures.loads);
    }

pub returns-in-Err-load_maps : goal.returns-in-Err-load_maps
returns-in-Err-load_maps g c =
    let maps = flat_map (chains_in c.args.count) (range_with_len 0 8) in
    let last = c.load_maps.new.marks in
    let new = c.load_maps.new.buckets in
    let fault = c.in-Err-load_maps.fault in
    record {
      loads = then IsLoaded IsRefusedAt (1 ∷ []) (2 ∷ (maps ++ FREE ∷ [])) c.args.buckets.now c.load_text.new.buckets
          new c.args.marks.now c.load_text.new.marks last c.in_default.field-0 (Err fault)
          c.in_default.ensures.loads
          (then IsLoaded IsRefusedAt (2 ∷ []) (maps ++ FREE ∷ []) c.load_text.new.buckets c.load_text-2.new.buckets
          new c.load_text.new.marks c.load_text-2.new.marks last c.in_default-load_text.field-0 (Err fault)
          c.in_default-load_text.ensures.loads
          (front IsLoaded IsRefusedAt maps (FREE ∷ []) c.load_text-2.new.buckets new c.load_text-2.new.marks
          last last fault c.in-Err-load_maps.ensures.loads));
    }

pub returns-in-Err-load_free : goal.returns-in-Err-load_free
returns-in-Err-load_free g c =
    let maps = flat_map (chains_in c.args.count) (range_with_len 0 8) in
    let last = c.load_free.new.marks in
    let new = c.load_free.new.buckets in
    let fault = c.in-Err-load_free.fault in
    record {
      loads = then IsLoaded IsRefusedAt (1 ∷ []) (2 ∷ (maps ++ FREE ∷ [])) c.args.buckets.now c.load_text.new.buckets
          new c.args.marks.now c.load_text.new.marks last c.in_default.field-0 (Err fault)
          c.in_default.ensures.loads
          (then IsLoaded IsRefusedAt (2 ∷ []) (maps ++ FREE ∷ []) c.load_text.new.buckets c.load_text-2.new.buckets
          new c.load_text.new.marks c.load_text-2.new.marks last c.in_default-load_text.field-0 (Err fault)
          c.in_default-load_text.ensures.loads
          (then IsLoaded IsRefusedAt maps (FREE ∷ []) c.load_text-2.new.buckets c.load_maps.new.buckets new c.load_text-2.new.marks
          c.load_maps.new.marks last c.in_default-load_maps.field-0 (Err fault) c.in_default-load_maps.ensures.loads
          c.in-Err-load_free.ensures.loads));
    }

pub returns-in-Ok : goal.returns-in-Ok
returns-in-Ok g c =
    let maps = flat_map (chains_in c.args.count) (range_with_len 0 8) in
    let last = c.load_free.new.marks in
    let new = c.load_free.new.buckets in
    record {
      loads = then IsLoaded IsRefusedAt (1 ∷ []) (2 ∷ (maps ++ FREE ∷ [])) c.args.buckets.now c.load_text.new.buckets
          new c.args.marks.now c.load_text.new.marks last c.in_default.field-0 (Ok tt)
          c.in_default.ensures.loads
          (then IsLoaded IsRefusedAt (2 ∷ []) (maps ++ FREE ∷ []) c.load_text.new.buckets c.load_text-2.new.buckets
          new c.load_text.new.marks c.load_text-2.new.marks last c.in_default-load_text.field-0 (Ok tt)
          c.in_default-load_text.ensures.loads
          (then IsLoaded IsRefusedAt maps (FREE ∷ []) c.load_text-2.new.buckets c.load_maps.new.buckets new c.load_text-2.new.marks
          c.load_maps.new.marks last c.in_default-load_maps.field-0 (Ok tt) c.in_default-load_maps.ensures.loads
          c.in-Ok.ensures.loads));
    }
