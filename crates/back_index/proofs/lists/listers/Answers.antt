-- The bucket is brought, and then the list is read.
use Rattle.std.proofs.Common.{rules, ◌≡◌, ◌∙◌, ℕ, sym, subst, Ok, refl}
use Rattle.std.specs.FinMap as finite
use Rattle.value_bytes.specs.StoreMap.{map_number}
use Rattle.back_index.specs.Calls.{page_in}
use Rattle.back_index.specs.Relisting.{IsUnread}
use Rattle.back_index.specs.Visits.{Refuses}
use Rattle.back_index.proofs.Chained.{page_same, sound_refuses}
use Rattle.back_index.proofs.Reading.{needs_refuses}
use Rattle.back_index.proofs.ReadKeys.{reads_key, reads_refused, reads_bucket}
use Rattle.back_index.proofs.lists.listers.Goals as goal

pub returns-in-Err-clause-asks : goal.returns-in-Err-clause-asks
returns-in-Err-clause-asks g c = record {
  touches = record {
    answers = search rules;
    reads = search rules;
    stops = λ rest now has. sound_refuses (Unit {0}) _ c.in-Err.fault (c.in-Err.ensures.brings.sound rest now has);
    within = λ may allowed only. reads_refused may c.bring.new.self c.in-Err.ensures.touches.refused;
  };
  has = λ none rest now has. c.in-Err.ensures.brings.keeps.has none rest now has;
}

pub returns-in-Ok-clause-ids : goal.returns-in-Ok-clause-ids
returns-in-Ok-clause-ids g c = record {
  rising = c.in-Ok.ensures.ids.rising;
  are = λ rest now has. c.in-Ok.ensures.ids.are rest now (c.in_default.ensures.brings.keeps.has refl rest now has);
}

pub returns-in-Ok-clause-asks : goal.returns-in-Ok-clause-asks
returns-in-Ok-clause-asks g c =
    let old = c.args.buckets.now in
    let new = c.bring.new.self in
    let which : ℕ = map_number c.args.map in
    let touches = c.in_default.ensures.touches in
    record {
      touches = record {
        answers = search rules;
        reads = reads_bucket old new which c.args.id touches.reads;
        stops = search rules;
        within = λ may allowed only. reads_key may old new which c.args.id c.requires.ready.going allowed touches.stays {T = Unit {0}}
            (Ok tt)
            touches.reads touches.refused only;
      };
      has = λ none rest now has. c.in_default.ensures.brings.keeps.has refl rest now has;
    }

pub returns-in-Err-read_list-clause-asks : goal.returns-in-Err-read_list-clause-asks
returns-in-Err-read_list-clause-asks g c =
    let old = c.args.buckets.now in
    let new = c.bring.new.self in
    let which : ℕ = map_number c.args.map in
    record {
      touches = record {
        answers = search rules;
        reads = search rules;
        stops = λ rest now has.
            let bad : ℕ → Type 0 = λ at. IsUnread (finite.get (now.maps which) c.args.id) × (at ≡ page_in old which c.args.id) in
            subst (Refuses bad) (sym c.refused.ensures.fault)
            (needs_refuses bad _ c.in-Err-read_list.fault c.page_of-page.result c.in-Err-read_list.ensures.refused
            (λ unread. (
              unread rest now (c.in_default.ensures.brings.keeps.has refl rest now has),
              c.page_of-page.ensures ∙ page_same old new which c.args.id c.in_default.ensures.touches.stays,
            )));
        within = λ may allowed only. reads_refused may c.refused.new.buckets c.refused.ensures.marks.refused;
      };
      has = λ none rest now has. c.refused.ensures.marks.has rest now (c.in_default.ensures.brings.keeps.has refl rest now has);
    }
