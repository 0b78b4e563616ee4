-- The list is read, turned, and kept.
use Rattle.std.proofs.Common.{rules, ◌≡◌, ◌≢◌, ◌∙◌, ℕ, List, true, false, sym, ap, subst, refl}
use Rattle.std.specs.FinMap as finite
use Rattle.osm_base.specs.values.Ids.{has}
use Rattle.object_fold.proofs.SortedIds.{same_rising}
use Rattle.bucket_store.specs.Image.{with_value}
use Rattle.back_index.specs.Calls.{page_at, page_in}
use Rattle.back_index.specs.Relisting.{IsUnread, kept_list, turned}
use Rattle.back_index.specs.Visits.{IsFine, Refuses, Sets}
use Rattle.value_bytes.specs.StoreMap.{map_number}
use Rattle.back_index.proofs.Chained.{page_same, ready_after}
use Rattle.back_index.proofs.Reading.{on_ok, reads_same, refuses_more, refuses_result, unread_not}
use Rattle.back_index.proofs.Turning.{beq_apart, beq_same, kept_found, sets_none, sets_put, turned_none, turned_one, true_not}
use Rattle.back_index.proofs.ReadKeys.{reads_refused, reads_then}
use Rattle.back_index.proofs.relisting.turn_list.Goals as goal
use Rattle.back_index.proofs.relisting.turn_list.Goals.{else-visit-via-then-visit+else-not-contains, else-visit-via-else-visit}

pub returns-in-Err-clause-touches : goal.returns-in-Err-clause-touches
returns-in-Err-clause-touches g c = record {
  answers = search rules;
  reads = search rules;
  stops = λ rest now owns.
      let which : ℕ = map_number c.args.visit.map in
      let found = finite.get (now.maps which) c.args.visit.id in
      refuses_more (λ at. IsUnread found × (at ≡ page_in c.args.buckets.now which c.args.visit.id))
      (λ at. (¬ IsFine now c.args.own c.args.visit) × (at ≡ page_at c.args.buckets.now c.args.visit))
      (λ at bad. (λ fine. unread_not found fine.0 bad.0 fine.1.reads, bad.1)) c.in-Err.fault
      (c.in-Err.ensures.asks.touches.stops rest now owns);
  within = c.in-Err.ensures.asks.touches.within;
}

pub returns-then-not-contains-clause-touches : goal.returns-then-not-contains-clause-touches
returns-then-not-contains-clause-touches g c = record {
  answers = search rules;
  reads = search rules;
  stops = λ rest now owns.
      let old = c.args.buckets.now in
      let which : ℕ = map_number c.args.visit.map in
      let id = c.args.visit.id in
      let own = c.args.own in
      let found = finite.get (now.maps which) id in
      let bad : ℕ → Type 0 = λ at. (¬ IsFine now own c.args.visit) × (at ≡ page_at old c.args.visit) in
      let listed : c.from_vec-ids.result ≡ c.in-Ok.ids =
      same_rising c.from_vec-ids.result c.in-Ok.ids c.from_vec-ids.ensures.rise c.in-Ok.ensures.ids.rising.0
      (λ x. c.from_vec-ids.ensures.same x ∙ ap (λ (l : List ℕ). has l x) c.into_vec.ensures.items) in
      let lacks : has c.in-Ok.ids own ≡ false =
      ap (λ (l : List ℕ). has l own) (sym listed) ∙ sym c.contains.ensures.value ∙ c.if-not-contains.true in
      let not_fine : ¬ IsFine now own c.args.visit = λ fine.
      let same = reads_same found fine.0 c.in-Ok.ids fine.1.reads (c.in-Ok.ensures.ids.are rest now owns) in
      true_not (has c.in-Ok.ids own) (ap (λ (l : List ℕ). has l own) (sym same) ∙ fine.1.there c.if-visit.true) lacks in
      subst (Refuses bad) (sym c.refused.ensures.fault)
      (not_fine, c.page_of-page.ensures ∙ page_same old c.listers.new.buckets which id c.in-Ok.ensures.asks.touches.answers.stays);
  within = λ may allowed only. reads_refused may c.refused.new.buckets c.refused.ensures.marks.refused;
}

pub returns-then-visit-2-clause-turns : goal.returns-then-visit-2-clause-turns
returns-then-visit-2-clause-turns g c rest now owns =
    let own = c.args.own in
    let which : ℕ = map_number c.args.visit.map in
    let id = c.args.visit.id in
    let found = finite.get (now.maps which) id in
    let listed : c.from_vec-ids.result ≡ c.in-Ok.ids =
    same_rising c.from_vec-ids.result c.in-Ok.ids c.from_vec-ids.ensures.rise c.in-Ok.ensures.ids.rising.0
    (λ x. c.from_vec-ids.ensures.same x ∙ ap (λ (l : List ℕ). has l x) c.into_vec.ensures.items) in
    let there : c.args.visit.was ≡ true → has c.in-Ok.ids own ≡ true = elim c.else-visit.branch [
      | else-visit-via-then-visit+else-not-contains w ↦ λ was.
          ap (λ (l : List ℕ). has l own) (sym listed) ∙ sym w.contains.ensures.value ∙ w.if-not-contains.false
      | else-visit-via-else-visit w ↦ λ was. absurd (true_not c.args.visit.was was w.if-visit.false)
    ] in
    let reads = c.in-Ok.ensures.ids.are rest now owns in
    let same : c.args.visit.was ≡ c.args.visit.is = beq_same c.args.visit.was c.args.visit.is c.if-visit-2.true in (
      now,
      c.in-Ok.ensures.asks.has refl rest now owns,
      c.in-Ok.ids,
      record { reads = reads; there = there },
      sets_none which id (kept_list (turned c.args.visit.was c.args.visit.is own c.in-Ok.ids)) now
          (ap kept_list (turned_none c.args.visit.was c.args.visit.is own c.in-Ok.ids same) ∙ kept_found found c.in-Ok.ids reads),
    )

pub returns-clause-turns : goal.returns-clause-turns
returns-clause-turns g c =
    let own = c.args.own in
    let which : ℕ = map_number c.args.visit.map in
    let id = c.args.visit.id in
    let was = c.args.visit.was in
    let is = c.args.visit.is in
    let listed : c.from_vec-ids.result ≡ c.in-Ok.ids =
    same_rising c.from_vec-ids.result c.in-Ok.ids c.from_vec-ids.ensures.rise c.in-Ok.ensures.ids.rising.0
    (λ x. c.from_vec-ids.ensures.same x ∙ ap (λ (l : List ℕ). has l x) c.into_vec.ensures.items) in
    let there : was ≡ true → has c.in-Ok.ids own ≡ true = elim c.else-visit.branch [
      | else-visit-via-then-visit+else-not-contains w ↦ λ was.
          ap (λ (l : List ℕ). has l own) (sym listed) ∙ sym w.contains.ensures.value ∙ w.if-not-contains.false
      | else-visit-via-else-visit w ↦ λ was. absurd (true_not c.args.visit.was was w.if-visit.false)
    ] in
    let apart : was ≢ is = beq_apart was is c.if-visit-2.false in
    let now_ids : c.as_slice.result.now ≡ turned was is own c.in-Ok.ids
    = c.as_slice.ensures.ids ∙ c.in_default.ensures.turned ∙ turned_one was is own c.from_vec-ids.result apart
    ∙ ap (turned was is own) listed in
    on_ok (Unit {0}) _ _ c.keep_list.result
    (λ keeps rest now owns. (
      with_value which id (kept_list c.as_slice.result.now) now,
      keeps rest now (c.in-Ok.ensures.asks.has refl rest now owns),
      c.in-Ok.ids,
      record { reads = c.in-Ok.ensures.ids.are rest now owns; there = there },
      subst (λ (l : List ℕ). Sets which id (kept_list l) now (with_value which id (kept_list c.as_slice.result.now) now)) now_ids
          (sets_put which id (kept_list c.as_slice.result.now) now),
    )) c.keep_list.ensures.keeps

pub returns-clause-touches : goal.returns-clause-touches
returns-clause-touches g c = record {
  answers = search rules;
  reads =
      reads_then c.args.buckets.now c.listers.new.buckets c.keep_list.new.buckets c.keep_list.result c.in-Ok.ensures.asks.touches.reads
      c.keep_list.ensures.touches.reads;
  stops = λ rest now owns.
      refuses_result (Unit {0}) (λ at. ⊥) (λ at. (¬ IsFine now c.args.own c.args.visit) × (at ≡ page_at c.args.buckets.now c.args.visit))
      c.keep_list.result
      (λ at none. absurd none) (c.keep_list.ensures.touches.stops rest now (c.in-Ok.ensures.asks.has refl rest now owns));
  within = λ may allowed only.
      c.keep_list.ensures.touches.within may allowed (c.in-Ok.ensures.asks.touches.within may allowed only);
}

pub returns-in-Err-turn-clause-touches : goal.returns-in-Err-turn-clause-touches
returns-in-Err-turn-clause-touches g c = record {
  answers = search rules;
  reads = search rules;
  stops = search rules;
  within = λ may allowed only. reads_refused may c.refused-in-Err-turn.new.buckets c.refused-in-Err-turn.ensures.marks.refused;
}

pub returns-then-visit-2-clause-touches : goal.returns-then-visit-2-clause-touches
returns-then-visit-2-clause-touches g c =
    let touches = c.in-Ok.ensures.asks.touches in
    record {
      answers = search rules;
      reads = touches.reads;
      stops = search rules;
      within = touches.within;
    }

pub keep_list-requires : goal.keep_list-requires
keep_list-requires g c = record {
  ready = ready_after c.args.buckets.now c.listers.new.buckets c.in-Ok.ids c.requires.ready c.in-Ok.ensures.asks.touches.answers;
}
