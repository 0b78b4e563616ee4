-- The lists of both forms are turned in their order.
use Rattle.std.proofs.Common.{rules, ◌≡◌, ◌∙◌, ◌++◌, ℕ, List, sym, ap, subst, true}
use Rattle.osm_base.specs.values.Ids.{has}
use Rattle.value_bytes.specs.StoreMap.{map_number}
use Rattle.store_maps.specs.Turns.{listed_by}
use Rattle.back_index.specs.Calls.{page_at}
use Rattle.back_index.specs.Listed.{ids_in}
use Rattle.back_index.specs.Relisting.{in_order}
use Rattle.back_index.specs.Visits.{IsFine, StopsAt, visits, visits_at}
use Rattle.back_index.specs.declared.visit.Visit.{Visit}
use Rattle.back_index.proofs.ListLaws.{has-in_order}
use Rattle.back_index.proofs.Reading.{on_ok, refuses_result}
use Rattle.back_index.proofs.ReadKeys.{all_among, all_joined, reads_refused}
use Rattle.back_index.proofs.Turning.{turns_done, turns_same, visits_same}
use Rattle.back_index.proofs.relisting.relist_map.Goals as goal

pub returns-in-Ok-clause-turns : goal.returns-in-Ok-clause-turns
returns-in-Ok-clause-turns g c =
    let which : ℕ = map_number c.args.map in
    let olds = c.in-Ok.forms.before in
    let news = c.in-Ok.forms.after in
    let old = listed_by (ids_in c.args.map) c.args.old.now in
    let new = listed_by (ids_in c.args.map) c.args.new.now in
    let ids = c.as_slice-ids.result.now in
    let all : ids ≡ in_order (olds ++ news) = c.as_slice-ids.ensures.ids ∙ c.in-Ok.ensures.all in
    let same : (id : ℕ) → has (olds ++ news) id ≡ has ids id =
    λ id. sym (has-in_order (olds ++ news) id) ∙ ap (λ (l : List ℕ). has l id) (sym all) in
    on_ok (Unit {0}) _ _ c.turn_all.result
    (λ turns rest now owns. let was = turns rest now owns in (
      was.0,
      was.1,
      was.2,
      turns_same olds news old new c.in-Ok.ensures.before c.in-Ok.ensures.after c.args.own (now.maps which) (was.0.maps which)
          (turns_done c.args.own olds news ids (olds ++ news) (now.maps which) (was.0.maps which) same was.3),
    ))
    c.turn_all.ensures.turns

pub returns-in-Ok-clause-touches : goal.returns-in-Ok-clause-touches
returns-in-Ok-clause-touches g c =
    let own_map = c.args.map in
    let olds = c.in-Ok.forms.before in
    let news = c.in-Ok.forms.after in
    let old = listed_by (ids_in own_map) c.args.old.now in
    let new = listed_by (ids_in own_map) c.args.new.now in
    let ids = c.as_slice-ids.result.now in
    let all : ids ≡ in_order (olds ++ news) = c.as_slice-ids.ensures.ids ∙ c.in-Ok.ensures.all in
    let touches = c.turn_all.ensures.touches in
    record {
      answers = touches.answers;
      reads = touches.reads;
      stops = λ rest now owns.
          let fine = IsFine now c.args.own in
          let page = page_at c.args.buckets.now in
          refuses_result (Unit {0}) (StopsAt fine page (visits_at own_map olds news ids)) (StopsAt fine page (visits own_map old new))
          c.turn_all.result
          (λ at stops. subst (λ (l : List Visit). StopsAt fine page l at)
          (ap (visits_at own_map olds news) all ∙ visits_same olds news old new c.in-Ok.ensures.before c.in-Ok.ensures.after own_map) stops)
          (touches.stops rest now owns);
      within = λ may lists only.
          let allowed : ℕ → Type 0 = λ id. may (map_number own_map) id ≡ true in
          let same : (id : ℕ) → has ids id ≡ has (olds ++ news) id =
          λ id. ap (λ (l : List ℕ). has l id) all ∙ has-in_order (olds ++ news) id in
          touches.within may (all_among allowed ids (olds ++ news) same
          (all_joined allowed olds news (all_among allowed olds old c.in-Ok.ensures.before lists.0)
          (all_among allowed news new c.in-Ok.ensures.after lists.1))) only;
    }

pub returns-in-Err-clause-touches : goal.returns-in-Err-clause-touches
returns-in-Err-clause-touches g c = record {
  answers = search rules;
  reads = search rules;
  stops = search rules;
  within = λ may lists only. reads_refused may c.refused.new.buckets c.refused.ensures.marks.refused;
}
