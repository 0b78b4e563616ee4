-- It is told of the list that is not put yet, or that is put and it begins another.
use Rattle.std.proofs.Common.{rules, ◌≡◌, ◌<◌, ◌∙◌, ℕ, List, [], ◌∷◌, ◌++◌, sym, ap, subst, refl}
use Rattle.osm_base.specs.values.Ids.{has}
use Rattle.bucket_store.specs.Image.{with_value}
use Rattle.value_bytes.specs.StoreMap.{map_number}
use Rattle.back_index.specs.Filling.{MentionRuns}
use Rattle.back_index.specs.Relisting.{kept_list}
use Rattle.back_index.proofs.Filled.{runs_kept, runs_more, runs_next}
use Rattle.back_index.proofs.Reading.{on_ok}
use Rattle.back_index.proofs.Turning.{only_none, sets_put}
use Rattle.back_index.proofs.filling.add_mention.Goals as goal

pub returns-then-mention-run-clause-runs : goal.returns-then-mention-run-clause-runs
returns-then-mention-run-clause-runs g c =
    let run = c.args.run.now in
    let own = c.args.mention in
    let same : own.id ≡ run.id = search rules in
    on_ok (Unit {0}) _ _ c.push.result
    (λ pushed rest now owns. (
      now,
      c.push.ensures.has rest now owns,
      only_none (map_number c.args.map) now,
      λ done runs.
          subst (λ (ids : List ℕ). MentionRuns (done ++ own ∷ []) c.push.new.run.id ids (now.maps (map_number c.args.map))) (sym pushed)
          (subst (λ (at : ℕ). MentionRuns (done ++ own ∷ []) at (run.ids.items ++ own.own ∷ []) (now.maps (map_number c.args.map)))
          (sym c.push.ensures.at)
          (runs_more done run.id run.ids.items (now.maps (map_number c.args.map)) own same runs)),
    ))
    c.push.ensures.ids

pub returns-clause-runs : goal.returns-clause-runs
returns-clause-runs g c =
    let run = c.args.run.now in
    let own = c.args.mention in
    let which : ℕ = map_number c.args.map in
    let lt : run.id < own.id = search rules in
    let taken : c.replace-ids.result.items ≡ run.ids.items = search rules in
    let none : c.replace-ids.new.dest.items ≡ [] = search rules in
    on_ok (Unit {0}) _ _ c.push-2.result
    (λ pushed rest now owns.
    let kept = c.in_default.ensures.keeps rest now owns in
    let after = with_value which run.id (kept_list kept.0) now in
    let sets = sets_put which run.id (kept_list kept.0) now in (
      after,
      c.push-2.ensures.has rest after kept.3,
      sets.only,
      λ done runs.
          let all = runs_kept done run.id run.ids.items kept.0 (now.maps which) (after.maps which) runs kept.1
          (λ id. kept.2 id ∙ ap (λ (l : List ℕ). has l id) taken) sets.here sets.beside in
          subst (λ (ids : List ℕ). MentionRuns (done ++ own ∷ []) c.push-2.new.run.id ids (after.maps which))
          (sym (pushed ∙ ap (λ (l : List ℕ). l ++ own.own ∷ []) none))
          (subst (λ (at : ℕ). MentionRuns (done ++ own ∷ []) at ([] ++ own.own ∷ []) (after.maps which)) (sym c.push-2.ensures.at)
          (runs_more done own.id [] (after.maps which) own refl
          (runs_next done run.id own.id run.ids.items (now.maps which) (after.maps which) runs lt all))),
    ))
    c.push-2.ensures.ids

pub returns-clause-touches : goal.returns-clause-touches
returns-clause-touches g c = record {
  answers = search rules;
  reads = search rules;
  stops = λ rest now owns.
      let kept = c.in_default.ensures.keeps rest now owns in
      c.push-2.ensures.touches.stops rest (with_value (map_number c.args.map) c.args.run.now.id (kept_list kept.0) now) kept.3;
  within = λ may allowed only. c.push-2.ensures.touches.within may tt (c.in_default.ensures.touches.within may allowed only);
}

pub returns-then-mention-run-clause-touches : goal.returns-then-mention-run-clause-touches
returns-then-mention-run-clause-touches g c =
    let touches = c.push.ensures.touches in
    record {
      answers = touches.answers;
      reads = touches.reads;
      stops = touches.stops;
      within = λ may allowed only. touches.within may tt only;
    }
