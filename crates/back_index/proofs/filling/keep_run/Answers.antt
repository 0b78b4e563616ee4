-- The ids in their order are put.
use Rattle.std.proofs.Common.{◌≡◌, ◌∙◌, ℕ, List, sym, ap, subst}
use Rattle.osm_base.specs.values.Ids.{IsRising, has}
use Rattle.back_index.proofs.Filled.{rising_ids}
use Rattle.back_index.proofs.Reading.{on_ok}
use Rattle.back_index.proofs.filling.keep_run.Goals as goal

pub returns-clause-keeps : goal.returns-clause-keeps
returns-clause-keeps g c =
    let ids : List ℕ = c.args.ids.items in
    let list : List ℕ = c.as_slice.result.now in
    let same : (own : ℕ) → has list own ≡ has ids own =
    λ own. ap (λ (l : List ℕ). has l own) c.as_slice.ensures.ids ∙ c.from_vec-ids.ensures.same own in
    let rise : IsRising list = subst IsRising (sym c.as_slice.ensures.ids) c.as_slice.ensures.rise in
    on_ok (Unit {0}) _ _ c.keep_list.result (λ keeps rest now owns.
    (list, rising_ids list ids rise same c.requires.ids, same, keeps rest now owns)) c.keep_list.ensures.keeps
