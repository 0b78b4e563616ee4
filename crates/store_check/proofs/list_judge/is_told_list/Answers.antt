-- The list reads as other ids than those that are told, or as the same.
use Rattle.std.proofs.Common.{rules, ◌≡◌, ◌∙◌, ℕ, List, sym, ap, subst}
use Rattle.osm_base.specs.values.Ids.{IsRising, has}
use Rattle.back_index.specs.Filling.{mentions_tell}
use Rattle.store_check.proofs.ListRuns.{is_kept, kept_same}
use Rattle.store_check.proofs.list_judge.is_told_list.Goals as goal

pub returns : goal.returns
returns c =
    let mentions = c.args.mentions.now.all.now in
    let id = c.args.id in
    let mine : List ℕ = c.as_slice.result.now in
    let list : List ℕ = c.in-Ok.list in
    let rise : IsRising mine = subst IsRising (sym c.as_slice.ensures.ids) c.as_slice.ensures.rise in
    let same : (by : ℕ) → has mine by ≡ mentions_tell mentions id by =
    λ by. ap (λ (l : List ℕ). has l by) c.as_slice.ensures.ids ∙ c.in_ok-told.ensures.told by in
    let other : c.as_slice-2.result.now ≡ list = search rules in
    record {
      told = λ kept there.
          let yes = is_kept (mentions_tell mentions) kept id c.args.bytes.now there list mine c.in-Ok.ensures.ids rise same in
          let no = kept_same (mentions_tell mentions) kept id c.args.bytes.now there list mine c.in-Ok.ensures.ids rise same in
          (λ is. yes (search rules), λ own. let is = no own in search rules);
    }
