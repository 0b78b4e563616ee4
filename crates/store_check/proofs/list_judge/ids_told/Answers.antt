-- The mentions of an id stand together.
use Rattle.std.proofs.Common.{rules, arith, ◌≢◌, ◌<◌, ◌∙◌, ℕ, List, get_or, length, sym, ap, subst}
use Rattle.std.proofs.lemmas.List.{get_or_default}
use Rattle.osm_base.specs.values.Ids.{has}
use Rattle.back_index.specs.declared.mentions.Mention.{Mention}
use Rattle.store_check.proofs.ListRuns.{none_before, run_ends}
use Rattle.store_check.proofs.list_judge.ids_told.Goals as goal
use Rattle.store_check.proofs.list_judge.ids_told.Goals.{then-loop-at-test+else-mentions-at, else-loop-at-test}

pub loop-at-init : goal.loop-at-init
loop-at-init c =
    let first = c.first_of-at.ensures in
    record {
      within = first.within;
      behind = omega arith;
      told = λ by. ap (λ (l : List ℕ). has l by) c.new-ids.ensures.items
          ∙ sym (none_before c.args.mentions.now.all.now c.first_of-at.result c.args.id by first.before first.within);
    }

pub returns : goal.returns
returns c =
    let mentions : List Mention = c.args.mentions.now.all.now in
    let at : ℕ = c.loop-at.at in
    let ends : (own : Mention) → at < length mentions → c.args.id < (get_or mentions at own).id =
    elim c.loop-at-test.branch [
      | then-loop-at-test+else-mentions-at w ↦ λ own within.
          let none : Mention = record { id = 0; own = 0 } in
          let other : (get_or mentions at none).id ≢ c.args.id = search rules in
          let apart : (get_or mentions at own).id ≢ c.args.id =
          subst (λ (m : Mention). m.id ≢ c.args.id) (get_or_default mentions at none own within) other in
          let past = c.first_of-at.ensures.behind at own c.loop-at.invariant.behind within in
          omega (arith, apart, past)
      | else-loop-at-test w ↦ λ own within. absurd (omega (arith, within, w.loop-at-test.false))
    ] in
    record {
      told = λ by. c.from_vec.ensures.same by ∙ c.loop-at.invariant.told by
          ∙ run_ends mentions at c.args.id c.args.mentions.now.order ends by;
    }
