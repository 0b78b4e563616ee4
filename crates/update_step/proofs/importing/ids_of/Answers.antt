use Rattle.std.proofs.Common.{rules, arith, ◌≡◌, ◌&&◌, ◌∷◌, ◌++◌, [], ℕ, List, Bool, None, cond, take, sym, ap, subst, ◌∙◌}
use Rattle.std.specs.List.{AllByRecursion}
use Rattle.std.proofs.lemmas.Grind.{common_steps}
use Rattle.std.proofs.lemmas.List.{take_all}
use Rattle.osm_base.specs.declared.values.object.Entry.{Entry}
use Rattle.osm_base.specs.map.Listers.{is_kind}
use Rattle.osm_base.specs.values.Ids.{IsRising}
use Rattle.osm_base.specs.values.Key.{IsId}
use Rattle.object_fold.specs.Change.{IsChange}
use Rattle.row_rules.specs.Wanted.{may_have_rows}
use Rattle.update_step.specs.Importing.{ids_named, wanted_among}
use Rattle.update_step.proofs.NamedKeys.{ids-rise}
use Rattle.update_step.proofs.WantedEntries.{wanted-more, wanted-rise}
use Rattle.update_step.proofs.importing.ids_of.Goals as goal
use Rattle.update_step.proofs.importing.ids_of.Goals.{then-is_wanted+in_ok-push, else-is_wanted}

all_push : (ids : List ℕ) (id : ℕ) → AllByRecursion IsId ids → IsId id → AllByRecursion IsId (ids ++ id ∷ [])
all_push [] id all is = (is, tt)
all_push (first ∷ ids) id all is = (all.0, all_push ids id all.1 is)

pub loop-entry-preserved : goal.loop-entry-preserved
loop-entry-preserved c =
    let items : List Entry = c.entries-entry-items.result.now in
    let own : Entry = c.entry-item.result in
    let more = wanted-more c.args.style.now c.args.kind items c.loop-entry.entry-index own c.loop-entry-test.true c.entry-item.is in
    let front : List ℕ = ids_named c.args.kind (wanted_among c.args.style.now (take c.loop-entry.entry-index items)) in
    let test : c.is_wanted.result ≡ (is_kind c.args.kind own.key.kind && may_have_rows c.args.style.now own.object) =
    c.is_wanted.ensures.wanted in
    elim c.if-is_wanted.branch [
      | then-is_wanted+in_ok-push w ↦
          let pushed : c.if-is_wanted.ids.items ≡ front ++ own.key.id ∷ [] = first_of (search rules, grind (arith, common_steps)) in
          record {
            named = pushed ∙ sym (more ∙ ap (λ (b : Bool). cond b (front ++ own.key.id ∷ []) front) (sym test ∙ w.if-is_wanted.true));
            ids = first_of (search rules, search (rules, all_push), grind (arith, all_push));
          }
      | else-is_wanted w ↦
          let same : c.if-is_wanted.ids.items ≡ front = first_of (search rules, grind (arith, common_steps)) in
          record {
            named = same ∙ sym (more ∙ ap (λ (b : Bool). cond b (front ++ own.key.id ∷ []) front) (sym test ∙ w.if-is_wanted.false));
            ids = first_of (search rules, grind (arith, common_steps));
          }
    ]

pub returns-clause-rising : goal.returns-clause-rising
returns-clause-rising c =
    let items : List Entry = c.entries-entry-items.result.now in
    let rise : IsChange items = subst IsChange (sym c.entries-entry-items.ensures.entries) c.entries-entry-items.ensures.rise in
    let all : c.from_vec.result ≡ ids_named c.args.kind (wanted_among c.args.style.now items) =
    c.from_vec.ensures.items ∙ c.loop-entry.invariant.named
    ∙ ap (λ (list : List Entry). ids_named c.args.kind (wanted_among c.args.style.now list))
    (take_all c.loop-entry.entry-index items c.loop-entry-test.false) in (
      subst IsRising (sym all) (ids-rise c.args.kind None (wanted_among c.args.style.now items) (wanted-rise c.args.style.now items rise)),
      subst (AllByRecursion IsId) (sym c.from_vec.ensures.items) c.loop-entry.invariant.ids,
    )
