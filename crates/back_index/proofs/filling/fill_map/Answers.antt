-- What the entries tell is what is put.
use Rattle.std.proofs.Common.{◌≡◌, ℕ, List, rules, sym, ap, ◌∙◌, subst}
use Rattle.std.specs.List.Sorted.{IsNonDecreasingBy}
use Rattle.value_bytes.specs.StoreMap.{map_number}
use Rattle.back_index.specs.Filling.{ByIds, id_of, mentions_tell}
use Rattle.back_index.specs.Listed.{map_told}
use Rattle.back_index.specs.declared.mentions.Mention.{Mention}
use Rattle.back_index.proofs.Filled.{kept_as, may_as}
use Rattle.back_index.proofs.ReadKeys.{reads_refused}
use Rattle.back_index.proofs.Reading.{on_ok}
use Rattle.back_index.proofs.filling.fill_map.Goals as goal

pub keep_lists-requires-clause-ids : goal.keep_lists-requires-clause-ids
keep_lists-requires-clause-ids g c =
    subst (λ (l : List Mention). ByIds (mentions_tell l)) (sym c.as_slice.ensures.value) c.in-Ok.ensures.ids

pub keep_lists-requires-clause-order : goal.keep_lists-requires-clause-order
keep_lists-requires-clause-order g c =
    subst (λ (l : List Mention). IsNonDecreasingBy id_of l) (sym c.as_slice.ensures.value) c.in-Ok.ensures.order

pub returns-in-Ok-clause-fills : goal.returns-in-Ok-clause-fills
returns-in-Ok-clause-fills g c =
    let items : List Mention = c.as_slice.result.now in
    let same : (id by : ℕ) → mentions_tell items id by ≡ map_told c.args.map c.args.entries.now id by = λ id by.
    ap (λ (l : List Mention). mentions_tell l id by) c.as_slice.ensures.value ∙ c.in-Ok.ensures.told id by in
    on_ok (Unit {0}) _ _ c.keep_lists.result
    (λ fills rest now owns. let filled = fills rest now owns in (
      filled.0,
      filled.1,
      filled.2,
      λ void. kept_as (mentions_tell items) (map_told c.args.map c.args.entries.now)
          (filled.0.maps (map_number c.args.map)) same (filled.3 void),
    ))
    c.keep_lists.ensures.fills

pub returns-in-Ok-clause-touches : goal.returns-in-Ok-clause-touches
returns-in-Ok-clause-touches g c =
    let items : List Mention = c.as_slice.result.now in
    let touches = c.keep_lists.ensures.touches in
    record {
      answers = touches.answers;
      reads = touches.reads;
      stops = touches.stops;
      within = λ may all only. touches.within may
          (may_as may (map_number c.args.map) (mentions_tell items) (map_told c.args.map c.args.entries.now)
          (λ id by. ap (λ (l : List Mention). mentions_tell l id by) c.as_slice.ensures.value ∙ c.in-Ok.ensures.told id by) all) only;
    }

pub returns-in-Err-clause-touches : goal.returns-in-Err-clause-touches
returns-in-Err-clause-touches g c = record {
  answers = search rules;
  reads = search rules;
  stops = search rules;
  within = λ may all only. reads_refused may c.refused.new.buckets c.refused.ensures.marks.refused;
}
