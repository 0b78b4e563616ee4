-- One map is emptied, and then the other.
use Rattle.std.proofs.Common.{◌∙◌, Err, inr, ap, subst}
use Rattle.bucket_store.specs.Image.{Has, Image}
use Rattle.row_store.specs.Clearing.{without_map}
use Rattle.row_store.proofs.ClearLaws.{cleared_before, no_rows_left, without_all}
use Rattle.row_store.proofs.clearing.clear.Goals as goal

pub returns-in-Err-clause-none : goal.returns-in-Err-clause-none
returns-in-Err-clause-none g c = no_rows_left

pub returns-in-Ok-clause-none : goal.returns-in-Ok-clause-none
returns-in-Ok-clause-none g c = no_rows_left

pub returns-in-Err-clear_map-clause-none : goal.returns-in-Err-clear_map-clause-none
returns-in-Err-clear_map-clause-none g c = no_rows_left

pub returns-in-Ok-clause-cleared : goal.returns-in-Ok-clause-cleared
returns-in-Ok-clause-cleared g c rest now has =
    let one = c.in_default.ensures.out.took.gone rest now has in
    let two = c.in-Ok.ensures.out.took.gone rest one.0 one.2 in
    subst (λ (image : Image). Has rest image c.clear_map-2.new.buckets)
    (without_all 7 one.0 two.0 two.1 ∙ ap (λ (image : Image). without_map 7 image) (without_all 6 now one.0 one.1)) two.2

pub returns-in-Err-clear_map-clause-answers : goal.returns-in-Err-clear_map-clause-answers
returns-in-Err-clear_map-clause-answers g c pages opens =
    let first = c.in_default.ensures.out.took in
    inr (cleared_before {T = Unit {0}} 7 6 (λ key. Unit {0}) c.args.buckets.now c.clear_map.new.buckets (Err c.in-Err-clear_map.fault) first
    pages opens (c.in-Err-clear_map.ensures.out.answers pages (first.opens pages opens)))

pub returns-in-Err-clear_map-clause-sound : goal.returns-in-Err-clear_map-clause-sound
returns-in-Err-clear_map-clause-sound g c rest now has =
    let one = c.in_default.ensures.out.took.gone rest now has in
    c.in-Err-clear_map.ensures.out.sound rest one.0 one.2
