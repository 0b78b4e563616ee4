-- One more id that is named has a list or not.
use Rattle.std.proofs.Common.{◌≡◌, ◌⊎◌, ◌+◌, ◌∙◌, ℕ, List, Option, true, take, get_or, sym, subst}
use Rattle.std.proofs.lemmas.List.{get_or_default, take_all}
use Rattle.value_bytes.specs.StoreMap.{map_number}
use Rattle.back_index.specs.Filling.{mentions_tell}
use Rattle.back_index.specs.declared.mentions.Mention.{Mention}
use Rattle.store_check.specs.Lists.{IsLacking}
use Rattle.store_check.specs.Wrong.{IsLeast, IsLeastOf}
use Rattle.store_check.proofs.LeastLaws.{least_fewer, least_more}
use Rattle.store_check.proofs.ListsLaws.{all_named, is_named, lacks_it, named_more, not_lacking, told_here}
use Rattle.store_check.proofs.FindsLaws.{found_all, saw_then, then_refuses}
use Rattle.store_check.proofs.lists.lacking.Goals as goal

pub returns-in-Err : goal.returns-in-Err
returns-in-Err g c =
    let read = c.loop-mention.invariant in
    record { least = then_refuses read.saw c.in-Err.ensures.found }

pub loop-mention-preserved : goal.loop-mention-preserved
loop-mention-preserved g c =
    let before = c.loop-mention.invariant in
    let done = c.in-Ok.ensures.found in
    let mentions : List Mention = c.args.mentions.now.all.now in
    let at : ℕ = c.loop-mention.mention-index in
    let none : Mention = record { id = 0; own = 0 } in
    let own : Mention = get_or mentions at none in
    let is : own ≡ get_or mentions at own = get_or_default mentions at none own c.loop-mention-test.true in
    record {
      saw = saw_then before.saw done;
      least = λ rest had.
          let kept = rest.maps (map_number c.args.map) in
          let Is = λ (id : ℕ). ¬ IsLacking (mentions_tell mentions) kept id in
          let found = done.so rest (before.saw.has rest had) in
          let more = least_more Is (λ id. is_named (take at mentions) id ≡ true) c.loop-mention.least own.id c.in-Ok.is_kept
          (before.least rest had)
          (λ yes. not_lacking (mentions_tell mentions) kept own.id (sym found ∙ yes))
          (λ no fine. fine (lacks_it (mentions_tell mentions) kept own.id own.own
          (told_here mentions at own c.loop-mention-test.true is) (sym found ∙ no))) in
          subst (λ (l : Option ℕ). IsLeastOf (λ id. is_named (take (at + 1) mentions) id ≡ true) Is l) (sym c.see.ensures.seen)
          (least_fewer Is (λ id. is_named (take (at + 1) mentions) id ≡ true)
          (λ id. (is_named (take at mentions) id ≡ true) ⊎ (id ≡ own.id)) _
          (λ id named. named_more mentions at id own c.loop-mention-test.true is named) more);
    }

pub returns : goal.returns
returns g c =
    let read = c.loop-mention.invariant in
    record {
      least = found_all read.saw (λ rest has.
          let mentions : List Mention = c.args.mentions.now.all.now in
          let kept = rest.maps (map_number c.args.map) in
          let Is = λ (id : ℕ). ¬ IsLacking (mentions_tell mentions) kept id in
          let all : take c.loop-mention.mention-index mentions ≡ mentions =
          take_all c.loop-mention.mention-index mentions c.loop-mention-test.false in
          subst (λ (l : Option ℕ). IsLeast Is l) (sym c.key.ensures.key)
          (all_named mentions kept c.loop-mention.least
          (subst (λ (l : List Mention). IsLeastOf (λ id. is_named l id ≡ true) Is c.loop-mention.least) all
          (c.loop-mention.invariant.least rest has))));
    }
