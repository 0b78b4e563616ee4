-- A map more is right, or has the first value that is not.
use Rattle.std.proofs.Common.{◌≡◌, Option, arith, refl, sym, subst, ⊎_elim}
use Rattle.value_bytes.specs.StoreMap.{map_number}
use Rattle.value_bytes.specs.declared.store_map.StoreMap.{StoreMap}
use Rattle.value_bytes.proofs.MapNumbers.{map_number-below}
use Rattle.store_check.specs.Wrong.{IsRightIn, IsWrongIn}
use Rattle.store_check.specs.declared.wrong.Wrong.{Wrong}
use Rattle.store_check.proofs.SearchLaws.{all_right, first_found, held_ids, lower_or_not, same_map}
use Rattle.store_check.proofs.FindsLaws.{found_all, saw_then, then_finds, then_refuses}
use Rattle.store_check.proofs.searching.wrong_behind.Goals as goal

pub loop-map-preserved : goal.loop-map-preserved
loop-map-preserved g c =
    let before = c.loop-map.invariant in
    let done = c.in-Ok-None.ensures.least in
    let here : map_number c.in-Some.map ≡ c.loop-map.number = c.in-Some.ensures.map in
    record {
      some = omega (arith, before.some);
      few = let below = map_number-below c.in-Some.map in omega (arith, here, below);
      saw = saw_then before.saw done;
      right = λ rest had nodes ways relations read ids held map behind low key.
          ⊎_elim (λ less. before.right rest had nodes ways relations read ids held map behind less key)
          (λ most.
          let level : map_number map ≡ map_number c.in-Some.map = omega (arith, low, most, here) in
          subst (λ (own : StoreMap). IsRightIn c.args.style.now rest nodes ways relations own key) (sym (same_map map c.in-Some.map level))
          (subst (λ (found : Option Wrong). IsWrongIn (IsRightIn c.args.style.now rest nodes ways relations) c.in-Some.map found)
          c.in-Ok-None.field-0-is (done.so rest (before.saw.has rest had) nodes ways relations read ids held) key))
          (lower_or_not (map_number map) c.loop-map.number);
    }

pub returns-clause-right : goal.returns-clause-right
returns-clause-right g c is rest had own =
    all_right c.args.style.now rest c.args.held.now own (λ map behind key.
    c.loop-map.invariant.right rest had own.nodes own.ways own.relations own.read (held_ids c.args.style.now rest c.args.held.now own) own.held
    map behind (let below = map_number-below map in let most = c.in_default.ensures.none.0 refl in omega (arith, below, most)) key)

pub returns-clause-wrong : goal.returns-clause-wrong
returns-clause-wrong g c =
    let read = c.loop-map.invariant in
    found_all read.saw (λ rest had. tt)

pub returns-in-Ok-Some-clause-wrong : goal.returns-in-Ok-Some-clause-wrong
returns-in-Ok-Some-clause-wrong g c =
    let read = c.loop-map.invariant in
    then_finds read.saw c.in-Ok-Some.ensures.least (λ rest had least own.
    let ids = held_ids c.args.style.now rest c.args.held.now own in
    let here : map_number c.in-Some.map ≡ c.loop-map.number = c.in-Some.ensures.map in
    first_found c.args.style.now rest c.args.held.now own c.in-Some.map
    (λ other behind low key.
    c.loop-map.invariant.right rest had own.nodes own.ways own.relations own.read ids own.held other behind (omega (arith, low, here)) key)
    c.in-Ok-Some.wrong
    (subst (λ (found : Option Wrong). IsWrongIn (IsRightIn c.args.style.now rest own.nodes own.ways own.relations) c.in-Some.map found)
    c.in-Ok-Some.field-0-is
    (least own.nodes own.ways own.relations own.read ids own.held)))

pub returns-in-Err-clause-wrong : goal.returns-in-Err-clause-wrong
returns-in-Err-clause-wrong g c =
    let read = c.loop-map.invariant in
    then_refuses read.saw c.in-Err.ensures.least
