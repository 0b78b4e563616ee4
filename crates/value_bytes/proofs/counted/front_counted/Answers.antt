use Rattle.std.proofs.Common.{refl, sym, ◌∙◌, arith}
use Rattle.std.proofs.lemmas.List.{take-append-drop}
use Rattle.value_bytes.proofs.CountedLaws.{counted_front, counted_frontless, counted_short}
use Rattle.value_bytes.proofs.counted.front_counted.Goals as goal

pub returns-in_default-clause-none : goal.returns-in_default-clause-none
returns-in_default-clause-none c none = counted_frontless c.args.bytes.now (c.in_default.ensures.none refl)

pub returns-then-count-behind-clause-none : goal.returns-then-count-behind-clause-none
returns-then-count-behind-clause-none c none =
    counted_short c.args.bytes.now c.in-Some.count c.in-Some.behind.now c.in-Some.ensures.number (omega arith)

pub returns-clause-counted : goal.returns-clause-counted
returns-clause-counted c =
    let behind = c.in-Some.behind.now in
    counted_front c.args.bytes.now c.in-Some.count behind c.split_at.result.0.now c.split_at.result.1.now c.in-Some.ensures.number
    (omega (arith, c.split_at.ensures.front_len))
    (sym (take-append-drop c.in-Some.count behind) ∙ cc (c.split_at.ensures.front, c.split_at.ensures.back))
