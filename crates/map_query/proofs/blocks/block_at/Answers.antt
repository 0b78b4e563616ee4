use Rattle.std.proofs.Common.{◌∙◌, ap, arith, sym, length, drop, ◌≤◌}
use Rattle.std.proofs.lemmas.List.{take_all}
use Rattle.map_query.proofs.blocks.block_at.Goals as goal

pub returns-then-rest-lt-BLOCK : goal.returns-then-rest-lt-BLOCK
returns-then-rest-lt-BLOCK c =
    let rest = drop c.args.at c.args.rows.now in
    let few : length rest ≤ 64 = omega (arith, c.if-rest-lt-BLOCK.true, ap length (sym c.split_at.ensures.back)) in
    record { block = c.split_at.ensures.back ∙ sym (take_all 64 rest few) }
