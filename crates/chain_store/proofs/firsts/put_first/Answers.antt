use Rattle.std.proofs.Common.{◌+◌, ◌-◌, ◌*◌, ℕ, List, sym, ap, ◌∙◌, arith}
use Rattle.std.specs.Int.{w64, to_le_bytes}
use Rattle.outside.specs.Disk.{overlaid}
use Rattle.chain_store.specs.Parts.{head_or}
use Rattle.chain_store.proofs.FirstLaws.{first_put-behind, first_put-here, first_put-low}
use Rattle.chain_store.proofs.firsts.put_first.Goals as goal

pub returns-then-one-low : goal.returns-then-one-low
returns-then-one-low c = sym (first_put-low c.args.at c.args.low c.args.count c.args.one.now c.args.bytes.now
    (omega (arith, c.if-one-low.true)))

pub returns-then-place-count : goal.returns-then-place-count
returns-then-place-count c = sym (first_put-behind c.args.at c.args.low c.args.count c.args.one.now c.args.bytes.now
    (omega (arith, c.if-place-count.true)))

pub returns : goal.returns
returns c =
    c.put_number.ensures
    ∙ ap (λ (n : ℕ). overlaid (c.args.at + 8 * (c.args.one.now.number - c.args.low)) (to_le_bytes w64 n) c.args.bytes.now)
    (c.head_of.ensures ∙ ap (λ (l : List ℕ). head_or l 0) c.as_slice.ensures.items)
    ∙ sym (first_put-here c.args.at c.args.low c.args.count c.args.one.now c.args.bytes.now (omega (arith, c.if-one-low.false))
    (omega (arith, c.if-place-count.false)))
