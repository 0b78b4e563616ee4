use Rattle.std.proofs.Common.{◌&&◌, ◌==◌, Bool, ℕ, List, drop, get_or, sym, ap, ◌∙◌}
use Rattle.chain_store.specs.Pairs.{stays_so}
use Rattle.chain_store.specs.Parts.{head_or}
use Rattle.chain_store.proofs.PairLaws.{kept_is}
use Rattle.chain_store.proofs.laying.is_kept.Goals as goal

pub returns-then-not-stays : goal.returns-then-not-stays
returns-then-not-stays c =
    let chain = c.args.chain.now in
    let n : ℕ = get_or chain.pages.now c.args.place 0 in
    let marks : List ℕ = drop c.args.place chain.same.now in
    sym (
    ap (λ (next : ℕ). stays_so n next (drop c.args.place chain.old.now) marks) (sym c.number_from-next.ensures)
    ∙ kept_is n c.number_from-next.result c.args.place chain.old.now marks c.stays.result c.stays.ensures
    ∙ ap (λ (b : Bool). b && (head_or marks 0 == 1)) c.if-not-stays.true
    )

pub returns : goal.returns
returns c =
    let chain = c.args.chain.now in
    let n : ℕ = get_or chain.pages.now c.args.place 0 in
    let marks : List ℕ = drop c.args.place chain.same.now in
    ap (λ (mark : ℕ). mark == 1) c.mark_at.ensures ∙ sym (
    ap (λ (next : ℕ). stays_so n next (drop c.args.place chain.old.now) marks) (sym c.number_from-next.ensures)
    ∙ kept_is n c.number_from-next.result c.args.place chain.old.now marks c.stays.result c.stays.ensures
    ∙ ap (λ (b : Bool). b && (head_or marks 0 == 1)) c.if-not-stays.false
    )
