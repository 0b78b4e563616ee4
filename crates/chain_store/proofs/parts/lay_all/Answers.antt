use Rattle.std.proofs.Common.{◌≡◌, ◌++◌, ◌∷◌, ◌≤◌, ℕ, List, length, sym, ap, subst, ◌∙◌, arith}
use Rattle.std.specs.Vec.Iter.{into_iter_items}
use Rattle.chain_store.specs.Parts.{growth, laid_all}
use Rattle.chain_store.specs.declared.parts.Part.{Part}
use Rattle.chain_store.specs.declared.parts.Laid.{Laid}
use Rattle.chain_store.proofs.Deals.{laid-more}
use Rattle.chain_store.proofs.parts.lay_all.Goals as goal

pub loop-part-preserved : goal.loop-part-preserved
loop-part-preserved c =
    let inv = c.loop-part.invariant in
    let pool : List ℕ = c.loop-part.rest.now in
    let rest : List Part = into_iter_items c.next.new.self in
    let step : into_iter_items c.loop-part.part-iterator ≡ c.in-Some.part ∷ rest = c.in-Some.ensures.steps.0 in
    let enough : growth (c.in-Some.part ∷ rest) ≤ length pool =
    subst (λ (ps : List Part). growth ps ≤ length pool) step inv.enough in
    record {
      all =
          ap (λ (l : List Laid). l ++ laid_all rest c.split_at.result.1.now) c.in_ok-push.ensures.items
          ∙ laid-more c.loop-part.laid.items c.in_ok-lay.field-0 c.in-Some.part rest c.split_at.result.0.now pool c.split_at.result.1.now
          c.growth_of-taken.result c.growth_of-taken.ensures c.split_at.ensures.front c.split_at.ensures.back c.in_ok-lay.ensures
          ∙ ap (λ (ps : List Part). c.loop-part.laid.items ++ laid_all ps pool) (sym step)
          ∙ inv.all;
      enough = omega (arith, enough, c.split_at.ensures.back_len, c.growth_of-taken.ensures);
    }
