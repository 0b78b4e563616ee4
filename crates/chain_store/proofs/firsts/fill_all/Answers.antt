use Rattle.std.proofs.Common.{◌≡◌, ◌++◌, ◌∷◌, [], List, map, sym, ap, subst, ◌∙◌, append_assoc}
use Rattle.std.proofs.lemmas.List.Elements.{All-head, All-tail}
use Rattle.std.specs.List.{All}
use Rattle.std.specs.Vec.Iter.{into_iter_items}
use Rattle.chain_store.specs.Firsts.{MayFill, filled}
use Rattle.chain_store.specs.declared.parts.Part.{Part}
use Rattle.chain_store.proofs.firsts.fill_all.Goals as goal

pub fill-requires : goal.fill-requires
fill-requires c =
    let rest : List Part = into_iter_items c.next.new.self in
    All-head (MayFill c.args.count) c.in-Some.directory rest
    (subst (λ (l : List Part). All (MayFill c.args.count) l) c.in-Some.ensures.steps.0 c.loop-directory.invariant.may)

pub loop-directory-preserved : goal.loop-directory-preserved
loop-directory-preserved c =
    let inv = c.loop-directory.invariant in
    let f = filled c.args.count c.args.laid.now in
    let rest : List Part = into_iter_items c.next.new.self in
    let step : into_iter_items c.loop-directory.directory-iterator ≡ c.in-Some.directory ∷ rest = c.in-Some.ensures.steps.0 in
    record {
      all =
          ap (λ (l : List Part). l ++ map f rest) c.in_ok-push.ensures.items
          ∙ append_assoc c.loop-directory.parts.items (c.in_ok-fill.field-0 ∷ []) (map f rest)
          ∙ ap (λ (p : Part). c.loop-directory.parts.items ++ p ∷ map f rest) c.in_ok-fill.ensures
          ∙ ap (λ (l : List Part). c.loop-directory.parts.items ++ map f l) (sym step)
          ∙ inv.all;
      may = All-tail (MayFill c.args.count) c.in-Some.directory rest
          (subst (λ (l : List Part). All (MayFill c.args.count) l) step inv.may);
    }
