use Rattle.std.proofs.Common.{◌≡◌, ◌<◌, ℕ, List, [], ◌∷◌, length, true, false, Some, sym, subst, ◌∙◌, ap, arith, refl}
use Rattle.std.specs.Cmp.{nat_cmp_total}
use Rattle.std.specs.Ordering.{nat_cmp}
use Rattle.std.specs.FinMap as map
use Rattle.std.specs.FinMap.{nat_cmp-IsAntisymmetric}
use Rattle.osm_base.proofs.Found.{found, removed}
use Rattle.chain_store.proofs.Gathers.{len-less}
use Rattle.chain_store.proofs.number_map.NumberMap.take_first.Goals as goal

none_entries : {A : Type 0} (es : List (ℕ × A)) → (0 < length es → false ≡ true) → map.from_entries {R = nat_cmp} es ≡ map.empty
none_entries [] none = refl
none_entries (e ∷ es) none = (let is = none (omega arith) in absurd (cc is))

pub returns-in-Some : goal.returns-in-Some
returns-in-Some g c =
    let value : map.get c.args.self.now c.in-Some.entry.0 ≡ Some c.in-Some.entry.1 =
    sym (found nat_cmp nat_cmp_total nat_cmp-IsAntisymmetric c.in-Some.entry.0 c.self.inside.tree.entries
    ∙ ap (λ numbers. map.get numbers c.in-Some.entry.0) c.self.view_is) ∙ c.in-Some.ensures.value in
    let rest = removed nat_cmp nat_cmp_total nat_cmp-IsAntisymmetric c.self.inside.tree c.pop_first.new.self c.in-Some.entry.0
    c.in-Some.ensures.updates
    ∙ ap (λ numbers. map.remove numbers c.in-Some.entry.0) c.self.view_is in
    record {
      none = λ is. absurd (cc is);
      value = value;
      rest = rest;
      fewer = subst (λ numbers. map.len numbers < map.len c.args.self.now) (sym rest)
          (len-less c.args.self.now c.in-Some.entry.0 c.in-Some.entry.1 value);
    }

pub returns-in-None : goal.returns-in-None
returns-in-None g c = record {
  none = λ is. sym c.self.view_is ∙ none_entries c.self.inside.tree.entries c.in-None.ensures.variant.1;
  value = tt;
  rest = tt;
  fewer = tt;
}
