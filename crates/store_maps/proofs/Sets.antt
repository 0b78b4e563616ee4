-- A value is set in a finite map of numbers.
use Rattle.std.proofs.Common.{◌≡◌, ℕ, cond, List, [], ◌∷◌, Option, Some, None, refl, ap, ◌∙◌, nat_eq}
use Rattle.std.specs.Option.{unwrap_or}
use Rattle.std.specs.Ordering.{nat_cmp}
use Rattle.std.specs.Cmp.{nat_cmp_total, unsigned_tied}
use Rattle.std.specs.FinMap as finite
use Rattle.store_maps.specs.Maps.{set, unless_empty}

pub get-set : {X : Type 0} (values : finite.FinMap nat_cmp X) (key : ℕ) (value : Option X) (own : ℕ)
    → finite.get (set values key value) own ≡ cond (nat_eq own key) value (finite.get values own)
get-set values key None own = finite.get-remove nat_cmp_total values key own
    ∙ ap (λ b. cond b None (finite.get values own)) (unsigned_tied own key)
get-set values key (Some value) own = finite.get-insert nat_cmp_total values key value own
    ∙ ap (λ b. cond b (Some value) (finite.get values own)) (unsigned_tied own key)

pub or-empty : {X : Type 0} (xs : List X) → unwrap_or (unless_empty xs) [] ≡ xs
or-empty [] = refl
or-empty (x ∷ xs) = refl
