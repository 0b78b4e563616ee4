-- The tags of a route rise by their keys.
use Rattle.std.proofs.Common.{◌≡◌, ℕ, List, [], ◌∷◌, refl}
use Rattle.std.specs.Prelude.{codes, T}
use Rattle.std.specs.Cmp.Lexicographic.{slice_cmp}
use Rattle.std.specs.Ordering.{nat_cmp}
use Rattle.std.specs.FinMap.{is_sorted}
use Rattle.std.specs.Str.{chars}

pub rising_pairs : (value : List ℕ)
    → T (is_sorted (slice_cmp nat_cmp) ((chars (codes "ref"), value) ∷ (chars (codes "type"), chars (codes "route")) ∷ []))
unfolding chars
rising_pairs value = tt

pub no_role : chars (codes "") ≡ []
unfolding chars
no_role = refl
