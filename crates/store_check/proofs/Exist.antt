-- A finite map of values, where the bytes of each key are those of one.
use Rattle.std.proofs.Common.{◌≡◌, ℕ, Bool, true, false, ◌&&◌, cond, List, [], ◌∷◌, Option, Some, None, refl, sym, ap, subst, ◌∙◌}
use Rattle.std.specs.Prelude.{T}
use Rattle.std.specs.Cmp.{nat_cmp_total, tied_itself}
use Rattle.std.specs.Ordering.{eq_by_cmp, is_eq, is_lt, nat_cmp}
use Rattle.std.specs.declared.cmp.Ordering.{Ordering}
use Rattle.std.specs.declared.cmp.Ordering.TheVariants.{Less, Equal, Greater}
use Rattle.std.specs.FinMap as finite
use Rattle.std.specs.List.{AllByRecursion}
use Rattle.std.specs.FinMap.{find, is_sorted, nat_cmp-IsAntisymmetric}
use Rattle.std.specs.FinMap.Entries.{below_all}
use Rattle.bucket_records.specs.Records.{BucketMap}

front : (a b : Bool) → T (a && b) → T a
front true b p = tt
front false b p = p

back : (a b : Bool) → T (a && b) → T b
back true b p = p
back false b p = absurd p

apart : (o : Ordering) → T (is_lt o) → is_eq o ≡ false
apart Less p = refl
apart Equal p = absurd p
apart Greater p = absurd p

is_tied : (o : Ordering) → is_eq o ≡ true → o ≡ Equal
is_tied Less p = absurd (cc)
is_tied Equal p = refl
is_tied Greater p = absurd (cc)

pub same : (one other : ℕ) → eq_by_cmp nat_cmp one other ≡ true → one ≡ other
same one other tied = nat_cmp-IsAntisymmetric one other (is_tied (nat_cmp one other) tied)

self : (key : ℕ) → eq_by_cmp nat_cmp key key ≡ true
self key = ap is_eq (tied_itself nat_cmp_total key)

not_found : (key : ℕ) (es : List (ℕ × List ℕ)) → T (below_all nat_cmp key es) → find nat_cmp key es ≡ None
not_found key [] below = refl
not_found key (one ∷ rest) below =
    ap (λ b. cond b (Some one.1) (find nat_cmp key rest))
    (apart (nat_cmp key one.0) (front (is_lt (nat_cmp key one.0)) (below_all nat_cmp key rest) below))
    ∙ not_found key rest (back (is_lt (nat_cmp key one.0)) (below_all nat_cmp key rest) below)

-- what is found behind an entry is found with it in front
found_on : (key : ℕ) (bytes : List ℕ) (one : ℕ × List ℕ) (rest : List (ℕ × List ℕ)) → T (below_all nat_cmp one.0 rest)
    → find nat_cmp key rest ≡ Some bytes
    → find nat_cmp key (one ∷ rest) ≡ Some bytes
found_on key bytes one rest below found =
    elim (eq_by_cmp nat_cmp key one.0) as
    (λ b. eq_by_cmp nat_cmp key one.0 ≡ b → cond b (Some one.1) (find nat_cmp key rest) ≡ Some bytes) [
      | true ↦ λ tied.
          let none = ap (λ (own : ℕ). find nat_cmp own rest) (same key one.0 tied) ∙ not_found one.0 rest below in
          let wrong : None ≡ Some bytes = sym none ∙ found in
          absurd (cc)
      | false ↦ λ other. found
    ] refl

-- what holds of all that is found among entries holds of each of them
pub all_found : (P : ℕ × List ℕ → Type 0) (es : List (ℕ × List ℕ)) → T (is_sorted nat_cmp es)
    → ((key : ℕ) (bytes : List ℕ) → find nat_cmp key es ≡ Some bytes → P (key, bytes)) → AllByRecursion P es
all_found P [] sorted each = tt
all_found P (one ∷ es) sorted each =
    let below = front (below_all nat_cmp one.0 es) (is_sorted nat_cmp es) sorted in (
      each one.0 one.1 (ap (λ b. cond b (Some one.1) (find nat_cmp one.0 es)) (self one.0)),
      all_found P es (back (below_all nat_cmp one.0 es) (is_sorted nat_cmp es) sorted)
          (λ key bytes found. each key bytes (found_on key bytes one es below found)),
    )

module _ {V : Type 0} (Q : ℕ → List ℕ → V → Type 0) where
  -- the bytes of a key, if there are any, are those of the value, if there is one
  abbrev pub Pair : ℕ → Option (List ℕ) → Option V → Type 0
  Pair key None None = Unit {0}
  Pair key (Some bytes) (Some value) = Q key bytes value
  Pair key None (Some value) = ⊥
  Pair key (Some bytes) None = ⊥

  either : (key : ℕ) (one : ℕ × List ℕ) (rest : List (ℕ × List ℕ)) (value : V) (others : Option V) → Q one.0 one.1 value
      → Pair key (find nat_cmp key rest) others
      → Pair key (find nat_cmp key (one ∷ rest)) (cond (eq_by_cmp nat_cmp key one.0) (Some value) others)
  either key one rest value others is other =
      elim (eq_by_cmp nat_cmp key one.0) as
      (λ b. eq_by_cmp nat_cmp key one.0 ≡ b → Pair key (cond b (Some one.1) (find nat_cmp key rest)) (cond b (Some value) others)) [
        | true ↦ λ tied. subst (λ (own : ℕ). Q own one.1 value) (sym (same key one.0 tied)) is
        | false ↦ λ apart. other
      ] refl

  made : (es : List (ℕ × List ℕ)) → T (is_sorted nat_cmp es)
      → ((key : ℕ) (bytes : List ℕ) → find nat_cmp key es ≡ Some bytes → (value : V) × Q key bytes value)
      → (values : finite.FinMap nat_cmp V) × ((key : ℕ) → Pair key (find nat_cmp key es) (finite.get values key))
  made [] sorted each = (finite.empty, λ key. subst (λ (found : Option V). Pair key None found) (sym (finite.get-empty nat_cmp key)) tt)
  made (one ∷ es) sorted each =
      let below = front (below_all nat_cmp one.0 es) (is_sorted nat_cmp es) sorted in
      let own = each one.0 one.1 (ap (λ b. cond b (Some one.1) (find nat_cmp one.0 es)) (self one.0)) in
      let rest = made es (back (below_all nat_cmp one.0 es) (is_sorted nat_cmp es) sorted)
      (λ key bytes found. each key bytes (found_on key bytes one es below found)) in (
        finite.insert rest.0 one.0 own.0,
        λ key. subst (λ (found : Option V). Pair key (find nat_cmp key (one ∷ es)) found)
            (sym (finite.get-insert nat_cmp_total rest.0 one.0 own.0 key))
            (either key one es own.0 (finite.get rest.0 key) own.1 (rest.1 key)),
      )

  -- where the bytes of each key are those of a value there is a map of all of them
  pub values_exist : (kept : BucketMap) → ((key : ℕ) (bytes : List ℕ) → finite.get kept key ≡ Some bytes → (value : V) × Q key bytes value)
      → (values : finite.FinMap nat_cmp V) × ((key : ℕ) → Pair key (finite.get kept key) (finite.get values key))
  values_exist kept each =
      let all = made (finite.entries kept) (finite.entries_sorted kept)
      (λ key bytes found. each key bytes (finite.get-entries kept key ∙ found)) in (
        all.0,
        λ key. subst (λ (found : Option (List ℕ)). Pair key found (finite.get all.0 key)) (sym (finite.get-entries kept key))
            (all.1 key),
      )
