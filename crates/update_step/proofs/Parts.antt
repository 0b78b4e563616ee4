-- What holds of all in lists, part by part.
use Rattle.std.proofs.Common.{◌≡◌, ◌<◌, ℕ, zero, suc, Bool, true, false, ◌||◌, List, [], ◌∷◌, ◌++◌, get_or, length, map, ap, subst, sym}
use Rattle.std.proofs.Common.{refl, ◌∙◌, arith}
use Rattle.std.specs.List.{AllByRecursion, flat_map, list_any}
use Rattle.std.specs.Prelude.{nat_eq}
use Rattle.osm_base.specs.values.Ids.{has}
use Rattle.store_maps.proofs.IdLists.{or-true, tied_self}

pub or-left : (a b : Bool) → a ≡ true → (a || b) ≡ true
or-left a b is = ap (λ c. c || b) is

pub or-right : (a b : Bool) → b ≡ true → (a || b) ≡ true
or-right a b is = ap (λ c. a || c) is ∙ or-true a

-- what one test passes another one does
pub any-then : {X : Type 0} (one other : X → Bool) (xs : List X) → ((x : X) → one x ≡ true → other x ≡ true) → list_any one xs ≡ true
    → list_any other xs ≡ true
any-then one other [] then is = is
any-then one other (x ∷ xs) then is = elim (one x) as
    (λ b. one x ≡ b → (b || list_any one xs) ≡ true → (other x || list_any other xs) ≡ true) [
      | true ↦ λ passes _. or-left (other x) (list_any other xs) (then x passes)
      | false ↦ λ _ later. or-right (other x) (list_any other xs) (any-then one other xs then later)
    ] refl is

module _ {X : Type 0} (P : X → Type 0) where
  pub all-append : (xs ys : List X) → AllByRecursion P xs → AllByRecursion P ys → AllByRecursion P (xs ++ ys)
  all-append [] ys one other = other
  all-append (x ∷ xs) ys one other = (one.0, all-append xs ys one.1 other)

  pub all-front : (xs ys : List X) → AllByRecursion P (xs ++ ys) → AllByRecursion P xs
  all-front [] ys all = tt
  all-front (x ∷ xs) ys all = (all.0, all-front xs ys all.1)

  pub all-back : (xs ys : List X) → AllByRecursion P (xs ++ ys) → AllByRecursion P ys
  all-back [] ys all = all
  all-back (x ∷ xs) ys all = all-back xs ys all.1

  module _ {Y : Type 0} where
    pub all-flat : (of : Y → List X) (ys : List Y) → AllByRecursion (λ y. AllByRecursion P (of y)) ys → AllByRecursion P (flat_map of ys)
    all-flat of [] each = tt
    all-flat of (y ∷ ys) each = all-append (of y) (flat_map of ys) each.0 (all-flat of ys each.1)

    -- those of the one that stands there
    pub flat-at : (of : Y → List X) (ys : List Y) (at : ℕ) (y default : Y) → AllByRecursion P (flat_map of ys) → at < length ys
        → y ≡ get_or ys at default → AllByRecursion P (of y)
    flat-at of [] at y default all below is = absurd (omega (arith, below))
    flat-at of (first ∷ ys) zero y default all below is =
        subst (λ own. AllByRecursion P (of own)) (sym is) (all-front (of first) (flat_map of ys) all)
    flat-at of (first ∷ ys) (suc at) y default all below is =
        flat-at of ys at y default (all-back (of first) (flat_map of ys) all) (omega (arith, below)) is

    pub map-at : (of : Y → X) (ys : List Y) (at : ℕ) (y default : Y) → AllByRecursion P (map of ys) → at < length ys
        → y ≡ get_or ys at default → P (of y)
    map-at of [] at y default all below is = absurd (omega (arith, below))
    map-at of (first ∷ ys) zero y default all below is = subst (λ own. P (of own)) (sym is) all.0
    map-at of (first ∷ ys) (suc at) y default all below is = map-at of ys at y default all.1 (omega (arith, below)) is

  -- of all that ids make, where it holds of what each of them makes
  pub all-map : (of : ℕ → X) (ids : List ℕ) → ((id : ℕ) → has ids id ≡ true → P (of id)) → AllByRecursion P (map of ids)
  all-map of [] each = tt
  all-map of (id ∷ ids) each = (
    each id (or-left (nat_eq id id) (has ids id) (tied_self id)),
    all-map of ids (λ other there. each other (or-right (nat_eq id other) (has ids other) there)),
  )

pub all-ids : (P : ℕ → Type 0) (ids : List ℕ) → ((id : ℕ) → has ids id ≡ true → P id) → AllByRecursion P ids
all-ids P [] each = tt
all-ids P (id ∷ ids) each = (
  each id (or-left (nat_eq id id) (has ids id) (tied_self id)),
  all-ids P ids (λ other there. each other (or-right (nat_eq id other) (has ids other) there)),
)

pub all-then : {X : Type 0} (P Q : X → Type 0) (xs : List X) → ((x : X) → P x → Q x) → AllByRecursion P xs → AllByRecursion Q xs
all-then P Q [] then all = tt
all-then P Q (x ∷ xs) then all = (then x all.0, all-then P Q xs then all.1)

pub all-both : {X : Type 0} (P Q R : X → Type 0) (xs : List X) → ((x : X) → P x → Q x → R x) → AllByRecursion P xs → AllByRecursion Q xs
    → AllByRecursion R xs
all-both P Q R [] then one other = tt
all-both P Q R (x ∷ xs) then one other = (then x one.0 other.0, all-both P Q R xs then one.1 other.1)
