-- The places of nodes as a finite map: what is found, and what a place more, another or one fewer makes of it.
use Rattle.std.proofs.Common.{◌≡◌, ◌<◌, ◌≤◌, ◌-◌, ℕ, zero, suc, Bool, true, false, ◌||◌, cond, List, [], ◌∷◌, ◌++◌, length, set, get_or}
use Rattle.std.proofs.Common.{Option, Some, None, refl, sym, ap, subst, ◌∙◌, arith, nat_eq}
use mathlib.Core.Bool.{false≢true}
use Rattle.std.specs.Cmp.{nat_cmp_total, unsigned_tied}
use Rattle.std.specs.FinMap as finite
use Rattle.std.specs.FinMap.{nat_cmp-IsAntisymmetric}
use Rattle.std.specs.List.{AllByRecursion, slice_get}
use Rattle.std.specs.List.Sorted.{IsStrictlySortedBy}
use Rattle.std.specs.Option.{option_or, unwrap_or}
use Rattle.std.specs.Ordering.{nat_cmp, eq_by_cmp}
use Rattle.std.specs.declared.cmp.Ordering.TheVariants.{Less}
use Rattle.std.proofs.lemmas.Bool.Decides.{nat_tests}
use Rattle.std.proofs.lemmas.Cmp.{nat_eq_equiv}
use Rattle.std.proofs.lemmas.List.{get_or_default, get_or-set_same, length-set}
use Rattle.std.proofs.lemmas.List.Edits.{insert_end}
use Rattle.std.proofs.lemmas.Map.Keys.{non_decreasing_from_sorted}
use Rattle.osm_base.specs.values.Ids.{IsRising, has}
use Rattle.osm_base.specs.values.Place.{PlaceOf}
use Rattle.object_fold.specs.RisingIds.{StandsAt, IsGapAt}
use Rattle.object_fold.proofs.SortedIds.{has_at, insert-rise, not_has_gap}
use Rattle.placed_objects.specs.NodePlaces.{PlaceMap, placed, AreNodePlaces}

-- what is found of an id
abbrev pub found : List ℕ → List (Option PlaceOf) → ℕ → Option PlaceOf
found ids places id = finite.find nat_cmp id (placed ids places)

tied : (id other : ℕ) → eq_by_cmp nat_cmp id other ≡ nat_eq other id
tied id other = unsigned_tied id other ∙ nat_eq_equiv.symm id other

same_id : (id other : ℕ) → nat_eq id other ≡ true → id ≡ other
same_id id other same = grind (arith, nat_tests)

abbrev first_or : Bool → Option PlaceOf → Option PlaceOf → Option PlaceOf
first_or here place rest = cond here (option_or place rest) rest

same_both : {A : Type 0} (b : Bool) (a : A) → a ≡ cond b a a
same_both true a = refl
same_both false a = refl

found-first : (first : ℕ) (ids : List ℕ) (place : Option PlaceOf) (places : List (Option PlaceOf)) (id : ℕ)
    → found (first ∷ ids) (place ∷ places) id ≡ first_or (nat_eq first id) place (found ids places id)
found-first first ids None places id = same_both (nat_eq first id) (found ids places id)
found-first first ids (Some place) places id = ap (λ b. cond b (Some place) (found ids places id)) (tied id first)

-- an id that is not among them has none
pub found-none : (ids : List ℕ) (places : List (Option PlaceOf)) (id : ℕ) → has ids id ≡ false → found ids places id ≡ None
found-none [] places id not = refl
found-none (first ∷ ids) [] id not = refl
found-none (first ∷ ids) (place ∷ places) id not =
    elim (nat_eq first id) as (λ b. nat_eq first id ≡ b → (b || has ids id) ≡ false → found (first ∷ ids) (place ∷ places) id ≡ None) [
      | true ↦ λ _ e. absurd (false≢true (sym e))
      | false ↦ λ differs e. found-first first ids place places id ∙ ap (λ b. first_or b place (found ids places id)) differs
          ∙ found-none ids places id e
    ] refl not

above-not : (first : ℕ) (ids : List ℕ) → AllByRecursion (λ other. nat_cmp first other ≡ Less) ids → has ids first ≡ false
above-not first [] above = refl
above-not first (other ∷ ids) above =
    let less = above.0 in
    let differs : nat_eq other first ≡ false = grind (arith, nat_tests) in
    rw differs (above-not first ids above.1)

rise-not : (first : ℕ) (ids : List ℕ) → IsRising (first ∷ ids) → has ids first ≡ false
unfolding IsStrictlySortedBy
rise-not first ids rise = above-not first ids rise.0

rise-rest : (first : ℕ) (ids : List ℕ) → IsRising (first ∷ ids) → IsRising ids
unfolding IsStrictlySortedBy
rise-rest first ids rise = rise.1

or_nothing : (place : Option PlaceOf) → option_or place None ≡ place
or_nothing None = refl
or_nothing (Some place) = refl

apart_from : (first id : ℕ) (ids : List ℕ) → has ids first ≡ false → has ids id ≡ true → nat_eq first id ≡ false
apart_from first id ids not there =
    elim (nat_eq first id) as (λ b. nat_eq first id ≡ b → b ≡ false) [
      | true ↦ λ same. absurd (false≢true (sym not ∙ ap (has ids) (same_id first id same) ∙ there))
      | false ↦ λ differs. refl
    ] refl

-- an id that stands among them has the place beside it
pub found-at : (ids : List ℕ) (places : List (Option PlaceOf)) (at id : ℕ) → IsRising ids → length places ≡ length ids → StandsAt ids id at
    → found ids places id ≡ get_or places at None
found-at [] places at id rise each stands = absurd (omega (arith, stands.within))
found-at (first ∷ ids) [] at id rise each stands = absurd (omega (arith, each))
found-at (first ∷ ids) (place ∷ places) zero id rise each stands =
    let here : nat_eq first id ≡ true = grind (arith, nat_tests, stands.there) in
    found-first first ids place places id
    ∙ ap (λ b. first_or b place (found ids places id)) here
    ∙ ap (option_or place) (found-none ids places id (ap (has ids) (sym stands.there) ∙ rise-not first ids rise))
    ∙ or_nothing place
found-at (first ∷ ids) (place ∷ places) (suc at) id rise each stands =
    let rest : StandsAt ids id at = record { within = omega (arith, stands.within); there = stands.there } in
    found-first first ids place places id
    ∙ ap (λ b. first_or b place (found ids places id)) (apart_from first id ids (rise-not first ids rise) (has_at ids at id rest))
    ∙ found-at ids places at id (rise-rest first ids rise) (omega (arith, each)) rest

-- another place for one id leaves the others
found-other : (ids : List ℕ) (places : List (Option PlaceOf)) (at id : ℕ) (place : Option PlaceOf) (other : ℕ) → StandsAt ids id at
    → nat_eq id other ≡ false
    → found ids (set places at place) other ≡ found ids places other
found-other [] places at id place other stands differs = absurd (omega (arith, stands.within))
found-other (first ∷ ids) [] at id place other stands differs = refl
found-other (first ∷ ids) (own ∷ places) zero id place other stands differs =
    let apart : nat_eq first other ≡ false = ap (λ n. nat_eq n other) stands.there ∙ differs in
    found-first first ids place places other ∙ ap (λ b. first_or b place (found ids places other)) apart
    ∙ sym (found-first first ids own places other ∙ ap (λ b. first_or b own (found ids places other)) apart)
found-other (first ∷ ids) (own ∷ places) (suc at) id place other stands differs =
    found-first first ids own (set places at place) other
    ∙ ap (first_or (nat_eq first other) own)
    (found-other ids places at id place other (record { within = omega (arith, stands.within); there = stands.there }) differs)
    ∙ sym (found-first first ids own places other)

found-set : (ids : List ℕ) (places : List (Option PlaceOf)) (at id : ℕ) (place : Option PlaceOf) (other : ℕ) → AreNodePlaces ids places
    → StandsAt ids id at
    → found ids (set places at place) other ≡ cond (eq_by_cmp nat_cmp other id) place (found ids places other)
found-set ids places at id place other are stands =
    elim (nat_eq id other) as (λ b. nat_eq id other ≡ b → found ids (set places at place) other ≡ cond b place (found ids places other)) [
      | true ↦ λ same.
          let long = length-set places at place in
          ap (found ids (set places at place)) (sym (same_id id other same))
          ∙ found-at ids (set places at place) at id are.rise (long ∙ are.each) stands
          ∙ get_or-set_same places at place None (omega (arith, stands.within, are.each))
      | false ↦ λ differs. found-other ids places at id place other stands differs
    ] refl
    ∙ ap (λ b. cond b place (found ids places other)) (sym (tied other id))

abbrev pub as_map : List ℕ → List (Option PlaceOf) → PlaceMap
as_map ids places = finite.from_entries (placed ids places)

pub get-as_map : (ids : List ℕ) (places : List (Option PlaceOf)) (id : ℕ) → finite.get (as_map ids places) id ≡ found ids places id
get-as_map ids places id = finite.get-from_entries nat_cmp_total (placed ids places) id

-- another place
pub set-some : (ids : List ℕ) (places : List (Option PlaceOf)) (at id : ℕ) (place : PlaceOf) → AreNodePlaces ids places → StandsAt ids id at
    → as_map ids (set places at (Some place)) ≡ finite.insert (as_map ids places) id place
set-some ids places at id place are stands =
    finite.same_map nat_cmp_total nat_cmp-IsAntisymmetric _ _ (λ other.
    get-as_map ids (set places at (Some place)) other ∙ found-set ids places at id (Some place) other are stands
    ∙ ap (cond (eq_by_cmp nat_cmp other id) (Some place)) (sym (get-as_map ids places other))
    ∙ sym (finite.get-insert nat_cmp_total (as_map ids places) id place other))

-- no place any more
pub set-none : (ids : List ℕ) (places : List (Option PlaceOf)) (at id : ℕ) → AreNodePlaces ids places → StandsAt ids id at
    → as_map ids (set places at None) ≡ finite.remove (as_map ids places) id
set-none ids places at id are stands =
    finite.same_map nat_cmp_total nat_cmp-IsAntisymmetric _ _ (λ other.
    get-as_map ids (set places at None) other ∙ found-set ids places at id None other are stands
    ∙ ap (cond (eq_by_cmp nat_cmp other id) None) (sym (get-as_map ids places other))
    ∙ sym (finite.get-remove nat_cmp_total (as_map ids places) id other))

-- an id that is not among them is not taken out
pub remove-none : (ids : List ℕ) (places : List (Option PlaceOf)) (id : ℕ) → has ids id ≡ false
    → as_map ids places ≡ finite.remove (as_map ids places) id
remove-none ids places id not =
    finite.same_map nat_cmp_total nat_cmp-IsAntisymmetric _ _ (λ other.
    elim (nat_eq id other) as (λ b. nat_eq id other ≡ b
    → finite.get (as_map ids places) other ≡ cond b None (finite.get (as_map ids places) other)) [
      | true ↦ λ same. ap (finite.get (as_map ids places)) (sym (same_id id other same)) ∙ get-as_map ids places id
          ∙ found-none ids places id not
      | false ↦ λ differs. refl
    ] refl
    ∙ ap (λ b. cond b None (finite.get (as_map ids places) other)) (sym (tied other id))
    ∙ sym (finite.get-remove nat_cmp_total (as_map ids places) id other))

placed-pushed : (ids : List ℕ) (places : List (Option PlaceOf)) (id : ℕ) (place : PlaceOf) → length places ≡ length ids
    → placed (ids ++ id ∷ []) (places ++ Some place ∷ []) ≡ placed ids places ++ (id, place) ∷ []
placed-pushed [] [] id place each = refl
placed-pushed [] (own ∷ places) id place each = absurd (omega (arith, each))
placed-pushed (first ∷ ids) [] id place each = absurd (omega (arith, each))
placed-pushed (first ∷ ids) (None ∷ places) id place each = placed-pushed ids places id place (omega (arith, each))
placed-pushed (first ∷ ids) (Some own ∷ places) id place each =
    ap (λ rest. (first, own) ∷ rest) (placed-pushed ids places id place (omega (arith, each)))

-- a place at the end
pub pushed : (ids : List ℕ) (places : List (Option PlaceOf)) (id : ℕ) (place : PlaceOf) → AreNodePlaces ids places → has ids id ≡ false
    → as_map (ids ++ id ∷ []) (places ++ Some place ∷ []) ≡ finite.insert (as_map ids places) id place
pushed ids places id place are not =
    ap (λ entries. finite.from_entries {R = nat_cmp} entries) (placed-pushed ids places id place are.each)
    ∙ finite.from_entries_push nat_cmp_total nat_cmp-IsAntisymmetric (placed ids places) id place (found-none ids places id not)

-- what stands beside an id
pub get-at : (ids : List ℕ) (places : List (Option PlaceOf)) (at id : ℕ) (place : Option PlaceOf) → AreNodePlaces ids places
    → StandsAt ids id at → place ≡ get_or places at place
    → place ≡ finite.get (as_map ids places) id
get-at ids places at id place are stands is =
    is ∙ get_or_default places at place None (omega (arith, stands.within, are.each))
    ∙ sym (found-at ids places at id are.rise are.each stands) ∙ sym (get-as_map ids places id)

get_or-got : (ids : List ℕ) (at id : ℕ) → slice_get ids at ≡ Some id → get_or ids at 0 ≡ id
get_or-got [] at id is = absurd (cc)
get_or-got (first ∷ ids) zero id is = ap (λ own. unwrap_or own 0) is
get_or-got (first ∷ ids) (suc at) id is = get_or-got ids at id is

-- an id above the last stands in the gap behind all
behind-gap : (ids : List ℕ) (id last : ℕ) → IsRising ids → slice_get ids (length ids - 1) ≡ Some last → last < id
    → IsGapAt ids id (length ids)
behind-gap ids id last rise is less =
    let there = get_or-got ids (length ids - 1) last is in
    record {
      within = omega arith;
      less = λ place before.
          let order = non_decreasing_from_sorted ids rise place (length ids - 1) 0 (omega (arith, before)) (omega (arith, before)) in
          omega (arith, order, there, less);
      greater = λ place from within. absurd (omega (arith, from, within));
    }

pub behind-none : (ids : List ℕ) (id last : ℕ) → IsRising ids → Some last ≡ slice_get ids (length ids - 1) → last < id → has ids id ≡ false
behind-none ids id last rise is less = not_has_gap ids (length ids) id (behind-gap ids id last rise (sym is) less)

pub behind-rise : (ids : List ℕ) (id last : ℕ) → IsRising ids → Some last ≡ slice_get ids (length ids - 1) → last < id
    → IsRising (ids ++ id ∷ [])
behind-rise ids id last rise is less = subst IsRising (insert_end ids id)
    (insert-rise ids id (length ids) rise (behind-gap ids id last rise (sym is) less))

pub alone-rise : (ids : List ℕ) (id : ℕ) → length ids ≤ 0 → IsRising (ids ++ id ∷ [])
unfolding IsStrictlySortedBy
alone-rise [] id none = (tt, tt)
alone-rise (first ∷ ids) id none = absurd (omega (arith, none))
