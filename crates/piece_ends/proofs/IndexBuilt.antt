-- The heads and the links with one more piece, before those that have been taken in.
use Rattle.std.proofs.Common.{◌≡◌, ◌≢◌, ℕ, ◌+◌, ◌<◌, Bool, true, false, cond, List, length, get_or, set, refl, sym, ◌∙◌, ap, subst, arith}
use Rattle.std.proofs.Common.{get_or-set_same, get_or-set_other, ◌⊎◌, inl, inr, ⊎_elim}
use Rattle.std.specs.Prelude.{◌&&◌, ◌||◌, not, unwrap_or}
use Rattle.std.specs.FinMap as map
use Rattle.std.proofs.lemmas.Bool.{cases_eq}
use Rattle.osm_base.specs.values.Place.{PlaceOf}
use Rattle.piece_ends.specs.declared.index.Links.{Links}
use Rattle.piece_ends.specs.Heads.{HeadMap, place_cmp}
use Rattle.piece_ends.specs.Pieces.{Line, same_place, first_place, last_place, is_closed, has_end}
use Rattle.piece_ends.specs.Index.{piece_at, IsAt, IsNext, AreLinks, AreHeadsFrom, next_of, head_of}
use Rattle.piece_ends.proofs.SamePlace.{one_place, same_place-itself, same_place-false, head_of-insert}

-- a place where a piece does not end has the same next piece without it
pub next_past : (pieces : List Line) (place : PlaceOf) (number next : ℕ) → (IsAt pieces place number → ⊥)
    → IsNext pieces place (number + 1) next → IsNext pieces place number next
next_past pieces place number next off own = record {
  above = omega (arith, own.above);
  at_place = own.at_place;
  lowest = λ other bound here.
      let apart : other ≢ number = λ e. off (subst (IsAt pieces place) e here) in
      own.lowest other (omega arith) here;
}

module _ (pieces : List Line) (heads : HeadMap) (links : List Links) (number : ℕ) (later : AreHeadsFrom pieces heads (number + 1))
    (linked : AreLinks pieces links (number + 1)) where
  -- a closed piece is at no place
  module _ (closed : is_closed (piece_at pieces number) ≡ true) where
    off : (place : PlaceOf) → IsAt pieces place number → ⊥
    off place here = elim (is_closed (piece_at pieces number)) as
        (λ b. b ≡ true → (not b && has_end (piece_at pieces number) place) ≡ true → ⊥) [ true ↦ λ _ e. (cc) | false ↦ λ e _. (cc) ] closed
        here.fit

    pub AreHeadsFrom-closed : AreHeadsFrom pieces heads number
    AreHeadsFrom-closed place = next_past pieces place number _ (off place) (later place)

    pub AreLinks-closed : AreLinks pieces links number
    AreLinks-closed place other bound here =
        let apart : other ≢ number = λ e. off place (subst (IsAt pieces place) e here) in
        linked place other (omega arith) here

-- no piece is taken in yet
pub AreHeadsFrom-none : (pieces : List Line) → AreHeadsFrom pieces map.empty (length pieces)
AreHeadsFrom-none pieces place =
    let none : head_of pieces map.empty place ≡ length pieces =
    ap (λ found. unwrap_or found (length pieces)) (map.get-empty place_cmp place) in
    record {
      above = omega arith;
      at_place = λ below. absurd (omega (arith, none));
      lowest = λ other bound here. omega arith;
    }

pub AreLinks-none : (pieces : List Line) (links : List Links) → AreLinks pieces links (length pieces)
AreLinks-none pieces links place number bound here = absurd (omega (arith, here.below))

-- an open piece ends at its two ends and nowhere else
two_ends : (first last place : PlaceOf) → (not (same_place first last) && (same_place first place || same_place last place)) ≡ true
    → (same_place first place ≡ true) ⊎ (same_place last place ≡ true)
two_ends first last place e =
    elim (same_place first last) as (λ b. (not b && (same_place first place || same_place last place)) ≡ true
    → (same_place first place ≡ true) ⊎ (same_place last place ≡ true)) [
      | true ↦ λ h. absurd (cc)
      | false ↦ elim (same_place first place) as (λ b. (b || same_place last place) ≡ true → (b ≡ true) ⊎ (same_place last place ≡ true)) [
        | true ↦ λ h. inl refl
        | false ↦ λ h. inr h
      ]
    ] e

pub either : (b : Bool) → (b ≡ true) ⊎ (b ≡ false)
either true = inl refl
either false = inr refl

-- an open piece stands before the pieces at its two ends
module _ (pieces : List Line) (heads : HeadMap) (links : List Links) (number : ℕ) (later : AreHeadsFrom pieces heads (number + 1))
    (linked : AreLinks pieces links (number + 1))
    (below : number < length pieces) (rows : length links ≡ length pieces) (first last : PlaceOf)
    (is_first : first ≡ first_place (piece_at pieces number)) (is_last : last ≡ last_place (piece_at pieces number))
    (apart : same_place first last ≡ false) where
  abbrev with_first : HeadMap
  with_first = map.insert heads first number

  abbrev with_both : HeadMap
  with_both = map.insert with_first last number

  last_apart : same_place last first ≡ false
  last_apart = same_place-false last first (λ e. let h : same_place first last ≡ true = rw e (same_place-itself first) in cc)

  ends_at : (place : PlaceOf) → IsAt pieces place number → (same_place first place ≡ true) ⊎ (same_place last place ≡ true)
  ends_at place here = two_ends first last place (rw (is_first, is_last) here.fit)

  at_first : IsAt pieces first number
  at_first = record {
    below = below;
    fit = rw (← is_first, ← is_last, apart, same_place-itself first) refl;
  }

  at_last : IsAt pieces last number
  at_last = record {
    below = below;
    fit = rw (← is_first, ← is_last, apart, same_place-itself last) refl;
  }

  -- where the new piece ends it is the head
  is_head : (place : PlaceOf) → IsAt pieces place number → IsNext pieces place number number
  is_head place here = record { above = omega arith; at_place = λ _. here; lowest = λ other bound _. bound }

  pub AreHeadsFrom-open : AreHeadsFrom pieces with_both number
  AreHeadsFrom-open place =
      ⊎_elim (λ e.
      let same = one_place place last e in
      let head : head_of pieces with_both place ≡ number =
      head_of-insert pieces with_first last number place ∙ ap (λ b. cond b number (head_of pieces with_first place)) e in
      subst (IsNext pieces place number) (sym head) (is_head place (subst (λ q. IsAt pieces q number) (sym same) at_last)))
      (λ e. let past : head_of pieces with_both place ≡ head_of pieces with_first place =
      head_of-insert pieces with_first last number place ∙ ap (λ b. cond b number (head_of pieces with_first place)) e in
      ⊎_elim (λ f.
      let same = one_place place first f in
      let head : head_of pieces with_first place ≡ number =
      head_of-insert pieces heads first number place ∙ ap (λ b. cond b number (head_of pieces heads place)) f in
      subst (IsNext pieces place number) (sym (past ∙ head)) (is_head place (subst (λ q. IsAt pieces q number) (sym same) at_first)))
      (λ f.
      let head : head_of pieces with_first place ≡ head_of pieces heads place =
      head_of-insert pieces heads first number place ∙ ap (λ b. cond b number (head_of pieces heads place)) f in
      let off : IsAt pieces place number → ⊥ = λ here. ⊎_elim
      (λ t. let h : same_place place first ≡ true = rw (one_place first place t) (same_place-itself place) in cc)
      (λ t. let h : same_place place last ≡ true = rw (one_place last place t) (same_place-itself place) in cc)
      (ends_at place here) in
      subst (IsNext pieces place number) (sym (past ∙ head)) (next_past pieces place number _ off (later place)))
      (either (same_place place first)))
      (either (same_place place last))

  module _ (row : Links) (to_first : row.first ≡ head_of pieces heads first) (to_last : row.last ≡ head_of pieces with_first last) where
    abbrev new_links : List Links
    new_links = set links number row

    abbrev no_links : Links
    no_links = record { first = 0; last = 0 }

    here_links : get_or new_links number no_links ≡ row
    here_links = let bound : number < length links = omega arith in get_or-set_same links number row no_links bound

    -- the links of the new piece
    own : (place : PlaceOf) → IsAt pieces place number → next_of pieces new_links place number ≡ head_of pieces heads place
    own place here =
        ap (λ found. cond (same_place (first_place (piece_at pieces number)) place) found.first found.last) here_links
        ∙ ap (λ q. cond (same_place q place) row.first row.last) (sym is_first)
        ∙ ⊎_elim
        (λ t. ap (λ b. cond b row.first row.last) t ∙ to_first ∙ ap (head_of pieces heads) (one_place first place t))
        (λ f. ap (λ b. cond b row.first row.last) f ∙ to_last ∙ head_of-insert pieces heads first number last
        ∙ ap (λ b. cond b number (head_of pieces heads last)) last_apart
        ∙ ap (head_of pieces heads) (⊎_elim (λ t. absurd (cc)) (λ t. one_place last place t) (ends_at place here)))
        (either (same_place first place))

    pub AreLinks-open : AreLinks pieces new_links number
    AreLinks-open place other bound here =
        ⊎_elim
        (λ (e : other ≡ number). subst (λ n. IsNext pieces place (n + 1) (next_of pieces new_links place n)) (sym e)
        (subst (IsNext pieces place (number + 1)) (sym (own place (subst (IsAt pieces place) e here))) (later place)))
        (λ (e : other ≢ number).
        let kept : next_of pieces new_links place other ≡ next_of pieces links place other =
        ap (λ found. cond (same_place (first_place (piece_at pieces other)) place) found.first found.last)
        (get_or-set_other links number other row no_links e) in
        subst (IsNext pieces place (other + 1)) (sym kept) (linked place other (omega arith) here))
        (cases_eq other number)
