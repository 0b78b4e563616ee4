-- Two neighbours on a line, as they are read.
use Rattle.std.proofs.Common.{◌≡◌, ◌≢◌, ℕ, ◌+◌, ◌-◌, ◌<◌, ◌≤◌, true, false, Some, length, get_or, refl, sym, ◌∙◌, ap, subst, arith, ⊎_elim}
use Rattle.std.specs.Prelude.{slice_get, unwrap_or}
use Rattle.std.proofs.lemmas.Bool.{cases_eq}
use Rattle.std.proofs.lemmas.Option.{slice_get_read}
use Rattle.osm_base.specs.values.Place.{PlaceOf}
use Rattle.piece_ends.specs.Pieces.{Line, same_place}
use Rattle.piece_ends.proofs.SamePlace.{one_place, same_place-itself}

module _ (line : Line) (index : ℕ) (before place : PlaceOf) (some : 1 ≤ index) (below : index < length line)
    (first : before ≡ get_or line (index - 1) before) (second : place ≡ get_or line index place) where
  one : slice_get line (index - 1) ≡ Some before
  one = let bound : index - 1 < length line = omega arith in slice_get_read line (length line) (index - 1) before refl bound first

  two : slice_get line (index - 1 + 1) ≡ Some place
  two =
      let next : index - 1 + 1 ≡ index = omega arith in
      ap (slice_get line) next ∙ slice_get_read line (length line) index place refl below second

  pub equal_neighbours : same_place before place ≡ true → slice_get line (index - 1) ≡ slice_get line (index - 1 + 1)
  equal_neighbours e = one ∙ ap Some (one_place before place e) ∙ sym two

  -- the points up to here differ from those before them
  pub more_differ : same_place before place ≡ false
      → ((earlier : ℕ) → earlier + 1 < index → slice_get line earlier ≢ slice_get line (earlier + 1))
      → (earlier : ℕ) → earlier + 1 < index + 1 → slice_get line earlier ≢ slice_get line (earlier + 1)
  more_differ apart kept earlier less same = ⊎_elim
      (λ (e : earlier ≡ index - 1).
      let here = subst (λ n. slice_get line n ≡ slice_get line (n + 1)) e same in
      let alike : before ≡ place = ap (λ found. unwrap_or found before) (sym one ∙ here ∙ two) in
      let h : same_place before place ≡ true = ap (same_place before) (sym alike) ∙ same_place-itself before in
      absurd (cc))
      (λ (e : earlier ≢ index - 1). kept earlier (omega arith) same)
      (cases_eq earlier (index - 1))
