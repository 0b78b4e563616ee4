-- Values put where their tickets say, from the last one back.
use Rattle.std.proofs.Common.{◌≡◌, ℕ, suc, ◌+◌, ◌<◌, List, [], ◌∷◌, ◌++◌, false, eqb, get_or, length, length-append, length-set, map, set}
use Rattle.std.proofs.Common.{take, refl, ap, sym, ◌∙◌, append_assoc, ne_eqb, arith}
use native.Mathlib.Decide.{ℕ_discrete}
use Rattle.std.specs.List.{range_with_len}
use Rattle.std.proofs.lemmas.Bool.{lt-ltb}
use Rattle.std.proofs.lemmas.List.{append-nil, get_or-map, get_or-set_same, get_or-set_other, take_all}
use Rattle.std.proofs.lemmas.List.FromFn.{fill_by_all}
use Rattle.std.proofs.lemmas.List.Sums.{count_by_more_no}
use Rattle.pending_book.specs.Once.{IsOnce, once_below, times}
use Rattle.pending_book.proofs.Counts.{all_below}

module _ {A : Type 0} (d : A) (count : ℕ) (tickets : List ℕ) (values : List A) where
  -- where these are left: each place whose ticket is not among those left has its value
  pub record Placed (left all : List A) : Type 0 where
    pub whole : length all ≡ count
    pub front : (more : List A) × (values ≡ left ++ more)
    pub placed : (of : ℕ → A) → values ≡ map of tickets → (k : ℕ) → k < count → times k (take (length left) tickets) ≡ 0
        → get_or all k d ≡ of k

  pub starts : (all : List A) → length all ≡ count → IsOnce tickets count → length values ≡ length tickets → Placed values all
  starts all whole once same = record {
    whole = whole;
    front = ([], sym (append-nil values));
    placed = λ of e k less none.
        (let here = once k in
        let one : once_below k count ≡ suc 0 = rw (lt-ltb k count less) refl in
        let every : take (length values) tickets ≡ tickets = take_all (length values) tickets (omega arith) in
        let t = ap (times k) every in
        absurd (omega arith));
  }

  -- the value right behind a front
  at_seam : (rest : List A) (value : A) (more : List A) → get_or (rest ++ (value ∷ more)) (length rest) d ≡ value
  at_seam [] value more = refl
  at_seam (x ∷ xs) value more = at_seam xs value more

  place_by : (rest all : List A) (value : A) → Placed (rest ++ value ∷ []) all → (of : ℕ → A) → values ≡ map of tickets → (k : ℕ)
      → k < count
      → times k (take (length rest) tickets) ≡ 0 → length rest < length tickets → get_or tickets (length rest) 0 < length all
      → value ≡ of (get_or tickets (length rest) 0) → Dec (k ≡ get_or tickets (length rest) 0)
      → get_or (set all (get_or tickets (length rest) 0) value) k d ≡ of k
  place_by rest all value before of e k less none short within is (yes same) =
      rw same (get_or-set_same all (get_or tickets (length rest) 0) value d within ∙ is)
  place_by rest all value before of e k less none short within is (no apart) =
      let ticket = get_or tickets (length rest) 0 in
      let longer : length (rest ++ value ∷ []) ≡ length rest + 1 = omega (arith, length-append rest (value ∷ [])) in
      let other : eqb ticket k ≡ false = ne_eqb ticket k (λ p. apart (sym p)) in
      let still : times k (take (length (rest ++ value ∷ [])) tickets) ≡ 0 =
      rw longer (count_by_more_no (λ y. eqb y k) tickets (length rest) 0 short other ∙ none) in
      get_or-set_other all ticket k value d apart ∙ before.placed of e k less still

  -- there is a place for the next value
  pub place_within : (rest all : List A) (value : A) → IsOnce tickets count → length values ≡ length tickets
      → Placed (rest ++ value ∷ []) all
      → get_or tickets (length rest) 0 < length all
  place_within rest all value once same before =
      let lengths = ap length before.front.1 in
      let short : length rest < length tickets =
      omega (arith, length-append (rest ++ value ∷ []) before.front.0, length-append rest (value ∷ [])) in
      let within = all_below tickets count (λ x. let e = once x in omega arith) (length rest) 0 short in
      let size = before.whole in
      omega arith

  pub places : (rest all : List A) (value : A) → IsOnce tickets count → length values ≡ length tickets → Placed (rest ++ value ∷ []) all
      → Placed rest (set all (get_or tickets (length rest) 0) value)
  places rest all value once same before =
      let ticket = get_or tickets (length rest) 0 in
      let more = before.front.0 in
      let joined : values ≡ rest ++ (value ∷ more) = before.front.1 ∙ append_assoc rest (value ∷ []) more in
      let lengths = ap length joined in
      let short : length rest < length tickets = omega (arith, length-append rest (value ∷ more)) in
      record {
        whole = length-set all ticket value ∙ before.whole;
        front = (value ∷ more, joined);
        placed = λ of e k less none.
            (let here : get_or values (length rest) d ≡ value =
            ap (λ (xs : List A). get_or xs (length rest) d) joined ∙ at_seam rest value more in
            let there : get_or values (length rest) d ≡ of ticket =
            ap (λ (xs : List A). get_or xs (length rest) d) e ∙ get_or-map of tickets (length rest) 0 d short in
            place_by rest all value before of e k less none short (place_within rest all value once same before) (sym here ∙ there)
            (ℕ_discrete k ticket));
      }

  -- where none is left
  pub ends : (all : List A) → Placed [] all → (of : ℕ → A) → values ≡ map of tickets → all ≡ map of (range_with_len 0 count)
  ends all placed of e = fill_by_all of all count d placed.whole (λ k less. placed.placed of e k less refl)
