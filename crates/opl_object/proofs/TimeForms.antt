-- A time has its form just when its first sixteen bytes and its last sixteen are each within what the form leaves there.
use Rattle.std.proofs.Common.{◌≡◌, ℕ, ◌+◌, ◌≤◌, suc, zero, Bool, true, false, ◌&&◌, if◌then◌else◌, List, [], ◌∷◌, length, take, drop}
use Rattle.std.proofs.Common.{refl, sym, ap, ap₂, ◌∙◌, arith, inl, inr, cond, eqb, leb}
use Rattle.std.proofs.lemmas.Bool.{and_from, and_parts, eq-eqb, eqb-true, leb-true, le-leb, cases_Bool}
use Rattle.std.specs.Char.{is_ascii_digit}
use Rattle.std.specs.List.{list_all, zip}
use Rattle.opl_object.specs.declared.number.TheConstants.{TIME_FORM, FRONT_FORM, FRONT_ROOM, BACK_FORM, BACK_ROOM}
use Rattle.opl_object.specs.Number.{is_formed}
use Rattle.opl_object.specs.Runs.{is_within}
use Rattle.opl_object.proofs.WithinLanes.{same_bool}

-- nine bytes behind a zero, and none behind another byte
abbrev leaves : ℕ × ℕ → Bool
leaves (form, room) = if is_ascii_digit form then (eqb form 48 && eqb room 9) else eqb room 0

own_byte : (form byte : ℕ) → (leb form byte && leb byte (form + 0)) ≡ eqb byte form
own_byte form byte = same_bool _ _
    (λ e. let parts = and_parts (leb form byte) (leb byte (form + 0)) e in
    let low = leb-true form byte parts.0 in let high = leb-true byte (form + 0) parts.1 in
    eq-eqb byte form (omega (arith, low, high)))
    (λ e. let same = eqb-true byte form e in
    and_from _ _ (le-leb form byte (omega (arith, same))) (le-leb byte (form + 0) (omega (arith, same))))

byte_formed : (form room byte : ℕ) → leaves (form, room) ≡ true → is_within (byte, (form, room)) ≡ is_formed (form, byte)
byte_formed form room byte left = elim (cases_Bool (is_ascii_digit form)) [
  | inl digit ↦ (let both : (eqb form 48 && eqb room 9) ≡ true = rw digit at left in
      let parts = and_parts _ _ both in
      let zero_form : form ≡ 48 = eqb-true form 48 parts.0 in
      let nine : room ≡ 9 = eqb-true room 9 parts.1 in
      ap₂ (λ f r. is_within (byte, (f, r))) zero_form nine ∙ ap (λ f. is_formed (f, byte)) (sym zero_form))
  | inr other ↦ (let none : eqb room 0 ≡ true = rw other at left in
      let nought : room ≡ 0 = eqb-true room 0 none in
      ap (λ r. is_within (byte, (form, r))) nought ∙ own_byte form byte
      ∙ ap (λ (b : Bool). cond b (is_ascii_digit byte) (eqb byte form)) (sym other))
]

all_bytes_formed : (form room bytes : List ℕ) → length form ≤ length room → list_all leaves (zip form room) ≡ true
    → list_all is_within (zip bytes (zip form room)) ≡ list_all is_formed (zip form bytes)
all_bytes_formed [] room [] long left = refl
all_bytes_formed [] room (b ∷ bytes) long left = refl
all_bytes_formed (f ∷ form) [] bytes long left = absurd (omega (arith, long))
all_bytes_formed (f ∷ form) (r ∷ room) [] long left = refl
all_bytes_formed (f ∷ form) (r ∷ room) (b ∷ bytes) long left =
    let parts = and_parts _ _ left in
    ap₂ (λ p q. p && q) (byte_formed f r b parts.0) (all_bytes_formed form room bytes (omega (arith, long)) parts.1)

twice : (p one other : Bool) → (one && other) ≡ other → ((p && one) && (p && other)) ≡ (p && other)
twice true one other e = e
twice false one other e = refl

-- what is tested at the front again tells nothing more
front_again : (n : ℕ) (form bytes : List ℕ)
    → (list_all is_formed (zip (take n form) (take n bytes)) && list_all is_formed (zip form bytes)) ≡ list_all is_formed (zip form bytes)
front_again zero form bytes = refl
front_again (suc n) [] bytes = refl
front_again (suc n) (f ∷ form) [] = refl
front_again (suc n) (f ∷ form) (b ∷ bytes) = twice (is_formed (f, b)) _ _ (front_again n form bytes)

joined : (a b c d one other : Bool) → (one && other) ≡ other
    → ((a && (b && (c && (d && one)))) && other) ≡ (a && (b && (c && (d && other))))
joined false b c d one other e = refl
joined true false c d one other e = refl
joined true true false d one other e = refl
joined true true true false one other e = refl
joined true true true true one other e = e

pub formed_by_parts : (text : List ℕ) → length text ≡ 20
    → (list_all is_within (zip (take 16 text) (zip FRONT_FORM FRONT_ROOM))
    && list_all is_within (zip (drop 4 text) (zip BACK_FORM BACK_ROOM)))
    ≡ list_all is_formed (zip TIME_FORM text)
formed_by_parts [] long = absurd (omega (arith, long))
formed_by_parts (a ∷ []) long = absurd (omega (arith, long))
formed_by_parts (a ∷ b ∷ []) long = absurd (omega (arith, long))
formed_by_parts (a ∷ b ∷ c ∷ []) long = absurd (omega (arith, long))
formed_by_parts (a ∷ b ∷ c ∷ d ∷ rest) long =
    ap₂ (λ p q. p && q) (all_bytes_formed FRONT_FORM FRONT_ROOM (a ∷ b ∷ c ∷ d ∷ take 12 rest) (omega arith) refl)
    (all_bytes_formed BACK_FORM BACK_ROOM rest (omega arith) refl)
    ∙ joined (is_formed (48, a)) (is_formed (48, b)) (is_formed (48, c)) (is_formed (48, d)) _ _ (front_again 12 BACK_FORM rest)
