-- The flags of the letters.
use Rattle.std.proofs.Common.{◌≡◌, ℕ, ◌<◌, Bool, true, false, cond, eqb, eq-eqb, List, [], ◌∷◌, length, get_or, set, refl, ◌∙◌, ap, sym, arith, inl, inr}
use Rattle.std.specs.List.{position_or_len}
use Rattle.std.proofs.lemmas.Bool.{cases_Bool, eqb-true, eqb-false, ne_eqb}
use Rattle.std.proofs.lemmas.List.{get_or-set_same, get_or-set_other}
use Rattle.opl_object.specs.declared.letter.Letter.{Letter}
use Rattle.opl_object.specs.declared.letter.Letter.TheVariants.{Version, Visible, Changeset, Time, UserId, User, Tags, Lon, Lat, Nodes}
use Rattle.opl_object.specs.declared.letter.Letter.TheVariants.{Members}
use Rattle.opl_object.specs.Letter.{byte_of}
use Rattle.opl_object.specs.Seen.{flag_of}

pub byte_of_small : (letter : Letter) → byte_of letter < 128
byte_of_small letter = elim letter as (λ l. byte_of l < 128) [
  | Version ↦ omega arith
  | Visible ↦ omega arith
  | Changeset ↦ omega arith
  | Time ↦ omega arith
  | UserId ↦ omega arith
  | User ↦ omega arith
  | Tags ↦ omega arith
  | Lon ↦ omega arith
  | Lat ↦ omega arith
  | Nodes ↦ omega arith
  | Members ↦ omega arith
]

pub flag_of_small : (letter : Letter) → flag_of letter < 16
flag_of_small letter = elim letter as (λ l. flag_of l < 16) [
  | Version ↦ omega arith
  | Visible ↦ omega arith
  | Changeset ↦ omega arith
  | Time ↦ omega arith
  | UserId ↦ omega arith
  | User ↦ omega arith
  | Tags ↦ omega arith
  | Lon ↦ omega arith
  | Lat ↦ omega arith
  | Nodes ↦ omega arith
  | Members ↦ omega arith
]

-- the letters in the order of their flags
abbrev letters : List ℕ
letters = 118 ∷ 100 ∷ 99 ∷ 116 ∷ 105 ∷ 117 ∷ 84 ∷ 120 ∷ 121 ∷ 78 ∷ 77 ∷ []

byte_at : (letter : Letter) → get_or letters (flag_of letter) 0 ≡ byte_of letter
byte_at letter = elim letter as (λ l. get_or letters (flag_of l) 0 ≡ byte_of l) [
  | Version ↦ refl
  | Visible ↦ refl
  | Changeset ↦ refl
  | Time ↦ refl
  | UserId ↦ refl
  | User ↦ refl
  | Tags ↦ refl
  | Lon ↦ refl
  | Lat ↦ refl
  | Nodes ↦ refl
  | Members ↦ refl
]

flag_at : (letter : Letter) → position_or_len (eqb (byte_of letter)) letters ≡ flag_of letter
flag_at letter = elim letter as (λ l. position_or_len (eqb (byte_of l)) letters ≡ flag_of l) [
  | Version ↦ refl
  | Visible ↦ refl
  | Changeset ↦ refl
  | Time ↦ refl
  | UserId ↦ refl
  | User ↦ refl
  | Tags ↦ refl
  | Lon ↦ refl
  | Lat ↦ refl
  | Nodes ↦ refl
  | Members ↦ refl
]

-- each letter has a flag of its own
pub same_flag : (one other : Letter) → eqb (flag_of one) (flag_of other) ≡ eqb (byte_of one) (byte_of other)
same_flag one other = elim (cases_Bool (eqb (byte_of one) (byte_of other))) [
  | inl same ↦
      let e : byte_of one ≡ byte_of other = eqb-true (byte_of one) (byte_of other) same in
      eq-eqb (flag_of one) (flag_of other)
      (sym (flag_at one) ∙ ap (λ byte. position_or_len (eqb byte) letters) e ∙ flag_at other) ∙ sym same
  | inr apart ↦ ne_eqb (flag_of one) (flag_of other) (λ e.
      eqb-false (byte_of one) (byte_of other) apart (sym (byte_at one) ∙ ap (λ place. get_or letters place 0) e ∙ byte_at other)) ∙ sym apart
]

-- the flag at another place stays
pub stands_after : (flags : List Bool) (place other : ℕ) → place < length flags
    → get_or (set flags place true) other false ≡ cond (eqb other place) true (get_or flags other false)
stands_after flags place other within = elim (cases_Bool (eqb other place)) [
  | inl same ↦ (let e : other ≡ place = eqb-true other place same in
      rw same (ap (λ n. get_or (set flags place true) n false) e ∙ get_or-set_same flags place true false within))
  | inr apart ↦ rw (get_or-set_other flags place other true false (eqb-false other place apart), apart) refl
]
