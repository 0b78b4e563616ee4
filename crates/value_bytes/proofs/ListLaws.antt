-- The laws of lists in bytes.
use Rattle.std.proofs.Common.{◌≡◌, ℕ, ◌+◌, ◌-◌, ◌<◌, List, [], ◌∷◌, ◌++◌, length, refl, sym, ap, ◌∙◌, arith, append_assoc, length-append}
use Rattle.std.proofs.Common.{take, get_or, subst}
use Rattle.std.proofs.lemmas.List.{append-nil, take_more}
use Rattle.std.specs.List.{AllByRecursion}
use Rattle.value_bytes.specs.Forms.{Begins, IsFront, IsFrontless, all_bytes, AreMany}
use Rattle.value_bytes.specs.Numbers.{number_bytes, IsNumber}
use Rattle.value_bytes.specs.Lists.{list_bytes, IsList}

pub all_bytes-append : {V : Type 0} (spell : V → List ℕ) (front back : List V)
    → all_bytes spell (front ++ back) ≡ all_bytes spell front ++ all_bytes spell back
all_bytes-append spell [] back = refl
all_bytes-append spell (value ∷ front) back =
    ap (λ (l : List ℕ). spell value ++ l) (all_bytes-append spell front back)
    ∙ sym (append_assoc (spell value) (all_bytes spell front) (all_bytes spell back))

pub each_append : {V : Type 0} (Is : V → Type 0) (front back : List V) → AllByRecursion Is front → AllByRecursion Is back
    → AllByRecursion Is (front ++ back)
each_append Is [] back fronts backs = backs
each_append Is (value ∷ front) back fronts backs = (fronts.0, each_append Is front back fronts.1 backs)

-- so many values were read, and these bytes are left; whatever list the bytes begin with goes on with them
pub record HasRead {V : Type 0} (spell : V → List ℕ) (Is : V → Type 0) (count : ℕ) (bytes : List ℕ) (read : ℕ) (values : List V)
    (rest : List ℕ) : Type 0 where
  pub is : AreMany read Is values
  pub bytes_are : bytes ≡ all_bytes spell values ++ rest
  pub goes_on : (all : List V) (behind : List ℕ) → Begins (all_bytes spell) (AreMany count Is) bytes all behind
      → (later : List V) × (all ≡ values ++ later) × Begins (all_bytes spell) (AreMany (count - read) Is) rest later behind

-- so many values, by another name of the count
many_at : {V : Type 0} (spell : V → List ℕ) (Is : V → Type 0) (one two : ℕ) (bytes : List ℕ) (all : List V) (behind : List ℕ)
    → one ≡ two → Begins (all_bytes spell) (AreMany one Is) bytes all behind → Begins (all_bytes spell) (AreMany two Is) bytes all behind
many_at spell Is one two bytes all behind same begins = subst (λ n. Begins (all_bytes spell) (AreMany n Is) bytes all behind) same begins

pub read_none : {V : Type 0} (spell : V → List ℕ) (Is : V → Type 0) (count : ℕ) (bytes : List ℕ) → HasRead spell Is count bytes 0 [] bytes
read_none spell Is count bytes = record {
  is = record { count_is = refl; each = tt };
  bytes_are = refl;
  goes_on = λ all behind begins. (all, refl, many_at spell Is count (count - 0) bytes all behind (omega arith) begins);
}

-- a list that is not empty begins with its first value
pub many_first : {V : Type 0} (spell : V → List ℕ) (Is : V → Type 0) (count : ℕ) (bytes : List ℕ) (all : List V) (behind : List ℕ)
    → Begins (all_bytes spell) (AreMany (count + 1) Is) bytes all behind
    → (value : V) × (later : List V) × (all ≡ value ∷ later) × Begins spell Is bytes value (all_bytes spell later ++ behind)
    × AreMany count Is later
many_first spell Is count bytes [] behind begins = absurd (omega (arith, begins.is.count_is))
many_first spell Is count bytes (value ∷ later) behind begins = (
  value,
  later,
  refl,
  record { is = begins.is.each.0; bytes_are = begins.bytes_are ∙ append_assoc (spell value) (all_bytes spell later) behind },
  record { count_is = omega (arith, begins.is.count_is); each = begins.is.each.1 },
)

pub read_more : {V : Type 0} (spell : V → List ℕ) (Is : V → Type 0) (count : ℕ) (bytes : List ℕ) (read : ℕ) (values : List V)
    (rest : List ℕ) (value : V) (behind : List ℕ)
    → HasRead spell Is count bytes read values rest → read < count → IsFront spell Is rest value behind
    → HasRead spell Is count bytes (read + 1) (values ++ value ∷ []) behind
read_more spell Is count bytes read values rest value behind before more front = record {
  is = record {
    count_is = omega (arith, length-append values (value ∷ []), before.is.count_is);
    each = each_append Is values (value ∷ []) before.is.each (front.begins.is, tt);
  };
  bytes_are = before.bytes_are ∙ ap (λ (l : List ℕ). all_bytes spell values ++ l) front.begins.bytes_are
      ∙ sym (append_assoc (all_bytes spell values) (spell value) behind)
      ∙ ap (λ (l : List ℕ). (all_bytes spell values ++ l) ++ behind) (sym (append-nil (spell value)))
      ∙ ap (λ (l : List ℕ). l ++ behind) (sym (all_bytes-append spell values (value ∷ [])));
  goes_on = λ all after begins.
      let (later, split, ends) = before.goes_on all after begins in
      let (next, others, later_is, first, are) =
      many_first spell Is (count - (read + 1)) rest later after
      (many_at spell Is (count - read) (count - (read + 1) + 1) rest later after (omega (arith, more)) ends) in
      let same = front.alone next (all_bytes spell others ++ after) first in (
        others,
        split ∙ ap (λ (l : List _). values ++ l) (later_is ∙ ap (λ x. x ∷ others) same.0) ∙ sym (append_assoc values (value ∷ []) others),
        record { is = are; bytes_are = sym same.1 },
      );
}

pub read_refused : {V : Type 0} (spell : V → List ℕ) (Is : V → Type 0) (count : ℕ) (bytes : List ℕ) (read : ℕ) (values : List V)
    (rest : List ℕ)
    → HasRead spell Is count bytes read values rest → read < count → IsFrontless spell Is rest
    → IsFrontless (all_bytes spell) (AreMany count Is) bytes
read_refused spell Is count bytes read values rest before more none all behind begins =
    let (later, split, ends) = before.goes_on all behind begins in
    let (next, others, later_is, first, are) =
    many_first spell Is (count - (read + 1)) rest later behind
    (many_at spell Is (count - read) (count - (read + 1) + 1) rest later behind (omega (arith, more)) ends) in
    none next (all_bytes spell others ++ behind) first

none_left : {V : Type 0} (values : List V) → length values ≡ 0 → values ≡ []
none_left [] long = refl
none_left (value ∷ values) long = absurd (omega (arith, long))

pub read_all : {V : Type 0} (spell : V → List ℕ) (Is : V → Type 0) (count : ℕ) (bytes : List ℕ) (values : List V) (rest : List ℕ)
    → HasRead spell Is count bytes count values rest → IsFront (all_bytes spell) (AreMany count Is) bytes values rest
read_all spell Is count bytes values rest before = record {
  begins = record { is = before.is; bytes_are = before.bytes_are };
  alone = λ all behind begins.
      let (later, split, ends) = before.goes_on all behind begins in
      let none = none_left later (omega (arith, ends.is.count_is)) in (
        split ∙ ap (λ (l : List _). values ++ l) none ∙ append-nil values,
        sym (ends.bytes_are ∙ ap (λ (l : List _). all_bytes spell l ++ behind) none),
      );
}

-- what begins with a list begins with its number, and behind it with its values
pub list_number : {V : Type 0} (spell : V → List ℕ) (Is : V → Type 0) (bytes : List ℕ) (values : List V) (rest : List ℕ)
    → Begins (list_bytes spell) (IsList Is) bytes values rest
    → Begins number_bytes IsNumber bytes (length values) (all_bytes spell values ++ rest)
unfolding list_bytes
list_number spell Is bytes values rest begins = record {
  is = begins.is.few;
  bytes_are = begins.bytes_are ∙ append_assoc (number_bytes (length values)) (all_bytes spell values) rest;
}

pub list_front : {V : Type 0} (spell : V → List ℕ) (Is : V → Type 0) (bytes : List ℕ) (count : ℕ) (behind : List ℕ) (values : List V)
    (rest : List ℕ)
    → IsFront number_bytes IsNumber bytes count behind → IsFront (all_bytes spell) (AreMany count Is) behind values rest
    → IsFront (list_bytes spell) (IsList Is) bytes values rest
unfolding list_bytes
list_front spell Is bytes count behind values rest front many = record {
  begins = record {
    is = record { few = omega (arith, many.begins.is.count_is, front.begins.is); each = many.begins.is.each };
    bytes_are = front.begins.bytes_are ∙ ap (λ (n : ℕ). number_bytes n ++ behind) (sym many.begins.is.count_is)
        ∙ ap (λ (l : List ℕ). number_bytes (length values) ++ l) many.begins.bytes_are
        ∙ sym (append_assoc (number_bytes (length values)) (all_bytes spell values) rest);
  };
  alone = λ others after begins.
      let same = front.alone (length others) (all_bytes spell others ++ after) (list_number spell Is bytes others after begins) in
      many.alone others after (record { is = record { count_is = same.0; each = begins.is.each }; bytes_are = sym same.1 });
}

pub list_frontless : {V : Type 0} (spell : V → List ℕ) (Is : V → Type 0) (bytes : List ℕ)
    → IsFrontless number_bytes IsNumber bytes → IsFrontless (list_bytes spell) (IsList Is) bytes
list_frontless spell Is bytes none values rest begins =
    none (length values) (all_bytes spell values ++ rest) (list_number spell Is bytes values rest begins)

pub list_refused : {V : Type 0} (spell : V → List ℕ) (Is : V → Type 0) (bytes : List ℕ) (count : ℕ) (behind : List ℕ)
    → IsFront number_bytes IsNumber bytes count behind → IsFrontless (all_bytes spell) (AreMany count Is) behind
    → IsFrontless (list_bytes spell) (IsList Is) bytes
list_refused spell Is bytes count behind front none values rest begins =
    let same = front.alone (length values) (all_bytes spell values ++ rest) (list_number spell Is bytes values rest begins) in
    none values rest (record { is = record { count_is = same.0; each = begins.is.each }; bytes_are = sym same.1 })

-- a value more of a list
pub bytes_more : {V : Type 0} (spell : V → List ℕ) (values : List V) (place : ℕ) (value : V) → place < length values
    → value ≡ get_or values place value
    → all_bytes spell (take (place + 1) values) ≡ all_bytes spell (take place values) ++ spell value
bytes_more spell values place value within is =
    ap (λ (l : List _). all_bytes spell l) (take_more values place value within)
    ∙ all_bytes-append spell (take place values) (get_or values place value ∷ [])
    ∙ ap (λ (l : List ℕ). all_bytes spell (take place values) ++ l) (append-nil (spell (get_or values place value)))
    ∙ ap (λ v. all_bytes spell (take place values) ++ spell v) (sym is)

pub each_more : {V : Type 0} (Is : V → Type 0) (values : List V) (place : ℕ) (value : V) → place < length values
    → value ≡ get_or values place value
    → AllByRecursion Is (take place values) → Is value → AllByRecursion Is (take (place + 1) values)
each_more Is values place value within is each this =
    subst (λ l. AllByRecursion Is l) (sym (take_more values place value within))
    (each_append Is (take place values) (get_or values place value ∷ []) each (subst Is is this, tt))

-- a list was put behind its number
pub list_put : {V : Type 0} (spell : V → List ℕ) (values : List V) (old : List ℕ)
    → (old ++ number_bytes (length values)) ++ all_bytes spell values ≡ old ++ list_bytes spell values
unfolding list_bytes
list_put spell values old = append_assoc old (number_bytes (length values)) (all_bytes spell values)
