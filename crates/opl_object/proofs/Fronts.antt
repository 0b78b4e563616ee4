-- Values at the front of a text, and where they end.
use Rattle.std.proofs.Common.{◌≡◌, ℕ, zero, suc, ◌+◌, ◌*◌, ◌-◌, ◌^◌, ◌<◌, ◌≤◌, Bool, true, false, cond, not, ◌||◌, ◌⊎◌, inl, inr, eqb, List}
use Rattle.std.proofs.Common.{[], ◌∷◌, ◌++◌, length, get_or, take, drop, replicate, Result, Ok, refl, sym, ◌∙◌, ap, subst, arith, leb}
use Rattle.std.proofs.Common.{add-one, rules}
use Rattle.std.specs.Prelude.{pos, neg_ℤ}
use Rattle.std.specs.List.{list_all, position_or_len, zip}
use Rattle.std.specs.Char.{is_ascii_digit, digit_value}
use Rattle.std.specs.Str.Parse.{digits_value, digits_value_after}
use Rattle.std.proofs.Math.Seq.{take-add}
use Rattle.std.proofs.lemmas.Bool.{cases_Bool, cases_lt, eqb-true, false_from_ne_true, not-true}
use Rattle.std.proofs.lemmas.List.{get_or-take, take_more, take_all, get_or_past, length-replicate}
use Rattle.std.proofs.lemmas.List.Sums.{fails_before_first, position_or_len_is, AllPass-from_list_all}
use Rattle.std.proofs.lemmas.Slice.Zip.{get_or-zip, length-zip}
use Rattle.opl_object.specs.declared.number.TheConstants.{TIME_FORM}
use Rattle.opl_object.specs.declared.why.Why.{Why}
use Rattle.opl_object.specs.Why.{◌>>=◌}
use Rattle.opl_object.specs.Coordinate.{units, seven}
use Rattle.opl_object.specs.Fields.{is, is_blank, is_empty}
use Rattle.opl_object.specs.Nodes.{digits_len, numbered}
use Rattle.opl_object.specs.Number.{is_negative, unsigned, are_digits, is_whole, is_formed, is_time, id_of}
use Rattle.opl_object.specs.Spelling.{SpellsUnits, SpellsCoordinate, sign_text, decimals_text}
use Rattle.opl_object.specs.Text.{is_reserved, is_plain}
use Rattle.opl_object.proofs.Cuts.{place_le}
use Rattle.opl_object.proofs.Digits.{both, digit_range, digits_value_after-append}
use Rattle.opl_object.proofs.SpelledNumbers.{are_digits_again, id_again, coordinate_free}
use Rattle.opl_object.proofs.SpelledTexts.{IsFree}
use Rattle.opl_object.proofs.WrittenNumbers.{value_after-shift, value_zeros}

-- ---- what stands before the first byte that stops

-- none of it stops
pub front_free : (stops : ℕ → Bool) (text : List ℕ) → list_all (λ byte. not (stops byte)) (take (position_or_len stops text) text) ≡ true
front_free stops [] = refl
front_free stops (byte ∷ rest) = elim (cases_Bool (stops byte)) [
  | inl passed ↦ rw passed refl
  | inr failed ↦ (let more : position_or_len stops (byte ∷ rest) ≡ suc (position_or_len stops rest) = rw failed (omega arith) in
      rw (more, failed) (front_free stops rest))
]

pub front_digits : (text : List ℕ) → list_all is_ascii_digit (take (digits_len text) text) ≡ true
front_digits [] = refl
front_digits (byte ∷ rest) = elim (cases_Bool (is_ascii_digit byte)) [
  | inl passed ↦ (let more : digits_len (byte ∷ rest) ≡ suc (digits_len rest) = rw passed (omega arith) in
      rw (more, passed) (front_digits rest))
  | inr failed ↦ rw failed refl
]

pub blank_cases : (byte : ℕ) → is_blank byte ≡ true → (byte ≡ 32) ⊎ (byte ≡ 9)
blank_cases byte e = elim (cases_Bool (eqb byte 32)) [
  | inl space ↦ inl (eqb-true byte 32 space)
  | inr none ↦ (let tab : eqb byte 9 ≡ true = rw none at e in inr (eqb-true byte 9 tab))
]

-- a test that each blank passes
abbrev pub StopsAtBlanks : (ℕ → Bool) → Type 0
StopsAtBlanks stops = (byte : ℕ) → is_blank byte ≡ true → stops byte ≡ true

pub digits_stop : StopsAtBlanks (λ byte. not (is_ascii_digit byte))
digits_stop byte e = elim (blank_cases byte e) [ inl space ↦ rw space refl | inr tab ↦ rw tab refl ]

pub reserved_stop : StopsAtBlanks is_reserved
reserved_stop byte e = elim (blank_cases byte e) [ inl space ↦ rw space refl | inr tab ↦ rw tab refl ]

-- what has no blank before this place, and there has one or its end, goes up to its first blank
pub ends_field : (text : List ℕ) (end : ℕ) → end ≤ length text → ((k : ℕ) → k < end → is_blank (get_or text k 0) ≡ false)
    → (end < length text → is_blank (get_or text end 0) ≡ true) → end ≡ position_or_len is_blank text
ends_field text end within before here = sym (position_or_len_is is_blank text end 0 within before here)

pub ends_stopped : (stops : ℕ → Bool) (text : List ℕ) (end : ℕ) → StopsAtBlanks stops → end ≡ position_or_len stops text
    → (end < length text → is_blank (get_or text end 0) ≡ true) → end ≡ position_or_len is_blank text
ends_stopped stops text end blanks e here =
    ends_field text end (omega (arith, place_le stops text)) (λ k lt. false_from_ne_true _ (λ blank.
    let stopped : true ≡ false = sym (blanks (get_or text k 0) blank) ∙ fails_before_first stops text k 0 (omega (arith, lt, e)) in cc))
    here

-- nothing up to here is reserved
pub plain_front : (text : List ℕ) (end : ℕ) → end ≡ position_or_len is_reserved text → is_plain (take end text) ≡ true
plain_front text end e = rw e (front_free is_reserved text)

-- what holds below a place and there
pub also_at : (P : ℕ → Type 0) (n : ℕ) → ((k : ℕ) → k < n → P k) → P n → (k : ℕ) → k < n + 1 → P k
also_at P n before here k lt = elim (cases_lt k n) [
  | inl less ↦ before k less
  | inr least ↦ (let e : n ≡ k = omega arith in subst P e here)
]

or_right : (a b : Bool) → b ≡ true → (a || b) ≡ true
or_right true b e = refl
or_right false b e = e

-- ---- whole numbers and times

pub plus_digits : (text : List ℕ) → list_all is_ascii_digit text ≡ true → is_negative text ≡ false
plus_digits [] all = refl
plus_digits (byte ∷ rest) all =
    let parts = both (is_ascii_digit byte) (list_all is_ascii_digit rest) all in
    false_from_ne_true _ (λ same. let e : byte ≡ 45 = eqb-true byte 45 same in omega (arith, (digit_range byte parts.0).0))

length_front : (n : ℕ) (text : List ℕ) → n ≤ length text → length (take n text) ≡ n
length_front n text le = search (rules, arith)

pub whole_front : (text : List ℕ) (end : ℕ) → end ≡ digits_len text → 1 ≤ end → end ≤ 19 → is_whole (take end text) ≡ true
whole_front text end e some few =
    let within : end ≤ length text = omega (arith, place_le {X = ℕ} (λ byte. not (is_ascii_digit byte)) text, e) in
    let count = length_front end text within in
    let all : list_all is_ascii_digit (take end text) ≡ true = rw e (front_digits text) in
    let digits = are_digits_again 19 (take end text) (record { some = omega arith; few = omega arith; digits = all }) in
    let plus : unsigned (take end text) ≡ take end text = rw (plus_digits (take end text) all) refl in
    or_right (is_empty (take end text)) (are_digits 19 (unsigned (take end text))) (rw plus digits)

formed_filled : (form byte : ℕ) → is_blank form ≡ false → is_formed (form, byte) ≡ true → is_blank byte ≡ false
formed_filled form byte filled formed = elim (cases_Bool (is_ascii_digit form)) [
  | inl digit ↦ (let is_digit : is_ascii_digit byte ≡ true = rw digit at formed in
      false_from_ne_true _ (λ blank. let stop : not (is_ascii_digit byte) ≡ true = digits_stop byte blank in let wrong : false ≡ true =
      rw is_digit at stop in cc))
  | inr other ↦ (let equal : eqb byte form ≡ true = rw other at formed in let same : byte ≡ form = eqb-true byte form equal in
      rw same filled)
]

pub time_filled : (text : List ℕ) → 20 ≤ length text → list_all is_formed (zip TIME_FORM (take 20 text)) ≡ true → (k : ℕ) → k < 20
    → is_blank (get_or text k 0) ≡ false
time_filled text long all k lt =
    let count = length_front 20 text long in
    let zipped : k < length (zip TIME_FORM (take 20 text)) = rw length-zip (omega arith) in
    let here : is_formed (get_or (zip TIME_FORM (take 20 text)) k (0, 0)) ≡ true =
    AllPass-from_list_all is_formed (zip TIME_FORM (take 20 text)) all k (0, 0) zipped in
    let pair = get_or-zip TIME_FORM (take 20 text) k (0, 0) (omega arith) (omega arith) in
    let form : is_blank (get_or TIME_FORM k 0) ≡ false =
    not-true _ (AllPass-from_list_all (λ byte. not (is_blank byte)) TIME_FORM refl k 0 (omega arith)) in
    let byte : is_blank (get_or (take 20 text) k 0) ≡ false =
    formed_filled (get_or TIME_FORM k 0) (get_or (take 20 text) k 0) form (ap is_formed (sym pair) ∙ here) in
    ap is_blank (sym (get_or-take 20 text k 0 lt)) ∙ byte

pub time_front : (text : List ℕ) → 20 ≤ length text → list_all is_formed (zip TIME_FORM (take 20 text)) ≡ true
    → is_time (take 20 text) ≡ true
time_front text long all =
    let count = length_front 20 text long in
    or_right (is_empty (take 20 text)) _ (rw (count, all) refl)

-- an id that is small
pub small_id : (text : List ℕ) (len id : ℕ) → len ≡ digits_len text → len ≤ 19 → 1 ≤ id → id ≤ 100000000000
    → id ≡ digits_value_after 10 0 (take len text) → id_of (take len text) ≡ Ok id
small_id text len id e few least small is =
    let within : len ≤ length text = omega (arith, place_le {X = ℕ} (λ byte. not (is_ascii_digit byte)) text, e) in
    let count = length_front len text within in
    let some : 0 < len = elim (cases_lt 0 len) [
      | inl above ↦ above
      | inr none ↦ absurd (let zero_len : len ≡ 0 = omega arith in let nothing : id ≡ 0 =
          is ∙ ap (λ n. digits_value_after 10 0 (take n text)) zero_len in omega (arith, nothing))
    ] in
    id_again (take len text) id (record {
      digits = record { some = omega arith; few = omega arith; digits = rw e (front_digits text) };
      value = sym is;
      range = record { least = least; greatest = omega arith };
    })

-- the id in front, and what stands behind it
pub numbered_small : (text rest : List ℕ) (len id : ℕ) → len ≡ digits_len text → id_of (take len text) ≡ Ok id → rest ≡ drop len text
    → numbered text ≡ Ok (id, rest)
unfolding numbered
numbered_small text rest len id e found behind =
    let with_rest : ℕ → Result ℕ Why → Result (ℕ × List ℕ) Why = λ n read. read >>= λ id. Ok (id, drop n text) in
    ap (λ n. with_rest n (id_of (take n text))) (sym e) ∙ ap (with_rest len) found ∙ ap (id_and id) (sym behind) where
      id_and : ℕ → List ℕ → Result (ℕ × List ℕ) Why
      id_and id text = Ok (id, text)

-- ---- coordinates

-- one digit more
pub value_after_more : (n : ℕ) (text : List ℕ) (i : ℕ) → i < length text
    → digits_value_after 10 n (take (i + 1) text) ≡ digits_value_after 10 n (take i text) * 10 + digit_value (get_or text i 0)
value_after_more n text i lt = ap (digits_value_after 10 n) (take_more text i 0 lt)
    ∙ digits_value_after-append 10 n (take i text) (get_or text i 0 ∷ [])

-- the units are the number of all digits, and zeros
pub units_are : (whole decimals : List ℕ) (value : ℕ) → length decimals ≤ 7
    → value ≡ digits_value_after 10 (digits_value_after 10 0 whole) decimals → units whole decimals ≡ value * 10 ^ (7 - length decimals)
units_are whole decimals value few e =
    let none : leb 53 (get_or decimals 7 0) ≡ false = rw (get_or_past decimals 7 0 few) refl in
    let front : take 7 decimals ≡ decimals = take_all 7 decimals few in
    let zeros = replicate (7 - length decimals) 48 in
    let all : digits_value 10 (whole ++ seven decimals) ≡ digits_value_after 10 value zeros
    = ap (λ ds. digits_value 10 (whole ++ (ds ++ zeros))) front
    ∙ digits_value_after-append 10 0 whole (decimals ++ zeros)
    ∙ digits_value_after-append 10 (digits_value_after 10 0 whole) decimals zeros
    ∙ ap (λ n. digits_value_after 10 n zeros) (sym e) in
    let shifted : digits_value_after 10 value zeros ≡ value * 10 ^ (7 - length decimals)
    = value_after-shift value zeros ∙ ap (λ n. value * 10 ^ n + digits_value_after 10 0 zeros)
    (length-replicate {A = ℕ} (7 - length decimals) 48)
    ∙ ap (λ n. value * 10 ^ (7 - length decimals) + n) (value_zeros (7 - length decimals))
    ∙ add-zero' (value * 10 ^ (7 - length decimals)) in
    ap (λ b. digits_value 10 (whole ++ seven decimals) + cond b 1 0) none ∙ add-zero' (digits_value 10 (whole ++ seven decimals)) ∙ all
    ∙ shifted where
      add-zero' : (n : ℕ) → n + 0 ≡ n
      add-zero' n = omega arith

pub units_whole : (text : List ℕ) (len value : ℕ) → len ≡ digits_len text → 1 ≤ len → len ≤ 3
    → value ≡ digits_value_after 10 0 (take len text) → SpellsUnits (take len text) (value * 10 ^ 7)
units_whole text len value e some few is =
    let within : len ≤ length text = omega (arith, place_le {X = ℕ} (λ byte. not (is_ascii_digit byte)) text, e) in
    let count = length_front len text within in
    record {
      whole = take len text;
      decimals = [];
      form = sym (append_nil (take len text));
      some = omega arith;
      few = omega arith;
      whole_digits = rw e (front_digits text);
      decimal_digits = refl;
      is = units_are (take len text) [] value (omega arith) is;
    } where
      append_nil : (xs : List ℕ) → xs ++ [] ≡ xs
      append_nil xs = search rules

pub units_pointed : (text rest : List ℕ) (len whole count value : ℕ) → len ≡ digits_len text → 1 ≤ len → len ≤ 3
    → whole ≡ digits_value_after 10 0 (take len text) → drop len text ≡ 46 ∷ rest
    → count ≡ digits_len rest → 1 ≤ count → count ≤ 7 → value ≡ digits_value_after 10 whole (take count rest)
    → SpellsUnits (take (len + 1 + count) text) (value * 10 ^ (7 - count))
units_pointed text rest len whole count value e some few first point f some' few' is =
    let within : len ≤ length text = omega (arith, place_le {X = ℕ} (λ byte. not (is_ascii_digit byte)) text, e) in
    let within' : count ≤ length rest = omega (arith, place_le {X = ℕ} (λ byte. not (is_ascii_digit byte)) rest, f) in
    let long = length_front len text within in
    let long' = length_front count rest within' in
    let sum : len + 1 + count ≡ len + suc count = omega arith in
    let form : take (len + 1 + count) text ≡ take len text ++ 46 ∷ take count rest
    = ap (λ n. take n text) sum ∙ take-add len (suc count) text ∙ ap (λ t. take len text ++ take (suc count) t) point in
    let pointed : 46 ∷ take count rest ≡ decimals_text (take count rest) = pointed_text (take count rest) (omega arith) in
    record {
      whole = take len text;
      decimals = take count rest;
      form = form ∙ ap (λ t. take len text ++ t) pointed;
      some = omega arith;
      few = omega arith;
      whole_digits = rw e (front_digits text);
      decimal_digits = rw f (front_digits rest);
      is = units_are (take len text) (take count rest) value (omega arith) (is ∙ ap (λ n. digits_value_after 10 n (take count rest)) first)
          ∙ ap (λ n. value * 10 ^ (7 - n)) long';
    } where
      pointed_text : (decimals : List ℕ) → 1 ≤ length decimals → 46 ∷ decimals ≡ decimals_text decimals
      pointed_text [] some = absurd (omega arith)
      pointed_text (digit ∷ decimals) some = refl

-- a sign, and what stands behind it
pub signed_front : (text : List ℕ) (len : ℕ)
    → take (cond (is_negative text) (len + 1) len) text ≡ sign_text (is_negative text) ++ take len (unsigned text)
signed_front text len = elim (cases_Bool (is_negative text)) [
  | inl minus ↦ rw minus (minus_front text minus)
  | inr plus ↦ rw plus refl
] where
  minus_front : (text : List ℕ) → is_negative text ≡ true → take (len + 1) text ≡ 45 ∷ take len (drop 1 text)
  minus_front [] e = absurd cc
  minus_front (byte ∷ rest) e = let same : byte ≡ 45 = eqb-true byte 45 e in
      ap (λ n. take n (byte ∷ rest)) (add-one len) ∙ ap (λ b. b ∷ take len rest) same

free_at : (ends : ℕ → Bool) (text : List ℕ) (k : ℕ) → IsFree ends text → k < length text → ends (get_or text k 0) ≡ false
free_at ends [] k free lt = absurd (omega arith)
free_at ends (byte ∷ text) zero free lt = free.0
free_at ends (byte ∷ text) (suc k) free lt = free_at ends text k free.1 (omega arith)

-- a coordinate up to a blank, or to the end, goes up to the first blank
pub coordinate_ends : (greatest : ℕ) (text : List ℕ) (end : ℕ) (value : _) → SpellsCoordinate greatest (take end text) value
    → end ≤ length text → (end < length text → is_blank (get_or text end 0) ≡ true) → end ≡ position_or_len is_blank text
coordinate_ends greatest text end value s within here =
    let count = length_front end text within in
    let spaces = coordinate_free 32 greatest (take end text) value refl refl refl s in
    let tabs = coordinate_free 9 greatest (take end text) value refl refl refl s in
    ends_field text end within (λ k lt.
    let space : eqb (get_or text k 0) 32 ≡ false =
    ap (λ b. eqb b 32) (sym (get_or-take end text k 0 lt)) ∙ free_at (is 32) (take end text) k spaces (omega arith) in
    let tab : eqb (get_or text k 0) 9 ≡ false =
    ap (λ b. eqb b 9) (sym (get_or-take end text k 0 lt)) ∙ free_at (is 9) (take end text) k tabs (omega arith) in
    rw (space, tab) refl) here

-- what stands behind a sign ends where the whole does
pub signed_here : (text : List ℕ) (len : ℕ) → (len < length (unsigned text) → is_blank (get_or (unsigned text) len 0) ≡ true)
    → cond (is_negative text) (len + 1) len < length text → is_blank (get_or text (cond (is_negative text) (len + 1) len) 0) ≡ true
signed_here text len here lt = elim (cases_Bool (is_negative text)) [
  | inl minus ↦ (
      let rest : unsigned text ≡ drop 1 text = rw minus refl in
      let end : cond (is_negative text) (len + 1) len ≡ len + 1 = rw minus refl in
      let behind : len < length (drop 1 text) → is_blank (get_or (drop 1 text) len 0) ≡ true =
      subst (λ (t : List ℕ). len < length t → is_blank (get_or t len 0) ≡ true) rest here in
      rw end (one_behind text behind (omega (arith, lt, end))))
  | inr plus ↦ (
      let all : unsigned text ≡ text = rw plus refl in
      let end : cond (is_negative text) (len + 1) len ≡ len = rw plus refl in
      let same : len < length text → is_blank (get_or text len 0) ≡ true =
      subst (λ (t : List ℕ). len < length t → is_blank (get_or t len 0) ≡ true) all here in
      rw end (same (omega (arith, lt, end))))
] where
  one_behind : (text : List ℕ) → (len < length (drop 1 text) → is_blank (get_or (drop 1 text) len 0) ≡ true) → len + 1 < length text
      → is_blank (get_or text (len + 1) 0) ≡ true
  one_behind [] behind less = absurd (omega arith)
  one_behind (byte ∷ rest) behind less = ap (λ n. is_blank (get_or (byte ∷ rest) n 0)) (add-one len) ∙ behind (omega arith)

pub signed_within : (text : List ℕ) (len : ℕ) → len ≤ length (unsigned text) → cond (is_negative text) (len + 1) len ≤ length text
signed_within [] len le = le
signed_within (byte ∷ rest) len le = elim (cases_Bool (eqb byte 45)) [
  | inl minus ↦ (let less : len ≤ length rest = rw minus at le in rw minus (omega arith))
  | inr plus ↦ (let less : len ≤ length (byte ∷ rest) = rw plus at le in rw plus less)
]

pub usual_spells : (greatest : ℕ) (text size : List ℕ) (len amount end : ℕ) (minus : Bool) → minus ≡ is_negative text → size ≡ unsigned text
    → end ≡ cond minus (len + 1) len
    → SpellsUnits (take len size) amount → amount ≤ greatest
    → SpellsCoordinate greatest (take end text) (cond minus (neg_ℤ (pos amount)) (pos amount))
usual_spells greatest text size len amount end minus sign rest e u near =
    let form : take end text ≡ sign_text minus ++ (u.whole ++ decimals_text u.decimals)
    = ap (λ n. take n text) (e ∙ ap (λ b. cond b (len + 1) len) sign) ∙ signed_front text len
    ∙ ap (λ b. sign_text b ++ take len (unsigned text)) (sym sign) ∙ ap (λ t. sign_text minus ++ take len t) (sym rest)
    ∙ ap (λ t. sign_text minus ++ t) u.form in
    record {
      minus = minus;
      whole = u.whole;
      decimals = u.decimals;
      form = form;
      some = u.some;
      few = u.few;
      whole_digits = u.whole_digits;
      decimal_digits = u.decimal_digits;
      near = omega (arith, u.is, near);
      is = ap (λ n. cond minus (neg_ℤ (pos n)) (pos n)) u.is;
    }
