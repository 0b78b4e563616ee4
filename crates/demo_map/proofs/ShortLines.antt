-- How long the lines are that are written of entries with few items.
use Rattle.std.proofs.Common.{◌≤◌, ℕ, ◌+◌, ◌*◌, Bool, true, false, codes, List, [], ◌∷◌, ◌++◌, length, drop, sym, subst, arith, inl, inr}
use Rattle.std.specs.Prelude.{ℤ, decimal, flat_map}
use Rattle.std.specs.List.{AllByRecursion, join_by, prefix_len}
use Rattle.std.proofs.lemmas.Bool.{cases_Bool}
use Rattle.std.proofs.lemmas.Fmt.{length-decimal-le}
use Rattle.std.proofs.lemmas.List.{length-append, length-drop}
use Rattle.osm_base.specs.declared.bounds.limits.TheConstants.{MAX_LINE_BYTES}
use Rattle.osm_base.specs.values.Key.{IsId, KeyOf}
use Rattle.opl_object.specs.Escapes.{code_text, escape_text, is_bare, is_zero, six_digits, written_text}
use Rattle.opl_object.specs.Lists.{key_text}
use Rattle.opl_object.specs.Spelling.{SpellsCoordinate, decimals_text, sign_text}

-- ids and keys

pub id_short : (id : ℕ) → IsId id → length (decimal id) ≤ 19
id_short id own = length-decimal-le 19 id (omega arith) (omega (arith, own.greatest)) (omega (arith, own.greatest))

pub key_short : (key : KeyOf) → IsId key.id → length (key_text key) ≤ 20
key_short key own = omega (arith, id_short key.id own)

-- a coordinate

sign_short : (minus : Bool) → length (sign_text minus) ≤ 1
sign_short true = omega arith
sign_short false = omega arith

point_short : (digits : List ℕ) → length (decimals_text digits) ≤ length digits + 1
point_short [] = omega arith
point_short (digit ∷ digits) = omega arith

pub degrees_short : (greatest : ℕ) (text : List ℕ) (value : ℤ) → SpellsCoordinate greatest text value → length text ≤ 22
degrees_short greatest text value s =
    let sign = sign_short s.minus in
    let point = point_short s.decimals in
    subst (λ own. length own ≤ 22) (sym s.form) (
    rw (length-append (sign_text s.minus) (s.whole ++ decimals_text s.decimals), length-append s.whole (decimals_text s.decimals))
    (omega (arith, s.few, sign, point)))

-- a text has at most eight bytes for each character
code_short : (code : ℕ) → length (code_text code) ≤ 8
unfolding escape_text
code_short code = elim (cases_Bool (is_bare code)) [
  | inl bare ↦ rw bare (omega arith)
  | inr other ↦ (
      let left = drop (prefix_len is_zero (six_digits code)) (six_digits code) in
      let digits = length-drop (prefix_len is_zero (six_digits code)) (six_digits code) in
      rw (other, length-append {A = ℕ} left (37 ∷ [])) (omega (arith, digits)))
]

pub text_short : (text : List ℕ) → length (written_text text) ≤ 8 * length text
unfolding written_text
text_short [] = omega arith
text_short (code ∷ text) =
    let here = code_short code in
    let rest = text_short text in
    rw (length-append (code_text code) (flat_map code_text text)) (omega (arith, here, rest))

-- a list whose items are short
abbrev pub IsShort : {A : Type 0} → (A → List ℕ) → A → Type 0
IsShort text item = length (text item) ≤ 999

later_short : {A : Type 0} (text : A → List ℕ) (items : List A) → AllByRecursion (IsShort text) items
    → length (flat_map (λ item. codes "," ++ text item) items) ≤ 1000 * length items
later_short text [] all = omega arith
later_short text (item ∷ items) all =
    let rest = later_short text items all.1 in
    rw (length-append (codes "," ++ text item) (flat_map (λ other. codes "," ++ text other) items)) (omega (arith, all.0, rest))

pub list_short : {A : Type 0} (text : A → List ℕ) (items : List A) → AllByRecursion (IsShort text) items
    → length (join_by text (codes ",") items) ≤ 1000 * length items
list_short text [] all = omega arith
list_short text (item ∷ items) all =
    let rest = later_short text items all.1 in
    rw (length-append (text item) (flat_map (λ other. codes "," ++ text other) items)) (omega (arith, all.0, rest))

-- a line of a key, tags and another field
pub line_short : (key tags own : List ℕ) → length key ≤ 20 → length tags ≤ 3000 → length own ≤ 20000
    → length (key ++ (codes " T" ++ tags ++ own)) ≤ MAX_LINE_BYTES
line_short key tags own first second third =
    rw (length-append key (codes " T" ++ tags ++ own), length-append tags own) (omega (arith, first, second, third))
