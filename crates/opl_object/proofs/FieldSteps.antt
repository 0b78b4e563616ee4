-- What the field in front of a text says.
use Rattle.std.proofs.Common.{◌≡◌, ℕ, suc, ◌<◌, Bool, true, false, cond, inl, inr, List, [], ◌∷◌, take, drop, Option, None, Some, Result}
use Rattle.std.proofs.Common.{Ok, Err, refl, sym, ◌∙◌, ap, arith, nat_abs}
use Rattle.std.specs.Prelude.{ℤ, IfSome}
use Rattle.std.specs.List.{position_or_len, before_first}
use Rattle.std.specs.Option.{option_map}
use Rattle.std.specs.Str.{chars}
use Rattle.std.proofs.lemmas.Bool.{cases_Bool}
use Rattle.osm_base.specs.declared.values.key.Kind.{Kind}
use Rattle.osm_base.specs.declared.values.place.TheConstants.{MAX_LON, MAX_LAT}
use Rattle.opl_object.specs.declared.letter.Letter.{Letter}
use Rattle.opl_object.specs.declared.letter.Letter.TheVariants.{Version, Visible, Changeset, Time, UserId, User, Tags, Lon, Lat, Nodes}
use Rattle.opl_object.specs.declared.letter.Letter.TheVariants.{Members}
use Rattle.opl_object.specs.declared.parts.Parts.{Parts}
use Rattle.opl_object.specs.declared.why.Why.{Why}
use Rattle.opl_object.specs.declared.why.Why.TheVariants as causes
use Rattle.opl_object.specs.Coordinate.{coordinate}
use Rattle.opl_object.specs.Fields.{IsValueEnd, is_blank, fields_of}
use Rattle.opl_object.specs.Letter.{letter_of, letter_at, also, byte_of}
use Rattle.opl_object.specs.Parts.{with_lon, with_lat, with_value, new_field, with_field, PassesLetter}
use Rattle.opl_object.specs.Spelling.{SpellsCoordinate}
use Rattle.opl_object.specs.Text.{is_plain, text_of}
use Rattle.opl_object.specs.Why.{◌>>=◌, given, each_piece}
use Rattle.opl_object.proofs.Cuts.{fields_of-blank, fields_first}
use Rattle.opl_object.proofs.Pieces.{goes_on}
use Rattle.opl_object.proofs.Resolving.{bytes_of-plain}
use Rattle.opl_object.proofs.SpelledLists.{some_is_not}
use Rattle.opl_object.proofs.SpelledNumbers.{coordinate_again, coordinate_nonempty}

-- ---- values in their usual form

pub with_lon_read : (value : List ℕ) (lon : ℤ) (parts : Parts) → SpellsCoordinate (nat_abs MAX_LON) value lon
    → with_lon value parts ≡ Ok (record parts { lon = Some lon })
with_lon_read value lon parts s =
    let some = some_is_not value (coordinate_nonempty (nat_abs MAX_LON) value lon s) in
    let with_it : Result ℤ Why → Result Parts Why = λ read. read >>= λ lon. Ok (record parts { lon = Some lon }) in
    ap (λ b. cond b (Ok parts) (with_it (coordinate (nat_abs MAX_LON) value))) some
    ∙ ap with_it (coordinate_again (nat_abs MAX_LON) value lon s)

pub with_lat_read : (value : List ℕ) (lat : ℤ) (parts : Parts) → SpellsCoordinate (nat_abs MAX_LAT) value lat
    → with_lat value parts ≡ Ok (record parts { lat = Some lat })
with_lat_read value lat parts s =
    let some = some_is_not value (coordinate_nonempty (nat_abs MAX_LAT) value lat s) in
    let with_it : Result ℤ Why → Result Parts Why = λ read. read >>= λ lat. Ok (record parts { lat = Some lat }) in
    ap (λ b. cond b (Ok parts) (with_it (coordinate (nat_abs MAX_LAT) value))) some
    ∙ ap with_it (coordinate_again (nat_abs MAX_LAT) value lat s)

user_plain : (value : List ℕ) (parts : Parts) → is_plain value ≡ true → with_value User value parts ≡ Ok parts
unfolding with_value text_of
user_plain value parts plain =
    let with_it : Result (List ℕ) Why → Result Parts Why = λ read. (read >>= λ bytes. Ok (chars bytes)) >>= λ _. Ok parts in
    ap with_it (bytes_of-plain value plain)

pub user_read : (letter : Letter) (result : Option ℕ) (text : List ℕ) → letter ≡ User
    → IfSome result (IsValueEnd (λ value. is_plain value ≡ true) text)
    → IfSome result (IsValueEnd (λ value. (parts : Parts) → with_value letter value parts ≡ Ok parts) text)
user_read letter None text is plain = tt
user_read letter (Some end) text is plain =
    record { place = plain.place; value = λ parts. rw is (user_plain (take end text) parts plain.value) }

-- each value that parts may have is one that these have
pub kept_by : (letter : Letter) (result : Option ℕ) (text : List ℕ) (parts : Parts)
    → IfSome result (IsValueEnd (λ value. (parts : Parts) → with_value letter value parts ≡ Ok parts) text)
    → IfSome result (IsValueEnd (λ value. with_value letter value parts ≡ Ok parts) text)
kept_by letter None text parts all = tt
kept_by letter (Some end) text parts all = record { place = all.place; value = all.value parts }

-- ---- the letter in front

abbrev letter_and : Letter → List ℕ → Letter × List ℕ
letter_and letter text = (letter, text)

pub letter_front : (kind : Kind) (text : List ℕ) → 0 < position_or_len is_blank text
    → letter_at kind (before_first is_blank text)
    ≡ option_map {U = Letter × List ℕ} (λ (front : Letter × List ℕ). (front.0, before_first is_blank front.1)) (letter_at kind text)
letter_front kind [] some = absurd (omega arith)
letter_front kind (byte ∷ rest) some = elim (cases_Bool (is_blank byte)) [
  | inl blank ↦ absurd (let none : position_or_len is_blank (byte ∷ rest) ≡ 0 = rw blank refl in omega (arith, some, none))
  | inr plain ↦ (
      let more : position_or_len is_blank (byte ∷ rest) ≡ suc (position_or_len is_blank rest) = rw plain (omega arith) in
      rw more (twice (letter_of kind byte) rest))
] where
  twice : (found : Option Letter) (rest : List ℕ)
      → option_map {U = Letter × List ℕ} (λ letter. (letter, before_first is_blank rest)) found
      ≡ option_map {U = Letter × List ℕ} (λ (front : Letter × List ℕ). (front.0, before_first is_blank front.1))
      (option_map {U = Letter × List ℕ} (λ letter. (letter, rest)) found)
  twice None rest = refl
  twice (Some letter) rest = refl

abbrev with_letter : (Letter → Bool) → Parts → Letter × List ℕ → Result ((Letter → Bool) × Parts) Why
with_letter stood parts found = with_value found.0 found.1 parts >>= λ next. Ok (also stood found.0, next)

abbrev tested : Bool → Letter × List ℕ → Result (Letter × List ℕ) Why
tested stood found = cond stood (Err causes.Repeated) (Ok found)

abbrev after_test : (Letter → Bool) → Parts → Bool → Letter × List ℕ → Result ((Letter → Bool) × Parts) Why
after_test stood parts b found = tested b found >>= with_letter stood parts

abbrev after_front : (Letter → Bool) → Parts → Option (Letter × List ℕ) → Result ((Letter → Bool) × Parts) Why
after_front stood parts front = given causes.Field front >>= λ (front : Letter × List ℕ). new_field stood front >>= with_letter stood parts

-- a field whose letter has not stood
pub field_read : (kind : Kind) (stood : Letter → Bool) (parts : Parts) (text value : List ℕ) (letter : Letter)
    → 0 < position_or_len is_blank text → letter_at kind text ≡ Some (letter, value) → stood letter ≡ false
    → with_field kind (stood, parts) (before_first is_blank text)
    ≡ (with_value letter (before_first is_blank value) parts >>= λ next. Ok (also stood letter, next))
field_read kind stood parts text value letter some e new =
    let found : letter_at kind (before_first is_blank text) ≡ Some (letter, before_first is_blank value)
    = letter_front kind text some ∙ ap (option_map {U = Letter × List ℕ}
    (λ (front : Letter × List ℕ). (front.0, before_first is_blank front.1))) e in
    ap (after_front stood parts) found ∙ ap (λ b. after_test stood parts b (letter_and letter (before_first is_blank value))) new

pub same_letters : (one other : Letter → Bool) → ((letter : Letter) → other letter ≡ one letter) → one ≡ other
same_letters one other same = λ i letter. sym (same letter) i

-- a letter in front of a field, whose value no parts keep
pub passes_letter : (letter : Letter) (text field value rest : List ℕ) (end : ℕ) → text ≡ 32 ∷ field → field ≡ byte_of letter ∷ value
    → end ≡ position_or_len is_blank value → rest ≡ drop end value
    → ((parts : Parts) → with_value letter (take end value) parts ≡ Ok parts)
    → ((kind : Kind) → letter_of kind (byte_of letter) ≡ Some letter) → PassesLetter letter text rest
passes_letter letter text field value rest end spaced lettered e behind keeps common = λ kind stood parts new.
    let first : List ℕ = byte_of letter ∷ value in
    let plain : is_blank (byte_of letter) ≡ false = letter_filled letter in
    let more : position_or_len is_blank first ≡ suc (position_or_len is_blank value) = rw plain (omega arith) in
    let found : letter_at kind first ≡ Some (letter, value) =
    ap (λ found. option_map {U = Letter × List ℕ} (λ letter. (letter, value)) found) (common kind) in
    let some : 0 < position_or_len is_blank first = omega (arith, more) in
    let kept : with_value letter (before_first is_blank value) parts ≡ Ok parts =
    ap (λ n. with_value letter (take n value) parts) (sym e) ∙ keeps parts in
    let step : with_field kind (stood, parts) (before_first is_blank first) ≡ Ok (also stood letter, parts)
    = field_read kind stood parts first value letter some found new ∙ ap (λ read. read >>= λ next. Ok (also stood letter, next)) kept in
    let later : drop (position_or_len is_blank first) first ≡ rest =
    ap (λ n. drop n first) more ∙ ap (λ n. drop n value) (sym e) ∙ sym behind in
    let fields : fields_of text ≡ before_first is_blank first ∷ fields_of rest
    = ap fields_of (spaced ∙ ap (λ t. 32 ∷ t) lettered) ∙ fields_of-blank 32 first refl ∙ fields_first (byte_of letter) value plain
    ∙ ap (λ t. before_first is_blank first ∷ fields_of t) later in
    goes_on (with_field kind) (stood, parts) (before_first is_blank first) (fields_of rest)
    (each_piece (with_field kind) (stood, parts) (fields_of text)) (also stood letter, parts)
    (ap (each_piece (with_field kind) (stood, parts)) (sym fields)) step where
      letter_filled : (letter : Letter) → is_blank (byte_of letter) ≡ false
      letter_filled letter = elim letter as (λ l. is_blank (byte_of l) ≡ false) [
        | Version ↦ refl
        | Visible ↦ refl
        | Changeset ↦ refl
        | Time ↦ refl
        | UserId ↦ refl
        | User ↦ refl
        | Tags ↦ refl
        | Lon ↦ refl
        | Lat
            ↦ refl
        | Nodes ↦ refl
        | Members ↦ refl
      ]
