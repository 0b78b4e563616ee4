-- The faults of fields: what reading refuses has this fault, and what has it is refused so.
use Rattle.std.proofs.Common.{◌≡◌, ◌≢◌, ℕ, Bool, true, false, cond, ◌⊎◌, inl, inr, eqb, eq-eqb, List, [], ◌∷◌, ◌++◌, get_or, Option, None}
use Rattle.std.proofs.Common.{Some, Result, Ok, Err, refl, sym, ◌∙◌, ap, subst, map}
use Rattle.std.specs.Prelude.{ℤ, nat_abs}
use Rattle.std.specs.List.{AllByRecursion}
use Rattle.std.specs.Str.{IsUtf8}
use Rattle.std.proofs.lemmas.Bool.{cases_Bool, eqb-true, false_from_ne_true}
use Rattle.osm_base.specs.declared.values.key.Kind.{Kind}
use Rattle.osm_base.specs.declared.values.object.Member.{Member}
use Rattle.osm_base.specs.declared.values.place.TheConstants.{MAX_LON, MAX_LAT}
use Rattle.osm_base.specs.values.Tags.{TagMap}
use Rattle.opl_object.specs.declared.letter.Letter.{Letter}
use Rattle.opl_object.specs.declared.letter.Letter.TheVariants.{Version, Visible, Changeset, Time, UserId, User, Tags, Lon, Lat, Nodes}
use Rattle.opl_object.specs.declared.letter.Letter.TheVariants.{Members}
use Rattle.opl_object.specs.declared.parts.Parts.{Parts}
use Rattle.opl_object.specs.declared.why.Why.{Why}
use Rattle.opl_object.specs.declared.why.Why.TheVariants as causes
use Rattle.opl_object.specs.Coordinate.{coordinate}
use Rattle.opl_object.specs.Faults.{IsAmong, ValueFault, LetterFault, FieldsFault}
use Rattle.opl_object.specs.Fields.{is_empty}
use Rattle.opl_object.specs.Letter.{letter_at, byte_of, also, none_stood}
use Rattle.opl_object.specs.Members.{members_of}
use Rattle.opl_object.specs.Nodes.{nodes_of}
use Rattle.opl_object.specs.Number.{is_whole, is_time}
use Rattle.opl_object.specs.Parts.{nothing, checked, with_visible, with_value, new_field, with_field, parts_of}
use Rattle.opl_object.specs.Spells.{Belongs, field_text}
use Rattle.opl_object.specs.Tags.{tags_of}
use Rattle.opl_object.specs.Text.{text_of}
use Rattle.opl_object.specs.Why.{◌>>=◌, each_piece, given}
use Rattle.opl_object.proofs.FaultsOfItems.{text_fault, text_fault_again, tags_fault, tags_fault_again, nodes_fault, nodes_fault_again}
use Rattle.opl_object.proofs.FaultsOfItems.{members_fault, members_fault_again}
use Rattle.opl_object.proofs.FirstFaults.{err_is, then_err, chosen_err, taken_err, all_front, all_at, stops_at, stops_again}
use Rattle.opl_object.proofs.Letters.{byte_of_small}
use Rattle.opl_object.proofs.SpelledFields.{same_letter, letter_at_is, letter_at_again, not_stood, parts_said, parts_again}
use Rattle.opl_object.proofs.SpelledLists.{utf8_sides}
use Rattle.opl_object.proofs.Steps.{bind_ok, ok_is}

-- ---- values

visible_fault : (value : List ℕ) (p : Parts) (why : Why) → with_visible value p ≡ Err why
    → (value ≢ 86 ∷ []) × (value ≢ 68 ∷ []) × (why ≡ causes.Field)
visible_fault [] p why e = (λ same. cc, λ same. cc, err_is {A = Parts} causes.Field why e)
visible_fault (byte ∷ []) p why e =
    let gone : Parts = record p { deleted = true } in
    let shown = taken_err (eqb byte 86) p (cond (eqb byte 68) (Ok gone) (Err causes.Field)) why e in
    let kept = chosen_err (eqb byte 68) gone causes.Field why shown.1 in (
      λ same. let wrong : true ≡ false = sym (eq-eqb byte 86 (ap (λ bytes. get_or bytes 0 0) same)) ∙ shown.0 in cc,
      λ same. let wrong : true ≡ false = sym (eq-eqb byte 68 (ap (λ bytes. get_or bytes 0 0) same)) ∙ kept.0 in cc,
      kept.1,
    )
visible_fault (byte ∷ next ∷ rest) p why e = (λ same. cc, λ same. cc, err_is {A = Parts} causes.Field why e)

visible_fault_again : (value : List ℕ) (p : Parts) (why : Why) → (value ≢ 86 ∷ []) × (value ≢ 68 ∷ []) × (why ≡ causes.Field)
    → with_visible value p ≡ Err why
visible_fault_again [] p why f = ap (λ cause. Err cause) (sym f.2)
visible_fault_again (byte ∷ []) p why f =
    let gone : Parts = record p { deleted = true } in
    let not_shown : eqb byte 86 ≡ false = false_from_ne_true _ (λ same. f.0 (ap (λ b. b ∷ []) (eqb-true byte 86 same))) in
    let not_gone : eqb byte 68 ≡ false = false_from_ne_true _ (λ same. f.1 (ap (λ b. b ∷ []) (eqb-true byte 68 same))) in
    ap (λ test. cond test (Ok p) (cond (eqb byte 68) (Ok gone) (Err causes.Field))) not_shown
    ∙ ap (λ test. cond test (Ok gone) (Err causes.Field)) not_gone
    ∙ ap (λ cause. Err cause) (sym f.2)
visible_fault_again (byte ∷ next ∷ rest) p why f = ap (λ cause. Err cause) (sym f.2)

value_fault : (letter : Letter) (value : List ℕ) (p : Parts) (why : Why) → IsUtf8 value → with_value letter value p ≡ Err why
    → ValueFault letter value why
unfolding with_value
value_fault Version value p why utf8 e = chosen_err (is_whole value) p causes.Number why e
value_fault Visible value p why utf8 e = visible_fault value p why e
value_fault Changeset value p why utf8 e = chosen_err (is_whole value) p causes.Number why e
value_fault Time value p why utf8 e = chosen_err (is_time value) p causes.Number why e
value_fault UserId value p why utf8 e = chosen_err (is_whole value) p causes.Number why e
value_fault User value p why utf8 e = text_fault value why (then_err (text_of value) (λ name. p) why e)
value_fault Tags value p why utf8 e =
    let made : TagMap → Parts = λ tags. record p { tags = tags } in
    tags_fault value why utf8 (then_err (tags_of value) made why e)
value_fault Lon value p why utf8 e =
    let made : ℤ → Parts = λ lon. record p { lon = Some lon } in
    let some = taken_err (is_empty value) p (coordinate (nat_abs MAX_LON) value >>= λ lon. Ok (made lon)) why e in
    (some.0, then_err (coordinate (nat_abs MAX_LON) value) made why some.1)
value_fault Lat value p why utf8 e =
    let made : ℤ → Parts = λ lat. record p { lat = Some lat } in
    let some = taken_err (is_empty value) p (coordinate (nat_abs MAX_LAT) value >>= λ lat. Ok (made lat)) why e in
    (some.0, then_err (coordinate (nat_abs MAX_LAT) value) made why some.1)
value_fault Nodes value p why utf8 e =
    let made : List ℕ → Parts = λ nodes. record p { nodes = nodes } in
    nodes_fault value why utf8 (then_err (nodes_of value) made why e)
value_fault Members value p why utf8 e =
    let made : List Member → Parts = λ members. record p { members = members } in
    members_fault value why utf8 (then_err (members_of value) made why e)

value_fault_again : (letter : Letter) (value : List ℕ) (p : Parts) (why : Why) → IsUtf8 value → ValueFault letter value why
    → with_value letter value p ≡ Err why
unfolding with_value
value_fault_again Version value p why utf8 f = ap (λ test. checked causes.Number test p) f.0 ∙ ap (λ cause. Err cause) (sym f.1)
value_fault_again Visible value p why utf8 f = visible_fault_again value p why f
value_fault_again Changeset value p why utf8 f = ap (λ test. checked causes.Number test p) f.0 ∙ ap (λ cause. Err cause) (sym f.1)
value_fault_again Time value p why utf8 f = ap (λ test. checked causes.Number test p) f.0 ∙ ap (λ cause. Err cause) (sym f.1)
value_fault_again UserId value p why utf8 f = ap (λ test. checked causes.Number test p) f.0 ∙ ap (λ cause. Err cause) (sym f.1)
value_fault_again User value p why utf8 f =
    ap (λ r. r >>= λ name. Ok p) (text_fault_again value utf8 f.0) ∙ ap (λ cause. Err cause) (sym f.1)
value_fault_again Tags value p why utf8 f = ap (λ r. r >>= λ tags. Ok (record p { tags = tags })) (tags_fault_again value why utf8 f)
value_fault_again Lon value p why utf8 f =
    ap (λ test. cond test (Ok p) (coordinate (nat_abs MAX_LON) value >>= λ lon. Ok (record p { lon = Some lon }))) f.0
    ∙ ap (λ r. r >>= λ lon. Ok (record p { lon = Some lon })) f.1
value_fault_again Lat value p why utf8 f =
    ap (λ test. cond test (Ok p) (coordinate (nat_abs MAX_LAT) value >>= λ lat. Ok (record p { lat = Some lat }))) f.0
    ∙ ap (λ r. r >>= λ lat. Ok (record p { lat = Some lat })) f.1
value_fault_again Nodes value p why utf8 f = ap (λ r. r >>= λ nodes. Ok (record p { nodes = nodes })) (nodes_fault_again value why utf8 f)
value_fault_again Members value p why utf8 f =
    ap (λ r. r >>= λ members. Ok (record p { members = members })) (members_fault_again value why utf8 f)

-- ---- letters that stand

abbrev Letters : List (Letter × List ℕ) → List Letter
Letters pairs = map (λ other. other.0) pairs

-- the letters that stand behind these fields
abbrev stood_with : (Letter → Bool) → List (Letter × List ℕ) → Letter → Bool
stood_with stood [] = stood
stood_with stood (field ∷ fields) = stood_with (also stood field.0) fields

also_held : (stood : Letter → Bool) (letter other : Letter) → also stood letter other ≡ true → (stood other ≡ true) ⊎ (other ≡ letter)
also_held stood letter other h = elim (cases_Bool (eqb (byte_of other) (byte_of letter))) [
  | inl same ↦ inr (same_letter other letter (eqb-true _ _ same))
  | inr apart ↦ inl (rw apart at h)
]

also_holds : (stood : Letter → Bool) (letter other : Letter) → (stood other ≡ true) ⊎ (other ≡ letter) → also stood letter other ≡ true
also_holds stood letter other (inl there) = elim (cases_Bool (eqb (byte_of other) (byte_of letter))) [
  | inl same ↦ rw same refl
  | inr apart ↦ rw apart there
]
also_holds stood letter other (inr same) = ap (λ test. cond test true (stood other)) (eq-eqb _ _ (ap byte_of same))

next_holds : (stood : Letter → Bool) (field : Letter × List ℕ) (pairs : List (Letter × List ℕ)) (letter : Letter)
    → (stood letter ≡ true) ⊎ IsAmong letter (Letters (field ∷ pairs))
    → (also stood field.0 letter ≡ true) ⊎ IsAmong letter (Letters pairs)
next_holds stood field pairs letter (inl there) = inl (also_holds stood field.0 letter (inl there))
next_holds stood field pairs letter (inr (inl same)) = inl (also_holds stood field.0 letter (inr same))
next_holds stood field pairs letter (inr (inr later)) = inr later

letter_holds : (stood : Letter → Bool) (pairs : List (Letter × List ℕ)) (letter : Letter)
    → (stood letter ≡ true) ⊎ IsAmong letter (Letters pairs) → stood_with stood pairs letter ≡ true
letter_holds stood [] letter (inl there) = there
letter_holds stood [] letter (inr among) = absurd among
letter_holds stood (field ∷ pairs) letter h = letter_holds (also stood field.0) pairs letter (next_holds stood field pairs letter h)

next_held : (stood : Letter → Bool) (field : Letter × List ℕ) (pairs : List (Letter × List ℕ)) (letter : Letter)
    → (also stood field.0 letter ≡ true) ⊎ IsAmong letter (Letters pairs)
    → (stood letter ≡ true) ⊎ IsAmong letter (Letters (field ∷ pairs))
next_held stood field pairs letter (inl there) = elim (also_held stood field.0 letter there) [
  | inl held ↦ inl held
  | inr same ↦ inr (inl same)
]
next_held stood field pairs letter (inr later) = inr (inr later)

letter_held : (stood : Letter → Bool) (pairs : List (Letter × List ℕ)) (letter : Letter) → stood_with stood pairs letter ≡ true
    → (stood letter ≡ true) ⊎ IsAmong letter (Letters pairs)
letter_held stood [] letter h = inl h
letter_held stood (field ∷ pairs) letter h = next_held stood field pairs letter (letter_held (also stood field.0) pairs letter h)

-- a letter stands exactly where it is among those of the fields
stands_among : (pairs : List (Letter × List ℕ)) (letter : Letter) → stood_with none_stood pairs letter ≡ true
    → IsAmong letter (Letters pairs)
stands_among pairs letter h = elim (letter_held none_stood pairs letter h) [
  | inl there ↦ absurd cc
  | inr among ↦ among
]

letter_stands : (kind : Kind) (stood : Letter → Bool) (p : Parts) (field : Letter × List ℕ) (next : (Letter → Bool) × Parts)
    → Belongs kind field.0
    → with_field kind (stood, p) (field_text field) ≡ Ok next → also stood field.0 ≡ next.0
letter_stands kind stood p field next belongs e =
    let read : (new_field stood field >>= λ found. with_value found.0 found.1 p >>= λ parts. Ok (also stood found.0, parts)) ≡ Ok next
    = sym (ap (λ o. given causes.Field o >>= λ front. new_field stood front >>= λ found. with_value found.0 found.1 p >>= λ parts.
    Ok (also stood found.0, parts)) (letter_at_again kind field belongs)) ∙ e in
    let found = bind_ok (new_field stood field)
    (λ found. with_value found.0 found.1 p >>= λ parts. Ok (also stood found.0, parts)) next read in
    let clear = not_stood stood field found.0 found.1 in
    let parts = bind_ok (with_value found.0.0 found.0.1 p) (λ parts. Ok (also stood found.0.0, parts)) next found.2 in
    let made : (Letter → Bool) × Parts = (also stood found.0.0, parts.0) in
    ap (λ (f : Letter × List ℕ). also stood f.0) clear.1 ∙ ap (λ (l : (Letter → Bool) × Parts). l.0) (ok_is made next parts.2)

-- the letters that stand behind fields that were read
letters_after : (kind : Kind) (stood : Letter → Bool) (p : Parts) (pairs : List (Letter × List ℕ)) (last : (Letter → Bool) × Parts)
    → AllByRecursion (λ field. Belongs kind field.0) pairs
    → each_piece (with_field kind) (stood, p) (map field_text pairs) ≡ Ok last → stood_with stood pairs ≡ last.0
unfolding each_piece
letters_after kind stood p [] last belong e = ap (λ (l : (Letter → Bool) × Parts). l.0) (ok_is (state stood p) last e) where
  state : (Letter → Bool) → Parts → (Letter → Bool) × Parts
  state s q = (s, q)
letters_after kind stood p (field ∷ pairs) last belong e =
    let next = bind_ok (with_field kind (stood, p) (field_text field))
    (λ so_far. each_piece (with_field kind) so_far (map field_text pairs)) last e in
    let one = letter_stands kind stood p field next.0 belong.0 next.1 in
    let rest : each_piece (with_field kind) (also stood field.0, next.0.1) (map field_text pairs) ≡ Ok last
    = ap (λ (s : Letter → Bool). each_piece (with_field kind) (s, next.0.1) (map field_text pairs)) one ∙ next.2 in
    letters_after kind (also stood field.0) next.0.1 pairs last belong.1 rest

-- ---- one field

module _ (kind : Kind) (before : List (Letter × List ℕ)) (p : Parts) (field : List ℕ) (why : Why) where
  abbrev value_read : Option (Letter × List ℕ) → Result ((Letter → Bool) × Parts) Why
  value_read found = given causes.Field found >>= λ front. new_field (stood_with none_stood before) front >>= λ found.
      with_value found.0 found.1 p >>= λ parts. Ok (also (stood_with none_stood before) found.0, parts)

  value_utf8 : (front : Letter × List ℕ) → letter_at kind field ≡ Some front → IsUtf8 field → IsUtf8 front.1
  value_utf8 front is utf8 = (utf8_sides [] front.1 (byte_of front.0) (byte_of_small front.0)
      (subst IsUtf8 (letter_at_is kind field front is).form utf8)).1

  found_fault : (found : Option (Letter × List ℕ)) → letter_at kind field ≡ found → IsUtf8 field → value_read found ≡ Err why
      → LetterFault before found why
  found_fault None is utf8 e = err_is {A = (Letter → Bool) × Parts} causes.Field why e
  found_fault (Some front) is utf8 e = elim (cases_Bool (stood_with none_stood before front.0)) [
    | inl there ↦ inl (stands_among before front.0 there, err_is {A = (Letter → Bool) × Parts} causes.Repeated why (rw there at e))
    | inr clear ↦ (
        let made : Parts → (Letter → Bool) × Parts = λ parts. (also (stood_with none_stood before) front.0, parts) in
        let read : (with_value front.0 front.1 p >>= λ parts. Ok (made parts)) ≡ Err why = rw clear at e in
        inr (
          λ among. let wrong : true ≡ false = sym (letter_holds none_stood before front.0 (inr among)) ∙ clear in cc,
          value_fault front.0 front.1 p why (value_utf8 front is utf8) (then_err (with_value front.0 front.1 p) made why read),
        ))
  ]

  found_fault_again : (found : Option (Letter × List ℕ)) → letter_at kind field ≡ found → IsUtf8 field → LetterFault before found why
      → value_read found ≡ Err why
  found_fault_again None is utf8 f = ap (λ cause. Err cause) (sym f)
  found_fault_again (Some front) is utf8 (inl repeated) =
      ap (λ test. cond test (Err causes.Repeated) (Ok front) >>= λ found. with_value found.0 found.1 p >>= λ parts.
      Ok (also (stood_with none_stood before) found.0, parts))
      (letter_holds none_stood before front.0 (inr repeated.0))
      ∙ ap (λ cause. Err cause) (sym repeated.1)
  found_fault_again (Some front) is utf8 (inr new) =
      let clear : stood_with none_stood before front.0 ≡ false =
      false_from_ne_true _ (λ there. new.0 (stands_among before front.0 there)) in
      ap (λ test. cond test (Err causes.Repeated) (Ok front) >>= λ found. with_value found.0 found.1 p >>= λ parts.
      Ok (also (stood_with none_stood before) found.0, parts)) clear
      ∙ ap (λ r. r >>= λ parts. Ok (also (stood_with none_stood before) front.0, parts))
      (value_fault_again front.0 front.1 p why (value_utf8 front is utf8) new.1)

  field_fault : IsUtf8 field → with_field kind (stood_with none_stood before, p) field ≡ Err why
      → LetterFault before (letter_at kind field) why
  field_fault utf8 e = found_fault (letter_at kind field) refl utf8 e

  field_fault_again : IsUtf8 field → LetterFault before (letter_at kind field) why
      → with_field kind (stood_with none_stood before, p) field ≡ Err why
  field_fault_again utf8 f = found_fault_again (letter_at kind field) refl utf8 f

-- ---- all fields

pub fields_fault : (kind : Kind) (fields : List (List ℕ)) (why : Why) → AllByRecursion IsUtf8 fields → parts_of kind fields ≡ Err why
    → FieldsFault kind fields why
unfolding parts_of
fields_fault kind fields why all e =
    let read = then_err (each_piece (with_field kind) (none_stood, nothing) fields) (λ (last : (Letter → Bool) × Parts). last.1) why e in
    let stop = stops_at (with_field kind) (none_stood, nothing) fields why read in
    let all_parts = subst (AllByRecursion IsUtf8) stop.form all in
    let front : parts_of kind stop.before ≡ Ok stop.state.1 = ap (λ r. r >>= λ last. Ok last.1) stop.read in
    let said = parts_said kind stop.before stop.state.1 (all_front IsUtf8 stop.before (stop.piece ∷ stop.after) all_parts) front in
    let again : each_piece (with_field kind) (none_stood, nothing) (map field_text said.pairs) ≡ Ok stop.state =
    ap (each_piece (with_field kind) (none_stood, nothing)) (sym said.form) ∙ stop.read in
    let letters = letters_after kind none_stood nothing said.pairs stop.state said.say.belong again in
    let refusal : with_field kind (stood_with none_stood said.pairs, stop.state.1) stop.piece ≡ Err why =
    ap (λ (s : Letter → Bool). with_field kind (s, stop.state.1) stop.piece) letters ∙ stop.fault in
    record {
      before = said.pairs;
      parts = stop.state.1;
      field = stop.piece;
      after = stop.after;
      form = stop.form ∙ ap (λ front. front ++ stop.piece ∷ stop.after) said.form;
      say = said.say;
      fault = field_fault kind said.pairs stop.state.1 stop.piece why (all_at IsUtf8 stop.before stop.piece stop.after all_parts) refusal;
    }

pub fields_fault_again : (kind : Kind) (fields : List (List ℕ)) (why : Why) → AllByRecursion IsUtf8 fields → FieldsFault kind fields why
    → parts_of kind fields ≡ Err why
unfolding parts_of
fields_fault_again kind fields why all f =
    let last = bind_ok (each_piece (with_field kind) (none_stood, nothing) (map field_text f.before)) (λ last. Ok last.1) f.parts
    (parts_again kind f.before f.parts f.say) in
    let letters = letters_after kind none_stood nothing f.before last.0 f.say.belong last.1 in
    let utf8 = all_at IsUtf8 (map field_text f.before) f.field f.after (subst (AllByRecursion IsUtf8) f.form all) in
    let refusal : with_field kind last.0 f.field ≡ Err why
    = ap (λ (s : Letter → Bool). with_field kind (s, last.0.1) f.field) (sym letters)
    ∙ field_fault_again kind f.before last.0.1 f.field why utf8 f.fault in
    ap (λ fs. each_piece (with_field kind) (none_stood, nothing) fs >>= λ last. Ok last.1) f.form
    ∙ ap (λ r. r >>= λ last. Ok last.1) (stops_again (with_field kind) (none_stood, nothing)
    (map field_text f.before) f.field f.after last.0 why last.1 refusal)
