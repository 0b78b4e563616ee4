-- The faults of texts and of the items of lists: what reading refuses has this fault, and what has it is refused so.
use Rattle.std.proofs.Common.{◌≡◌, ℕ, true, false, cond, ◌⊎◌, inl, inr, List, [], ◌∷◌, ◌++◌, Option, None, Some, Result, Ok, Err, refl, sym}
use Rattle.std.proofs.Common.{◌∙◌, ap, subst, arith, map}
use Rattle.std.specs.List.{slice_split, AllByRecursion}
use Rattle.std.specs.Option.{is_some}
use Rattle.std.specs.Str.{IsUtf8, chars}
use Rattle.std.specs.Char.{encode_utf8}
use Rattle.std.specs.Ordering.{nat_cmp, eq_by_cmp}
use Rattle.std.specs.Cmp.Lexicographic.{slice_cmp, nat_list_cmp_total}
use Rattle.std.specs.FinMap as finite
use Rattle.std.proofs.lemmas.Bool.{cases_Bool}
use Rattle.osm_base.specs.declared.values.key.Kind.{Kind}
use Rattle.osm_base.specs.declared.values.object.Member.{Member}
use Rattle.osm_base.specs.values.Key.{KeyOf}
use Rattle.osm_base.specs.values.Tags.{TagMap}
use Rattle.opl_object.specs.declared.why.Why.{Why}
use Rattle.opl_object.specs.declared.why.Why.TheVariants as causes
use Rattle.opl_object.specs.Faults.{IsAmong, SpellsNoText, FirstFault, HaveOwnKeys, PairFault, TagFault, RoleFault, NumberFault, FrontFault}
use Rattle.opl_object.specs.Faults.{MemberFault, NodeFault, AreAny}
use Rattle.opl_object.specs.Fields.{is, is_empty, behind}
use Rattle.opl_object.specs.Members.{kind_at, with_role, member_of, members_of}
use Rattle.opl_object.specs.Nodes.{numbered, node_of, nodes_of}
use Rattle.opl_object.specs.Spelling.{SpellsText, SpellsTag, SpellsNode, SpellsMember, kind_byte}
use Rattle.opl_object.specs.Tags.{with_tag, with_pair, with_piece, tags_of}
use Rattle.opl_object.specs.Text.{is_plain, escaped, resolved, bytes_of, text_of}
use Rattle.opl_object.specs.Why.{◌>>=◌, each_piece, given}
use Rattle.opl_object.proofs.FirstFaults.{err_is, no_err, then_err, taken_err, all_front, all_at, stops_at, stops_again}
use Rattle.opl_object.proofs.SpelledLists.{utf8_sides, behind_is, comma-ascii, step, each_spells, each_again, node_spells, node_again}
use Rattle.opl_object.proofs.SpelledLists.{kind_at_is, kind_small, member_spells, member_again}
use Rattle.opl_object.proofs.SpelledNumbers.{cut_cases, numbered_spells}
use Rattle.opl_object.proofs.SpelledTags.{same_key, key_itself, inserted, pieces_add, pieces_again, empty_new}
use Rattle.opl_object.proofs.SpelledTexts.{split_utf8, text_spells, text_again}

-- ---- texts

-- a text, or that it has an escape or a character that it may not have
record IsTextOrNone {A : Type 0} (read : Result A Why) : Type 0 where
  pub only : (why : Why) → read ≡ Err why → why ≡ causes.Escape

some_text : {A : Type 0} (x : A) → IsTextOrNone (Ok x)
some_text x = record { only = λ why e. absurd (no_err x why e) }

no_text : {A : Type 0} → IsTextOrNone {A = A} (Err causes.Escape)
no_text = record { only = λ why e. err_is causes.Escape why e }

text_then : {A B : Type 0} (read : Result A Why) (next : A → Result B Why) → IsTextOrNone read → ((x : A) → IsTextOrNone (next x))
    → IsTextOrNone (read >>= next)
text_then (Ok x) next here later = later x
text_then {A = A} (Err cause) next here later = record { only = λ why e. err_is cause why e ∙ here.only cause refl }

text_choice : {A : Type 0} (test : _) (read : Result A Why) → IsTextOrNone read → IsTextOrNone (cond test read (Err causes.Escape))
text_choice true read here = here
text_choice false read here = no_text

escaped_text : (digits : List ℕ) → IsTextOrNone (escaped digits)
unfolding escaped
escaped_text digits = text_choice _ (Ok _) (some_text _)

resolved_text : (text : List ℕ) (pieces : List (List ℕ)) → IsTextOrNone (resolved text pieces)
unfolding resolved
resolved_text text [] = no_text
resolved_text text (plain ∷ []) = text_choice (is_plain plain) (Ok (text ++ plain)) (some_text (text ++ plain))
resolved_text text (plain ∷ digits ∷ pieces) =
    text_choice (is_plain plain) (escaped digits >>= λ code. resolved ((text ++ plain) ++ encode_utf8 code) pieces)
    (text_then (escaped digits) (λ code. resolved ((text ++ plain) ++ encode_utf8 code) pieces) (escaped_text digits)
    (λ code. resolved_text ((text ++ plain) ++ encode_utf8 code) pieces))

text_only : (spelled : List ℕ) → IsTextOrNone (text_of spelled)
unfolding text_of bytes_of
text_only spelled = text_then (resolved [] (slice_split (is 37) spelled)) (λ bytes. Ok (chars bytes))
    (resolved_text [] (slice_split (is 37) spelled)) (λ bytes. some_text (chars bytes))

pub text_fault : (spelled : List ℕ) (why : Why) → text_of spelled ≡ Err why → SpellsNoText spelled × (why ≡ causes.Escape)
text_fault spelled why e = (λ text s. no_err text why (sym (text_again spelled text s) ∙ e), (text_only spelled).only why e)

refused_text : (spelled : List ℕ) (read : Result (List ℕ) Why) → text_of spelled ≡ read → IsUtf8 spelled → SpellsNoText spelled
    → read ≡ Err causes.Escape
refused_text spelled (Ok text) e utf8 none = absurd (none text (text_spells spelled text utf8 e))
refused_text spelled (Err why) e utf8 none = ap (λ cause. Err cause) ((text_only spelled).only why e)

pub text_fault_again : (spelled : List ℕ) → IsUtf8 spelled → SpellsNoText spelled → text_of spelled ≡ Err causes.Escape
text_fault_again spelled utf8 none = refused_text spelled (text_of spelled) refl utf8 none

-- ---- keys that stand

insert_holds : (tags : TagMap) (key value other : List ℕ) → (is_some (finite.get tags other) ≡ true) ⊎ (other ≡ key)
    → is_some (finite.get (finite.insert tags key value) other) ≡ true
insert_holds tags key value other h = ap is_some (finite.get-insert nat_list_cmp_total tags key value other) ∙ held h where
  held : (is_some (finite.get tags other) ≡ true) ⊎ (other ≡ key)
      → is_some (cond (eq_by_cmp (slice_cmp nat_cmp) other key) (Some value) (finite.get tags other)) ≡ true
  held (inl there) = elim (cases_Bool (eq_by_cmp (slice_cmp nat_cmp) other key)) [
    | inl same ↦ rw same refl
    | inr apart ↦ rw apart there
  ]
  held (inr same) = ap (λ test. is_some (cond test (Some value) (finite.get tags other)))
      (ap (λ k. eq_by_cmp (slice_cmp nat_cmp) other k) (sym same) ∙ key_itself other)

insert_held : (tags : TagMap) (key value other : List ℕ) → is_some (finite.get (finite.insert tags key value) other) ≡ true
    → (is_some (finite.get tags other) ≡ true) ⊎ (other ≡ key)
insert_held tags key value other h =
    let read : is_some (cond (eq_by_cmp (slice_cmp nat_cmp) other key) (Some value) (finite.get tags other)) ≡ true =
    sym (ap is_some (finite.get-insert nat_list_cmp_total tags key value other)) ∙ h in
    elim (cases_Bool (eq_by_cmp (slice_cmp nat_cmp) other key)) [
      | inl same ↦ inr (same_key other key same)
      | inr apart ↦ inl (rw apart at read)
    ]

abbrev Keys : List (List ℕ × List ℕ) → List (List ℕ)
Keys pairs = map (λ tag. tag.0) pairs

-- a key that stood, or that of the next tag, stands then
next_holds : (tags : TagMap) (tag : List ℕ × List ℕ) (pairs : List (List ℕ × List ℕ)) (key : List ℕ)
    → (is_some (finite.get tags key) ≡ true) ⊎ IsAmong key (Keys (tag ∷ pairs))
    → (is_some (finite.get (finite.insert tags tag.0 tag.1) key) ≡ true) ⊎ IsAmong key (Keys pairs)
next_holds tags tag pairs key (inl there) = inl (insert_holds tags tag.0 tag.1 key (inl there))
next_holds tags tag pairs key (inr (inl same)) = inl (insert_holds tags tag.0 tag.1 key (inr same))
next_holds tags tag pairs key (inr (inr later)) = inr later

key_holds : (tags : TagMap) (pairs : List (List ℕ × List ℕ)) (key : List ℕ)
    → (is_some (finite.get tags key) ≡ true) ⊎ IsAmong key (Keys pairs) → is_some (finite.get (inserted tags pairs) key) ≡ true
key_holds tags [] key (inl there) = there
key_holds tags [] key (inr among) = absurd among
key_holds tags (tag ∷ pairs) key h = key_holds (finite.insert tags tag.0 tag.1) pairs key (next_holds tags tag pairs key h)

next_held : (tags : TagMap) (tag : List ℕ × List ℕ) (pairs : List (List ℕ × List ℕ)) (key : List ℕ)
    → (is_some (finite.get (finite.insert tags tag.0 tag.1) key) ≡ true) ⊎ IsAmong key (Keys pairs)
    → (is_some (finite.get tags key) ≡ true) ⊎ IsAmong key (Keys (tag ∷ pairs))
next_held tags tag pairs key (inl there) = elim (insert_held tags tag.0 tag.1 key there) [
  | inl held ↦ inl held
  | inr same ↦ inr (inl same)
]
next_held tags tag pairs key (inr later) = inr (inr later)

key_held : (tags : TagMap) (pairs : List (List ℕ × List ℕ)) (key : List ℕ) → is_some (finite.get (inserted tags pairs) key) ≡ true
    → (is_some (finite.get tags key) ≡ true) ⊎ IsAmong key (Keys pairs)
key_held tags [] key h = inl h
key_held tags (tag ∷ pairs) key h = next_held tags tag pairs key (key_held (finite.insert tags tag.0 tag.1) pairs key h)

abbrev empty : TagMap
empty = finite.empty

none_there : (key : List ℕ) → is_some (finite.get empty key) ≡ false
none_there key = ap is_some (finite.get-empty (slice_cmp nat_cmp) key)

-- a key is there exactly where it is among those that were added
stands_among : (pairs : List (List ℕ × List ℕ)) (key : List ℕ) → is_some (finite.get (inserted empty pairs) key) ≡ true
    → IsAmong key (Keys pairs)
stands_among pairs key h = elim (key_held empty pairs key h) [
  | inl there ↦ absurd (let wrong : true ≡ false = sym there ∙ none_there key in cc)
  | inr among ↦ among
]

-- ---- tags

module _ (pairs : List (List ℕ × List ℕ)) (key value : List ℕ) where
  abbrev One : Why → Type 0
  One why = PairFault pairs (key, Some value) why

  added_fault : (name text : List ℕ) (why : Why) → SpellsText key name → SpellsText value text
      → with_tag (inserted empty pairs) name text ≡ Err why → One why
  added_fault name text why n t e = elim (cases_Bool (is_some (finite.get (inserted empty pairs) name))) [
    | inl there ↦ inr (name, text, n, t, stands_among pairs name there, err_is causes.RepeatedKey why (rw there at e))
    | inr absent ↦ absurd (no_err (finite.insert (inserted empty pairs) name text) why (rw absent at e))
  ]

  texts_fault : (why : Why) (name text : Result (List ℕ) Why) → IsUtf8 key → IsUtf8 value → text_of key ≡ name → text_of value ≡ text
      → (name >>= λ name. text >>= λ text. with_tag (inserted empty pairs) name text) ≡ Err why → One why
  texts_fault why (Err cause) text key_utf8 value_utf8 name_is text_is e =
      let fault = text_fault key cause name_is in inl (inl fault.0, err_is cause why e ∙ fault.1)
  texts_fault why (Ok name) (Err cause) key_utf8 value_utf8 name_is text_is e =
      let fault = text_fault value cause text_is in inl (inr fault.0, err_is cause why e ∙ fault.1)
  texts_fault why (Ok name) (Ok text) key_utf8 value_utf8 name_is text_is e =
      added_fault name text why (text_spells key name key_utf8 name_is) (text_spells value text value_utf8 text_is) e

  value_refused : (name : Result (List ℕ) Why) → text_of key ≡ name → IsUtf8 value → SpellsNoText value
      → (name >>= λ name. text_of value >>= λ text. with_tag (inserted empty pairs) name text) ≡ Err causes.Escape
  value_refused (Ok name) is utf8 none = ap (λ r. r >>= λ text. with_tag (inserted empty pairs) name text)
      (text_fault_again value utf8 none)
  value_refused (Err cause) is utf8 none = ap (λ cause. Err cause) (text_fault key cause is).1

  texts_fault_again : (why : Why) → IsUtf8 key → IsUtf8 value → One why → with_pair (inserted empty pairs) (key, Some value) ≡ Err why
  texts_fault_again why key_utf8 value_utf8 (inl (inl none, cause)) =
      ap (λ r. r >>= λ name. text_of value >>= λ text. with_tag (inserted empty pairs) name text) (text_fault_again key key_utf8 none)
      ∙ ap (λ cause. Err cause) (sym cause)
  texts_fault_again why key_utf8 value_utf8 (inl (inr none, cause)) =
      value_refused (text_of key) refl value_utf8 none ∙ ap (λ cause. Err cause) (sym cause)
  texts_fault_again why key_utf8 value_utf8 (inr repeated) =
      let there : is_some (finite.get (inserted empty pairs) repeated.0) ≡ true = key_holds empty pairs repeated.0 (inr repeated.4) in
      ap (λ r. r >>= λ name. text_of value >>= λ text. with_tag (inserted empty pairs) name text) (text_again key repeated.0 repeated.2)
      ∙ ap (λ r. r >>= λ text. with_tag (inserted empty pairs) repeated.0 text) (text_again value repeated.1 repeated.3)
      ∙ ap (λ test. cond test (Err causes.RepeatedKey) (Ok (finite.insert (inserted empty pairs) repeated.0 repeated.1))) there
      ∙ ap (λ cause. Err cause) (sym repeated.5)

pair_fault : (pairs : List (List ℕ × List ℕ)) (piece : List ℕ) (why : Why) → IsUtf8 piece
    → with_piece (inserted empty pairs) piece ≡ Err why → TagFault pairs piece why
unfolding with_piece
pair_fault pairs piece why utf8 e = elim (cut_cases 61 piece) [
  | inl whole ↦ (
      let read : with_pair (inserted empty pairs) (piece, None) ≡ Err why = ap (with_pair (inserted empty pairs)) (sym whole) ∙ e in
      subst (λ (cut : List ℕ × Option (List ℕ)). PairFault pairs cut why) (sym whole) (err_is causes.Tag why read))
  | inr cut ↦ (
      let read : with_pair (inserted empty pairs) (cut.0, Some cut.1) ≡ Err why =
      ap (with_pair (inserted empty pairs)) (sym cut.2.is) ∙ e in
      let sides = utf8_sides cut.0 cut.1 61 (omega arith) (subst IsUtf8 cut.2.form utf8) in
      subst (λ (parts : List ℕ × Option (List ℕ)). PairFault pairs parts why) (sym cut.2.is)
      (texts_fault pairs cut.0 cut.1 why (text_of cut.0) (text_of cut.1) sides.0 sides.1 refl refl read))
]

pair_fault_again : (pairs : List (List ℕ × List ℕ)) (piece : List ℕ) (why : Why) → IsUtf8 piece → TagFault pairs piece why
    → with_piece (inserted empty pairs) piece ≡ Err why
unfolding with_piece
pair_fault_again pairs piece why utf8 f = elim (cut_cases 61 piece) [
  | inl whole ↦ (
      let cause : why ≡ causes.Tag = subst (λ (cut : List ℕ × Option (List ℕ)). PairFault pairs cut why) whole f in
      ap (with_pair (inserted empty pairs)) whole ∙ ap (λ cause. Err cause) (sym cause))
  | inr cut ↦ (
      let fault : PairFault pairs (cut.0, Some cut.1) why =
      subst (λ (parts : List ℕ × Option (List ℕ)). PairFault pairs parts why) cut.2.is f in
      let sides = utf8_sides cut.0 cut.1 61 (omega arith) (subst IsUtf8 cut.2.form utf8) in
      ap (with_pair (inserted empty pairs)) cut.2.is ∙ texts_fault_again pairs cut.0 cut.1 why sides.0 sides.1 fault)
]

abbrev TagsFault : List ℕ → Why → Type 0
TagsFault text why = (is_empty text ≡ false) × FirstFault SpellsTag HaveOwnKeys TagFault (slice_split (is 44) text) why

pub tags_fault : (text : List ℕ) (why : Why) → IsUtf8 text → tags_of text ≡ Err why → TagsFault text why
unfolding tags_of
tags_fault text why utf8 e =
    let some = taken_err (is_empty text) empty (each_piece with_piece empty (slice_split (is 44) text)) why e in
    let all : AllByRecursion IsUtf8 (slice_split (is 44) text) = split_utf8 (is 44) text comma-ascii utf8 in
    let stop = stops_at with_piece empty (slice_split (is 44) text) why some.1 in
    let all_parts = subst (AllByRecursion IsUtf8) stop.form all in
    let added = pieces_add empty stop.before stop.state (all_front IsUtf8 stop.before (stop.piece ∷ stop.after) all_parts) stop.read in
    let read : with_piece (inserted empty added.pairs) stop.piece ≡ Err why =
    ap (λ tags. with_piece tags stop.piece) (sym added.is) ∙ stop.fault in (
      some.0,
      record {
        before = stop.before;
        items = added.pairs;
        piece = stop.piece;
        after = stop.after;
        form = stop.form;
        spelled = added.spelled;
        stand = added.distinct;
        fault = pair_fault added.pairs stop.piece why (all_at IsUtf8 stop.before stop.piece stop.after all_parts) read;
      },
    )

pub tags_fault_again : (text : List ℕ) (why : Why) → IsUtf8 text → TagsFault text why → tags_of text ≡ Err why
unfolding tags_of
tags_fault_again text why utf8 f =
    let all_parts = subst (AllByRecursion IsUtf8) f.1.form (split_utf8 (is 44) text comma-ascii utf8) in
    let read = pieces_again empty f.1.before f.1.items f.1.spelled (empty_new (Keys f.1.items)) f.1.stand in
    let fault = pair_fault_again f.1.items f.1.piece why (all_at IsUtf8 f.1.before f.1.piece f.1.after all_parts) f.1.fault in
    ap (λ test. cond test (Ok empty) (each_piece with_piece empty (slice_split (is 44) text))) f.0
    ∙ ap (each_piece with_piece empty) f.1.form
    ∙ stops_again with_piece empty f.1.before f.1.piece f.1.after (inserted empty f.1.items) why read fault

-- ---- lists whose items stand for themselves

module _ {A : Type 0} (Spell : List ℕ → A → Type 0) (read : List ℕ → Result A Why) (Fault : List A → List ℕ → Why → Type 0) where
  abbrev pub ListFault : List ℕ → Why → Type 0
  ListFault text why = (is_empty text ≡ false) × FirstFault Spell AreAny Fault (slice_split (is 44) text) why

  pub list_fault : ((piece : List ℕ) (item : A) → IsUtf8 piece → read piece ≡ Ok item → Spell piece item)
      → ((items : List A) (piece : List ℕ) (why : Why) → read piece ≡ Err why → Fault items piece why)
      → (text : List ℕ) (why : Why) → IsUtf8 text
      → cond (is_empty text) (Ok []) (each_piece (step Spell read) [] (slice_split (is 44) text)) ≡ Err why → ListFault text why
  list_fault spells faults text why utf8 e =
      let some = taken_err (is_empty text) [] (each_piece (step Spell read) [] (slice_split (is 44) text)) why e in
      let stop = stops_at (step Spell read) [] (slice_split (is 44) text) why some.1 in
      let all_parts = subst (AllByRecursion IsUtf8) stop.form (split_utf8 (is 44) text comma-ascii utf8) in
      let found = each_spells Spell read spells [] stop.before stop.state
      (all_front IsUtf8 stop.before (stop.piece ∷ stop.after) all_parts) stop.read in (
        some.0,
        record {
          before = stop.before;
          items = found.0;
          piece = stop.piece;
          after = stop.after;
          form = stop.form;
          spelled = found.2;
          stand = tt;
          fault = faults found.0 stop.piece why (then_err (read stop.piece) (λ item. stop.state ++ item ∷ []) why stop.fault);
        },
      )

  pub list_fault_again : ((piece : List ℕ) (item : A) → Spell piece item → read piece ≡ Ok item)
      → ((items : List A) (piece : List ℕ) (why : Why) → IsUtf8 piece → Fault items piece why → read piece ≡ Err why)
      → (text : List ℕ) (why : Why) → IsUtf8 text → ListFault text why
      → cond (is_empty text) (Ok []) (each_piece (step Spell read) [] (slice_split (is 44) text)) ≡ Err why
  list_fault_again again faults text why utf8 f =
      let all_parts = subst (AllByRecursion IsUtf8) f.1.form (split_utf8 (is 44) text comma-ascii utf8) in
      let items = each_again Spell read again [] f.1.before f.1.items f.1.spelled in
      let fault = faults f.1.items f.1.piece why (all_at IsUtf8 f.1.before f.1.piece f.1.after all_parts) f.1.fault in
      ap (λ test. cond test (Ok []) (each_piece (step Spell read) [] (slice_split (is 44) text))) f.0
      ∙ ap (each_piece (step Spell read) []) f.1.form
      ∙ stops_again (step Spell read) [] f.1.before f.1.piece f.1.after f.1.items why items
      (ap (λ r. r >>= λ item. Ok (f.1.items ++ item ∷ [])) fault)

-- ---- node references

pub nodes_fault : (text : List ℕ) (why : Why) → IsUtf8 text → nodes_of text ≡ Err why → ListFault SpellsNode node_of NodeFault text why
unfolding nodes_of
nodes_fault text why utf8 e = list_fault SpellsNode node_of NodeFault (λ piece id utf8 e. node_spells piece id e)
    (λ nodes piece why e. e) text why utf8 e

pub nodes_fault_again : (text : List ℕ) (why : Why) → IsUtf8 text → ListFault SpellsNode node_of NodeFault text why
    → nodes_of text ≡ Err why
unfolding nodes_of
nodes_fault_again text why utf8 f = list_fault_again SpellsNode node_of NodeFault node_again (λ nodes piece why utf8 f. f) text why utf8 f

-- ---- members

abbrev with_text : KeyOf → List ℕ → Result Member Why
with_text key role = Ok (record { key = key; role = role })

role_fault : (key : KeyOf) (why : Why) (found : Option (List ℕ))
    → (given causes.Member found >>= λ spelled. text_of spelled >>= λ role. with_text key role) ≡ Err why → RoleFault found why
role_fault key why None e = err_is {A = Member} causes.Member why e
role_fault key why (Some role) e =
    let made : List ℕ → Member = λ text. record { key = key; role = text } in
    text_fault role why (then_err (text_of role) made why e)

number_fault : (kind : Kind) (why : Why) (found : Result (ℕ × List ℕ) Why)
    → (found >>= λ found. with_role (record { kind = kind; id = found.0 }) found.1) ≡ Err why → NumberFault found why
number_fault kind why (Err cause) e = err_is {A = Member} cause why e
number_fault kind why (Ok found) e = role_fault (record { kind = kind; id = found.0 }) why (behind 64 found.1) e

front_fault : (why : Why) (found : Option (Kind × List ℕ))
    → (given causes.Member found >>= λ front. numbered front.1 >>= λ found. with_role (record { kind = front.0; id = found.0 }) found.1)
    ≡ Err why → FrontFault found why
front_fault why None e = err_is {A = Member} causes.Member why e
front_fault why (Some front) e = number_fault front.0 why (numbered front.1) e

member_fault : (members : List Member) (piece : List ℕ) (why : Why) → member_of piece ≡ Err why → MemberFault members piece why
unfolding member_of
member_fault members piece why e = front_fault why (kind_at piece) e

role_fault_again : (key : KeyOf) (text : List ℕ) (why : Why) (found : Option (List ℕ)) → behind 64 text ≡ found → IsUtf8 text
    → RoleFault found why
    → (given causes.Member found >>= λ spelled. text_of spelled >>= λ role. with_text key role) ≡ Err why
role_fault_again key text why None found_is utf8 f = ap (λ cause. Err cause) (sym f)
role_fault_again key text why (Some role) found_is utf8 f =
    let role_utf8 : IsUtf8 role = (utf8_sides [] role 64 (omega arith)
    (subst IsUtf8 (behind_is 64 text role (omega arith) found_is) utf8)).1 in
    ap (λ r. r >>= λ role. with_text key role) (text_fault_again role role_utf8 f.0) ∙ ap (λ cause. Err cause) (sym f.1)

number_fault_again : (kind : Kind) (text : List ℕ) (why : Why) (found : Result (ℕ × List ℕ) Why) → numbered text ≡ found → IsUtf8 text
    → NumberFault found why
    → (found >>= λ found. with_role (record { kind = kind; id = found.0 }) found.1) ≡ Err why
number_fault_again kind text why (Err cause) is utf8 f = ap (λ cause. Err cause) (sym f)
number_fault_again kind text why (Ok found) is utf8 f =
    role_fault_again (record { kind = kind; id = found.0 }) found.1 why (behind 64 found.1) refl
    ((numbered_spells text found is).utf8 utf8) f

front_fault_again : (piece : List ℕ) (why : Why) (found : Option (Kind × List ℕ)) → kind_at piece ≡ found → IsUtf8 piece
    → FrontFault found why
    → (given causes.Member found >>= λ front. numbered front.1 >>= λ found. with_role (record { kind = front.0; id = found.0 }) found.1)
    ≡ Err why
front_fault_again piece why None is utf8 f = ap (λ cause. Err cause) (sym f)
front_fault_again piece why (Some front) is utf8 f =
    let rest_utf8 : IsUtf8 front.1 = (utf8_sides [] front.1 (kind_byte front.0) (kind_small front.0)
    (subst IsUtf8 (kind_at_is piece front is) utf8)).1 in
    number_fault_again front.0 front.1 why (numbered front.1) refl rest_utf8 f

member_fault_again : (members : List Member) (piece : List ℕ) (why : Why) → IsUtf8 piece → MemberFault members piece why
    → member_of piece ≡ Err why
unfolding member_of
member_fault_again members piece why utf8 f = front_fault_again piece why (kind_at piece) refl utf8 f

pub members_fault : (text : List ℕ) (why : Why) → IsUtf8 text → members_of text ≡ Err why
    → ListFault SpellsMember member_of MemberFault text why
unfolding members_of
members_fault text why utf8 e = list_fault SpellsMember member_of MemberFault member_spells member_fault text why utf8 e

pub members_fault_again : (text : List ℕ) (why : Why) → IsUtf8 text → ListFault SpellsMember member_of MemberFault text why
    → members_of text ≡ Err why
unfolding members_of
members_fault_again text why utf8 f = list_fault_again SpellsMember member_of MemberFault member_again member_fault_again text why utf8 f
