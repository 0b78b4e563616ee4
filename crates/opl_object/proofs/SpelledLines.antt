-- Lines: what is read is spelled so, what is spelled so is read, and each line has one meaning.
use Rattle.std.proofs.Common.{◌≡◌, ℕ, Bool, true, false, cond, not, inl, inr, List, [], ◌∷◌, Option, None, Some, Result, Ok, Err, refl, sym}
use Rattle.std.proofs.Common.{◌∙◌, ap, subst, map}
use Rattle.std.specs.Prelude.{ℤ}
use Rattle.std.specs.List.{AllByRecursion, filter, slice_split}
use Rattle.std.specs.Str.{IsUtf8, is_utf8}
use Rattle.std.proofs.lemmas.Bool.{cases_Bool, false_from_ne_true}
use Rattle.std.proofs.lemmas.Str.{is_utf8-from_IsUtf8, IsUtf8-from_is_utf8}
use Rattle.osm_base.specs.declared.values.key.Kind.{Kind}
use Rattle.osm_base.specs.declared.values.key.Kind.TheVariants as kinds
use Rattle.osm_base.specs.declared.values.object.Entry.{Entry}
use Rattle.osm_base.specs.declared.values.object.Object.{Object}
use Rattle.osm_base.specs.declared.values.object.Object.TheVariants as objects
use Rattle.osm_base.specs.values.Key.{KeyOf}
use Rattle.osm_base.specs.values.Place.{PlaceOf}
use Rattle.opl_object.specs.declared.parts.Parts.{Parts}
use Rattle.opl_object.specs.declared.why.Why.{Why}
use Rattle.opl_object.specs.declared.why.Why.TheVariants as causes
use Rattle.opl_object.specs.Fields.{is_blank, is_empty, fields_of}
use Rattle.opl_object.specs.Line.{IsSkipped, is_skipped, utf8_of, key_of, place_of, object_of, entry_of, entry_from, reading}
use Rattle.opl_object.specs.Members.{kind_at}
use Rattle.opl_object.specs.Number.{id_of}
use Rattle.opl_object.specs.Parts.{parts_of}
use Rattle.opl_object.specs.Spelling.{SpellsId, kind_byte}
use Rattle.opl_object.specs.Spells.{field_text, IsPlace, IsObject, IsObjectOf, Spells}
use Rattle.opl_object.specs.Why.{◌>>=◌, given}
use Rattle.opl_object.proofs.Cuts.{blank-ascii}
use Rattle.opl_object.proofs.SpelledFields.{parts_said, parts_again}
use Rattle.opl_object.proofs.SpelledLists.{kind_at_is, kind_at_again}
use Rattle.opl_object.proofs.SpelledNumbers.{id_spells, id_again}
use Rattle.opl_object.proofs.SpelledTexts.{split_utf8}
use Rattle.opl_object.proofs.Steps.{bind_ok, given_ok, chosen, ok_is, some_is}

-- ---- what is read is spelled

kept_utf8 : (pieces : List (List ℕ)) → AllByRecursion IsUtf8 pieces → AllByRecursion IsUtf8 (filter (λ piece. not (is_empty piece)) pieces)
kept_utf8 [] all = tt
kept_utf8 (piece ∷ pieces) all = elim (cases_Bool (is_empty piece)) [
  | inl none ↦ rw none (kept_utf8 pieces all.1)
  | inr some ↦ rw some (all.0, kept_utf8 pieces all.1)
]

pub fields_utf8 : (line : List ℕ) → IsUtf8 line → AllByRecursion IsUtf8 (fields_of line)
unfolding fields_of
fields_utf8 line utf8 = kept_utf8 (slice_split is_blank line) (split_utf8 is_blank line blank-ascii utf8)

pub record IsKey (field : List ℕ) (key : KeyOf) : Type 0 where
  pub digits : List ℕ
  pub form : field ≡ kind_byte key.kind ∷ digits
  pub number : SpellsId digits key.id

pub key_spells : (field : List ℕ) (key : KeyOf) → key_of field ≡ Ok key → IsKey field key
unfolding key_of
key_spells field key e =
    let front = bind_ok (given causes.Kind (kind_at field))
    (λ front. id_of front.1 >>= λ id. Ok (record { kind = front.0; id = id })) key e in
    let id = bind_ok (id_of front.0.1) (λ id. Ok (record { kind = front.0.0; id = id })) key front.2 in
    let made : KeyOf = record { kind = front.0.0; id = id.0 } in
    subst (IsKey field) (ok_is made key id.2)
    (record {
      digits = front.0.1;
      form = kind_at_is field front.0 (given_ok causes.Kind (kind_at field) front.0 front.1);
      number =
          id_spells front.0.1 id.0 id.1;
    })

place_is : (lon lat : Option ℤ) (place : Option PlaceOf) → place_of lon lat ≡ Ok place → IsPlace lon lat place
place_is None None place e = sym (ok_is None place e)
place_is (Some lon) (Some lat) place e = sym (ok_is (Some (record { lon = lon; lat = lat })) place e)
place_is None (Some lat) place e = absurd cc
place_is (Some lon) None place e = absurd cc

object_is : (kind : Kind) (parts : Parts) (object : Object) → object_of kind parts ≡ Ok object → IsObject kind parts object
object_is kinds.Node parts object e =
    let place = bind_ok (place_of parts.lon parts.lat) (λ place. Ok (objects.Node place parts.tags)) object e in
    (place.0, place_is parts.lon parts.lat place.0 place.1, sym (ok_is (objects.Node place.0 parts.tags) object place.2))
object_is kinds.Way parts object e = sym (ok_is (objects.Way parts.nodes parts.tags) object e)
object_is kinds.Relation parts object e = sym (ok_is (objects.Relation parts.members parts.tags) object e)

deleted_is : (deleted : Bool) (object : Object) → IsObjectOf deleted object (cond deleted None (Some object))
deleted_is true object = refl
deleted_is false object = refl

module _ (line : List ℕ) (counts : IsSkipped line → ⊥) (utf8 : IsUtf8 line) where
  fields_spell : (fields : List (List ℕ)) (entry : Entry) → fields_of line ≡ fields → AllByRecursion IsUtf8 fields
      → entry_from fields ≡ Ok entry → Spells line entry
  unfolding entry_from entry_of
  fields_spell [] entry cut all e = absurd cc
  fields_spell (first ∷ fields) entry cut all e =
      let key = bind_ok (key_of first) (λ key. parts_of key.kind fields >>= λ parts. entry_of key parts) entry e in
      let parts = bind_ok (parts_of key.0.kind fields) (λ parts. entry_of key.0 parts) entry key.2 in
      let object = bind_ok (object_of key.0.kind parts.0)
      (λ object. Ok (record { key = key.0; object = cond parts.0.deleted None (Some object) })) entry parts.2 in
      let k = key_spells first key.0 key.1 in
      let said = parts_said key.0.kind fields parts.0 all.1 parts.1 in
      let made : Entry = record { key = key.0; object = cond parts.0.deleted None (Some object.0) } in
      subst (Spells line) (ok_is made entry object.2) (record {
        digits = k.digits;
        fields = said.pairs;
        parts = parts.0;
        object = object.0;
        counts = counts;
        utf8 = utf8;
        form = cut ∙ ap (λ f. f ∷ fields) k.form ∙ ap (λ fs. (kind_byte key.0.kind ∷ k.digits) ∷ fs) said.form;
        number = k.number;
        say = said.say;
        made = object_is key.0.kind parts.0 object.0 object.1;
        is = deleted_is parts.0.deleted object.0;
      })

abbrev nothing_read : Result (Option Entry) Why
nothing_read = Ok None

pub line_spells : (line : List ℕ) (entry : Entry) → reading line ≡ Ok (Some entry) → Spells line entry
unfolding reading
line_spells line entry e = elim (cases_Bool (is_skipped line)) [
  | inl skipped ↦ absurd (let wrong : none_of ≡ Some entry = ok_is none_of (Some entry) (rw skipped at e) in cc)
  | inr counts ↦ (
      let read : (utf8_of line >>= λ text. entry_from (fields_of text) >>= λ entry. Ok (Some entry)) ≡ Ok (Some entry) = rw counts at e in
      let text = bind_ok (utf8_of line) (λ text. entry_from (fields_of text) >>= λ entry. Ok (Some entry)) (Some entry) read in
      let valid = chosen (is_utf8 line) causes.Utf8 line text.0 text.1 in
      let utf8 = IsUtf8-from_is_utf8 line valid.0 in
      let found = bind_ok (entry_from (fields_of text.0)) (λ entry. Ok (Some entry)) (Some entry) text.2 in
      let same : found.0 ≡ entry = some_is found.0 entry (ok_is (Some found.0) (Some entry) found.2) in
      let own : entry_from (fields_of line) ≡ Ok entry = ap (λ t. entry_from (fields_of t)) valid.1 ∙ found.1 ∙ ap (λ x. Ok x) same in
      fields_spell line (λ s. let wrong : true ≡ false = sym s ∙ counts in cc) utf8 (fields_of line) entry refl (fields_utf8 line utf8) own)
] where
  none_of : Option Entry
  none_of = None

-- ---- what is spelled is read

key_again : (digits : List ℕ) (key : KeyOf) → SpellsId digits key.id → key_of (kind_byte key.kind ∷ digits) ≡ Ok key
unfolding key_of
key_again digits key s =
    ap (λ o. given causes.Kind o >>= λ front. id_of front.1 >>= λ id. Ok (record { kind = front.0; id = id }))
    (kind_at_again key.kind digits)
    ∙ ap (λ r. r >>= λ id. Ok (record { kind = key.kind; id = id })) (id_again digits key.id s)

place_again : (lon lat : Option ℤ) (place : Option PlaceOf) → IsPlace lon lat place → place_of lon lat ≡ Ok place
place_again None None place s = ap (λ p. Ok p) (sym s)
place_again (Some lon) (Some lat) place s = ap (λ p. Ok p) (sym s)
place_again None (Some lat) place s = absurd s
place_again (Some lon) None place s = absurd s

object_again : (kind : Kind) (parts : Parts) (object : Object) → IsObject kind parts object → object_of kind parts ≡ Ok object
object_again kinds.Node parts object s =
    ap (λ r. r >>= λ place. Ok (objects.Node place parts.tags)) (place_again parts.lon parts.lat s.0 s.1) ∙ ap (λ o. Ok o) (sym s.2)
object_again kinds.Way parts object s = ap (λ o. Ok o) (sym s)
object_again kinds.Relation parts object s = ap (λ o. Ok o) (sym s)

deleted_again : (deleted : Bool) (object : Object) (found : Option Object) → IsObjectOf deleted object found
    → cond deleted None (Some object) ≡ found
deleted_again true object found s = sym s
deleted_again false object found s = sym s

pub line_again : (line : List ℕ) (entry : Entry) → Spells line entry → reading line ≡ Ok (Some entry)
unfolding reading entry_from entry_of
line_again line entry s =
    let counts : is_skipped line ≡ false = false_from_ne_true _ s.counts in
    let valid : utf8_of line ≡ Ok line = ap (λ b. cond b (Ok line) (Err causes.Utf8)) (is_utf8-from_IsUtf8 line s.utf8) in
    let key : KeyOf = entry.key in
    let made : entry_of entry.key s.parts ≡ Ok entry
    = ap (λ r. r >>= λ object. Ok (record { key = entry.key; object = cond s.parts.deleted None (Some object) }))
    (object_again entry.key.kind s.parts s.object s.made)
    ∙ ap (λ o. Ok (record { key = entry.key; object = o })) (deleted_again s.parts.deleted s.object entry.object s.is) in
    let own : entry_from (fields_of line) ≡ Ok entry
    = ap entry_from s.form
    ∙ ap (λ r. r >>= λ key. parts_of key.kind (map field_text s.fields) >>= λ parts. entry_of key parts)
    (key_again s.digits entry.key s.number)
    ∙ ap (λ r. r >>= λ parts. entry_of entry.key parts) (parts_again entry.key.kind s.fields s.parts s.say)
    ∙ made in
    ap (λ b. cond b (Ok None) (utf8_of line >>= λ text. entry_from (fields_of text) >>= λ entry. Ok (Some entry))) counts
    ∙ ap (λ r. r >>= λ text. entry_from (fields_of text) >>= λ entry. Ok (Some entry)) valid
    ∙ ap (λ r. r >>= λ entry. Ok (Some entry)) own
