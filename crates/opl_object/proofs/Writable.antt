-- What a line spells can be written.
use Rattle.std.proofs.Common.{◌≡◌, ◌≢◌, ℕ, ◌<◌, Bool, true, false, eqb, eq-eqb, List, [], ◌∷◌, ◌⊎◌, inl, inr, Option, Some, None, Result}
use Rattle.std.proofs.Common.{Ok, Err, refl, sym, ◌∙◌, ap, subst, arith}
use Rattle.std.specs.Prelude.{IfOk, IfSome}
use Rattle.std.specs.FinMap as map
use Rattle.std.specs.FinMap.{put}
use Rattle.std.specs.FinMap.Entries.{by_order}
use Rattle.std.specs.List.{AllByRecursion}
use Rattle.std.specs.Ordering.{nat_cmp}
use Rattle.std.specs.declared.cmp.Ordering.TheVariants.{Less, Equal, Greater}
use Rattle.std.specs.Cmp.Lexicographic.{slice_cmp, nat_list_cmp_total}
use Rattle.std.proofs.lemmas.Bool.{cases_Bool, cases_lt, eqb-true}
use Rattle.osm_base.specs.declared.values.key.Kind.{Kind}
use Rattle.osm_base.specs.declared.values.key.Kind.TheVariants as kinds
use Rattle.osm_base.specs.declared.values.object.Entry.{Entry}
use Rattle.osm_base.specs.declared.values.object.Object.{Object}
use Rattle.osm_base.specs.values.Key.{IsId}
use Rattle.osm_base.proofs.TagPlaces.{entries-from_entries}
use Rattle.opl_object.specs.declared.letter.Letter.{Letter}
use Rattle.opl_object.specs.declared.letter.Letter.TheVariants.{Tags, Nodes, Members}
use Rattle.opl_object.specs.declared.parts.Parts.{Parts}
use Rattle.opl_object.specs.declared.why.LineRefused.{LineRefused}
use Rattle.opl_object.specs.Escapes.{IsWithoutZero}
use Rattle.opl_object.specs.Letter.{byte_of}
use Rattle.opl_object.specs.Lists.{OfTag, OfTags}
use Rattle.opl_object.specs.Spelling.{SpellEach, SpellsList, SpellsText, SpellsPlain, SpellsEscape, SpellsTag, SpellsNode, SpellsMember}
use Rattle.opl_object.specs.Spells.{Says, SayParts, IsObject, IsObjectOf, Spells}
use Rattle.opl_object.specs.Text.{is_reserved}
use Rattle.opl_object.specs.Written.{IsOfKind, HasIds, HasNoZero, IsWritable}
use Rattle.opl_object.proofs.SpelledFields.{same_letter}

-- ---- no text has the code point zero

not_zero : (front : List ℕ) (code : ℕ) → SpellsPlain front code ⊎ SpellsEscape front code → 0 < code
not_zero front code (inl plain) = elim (cases_lt 0 code) [
  | inl some ↦ some
  | inr least ↦ (
      let zero_ : code ≡ 0 = omega arith in
      let wrong : true ≡ false = ap is_reserved (sym zero_) ∙ plain.free in absurd (cc))
]
not_zero front code (inr escape) = escape.not_zero

text_no_zero : (spelled text : List ℕ) → SpellsText spelled text → IsWithoutZero text
text_no_zero spelled [] s = tt
text_no_zero spelled (code ∷ text) s = (not_zero s.0 code s.3, text_no_zero s.1 text s.4)

module _ {A : Type 0} (Spell : List ℕ → A → Type 0) (P : A → Type 0) (holds : (piece : List ℕ) (item : A) → Spell piece item → P item) where
  each_holds : (pieces : List (List ℕ)) (items : List A) → SpellEach Spell pieces items → AllByRecursion P items
  each_holds [] [] s = tt
  each_holds [] (item ∷ items) s = absurd s
  each_holds (piece ∷ pieces) [] s = absurd s
  each_holds (piece ∷ pieces) (item ∷ items) s = (holds piece item s.0, each_holds pieces items s.1)

  list_holds : (text : List ℕ) (items : List A) → SpellsList Spell text items → AllByRecursion P items
  list_holds text items (inl none) = subst (AllByRecursion P) (sym none.1) tt
  list_holds text items (inr some) = each_holds (some.0 ∷ some.1) items some.3

-- ---- what holds of each tag that was added holds of each tag

module _ (P : List ℕ → Type 0) where
  put_holds : (key value : List ℕ) (pairs : List (List ℕ × List ℕ)) → P key → P value → AllByRecursion (OfTag P) pairs
      → AllByRecursion (OfTag P) (put (slice_cmp nat_cmp) key value pairs)
  put_holds key value [] k v all = ((k, v), tt)
  put_holds key value (pair ∷ pairs) k v all =
      elim (slice_cmp nat_cmp key pair.0) as (λ order.
      AllByRecursion (OfTag P) (by_order order ((key, value) ∷ pair ∷ pairs) ((pair.0, value) ∷ pairs)
      (pair ∷ put (slice_cmp nat_cmp) key value pairs))) [
        | Less ↦ ((k, v), all)
        | Equal ↦ ((all.0.0, v), all.1)
        | Greater ↦ (all.0, put_holds key value pairs k v all.1)
      ]

  entries_hold : (pairs : List (List ℕ × List ℕ)) → AllByRecursion (OfTag P) pairs → OfTags P (map.from_entries pairs)
  entries_hold [] all = subst (AllByRecursion (OfTag P)) (sym (entries-from_entries [] tt)) tt
  entries_hold (pair ∷ pairs) all =
      subst (AllByRecursion (OfTag P)) (sym (map.entries-insert nat_list_cmp_total (map.from_entries pairs) pair.0 pair.1))
      (put_holds pair.0 pair.1 (map.entries (map.from_entries pairs)) all.0.0 all.0.1 (entries_hold pairs all.1))

-- ---- the fields of a line

module _ (kind : Kind) (fields : List (Letter × List ℕ)) (parts : Parts) (say : SayParts kind fields parts) where
  found : (letter : Letter) (fields : List (Letter × List ℕ)) → AllByRecursion (λ field. Says field.0 field.1 parts) fields
      → ((value : List ℕ) × Says letter value parts) ⊎ AllByRecursion (λ field. letter ≢ field.0) fields
  found letter [] says = inr tt
  found letter (field ∷ fields) says = elim (cases_Bool (eqb (byte_of letter) (byte_of field.0))) [
    | inl same ↦ inl (field.1, subst (λ own. Says own field.1 parts) (sym (same_letter letter field.0 (eqb-true _ _ same))) says.0)
    | inr other ↦ later (found letter fields says.1) (λ e. (
        let same : eqb (byte_of letter) (byte_of field.0) ≡ true = eq-eqb _ _ (ap byte_of e) in
        let wrong : true ≡ false = sym same ∙ other in absurd (cc)))
  ] where
    later : ((value : List ℕ) × Says letter value parts) ⊎ AllByRecursion (λ other. letter ≢ other.0) fields → letter ≢ field.0
        → ((value : List ℕ) × Says letter value parts) ⊎ AllByRecursion (λ other. letter ≢ other.0) (field ∷ fields)
    later (inl here) apart = inl here
    later (inr none) apart = inr (apart, none)

  tags_no_zero : OfTags IsWithoutZero parts.tags
  tags_no_zero = elim (found Tags fields say.says) [
    | inl here ↦ subst (OfTags IsWithoutZero) (sym here.1.is) (entries_hold IsWithoutZero here.1.pairs
        (list_holds SpellsTag (OfTag IsWithoutZero)
        (λ piece tag s. (text_no_zero s.key tag.0 s.key_text, text_no_zero s.value tag.1 s.value_text)) here.0 here.1.pairs
        here.1.list))
    | inr none ↦ subst (OfTags IsWithoutZero) (sym (say.lacks Tags none)) (entries_hold IsWithoutZero [] tt)
  ]

  nodes_ids : AllByRecursion IsId parts.nodes
  nodes_ids = elim (found Nodes fields say.says) [
    | inl here ↦ list_holds SpellsNode IsId (λ piece id s. s.number.range) here.0 parts.nodes here.1
    | inr none ↦ subst (AllByRecursion IsId) (sym (say.lacks Nodes none)) tt
  ]

  roles_no_zero : AllByRecursion (λ member. IsWithoutZero member.role) parts.members
  roles_no_zero = elim (found Members fields say.says) [
    | inl here ↦ list_holds SpellsMember (λ member. IsWithoutZero member.role)
        (λ piece member s. text_no_zero s.role member.role s.role_text) here.0 parts.members here.1
    | inr none ↦ subst (AllByRecursion (λ member. IsWithoutZero member.role)) (sym (say.lacks Members none)) tt
  ]

  object_of_kind : (kind : Kind) (object : Object) → IsObject kind parts object → IsOfKind kind object
  object_of_kind kinds.Node object made = subst (IsOfKind kinds.Node) (sym made.2) refl
  object_of_kind kinds.Way object made = subst (IsOfKind kinds.Way) (sym made) refl
  object_of_kind kinds.Relation object made = subst (IsOfKind kinds.Relation) (sym made) refl

  object_ids : (kind : Kind) (object : Object) → IsObject kind parts object → HasIds object
  object_ids kinds.Node object made = subst HasIds (sym made.2) tt
  object_ids kinds.Way object made = subst HasIds (sym made) nodes_ids
  object_ids kinds.Relation object made = subst HasIds (sym made) tt

  object_no_zero : (kind : Kind) (object : Object) → IsObject kind parts object → HasNoZero object
  object_no_zero kinds.Node object made = subst HasNoZero (sym made.2) tags_no_zero
  object_no_zero kinds.Way object made = subst HasNoZero (sym made) tags_no_zero
  object_no_zero kinds.Relation object made = subst HasNoZero (sym made) (tags_no_zero, roles_no_zero)

-- what holds of an object holds of that of the entry, where it has one
kept : (P : Object → Type 0) (deleted : Bool) (object : Object) (own : Option Object) → IsObjectOf deleted object own → P object
    → IfSome own P
kept P true object own e p = subst (λ o. IfSome o P) (sym e) tt
kept P false object own e p = subst (λ o. IfSome o P) (sym e) p

pub spelled_writable : (line : List ℕ) (entry : Entry) → Spells line entry → IsWritable entry
spelled_writable line entry s = record {
  kind = kept (IsOfKind entry.key.kind) s.parts.deleted s.object entry.object s.is
      (object_of_kind entry.key.kind s.fields s.parts s.say entry.key.kind s.object s.made);
  ids = kept HasIds s.parts.deleted s.object entry.object s.is
      (object_ids entry.key.kind s.fields s.parts s.say entry.key.kind s.object s.made);
  no_zero = kept HasNoZero s.parts.deleted s.object entry.object s.is
      (object_no_zero entry.key.kind s.fields s.parts s.say entry.key.kind s.object s.made);
}

-- so what was read can be
pub found_writable : (line : List ℕ) (result : Result (Option Entry) LineRefused)
    → IfOk result (λ found. IfSome found (λ entry. Spells line entry)) → IfOk result (λ found. IfSome found IsWritable)
found_writable line (Ok None) spelled = tt
found_writable line (Ok (Some entry)) spelled = spelled_writable line entry spelled
found_writable line (Err refused) spelled = tt
