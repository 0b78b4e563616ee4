-- Tags: what is read is spelled so, and what is spelled so is read.
use Rattle.std.proofs.Common.{◌≡◌, ◌≢◌, ℕ, ◌<◌, true, false, cond, inl, inr, List, [], ◌∷◌, ◌++◌, length, Option, None, Some, Result, Ok}
use Rattle.std.proofs.Common.{Err, refl, sym, ◌∙◌, ap, subst, arith, append_assoc, map}
use Rattle.std.specs.List.{slice_split, join_with_byte, AllByRecursion}
use Rattle.std.specs.Option.{is_some}
use Rattle.std.specs.Str.{IsUtf8}
use Rattle.std.specs.Ordering.{nat_cmp, eq_by_cmp}
use Rattle.std.specs.Cmp.Lexicographic.{slice_cmp, texts_ties, nat_list_cmp_total}
use Rattle.std.specs.FinMap as finite
use Rattle.std.specs.FinMap.{nat_cmp-IsAntisymmetric, slice_cmp-IsAntisymmetric}
use Rattle.std.proofs.lemmas.Bool.{cases_Bool, false_from_ne_true}
use Rattle.std.proofs.lemmas.List.{append-nil, length-append}
use Rattle.std.proofs.lemmas.List.Splits.{join_with_byte-slice_split}
use Rattle.std.proofs.lemmas.Slice.Eq.{bytes_eq-Decides}
use Rattle.osm_base.specs.values.Tags.{TagMap}
use Rattle.opl_object.specs.declared.why.Why.{Why}
use Rattle.opl_object.specs.declared.why.Why.TheVariants as causes
use Rattle.opl_object.specs.Fields.{is, is_empty, cut_at}
use Rattle.opl_object.specs.Spelling.{AreDistinct, SpellEach, SpellsList, SpellsTag, SpellsTags}
use Rattle.opl_object.specs.Tags.{with_tag, with_pair, with_piece, tags_of}
use Rattle.opl_object.specs.Text.{text_of}
use Rattle.opl_object.specs.Why.{◌>>=◌, each_piece}
use Rattle.opl_object.proofs.SpelledLists.{nil_is, utf8_sides, comma-ascii, list_pieces}
use Rattle.opl_object.proofs.SpelledNumbers.{cut_some, cut_cases}
use Rattle.opl_object.proofs.SpelledTexts.{IsFree, free_append, split_pieces, split_utf8, text_spells, text_again, text_free}
use Rattle.opl_object.proofs.Steps.{bind_ok, ok_is}

abbrev pub Tag : Type 0
Tag = List ℕ × List ℕ

-- ---- keys

pub same_key : (a b : List ℕ) → eq_by_cmp (slice_cmp nat_cmp) a b ≡ true → a ≡ b
same_key a b e = (bytes_eq-Decides a b).0 (texts_ties a b ∙ e)

pub key_itself : (a : List ℕ) → eq_by_cmp (slice_cmp nat_cmp) a a ≡ true
key_itself a = sym (texts_ties a a) ∙ (bytes_eq-Decides a a).1 refl

-- no tag has the key
abbrev IsNew : TagMap → List ℕ → Type 0
IsNew tags key = finite.get tags key ≡ None

new_again : (tags : TagMap) (key value other : List ℕ) → key ≢ other → IsNew tags other → IsNew (finite.insert tags key value) other
new_again tags key value other apart new =
    let differs : eq_by_cmp (slice_cmp nat_cmp) other key ≡ false = false_from_ne_true _ (λ e. apart (sym (same_key other key e))) in
    finite.get-insert nat_list_cmp_total tags key value other ∙ rw differs new

new_before : (tags : TagMap) (key value other : List ℕ) → IsNew (finite.insert tags key value) other → (key ≢ other) × IsNew tags other
new_before tags key value other new =
    let read : cond (eq_by_cmp (slice_cmp nat_cmp) other key) (Some value) (finite.get tags other) ≡ None =
    sym (finite.get-insert nat_list_cmp_total tags key value other) ∙ new in
    let differs : eq_by_cmp (slice_cmp nat_cmp) other key ≡ false =
    false_from_ne_true _ (λ e. let wrong : Some value ≡ None = rw e at read in cc) in (
      λ same. let again : eq_by_cmp (slice_cmp nat_cmp) other key ≡ true =
          ap (λ k. eq_by_cmp (slice_cmp nat_cmp) other k) same ∙ key_itself other in let wrong : true ≡ false = sym again ∙ differs in cc,
      rw differs at read,
    )

-- ---- one tag

pub record Adds (tags : TagMap) (piece : List ℕ) (next : TagMap) : Type 0 where
  pub tag : List ℕ × List ℕ
  pub spelled : SpellsTag piece tag
  pub new : finite.get tags tag.0 ≡ None
  pub is : next ≡ finite.insert tags tag.0 tag.1

not_some : {A : Type 0} (o : Option A) → is_some o ≡ false → o ≡ None
not_some None e = refl
not_some (Some x) e = absurd cc

tag_added : (tags : TagMap) (key value : List ℕ) (next : TagMap) → with_tag tags key value ≡ Ok next
    → (finite.get tags key ≡ None) × (next ≡ finite.insert tags key value)
tag_added tags key value next e = elim (cases_Bool (is_some (finite.get tags key))) [
  | inl there ↦ absurd (let wrong : refused ≡ Ok next = rw there at e in cc)
  | inr absent ↦ (not_some _ absent, sym (ok_is (finite.insert tags key value) next (rw absent at e)))
] where
  refused : Result TagMap Why
  refused = Err causes.RepeatedKey

piece_adds : (tags : TagMap) (piece : List ℕ) (next : TagMap) → IsUtf8 piece → with_piece tags piece ≡ Ok next → Adds tags piece next
unfolding with_piece
piece_adds tags piece next utf8 e = elim (cut_cases 61 piece) [
  | inl whole ↦ absurd (let wrong : with_pair tags (piece, None) ≡ Ok next = ap (with_pair tags) (sym whole) ∙ e in cc)
  | inr cut ↦ (
      let read : (text_of cut.0 >>= λ key. text_of cut.1 >>= λ value. with_tag tags key value) ≡ Ok next =
      ap (with_pair tags) (sym cut.2.is) ∙ e in
      let key = bind_ok (text_of cut.0) (λ key. text_of cut.1 >>= λ value. with_tag tags key value) next read in
      let value = bind_ok (text_of cut.1) (λ value. with_tag tags key.0 value) next key.2 in
      let sides = utf8_sides cut.0 cut.1 61 (omega arith) (subst IsUtf8 cut.2.form utf8) in
      let added = tag_added tags key.0 value.0 next value.2 in
      record {
        tag = (key.0, value.0);
        spelled = record {
          key = cut.0;
          value = cut.1;
          form = cut.2.form;
          key_text = text_spells cut.0 key.0 sides.0 key.1;
          value_text =
              text_spells cut.1 value.0 sides.1 value.1;
        };
        new = added.0;
        is = added.1;
      })
]

piece_again : (tags : TagMap) (piece : List ℕ) (tag : Tag) → SpellsTag piece tag → IsNew tags tag.0
    → with_piece tags piece ≡ Ok (finite.insert tags tag.0 tag.1)
unfolding with_piece
piece_again tags piece tag s new =
    let absent : is_some (finite.get tags tag.0) ≡ false = ap is_some new in
    ap (λ t. with_pair tags (cut_at (is 61) t)) s.form
    ∙ ap (with_pair tags) (cut_some 61 s.key s.value (text_free 61 s.key tag.0 refl refl refl s.key_text))
    ∙ ap (λ r. r >>= λ key. text_of s.value >>= λ value. with_tag tags key value) (text_again s.key tag.0 s.key_text)
    ∙ ap (λ r. r >>= λ value. with_tag tags tag.0 value) (text_again s.value tag.1 s.value_text)
    ∙ ap (λ b. cond b (Err causes.RepeatedKey) (Ok (finite.insert tags tag.0 tag.1))) absent

-- ---- all tags

abbrev pub inserted : TagMap → List Tag → TagMap
inserted tags [] = tags
inserted tags (tag ∷ pairs) = inserted (finite.insert tags tag.0 tag.1) pairs

abbrev pub AllNew : TagMap → List Tag → Type 0
AllNew tags pairs = AllByRecursion (λ key. finite.get tags key ≡ None) (map (λ pair. pair.0) pairs)

pub record Added (tags : TagMap) (pieces : List (List ℕ)) (last : TagMap) : Type 0 where
  pub pairs : List (List ℕ × List ℕ)
  pub spelled : SpellEach SpellsTag pieces pairs
  pub new : AllNew tags pairs
  pub distinct : AreDistinct (map (λ pair. pair.0) pairs)
  pub is : last ≡ inserted tags pairs

all_before : (tags : TagMap) (key value : List ℕ) (keys : List (List ℕ))
    → AllByRecursion (λ other. finite.get (finite.insert tags key value) other ≡ None) keys
    → AllByRecursion (λ other. key ≢ other) keys × AllByRecursion (λ other. finite.get tags other ≡ None) keys
all_before tags key value [] h = (tt, tt)
all_before tags key value (other ∷ keys) h =
    let here = new_before tags key value other h.0 in
    let rest = all_before tags key value keys h.1 in
    ((here.0, rest.0), (here.1, rest.1))

all_again : (tags : TagMap) (key value : List ℕ) (keys : List (List ℕ)) → AllByRecursion (λ other. key ≢ other) keys
    → AllByRecursion (λ other. finite.get tags other ≡ None) keys
    → AllByRecursion (λ other. finite.get (finite.insert tags key value) other ≡ None) keys
all_again tags key value [] apart new = tt
all_again tags key value (other ∷ keys) apart new =
    (new_again tags key value other apart.0 new.0, all_again tags key value keys apart.1 new.1)

pub pieces_add : (tags : TagMap) (pieces : List (List ℕ)) (last : TagMap) → AllByRecursion IsUtf8 pieces
    → each_piece with_piece tags pieces ≡ Ok last → Added tags pieces last
unfolding each_piece
pieces_add tags [] last utf8 e = record { pairs = []; spelled = tt; new = tt; distinct = tt; is = sym (ok_is tags last e) }
pieces_add tags (piece ∷ pieces) last utf8 e =
    let next = bind_ok (with_piece tags piece) (λ tags. each_piece with_piece tags pieces) last e in
    let one = piece_adds tags piece next.0 utf8.0 next.1 in
    let rest = pieces_add (finite.insert tags one.tag.0 one.tag.1) pieces last utf8.1
    (ap (λ t. each_piece with_piece t pieces) (sym one.is) ∙ next.2) in
    let before = all_before tags one.tag.0 one.tag.1 (map (λ pair. pair.0) rest.pairs) rest.new in
    record {
      pairs = one.tag ∷ rest.pairs;
      spelled = (one.spelled, rest.spelled);
      new = (one.new, before.1);
      distinct = (before.0, rest.distinct);
      is = rest.is;
    }

pub pieces_again : (tags : TagMap) (pieces : List (List ℕ)) (pairs : List Tag) → SpellEach SpellsTag pieces pairs → AllNew tags pairs
    → AreDistinct (map (λ pair. pair.0) pairs)
    → each_piece with_piece tags pieces ≡ Ok (inserted tags pairs)
unfolding each_piece
pieces_again tags [] [] s new distinct = refl
pieces_again tags [] (pair ∷ pairs) s new distinct = absurd s
pieces_again tags (piece ∷ pieces) [] s new distinct = absurd s
pieces_again tags (piece ∷ pieces) (pair ∷ pairs) s new distinct =
    ap (λ r. r >>= λ tags. each_piece with_piece tags pieces) (piece_again tags piece pair s.0 new.0)
    ∙ pieces_again (finite.insert tags pair.0 pair.1) pieces pairs s.1
    (all_again tags pair.0 pair.1 (map (λ pair. pair.0) pairs) distinct.0 new.1) distinct.1

-- adding tags one by one makes the map of them all
inserted-entries : (front pairs : List Tag) → AllNew (finite.from_entries front) pairs → AreDistinct (map (λ pair. pair.0) pairs)
    → inserted (finite.from_entries front) pairs ≡ finite.from_entries (front ++ pairs)
inserted-entries front [] new distinct = ap finite.from_entries (sym (append-nil front))
inserted-entries front (pair ∷ pairs) new distinct =
    let absent = sym (finite.get-from_entries nat_list_cmp_total front pair.0) ∙ new.0 in
    let push : finite.from_entries (front ++ pair ∷ []) ≡ finite.insert (finite.from_entries front) pair.0 pair.1
    = finite.from_entries_push nat_list_cmp_total (slice_cmp-IsAntisymmetric nat_cmp-IsAntisymmetric) front pair.0 pair.1 absent in
    let later = all_again (finite.from_entries front) pair.0 pair.1 (map (λ pair. pair.0) pairs) distinct.0 new.1 in
    ap (λ t. inserted t pairs) (sym push)
    ∙ inserted-entries (front ++ pair ∷ []) pairs (subst (λ t. AllNew t pairs) (sym push) later) distinct.1
    ∙ ap finite.from_entries (append_assoc front (pair ∷ []) pairs)

pub empty_new : (keys : List (List ℕ)) → AllByRecursion
    (λ other. finite.get {X = List ℕ} {R = slice_cmp nat_cmp} finite.empty other ≡ None) keys
empty_new [] = tt
empty_new (key ∷ keys) = (finite.get-empty (slice_cmp nat_cmp) key, empty_new keys)

pub tags_spell : (text : List ℕ) (tags : TagMap) → IsUtf8 text → tags_of text ≡ Ok tags → SpellsTags text tags
unfolding tags_of
tags_spell text tags utf8 e = elim (cases_Bool (is_empty text)) [
  | inl none ↦ record { pairs = []; list = inl (nil_is text none, refl); distinct = tt; is = sym (ok_is finite.empty tags (rw none at e)) }
  | inr some ↦ (
      let read : each_piece with_piece finite.empty (slice_split (is 44) text) ≡ Ok tags = rw some at e in
      let found = pieces_add finite.empty (slice_split (is 44) text) tags (split_utf8 (is 44) text comma-ascii utf8) read in
      let p = split_pieces (is 44) text in
      record {
        pairs = found.pairs;
        list = inr (
          p.0,
          p.1,
          sym (join_with_byte-slice_split 44 text)
              ∙ ap (join_with_byte 44) p.2,
          subst (λ pieces. SpellEach SpellsTag pieces found.pairs) p.2 found.spelled,
        );
        distinct = found.distinct;
        is = found.is ∙ inserted-entries [] found.pairs found.new found.distinct;
      })
]

tag_stands : (piece : List ℕ) (tag : Tag) → SpellsTag piece tag → IsFree (is 44) piece × (0 < length piece)
tag_stands piece tag s = (
  subst (IsFree (is 44)) (sym s.form) (free_append (is 44) s.key (61 ∷ s.value) (text_free 44 s.key tag.0 refl refl refl s.key_text)
      (refl, text_free 44 s.value tag.1 refl refl refl s.value_text)),
  subst (λ t. 0 < length t) (sym s.form) (omega (arith, length-append s.key (61 ∷ s.value))),
)

listed : (text : List ℕ) (pairs : List Tag) → SpellsList SpellsTag text pairs → AreDistinct (map (λ pair. pair.0) pairs)
    → tags_of text ≡ Ok (finite.from_entries pairs)
unfolding tags_of
listed text pairs (inl none) distinct =
    ap (λ t. cond (is_empty t) (Ok finite.empty) (each_piece with_piece finite.empty (slice_split (is 44) t))) none.0
    ∙ ap (λ p. Ok (finite.from_entries p)) (sym none.1)
listed text pairs (inr some) distinct =
    let parts = list_pieces SpellsTag reads tag_stands some.0 some.1 pairs text some.2 some.3 in
    let new = empty_new (map (λ pair. pair.0) pairs) in
    rw (parts.0, parts.1) (pieces_again finite.empty (some.0 ∷ some.1) pairs some.3 new distinct
    ∙ ap (λ t. Ok t) (inserted-entries [] pairs new distinct)) where
      reads : List ℕ → Result Tag Why
      reads piece = Err causes.Tag

pub tags_again : (text : List ℕ) (tags : TagMap) → SpellsTags text tags → tags_of text ≡ Ok tags
tags_again text tags s = listed text s.pairs s.list s.distinct ∙ ap (λ t. Ok t) (sym s.is)
