-- Tags that are gathered first and put in order at the end come to what they come to one after the other.
use Rattle.std.proofs.Common.{◌≡◌, ℕ, true, false, cond, List, [], ◌∷◌, ◌++◌, Option, None, Some, Result, Ok, Err, refl, sym, ◌∙◌, ap}
use Rattle.std.proofs.Common.{subst, append_assoc, map}
use Rattle.std.proofs.lemmas.List.{append-nil, map-append}
use Rattle.std.proofs.lemmas.List.Sorted.{IsPermutation-sym}
use Rattle.std.proofs.lemmas.Map.Keys.{IsDistinct-push}
use Rattle.std.specs.Cmp.{eq_by_cmp_equiv}
use Rattle.std.specs.Cmp.Lexicographic.{slice_cmp, nat_list_cmp_total}
use Rattle.std.specs.FinMap as finite
use Rattle.std.specs.FinMap.{nat_cmp-IsAntisymmetric, slice_cmp-IsAntisymmetric}
use Rattle.std.specs.FinMap.Entries.{is_some-find}
use Rattle.std.specs.List.{AllByRecursion, IsDistinct, list_any}
use Rattle.std.specs.Option.{is_some}
use Rattle.std.specs.Ordering.{nat_cmp, eq_by_cmp}
use Rattle.std.specs.List.Sorted.{IsPermutation}
use Rattle.osm_base.proofs.TagLists.{once-IsPermutation, from_entries-IsPermutation}
use Rattle.osm_base.specs.values.Tags.{TagMap, TagPairs, HasEachKeyOnce}
use Rattle.opl_object.specs.declared.ascii.TheConstants.{EQUALS}
use Rattle.opl_object.specs.declared.why.Why.{Why}
use Rattle.opl_object.specs.declared.why.Why.TheVariants.{RepeatedKey}
use Rattle.opl_object.specs.declared.why.LineRefused.{LineRefused}
use Rattle.opl_object.specs.declared.why.LineRefused.TheVariants.{Bad}
use Rattle.opl_object.specs.Fields.{is, cut_at}
use Rattle.opl_object.specs.Tags.{tag_in, listed, with_tag, with_pair, with_piece, with_tags, stopped_by, gathered}
use Rattle.opl_object.specs.Text.{text_of}
use Rattle.opl_object.specs.Why.{◌>>=◌, each_piece, Refuses}

-- ---- one piece

-- a key and its value
abbrev as_tag : List ℕ → List ℕ → Result (List ℕ × List ℕ) Why
as_tag key value = Ok (key, value)

then_tag : (tags : TagMap) (cut : List ℕ × Option (List ℕ)) → with_pair tags cut ≡ (tag_in cut >>= λ tag. with_tag tags tag.0 tag.1)
then_tag tags (key, None) = refl
then_tag tags (key, Some value) =
    elim (text_of key) as (λ first. (first >>= λ key. text_of value >>= λ value. with_tag tags key value)
    ≡ ((first >>= λ key. text_of value >>= λ value. as_tag key value) >>= λ tag. with_tag tags tag.0 tag.1)) [
      | Err why ↦ refl
      | Ok key ↦
          elim (text_of value) as (λ second. (second >>= λ value. with_tag tags key value)
          ≡ ((second >>= λ value. as_tag key value) >>= λ tag. with_tag tags tag.0 tag.1)) [
            | Err why ↦ refl
            | Ok value ↦ refl
          ]
    ]

with_piece-tag : (tags : TagMap) (piece : List ℕ)
    → with_piece tags piece ≡ (tag_in (cut_at (is EQUALS) piece) >>= λ tag. with_tag tags tag.0 tag.1)
unfolding with_piece
with_piece-tag tags piece = then_tag tags (cut_at (is EQUALS) piece)

-- ---- a list, and one tag more

with_tags-push : (tags : TagMap) (pairs : TagPairs) (tag : List ℕ × List ℕ)
    → with_tags tags (pairs ++ tag ∷ []) ≡ (with_tags tags pairs >>= λ tags. with_tag tags tag.0 tag.1)
unfolding with_tags
with_tags-push tags [] tag =
    elim (with_tag tags tag.0 tag.1) as (λ next. (next >>= λ tags. Ok tags) ≡ next) [ Ok tags ↦ refl | Err why ↦ refl ]
with_tags-push tags (pair ∷ pairs) tag =
    elim (with_tag tags pair.0 pair.1) as (λ next. (next >>= λ tags. with_tags tags (pairs ++ tag ∷ []))
    ≡ ((next >>= λ tags. with_tags tags pairs) >>= λ tags. with_tag tags tag.0 tag.1)) [
      | Ok tags ↦ with_tags-push tags pairs tag
      | Err why ↦ refl
    ]

module _ (pairs : TagPairs) (piece : List ℕ) (later : List (List ℕ)) (all : Result TagMap Why)
    (so_far : all ≡ (with_tags finite.empty pairs >>= λ tags. each_piece with_piece tags (piece ∷ later))) where
  -- the piece is a tag
  pub gathers : (next : TagPairs) → listed pairs piece ≡ Ok next
      → all ≡ (with_tags finite.empty next >>= λ tags. each_piece with_piece tags later)
  unfolding listed each_piece
  gathers next e =
      elim (tag_in (cut_at (is EQUALS) piece)) as
      (λ tag. tag_in (cut_at (is EQUALS) piece) ≡ tag → (tag >>= λ tag. Ok (pairs ++ tag ∷ [])) ≡ Ok next
      → all ≡ (with_tags finite.empty next >>= λ tags. each_piece with_piece tags later)) [
        | Err why ↦ λ is e. absurd (cc)
        | Ok tag ↦ λ is e.
            let grown : pairs ++ tag ∷ [] ≡ next = cc in
            let step : (tags : TagMap) → with_piece tags piece ≡ with_tag tags tag.0 tag.1
            = λ tags. with_piece-tag tags piece ∙ ap (λ tag. tag >>= λ tag. with_tag tags tag.0 tag.1) is in
            so_far
            ∙ elim (with_tags finite.empty pairs) as
            (λ read. (read >>= λ tags. with_piece tags piece >>= λ tags. each_piece with_piece tags later)
            ≡ ((read >>= λ tags. with_tag tags tag.0 tag.1) >>= λ tags. each_piece with_piece tags later)) [
              | Ok tags ↦ ap (λ read. read >>= λ tags. each_piece with_piece tags later) (step tags)
              | Err why ↦ refl
            ]
            ∙ ap (λ read. read >>= λ tags. each_piece with_piece tags later)
            (sym (with_tags-push finite.empty pairs tag) ∙ ap (with_tags finite.empty) grown)
      ] refl e

  -- it is none
  pub stops : (why : Why) → listed pairs piece ≡ Err why → all ≡ (with_tags finite.empty pairs >>= λ tags. Err why)
  unfolding listed each_piece
  stops why e =
      elim (tag_in (cut_at (is EQUALS) piece)) as
      (λ tag. tag_in (cut_at (is EQUALS) piece) ≡ tag → (tag >>= λ tag. Ok (pairs ++ tag ∷ [])) ≡ Err why
      → all ≡ (with_tags finite.empty pairs >>= λ tags. Err why)) [
        | Ok tag ↦ λ is e. absurd (cc)
        | Err own ↦ λ is e.
            let same : own ≡ why = cc in
            so_far
            ∙ elim (with_tags finite.empty pairs) as
            (λ read. (read >>= λ tags. with_piece tags piece >>= λ tags. each_piece with_piece tags later)
            ≡ (read >>= λ tags. Err why)) [
              | Ok tags ↦
                  ap (λ read. read >>= λ tags. each_piece with_piece tags later)
                  (with_piece-tag tags piece ∙ ap (λ tag. tag >>= λ tag. with_tag tags tag.0 tag.1) is)
                  ∙ ap Err same
              | Err other ↦ refl
            ]
      ] refl e

  -- the same as it is refused, of a list that stays
  pub stops_there : (why : Why) (now : TagPairs) → now ≡ pairs → (refused : LineRefused) → refused ≡ Bad why
      → Refuses refused (listed pairs piece) → all ≡ gathered now (Some why)
  stops_there why now same refused is e =
      stops why (subst (λ own. Refuses own (listed pairs piece)) is e) ∙ ap (λ list. gathered list (Some why)) (sym same)

-- before the first piece
pub starts : (list : TagPairs) (pieces : List (List ℕ)) → list ≡ []
    → each_piece with_piece finite.empty pieces ≡ (with_tags finite.empty list >>= λ tags. each_piece with_piece tags pieces)
unfolding with_tags
starts list pieces none = ap (λ own. with_tags finite.empty own >>= λ tags. each_piece with_piece tags pieces) (sym none)

-- behind the last
pub ends : (list : TagPairs) (all : Result TagMap Why) → all ≡ (with_tags finite.empty list >>= λ tags. each_piece with_piece tags [])
    → all ≡ gathered list None
unfolding each_piece
ends list all read =
    read
    ∙ elim (with_tags finite.empty list) as (λ own. (own >>= λ tags. each_piece with_piece tags []) ≡ (own >>= stopped_by None))
    [ Ok tags ↦ refl | Err why ↦ refl ]

-- ---- keys that stand once

at_middle : (P : List ℕ → Type 0) (front : List (List ℕ)) (key : List ℕ) (back : List (List ℕ)) → AllByRecursion P (front ++ key ∷ back)
    → P key
at_middle P [] key back h = h.0
at_middle P (other ∷ front) key back h = at_middle P front key back h.1

-- a key among keys that stand once is none of those before it
new_there : (front : List (List ℕ)) (key : List ℕ) (back : List (List ℕ)) → IsDistinct (eq_by_cmp (slice_cmp nat_cmp)) (front ++ key ∷ back)
    → list_any (eq_by_cmp (slice_cmp nat_cmp) key) front ≡ false
unfolding IsDistinct
new_there [] key back h = refl
new_there (other ∷ front) key back h =
    let apart : eq_by_cmp (slice_cmp nat_cmp) key other ≡ false =
    (eq_by_cmp_equiv nat_list_cmp_total).symm key other
    ∙ at_middle (λ own. eq_by_cmp (slice_cmp nat_cmp) other own ≡ false) front key back h.0 in
    rw apart (new_there front key back h.1)

none_of : {A : Type 0} (found : Option A) → is_some found ≡ false → found ≡ None
none_of None e = refl
none_of (Some x) e = absurd (cc)

not_there : (front : TagPairs) (key : List ℕ) → list_any (eq_by_cmp (slice_cmp nat_cmp) key) (map (λ pair. pair.0) front) ≡ false
    → finite.get (finite.from_entries {R = slice_cmp nat_cmp} front) key ≡ None
not_there front key e =
    finite.get-from_entries nat_list_cmp_total front key ∙ none_of _ (is_some-find (slice_cmp nat_cmp) key front ∙ e)

push_one : (front : TagPairs) (pair : List ℕ × List ℕ) → finite.get (finite.from_entries {R = slice_cmp nat_cmp} front) pair.0 ≡ None
    → finite.insert (finite.from_entries {R = slice_cmp nat_cmp} front) pair.0 pair.1 ≡ finite.from_entries (front ++ pair ∷ [])
push_one front pair none =
    sym (finite.from_entries_push nat_list_cmp_total (slice_cmp-IsAntisymmetric nat_cmp-IsAntisymmetric) front pair.0 pair.1
    (sym (finite.get-from_entries nat_list_cmp_total front pair.0) ∙ none))

with_tags-once : (front pairs : TagPairs) → HasEachKeyOnce (front ++ pairs)
    → with_tags (finite.from_entries front) pairs ≡ Ok (finite.from_entries (front ++ pairs))
unfolding with_tags
with_tags-once front [] once = ap (λ all. Ok (finite.from_entries all)) (sym (append-nil front))
with_tags-once front (pair ∷ pairs) once =
    let parted : map (λ own. own.0) (front ++ pair ∷ pairs) ≡ map (λ own. own.0) front ++ pair.0 ∷ map (λ own. own.0) pairs =
    map-append (λ own. own.0) front (pair ∷ pairs) in
    let new : finite.get (finite.from_entries {R = slice_cmp nat_cmp} front) pair.0 ≡ None =
    not_there front pair.0 (new_there (map (λ own. own.0) front) pair.0 (map (λ own. own.0) pairs)
    (subst (IsDistinct (eq_by_cmp (slice_cmp nat_cmp))) parted once)) in
    let along : (front ++ pair ∷ []) ++ pairs ≡ front ++ pair ∷ pairs = append_assoc front (pair ∷ []) pairs in
    ap (λ there. cond there (Err RepeatedKey) (Ok (finite.insert (finite.from_entries front) pair.0 pair.1)) >>= λ tags.
    with_tags tags pairs) (ap is_some new)
    ∙ ap (λ tags. with_tags tags pairs) (push_one front pair new)
    ∙ with_tags-once (front ++ pair ∷ []) pairs (subst HasEachKeyOnce (sym along) once)
    ∙ ap (λ all. Ok (finite.from_entries all)) along

once_of : (front pairs : TagPairs) (last : TagMap) → HasEachKeyOnce front → with_tags (finite.from_entries front) pairs ≡ Ok last
    → HasEachKeyOnce (front ++ pairs)
unfolding with_tags
once_of front [] last once e = subst HasEachKeyOnce (sym (append-nil front)) once
once_of front (pair ∷ pairs) last once e =
    elim (finite.get (finite.from_entries {R = slice_cmp nat_cmp} front) pair.0) as
    (λ found. finite.get (finite.from_entries {R = slice_cmp nat_cmp} front) pair.0 ≡ found
    → (cond (is_some found) (Err RepeatedKey) (Ok (finite.insert (finite.from_entries front) pair.0 pair.1)) >>= λ tags.
    with_tags tags pairs) ≡ Ok last
    → HasEachKeyOnce (front ++ pair ∷ pairs)) [
      | Some value ↦ λ is e. absurd (cc)
      | None ↦ λ none e.
          let absent : list_any (eq_by_cmp (slice_cmp nat_cmp) pair.0) (map (λ own. own.0) front) ≡ false =
          sym (is_some-find (slice_cmp nat_cmp) pair.0 front)
          ∙ ap is_some (sym (finite.get-from_entries nat_list_cmp_total front pair.0) ∙ none) in
          let pushed : HasEachKeyOnce (front ++ pair ∷ []) =
          subst (IsDistinct (eq_by_cmp (slice_cmp nat_cmp))) (sym (map-append (λ own. own.0) front (pair ∷ [])))
          (IsDistinct-push (eq_by_cmp_equiv nat_list_cmp_total) (map (λ own. own.0) front) pair.0 once absent) in
          subst HasEachKeyOnce (append_assoc front (pair ∷ []) pairs)
          (once_of (front ++ pair ∷ []) pairs last pushed (ap (λ tags. with_tags tags pairs) (sym (push_one front pair none)) ∙ e))
    ] refl e

-- a tag more, or a key that stood
one_answer : (tags : TagMap) (pairs : TagPairs) (why : Why) → with_tags tags pairs ≡ Err why → why ≡ RepeatedKey
unfolding with_tags
one_answer tags [] why e = absurd (cc)
one_answer tags (pair ∷ pairs) why e =
    elim (is_some (finite.get tags pair.0)) as
    (λ there. (cond there (Err RepeatedKey) (Ok (finite.insert tags pair.0 pair.1)) >>= λ tags. with_tags tags pairs) ≡ Err why
    → why ≡ RepeatedKey) [
      | true ↦ λ e. cc
      | false ↦ λ e. one_answer (finite.insert tags pair.0 pair.1) pairs why e
    ] e

pub with_tags-distinct : (pairs : TagPairs) → HasEachKeyOnce pairs → with_tags finite.empty pairs ≡ Ok (finite.from_entries pairs)
with_tags-distinct pairs once = with_tags-once [] pairs once

pub with_tags-repeated : (pairs : TagPairs) → (HasEachKeyOnce pairs → ⊥) → with_tags finite.empty pairs ≡ Err RepeatedKey
unfolding IsDistinct
with_tags-repeated pairs twice =
    elim (with_tags finite.empty pairs) as (λ read. with_tags finite.empty pairs ≡ read → read ≡ Err RepeatedKey) [
      | Ok last ↦ λ e. absurd (twice (once_of [] pairs last tt e))
      | Err why ↦ λ e. ap Err (one_answer finite.empty pairs why e)
    ] refl

-- ---- what the loop gathered, with the fault that ended it

module _ (pairs : TagPairs) (fault : Option Why) (all : Result TagMap Why) (read : all ≡ gathered pairs fault) where
  pub repeated_at_end : (HasEachKeyOnce pairs → ⊥) → all ≡ Err RepeatedKey
  repeated_at_end twice = read ∙ ap (λ tags. tags >>= stopped_by fault) (with_tags-repeated pairs twice)

  pub stopped_at_end : HasEachKeyOnce pairs → (why : Why) → fault ≡ Some why → all ≡ Err why
  stopped_at_end once why e = read ∙ ap (λ tags. tags >>= stopped_by fault) (with_tags-distinct pairs once)
      ∙ ap (λ own. stopped_by own (finite.from_entries pairs)) e

  pub whole_at_end : HasEachKeyOnce pairs → fault ≡ None → all ≡ Ok (finite.from_entries pairs)
  whole_at_end once e = read ∙ ap (λ tags. tags >>= stopped_by fault) (with_tags-distinct pairs once)
      ∙ ap (λ own. stopped_by own (finite.from_entries pairs)) e

-- ---- in another order

pub with_tags-permuted : (pairs others : TagPairs) → IsPermutation pairs others
    → with_tags finite.empty pairs ≡ with_tags finite.empty others
unfolding IsDistinct
with_tags-permuted pairs others p =
    elim (with_tags finite.empty pairs) as (λ read. with_tags finite.empty pairs ≡ read → read ≡ with_tags finite.empty others) [
      | Ok last ↦ λ e.
          let once : HasEachKeyOnce pairs = once_of [] pairs last tt e in
          let once_too : HasEachKeyOnce others = once-IsPermutation pairs others p once in
          sym e ∙ with_tags-distinct pairs once ∙ ap Ok (sym (from_entries-IsPermutation pairs others p once once_too))
          ∙ sym (with_tags-distinct others once_too)
      | Err why ↦ λ e.
          ap Err (one_answer finite.empty pairs why e)
          ∙ sym (with_tags-repeated others (λ once_too.
          let whole = with_tags-distinct pairs (once-IsPermutation others pairs (IsPermutation-sym pairs others p) once_too) in
          absurd (cc)))
    ] refl
