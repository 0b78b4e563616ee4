-- Looking a key up among tags, and adding one.
use Rattle.std.proofs.Common.{◌≡◌, ℕ, ◌+◌, ◌<◌, Bool, true, false, cond, Some, List, [], ◌∷◌, ◌++◌, ◌-◌, ◌≤◌, length, take, drop, get_or}
use Rattle.std.proofs.Common.{length-drop, length-append, refl, sym, ◌∙◌, ap, subst, append_assoc, arith}
use Rattle.std.proofs.Common.{map as each}
use Rattle.std.proofs.lemmas.List.{drop_more, drop-append-le, take-append-le, append-nil, map-append}
use Rattle.std.proofs.Math.Seq.{drop-append_seam, take-append_seam}
use Rattle.std.proofs.lemmas.Slice.Eq.{bytes_eq-Decides}
use Rattle.std.proofs.lemmas.Str.{encodes-chars}
use Rattle.std.specs.Str.{IsUtf8, chars, bytes_eq}
use Rattle.std.specs.Bool.{Decides}
use Rattle.std.specs.Prelude.{encode_utf8_all, slice_range}
use Rattle.std.specs.Ordering.{nat_cmp, eq_by_cmp}
use Rattle.std.specs.Cmp.Lexicographic.{slice_cmp, texts_ties}
use Rattle.std.specs.FinMap as map
use Rattle.osm_base.specs.declared.values.tags.Span.{Span}
use Rattle.osm_base.specs.values.TagOrder.{pairs_of}
use Rattle.osm_base.specs.values.TagText.{pair_of, key_bytes, value_bytes, AreSpans}

-- two tests that decide one fact answer alike
alike : {P : Type 0} (a b : Bool) → Decides a P → Decides b P → a ≡ b
alike true true p q = refl
alike true false p q = sym (q.1 (p.0 refl))
alike false true p q = p.1 (q.0 refl)
alike false false p q = refl

-- two texts have the same characters exactly where they have the same bytes
pub same_characters : (key other : List ℕ) → IsUtf8 key → IsUtf8 other
    → eq_by_cmp (slice_cmp nat_cmp) (chars key) (chars other) ≡ bytes_eq other key
same_characters key other u w =
    sym (texts_ties (chars key) (chars other))
    ∙ alike {P = other ≡ key} _ _ (
      λ t. sym (encodes-chars other w) ∙ ap encode_utf8_all (sym ((bytes_eq-Decides (chars key) (chars other)).0 t)) ∙ encodes-chars key u,
      λ e. (bytes_eq-Decides (chars key) (chars other)).1 (ap chars (sym e)),
    )
    (bytes_eq-Decides other key)

module _ (text key : List ℕ) (spans : List Span) (i : ℕ) (d : Span) where
  -- what a look-up sees first, with the spans before the one at i passed by
  step : i < length spans → map.find (slice_cmp nat_cmp) (chars key) (each (pair_of text) (drop i spans))
      ≡ cond (eq_by_cmp (slice_cmp nat_cmp) (chars key) (chars (key_bytes text (get_or spans i d))))
      (Some (chars (value_bytes text (get_or spans i d))))
      (map.find (slice_cmp nat_cmp) (chars key) (each (pair_of text) (drop (i + 1) spans)))
  step h = ap (λ rest. map.find (slice_cmp nat_cmp) (chars key) (each (pair_of text) rest)) (drop_more spans i d h)

  -- the key at i is the one that is asked for
  pub find-here : (own : List ℕ) → own ≡ key_bytes text (get_or spans i d) → i < length spans → IsUtf8 key → IsUtf8 own
      → bytes_eq own key ≡ true
      → map.find (slice_cmp nat_cmp) (chars key) (each (pair_of text) (drop i spans)) ≡ Some (chars (value_bytes text (get_or spans i d)))
  find-here own is h u w t = step h ∙ rw (← is, same_characters key own u w, t) refl

  -- it is another one
  pub find-later : (own : List ℕ) → own ≡ key_bytes text (get_or spans i d) → i < length spans → IsUtf8 key → IsUtf8 own
      → bytes_eq own key ≡ false
      → map.find (slice_cmp nat_cmp) (chars key) (each (pair_of text) (drop (i + 1) spans))
      ≡ map.find (slice_cmp nat_cmp) (chars key) (each (pair_of text) (drop i spans))
  find-later own is h u w t = sym (step h ∙ rw (← is, same_characters key own u w, t) refl)

-- what lies within a text stays where bytes follow it
slice_range-append : (text more : List ℕ) (from to : ℕ) → from ≤ to → to ≤ length text
    → slice_range (text ++ more) from to ≡ slice_range text from to
slice_range-append text more from to order within =
    let start : from ≤ length text = omega arith in
    let room : to - from ≤ length (drop from text) = simp length-drop (omega arith) in
    ap (take (to - from)) (drop-append-le from text more start) ∙ take-append-le (to - from) (drop from text) more room

-- so spans cut the same pairs out of it
pub pairs-append : (text more : List ℕ) (spans : List Span) → AreSpans text spans
    → each (pair_of (text ++ more)) spans ≡ each (pair_of text) spans
pairs-append text more [] h = refl
pairs-append text more (span ∷ spans) h =
    let own = h.0 in
    let in_key : span.value ≤ length text = omega (arith, own.value_end, own.within) in
    rw (
      slice_range-append text more span.key span.value own.key_end in_key,
      slice_range-append text more span.value span.end own.value_end own.within,
      pairs-append text more spans h.1,
    ) refl

-- and are spans of it
pub AreSpans-append : (text more : List ℕ) (spans : List Span) → AreSpans text spans → AreSpans (text ++ more) spans
AreSpans-append text more [] h = tt
AreSpans-append text more (span ∷ spans) h =
    let own = h.0 in
    let in_key : span.value ≤ length text = omega (arith, own.value_end, own.within) in (
      record {
        key_end = own.key_end;
        value_end = own.value_end;
        within = simp length-append (omega (arith, own.within));
        key_text = subst IsUtf8 (sym (slice_range-append text more span.key span.value own.key_end in_key)) own.key_text;
        value_text = subst IsUtf8 (sym (slice_range-append text more span.value span.end own.value_end own.within)) own.value_text;
      },
      AreSpans-append text more spans h.1,
    )

AreSpans-joined : (text : List ℕ) (front back : List Span) → AreSpans text front → AreSpans text back → AreSpans text (front ++ back)
AreSpans-joined text [] back g h = h
AreSpans-joined text (span ∷ front) back g h = (g.0, AreSpans-joined text front back g.1 h)

-- the parts of what was put behind a text
part_behind : (before part after : List ℕ)
    → take (length (before ++ part) - length before) (drop (length before) (before ++ part ++ after)) ≡ part
part_behind before part after =
    let size : length (before ++ part) - length before ≡ length part = omega (arith, length-append before part) in
    rw (append_assoc, drop-append_seam, size) (take-append_seam part after)

key_part : (text key value : List ℕ) → slice_range (text ++ key ++ value) (length text) (length (text ++ key)) ≡ key
key_part text key value = part_behind text key value

value_part : (text key value : List ℕ) → slice_range (text ++ key ++ value) (length (text ++ key)) (length (text ++ key ++ value)) ≡ value
value_part text key value =
    ap (λ all. slice_range all (length (text ++ key)) (length (text ++ key ++ value))) (sym (append-nil (text ++ key ++ value)))
    ∙ part_behind (text ++ key) value []

-- the span of a tag that was put behind a text
abbrev pub span_behind : List ℕ → List ℕ → List ℕ → Span
span_behind text key value = record { key = length text; value = length (text ++ key); end = length (text ++ key ++ value) }

module _ (text key value : List ℕ) (spans : List Span) (h : AreSpans text spans) where
  pub AreSpans-unchanged : AreSpans (text ++ key ++ value) spans
  AreSpans-unchanged = AreSpans-append (text ++ key) value spans (AreSpans-append text key spans h)

  pub AreSpans-behind : IsUtf8 key → IsUtf8 value → AreSpans (text ++ key ++ value) (spans ++ span_behind text key value ∷ [])
  AreSpans-behind u w = AreSpans-joined (text ++ key ++ value) spans (span_behind text key value ∷ []) AreSpans-unchanged (
    record {
      key_end = omega (arith, length-append text key);
      value_end = omega (arith, length-append (text ++ key) value);
      within = omega arith;
      key_text = subst IsUtf8 (sym (key_part text key value)) u;
      value_text = subst IsUtf8 (sym (value_part text key value)) w;
    },
    tt,
  )

  pub pairs-unchanged : pairs_of (text ++ key ++ value) spans ≡ pairs_of text spans
  pairs-unchanged = pairs-append (text ++ key) value spans (AreSpans-append text key spans h) ∙ pairs-append text key spans h

  pub pairs-behind : pairs_of (text ++ key ++ value) (spans ++ span_behind text key value ∷ []) ≡ pairs_of text spans
      ++ (chars key, chars value) ∷ []
  pairs-behind =
      map-append (pair_of (text ++ key ++ value)) spans (span_behind text key value ∷ [])
      ∙ ap (λ pairs. pairs ++ pair_of (text ++ key ++ value) (span_behind text key value) ∷ []) pairs-unchanged
      ∙ ap (λ pair. pairs_of text spans ++ pair ∷ []) (rw (key_part text key value, value_part text key value) refl)
