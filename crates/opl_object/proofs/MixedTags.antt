-- Tags that are found in turn and kept in another order.
use Rattle.std.proofs.Common.{◌≡◌, ℕ, ◌+◌, ◌<◌, length, take, List, [], ◌∷◌, ◌++◌, Option, Some, Result, Ok, Err, append_assoc}
use Rattle.std.proofs.Common.{refl, sym, ◌∙◌, ap}
use lib.ListN.{get_or}
use Rattle.std.proofs.lemmas.List.{map-append, take_more}
use Rattle.std.proofs.lemmas.List.Sorted.{IsPermutation-map}
use Rattle.std.specs.List.Sorted.{IsPermutation}
use Rattle.std.specs.Str.{chars}
use Rattle.osm_base.specs.values.Tags.{TagPairs}
use Rattle.opl_object.specs.declared.ascii.TheConstants.{EQUALS}
use Rattle.opl_object.specs.declared.mixed.Piece.{Piece}
use Rattle.opl_object.specs.declared.why.Why.{Why}
use Rattle.opl_object.specs.Fields.{is, cut_at}
use Rattle.opl_object.specs.Mixed.{tags_in}
use Rattle.opl_object.specs.Tags.{tag_in, tag_of, tag_or_none, listed, stopped_by, gathered}
use Rattle.opl_object.specs.Text.{bytes_of, text_of, checked_text}
use Rattle.opl_object.specs.Why.{◌>>=◌}
use Rattle.opl_object.proofs.GatheredTags.{with_tags-permuted}

-- one piece more, where it is a tag, and where it is none
pub listed-tag : (pairs : TagPairs) (piece : List ℕ) (tag : List ℕ × List ℕ) → tag_in (cut_at (is EQUALS) piece) ≡ Ok tag
    → listed pairs piece ≡ Ok (pairs ++ tag ∷ [])
unfolding listed
listed-tag pairs piece tag e = ap (λ found. found >>= λ tag. Ok (pairs ++ tag ∷ [])) e

pub listed-none : (pairs : TagPairs) (piece : List ℕ) (why : Why) → tag_in (cut_at (is EQUALS) piece) ≡ Err why
    → listed pairs piece ≡ Err why
unfolding listed
listed-none pairs piece why e = ap (λ found. found >>= λ tag. Ok (pairs ++ tag ∷ [])) e

-- what is behind tags that a piece was added to
pub tag-listed : (pairs : TagPairs) (piece : List ℕ) (next : TagPairs) → listed pairs piece ≡ Ok next → next ≡ pairs ++ tag_of piece ∷ []
unfolding listed tag_of
tag-listed pairs piece next e =
    elim (tag_in (cut_at (is EQUALS) piece)) as
    (λ tag. (tag >>= λ tag. Ok (pairs ++ tag ∷ [])) ≡ Ok next → next ≡ pairs ++ tag_or_none tag ∷ []) [
      | Ok tag ↦ λ e. cc
      | Err why ↦ λ e. absurd (cc)
    ] e

pub tags_in-push : (pieces : List Piece) (piece : Piece) → tags_in (pieces ++ piece ∷ []) ≡ tags_in pieces ++ tag_of piece.text.now ∷ []
tags_in-push pieces piece = map-append (λ own. tag_of own.text.now) pieces (piece ∷ [])

-- one piece more of those that are added
pub found_more : (found : List Piece) (place : ℕ) (past : Piece) (start list next : TagPairs) → place < length found
    → list ≡ start ++ tags_in (take place found)
    → listed list (get_or found place past).text.now ≡ Ok next → next ≡ start ++ tags_in (take (place + 1) found)
found_more found place past start list next below so_far e =
    tag-listed list (get_or found place past).text.now next e
    ∙ ap (λ tags. tags ++ tag_of (get_or found place past).text.now ∷ []) so_far
    ∙ append_assoc start (tags_in (take place found)) (tag_of (get_or found place past).text.now ∷ [])
    ∙ ap (λ tags. start ++ tags) (sym (tags_in-push (take place found) (get_or found place past))
    ∙ ap tags_in (sym (take_more found place past below)))

pub gathered-permuted : (pieces others : List Piece) (fault : Option Why) → IsPermutation pieces others
    → gathered (tags_in pieces) fault ≡ gathered (tags_in others) fault
gathered-permuted pieces others fault p =
    ap (λ tags. tags >>= stopped_by fault)
    (with_tags-permuted (tags_in pieces) (tags_in others) (IsPermutation-map (λ own. tag_of own.text.now) pieces others p))

-- ---- whether a piece is a tag

-- a key and its value
abbrev as_tag : List ℕ → List ℕ → Result (List ℕ × List ℕ) Why
as_tag key value = Ok (key, value)

abbrev checks : Result (List ℕ) Why → Result (Unit {0}) Why
checks read = read >>= λ _. Ok tt

checked-text : (spelled : List ℕ) → checked_text spelled ≡ checks (text_of spelled)
unfolding checked_text text_of
checked-text spelled =
    elim (bytes_of spelled) as (λ read. (read >>= λ _. Ok tt) ≡ checks (read >>= λ bytes. Ok (chars bytes)))
    [ Ok bytes ↦ refl | Err why ↦ refl ]

no_key : (key value : List ℕ) (why : Why) → checks (text_of key) ≡ Err why → tag_in (key, Some value) ≡ Err why
no_key key value why e =
    elim (text_of key) as (λ first. checks first ≡ Err why → (first >>= λ key. text_of value >>= λ value. as_tag key value) ≡ Err why) [
      | Ok key ↦ λ e. absurd (cc)
      | Err own ↦ λ e. let same : own ≡ why = cc in ap Err same
    ] e

no_value : (key value : List ℕ) (why : Why) (some : Unit {0}) → checks (text_of key) ≡ Ok some → checks (text_of value) ≡ Err why
    → tag_in (key, Some value) ≡ Err why
no_value key value why some e f =
    elim (text_of key) as (λ first. checks first ≡ Ok some → (first >>= λ key. text_of value >>= λ value. as_tag key value) ≡ Err why) [
      | Err own ↦ λ e. absurd (cc)
      | Ok key ↦ λ e.
          elim (text_of value) as (λ second. checks second ≡ Err why → (second >>= λ value. as_tag key value) ≡ Err why) [
            | Ok value ↦ λ f. absurd (cc)
            | Err own ↦ λ f. let same : own ≡ why = cc in ap Err same
          ] f
    ] e

both_there : (key value : List ℕ) (some also : Unit {0}) → checks (text_of key) ≡ Ok some → checks (text_of value) ≡ Ok also
    → tag_in (key, Some value) ≡ Ok (tag_or_none (tag_in (key, Some value)))
both_there key value some also e f =
    elim (text_of key) as (λ first. checks first ≡ Ok some → (first >>= λ key. text_of value >>= λ value. as_tag key value)
    ≡ Ok (tag_or_none (first >>= λ key. text_of value >>= λ value. as_tag key value))) [
      | Err own ↦ λ e. absurd (cc)
      | Ok key ↦ λ e.
          elim (text_of value) as (λ second. checks second ≡ Ok also
          → (second >>= λ value. as_tag key value) ≡ Ok (tag_or_none (second >>= λ value. as_tag key value))) [
            | Ok value ↦ λ f. refl
            | Err own ↦ λ f. absurd (cc)
          ] f
    ] e

module _ (piece key value : List ℕ) (cut : (key, Some value) ≡ cut_at (is EQUALS) piece) where
  pub key_fails : (why : Why) → Err why ≡ checked_text key → tag_in (cut_at (is EQUALS) piece) ≡ Err why
  key_fails why e = ap tag_in (sym cut) ∙ no_key key value why (sym (checked-text key) ∙ sym e)

  pub value_fails : (why : Why) (some : Unit {0}) → Ok some ≡ checked_text key → Err why ≡ checked_text value
      → tag_in (cut_at (is EQUALS) piece) ≡ Err why
  value_fails why some e f = ap tag_in (sym cut)
      ∙ no_value key value why some (sym (checked-text key) ∙ sym e) (sym (checked-text value) ∙ sym f)

  pub is_tag : (some also : Unit {0}) → Ok some ≡ checked_text key → Ok also ≡ checked_text value
      → tag_in (cut_at (is EQUALS) piece) ≡ Ok (tag_of piece)
  unfolding tag_of
  is_tag some also e f =
      ap tag_in (sym cut) ∙ both_there key value some also (sym (checked-text key) ∙ sym e) (sym (checked-text value) ∙ sym f)
      ∙ ap (λ cut. Ok (tag_or_none (tag_in cut))) cut
