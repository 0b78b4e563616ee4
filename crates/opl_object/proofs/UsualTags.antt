-- A tag without escapes in front of a text.
use Rattle.std.proofs.Common.{◌≡◌, ℕ, ◌<◌, not, true, false, inl, inr, eqb, List, [], ◌∷◌, ◌++◌, Option, None, Some, Result, Ok, refl, sym}
use Rattle.std.proofs.Common.{◌∙◌, ap, arith, append_assoc}
use Rattle.std.specs.List.{slice_split}
use Rattle.std.proofs.lemmas.List.{append-nil}
use Rattle.std.specs.Str.{chars}
use Rattle.std.proofs.lemmas.Bool.{cases_Bool, eqb-true, ne_eqb}
use Rattle.opl_object.specs.declared.ascii.TheConstants.{COMMA, EQUALS}
use Rattle.opl_object.specs.declared.why.Why.{Why}
use Rattle.opl_object.specs.Fields.{is, cut_at, behind}
use Rattle.opl_object.specs.Tags.{tag_in}
use Rattle.opl_object.specs.Text.{is_reserved, is_plain, text_of}
use Rattle.opl_object.specs.Why.{◌>>=◌}
use Rattle.opl_object.proofs.Resolving.{bytes_of-plain}
use Rattle.opl_object.proofs.SpelledNumbers.{cut_some}
use Rattle.opl_object.proofs.SpelledTexts.{IsFree, free_append, free_digits, split_at, split_free}

-- what stands behind a first byte
pub behind_is : (first : ℕ) (text rest : List ℕ) → 0 < first → Some rest ≡ behind first text → text ≡ first ∷ rest
behind_is first [] rest some e =
    let other : eqb 0 first ≡ false = ne_eqb 0 first (λ same. omega arith) in
    let wrong : Some rest ≡ nothing = rw other at e in absurd (cc)
  where
    nothing : Option (List ℕ)
    nothing = None
behind_is first (byte ∷ text) rest some e = elim (cases_Bool (eqb byte first)) [
  | inl same ↦ (
      let found : Some rest ≡ Some text = rw same at e in
      let back : text ≡ rest = cc in
      ap (λ own. own ∷ text) (eqb-true byte first same) ∙ ap (λ own. first ∷ own) back)
  | inr other ↦ (let wrong : Some rest ≡ nothing = rw other at e in absurd (cc))
] where
  nothing : Option (List ℕ)
  nothing = None

text_of-plain : (text : List ℕ) → is_plain text ≡ true → text_of text ≡ Ok (chars text)
unfolding text_of
text_of-plain text plain = ap (λ read. read >>= λ bytes. Ok (chars bytes)) (bytes_of-plain text plain)

abbrev with_value : List ℕ → List ℕ → Result (List ℕ × List ℕ) Why
with_value key spelled = text_of spelled >>= λ value. Ok (key, value)

module _ (key value : List ℕ) (key_plain : is_plain key ≡ true) (value_plain : is_plain value ≡ true) where
  pub usual-tag : tag_in (cut_at (is EQUALS) (key ++ EQUALS ∷ value)) ≡ Ok (chars key, chars value)
  usual-tag =
      ap tag_in (cut_some EQUALS key value (free_digits (λ byte. not (is_reserved byte)) EQUALS key refl key_plain))
      ∙ ap (λ read. read >>= λ key. with_value key value) (text_of-plain key key_plain)
      ∙ ap (λ read. read >>= λ value. Ok (chars key, value)) (text_of-plain value value_plain)

  no_comma : IsFree (is COMMA) (key ++ EQUALS ∷ value)
  no_comma =
      free_append (is COMMA) key (EQUALS ∷ value) (free_digits (λ byte. not (is_reserved byte)) COMMA key refl key_plain)
      (refl, free_digits (λ byte. not (is_reserved byte)) COMMA value refl value_plain)

  module _ (text rest behind_key behind_value : List ℕ) (front : text ≡ key ++ rest) (equals : rest ≡ EQUALS ∷ behind_key)
      (back : behind_key ≡ value ++ behind_value) where
    form : text ≡ (key ++ EQUALS ∷ value) ++ behind_value
    form =
        front ∙ ap (λ own. key ++ own) (equals ∙ ap (λ own. EQUALS ∷ own) back)
        ∙ sym (append_assoc key (EQUALS ∷ value) behind_value)

    pub usual-last : behind_value ≡ [] → slice_split (is COMMA) text ≡ (key ++ EQUALS ∷ value) ∷ []
    usual-last none =
        ap (slice_split (is COMMA)) (form ∙ ap (λ own. (key ++ EQUALS ∷ value) ++ own) none ∙ append-nil (key ++ EQUALS ∷ value))
        ∙ split_free (is COMMA) (key ++ EQUALS ∷ value) no_comma

    pub usual-more : (later : List ℕ) → behind_value ≡ COMMA ∷ later
        → slice_split (is COMMA) text ≡ (key ++ EQUALS ∷ value) ∷ slice_split (is COMMA) later
    usual-more later comma =
        ap (slice_split (is COMMA)) (form ∙ ap (λ own. (key ++ EQUALS ∷ value) ++ own) comma)
        ∙ split_at COMMA (key ++ EQUALS ∷ value) later no_comma
