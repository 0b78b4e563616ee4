-- The laws of texts in bytes.
use Rattle.std.proofs.Common.{◌≡◌, ℕ, List, ap, sym, ◌∙◌, refl, encode_utf8_all, subst}
use Rattle.std.proofs.lemmas.Str.{chars-encodes, encodes-chars, scalars-chars}
use Rattle.std.specs.Str.{chars, IsUtf8}
use Rattle.value_bytes.specs.Forms.{IsFront, IsFrontless}
use Rattle.value_bytes.specs.Numbers.{counted_bytes, IsCounted}
use Rattle.value_bytes.specs.Texts.{text_bytes, IsText}
use Rattle.value_bytes.proofs.Seen.{AreSeen, front_seen, frontless_seen, unseen}

texts_seen : AreSeen counted_bytes IsCounted text_bytes IsText encode_utf8_all
unfolding text_bytes
texts_seen = record { is = λ text is. is.few; told = λ text. refl }

pub text_front : (bytes text rest : List ℕ) → IsUtf8 text → IsFront counted_bytes IsCounted bytes text rest
    → IsFront text_bytes IsText bytes (chars text) rest
text_front bytes text rest utf8 front =
    let again = encodes-chars text utf8 in
    front_seen counted_bytes IsCounted text_bytes IsText encode_utf8_all texts_seen bytes text rest front (chars text)
    (record { scalar = scalars-chars text utf8; few = subst IsCounted (sym again) front.begins.is }) again
    (λ other is here. sym (chars-encodes other is.scalar) ∙ ap chars here)

pub text_frontless : (bytes : List ℕ) → IsFrontless counted_bytes IsCounted bytes → IsFrontless text_bytes IsText bytes
text_frontless bytes none = frontless_seen counted_bytes IsCounted text_bytes IsText encode_utf8_all texts_seen bytes none

pub text_unseen : (bytes text rest : List ℕ) → (IsUtf8 text → ⊥) → IsFront counted_bytes IsCounted bytes text rest
    → IsFrontless text_bytes IsText bytes
text_unseen bytes text rest none front =
    unseen counted_bytes IsCounted text_bytes IsText encode_utf8_all texts_seen bytes text rest front
    (λ other is here. none (other, (is.scalar, here)))

-- bytes that were put are those of the characters
pub text_put : (text : List ℕ) → IsUtf8 text → counted_bytes text ≡ text_bytes (chars text)
unfolding text_bytes
text_put text utf8 = ap counted_bytes (sym (encodes-chars text utf8))

pub text_is : (text : List ℕ) → IsUtf8 text → IsCounted text → IsText (chars text)
text_is text utf8 few = record { scalar = scalars-chars text utf8; few = subst IsCounted (sym (encodes-chars text utf8)) few }
