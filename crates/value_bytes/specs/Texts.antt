-- Texts in bytes: their length, and their UTF-8.
use Rattle.std.specs.Prelude.{◌≡◌, ℕ, true, List, encode_utf8_all}
use lib.Utf8.{scalars}
use Rattle.value_bytes.specs.Numbers.{counted_bytes, IsCounted}

-- the characters of a text, in UTF-8 behind the number of its bytes
unfoldable pub text_bytes : List ℕ → List ℕ
text_bytes text = counted_bytes (encode_utf8_all text)

-- a text that has a spelling: its characters are Unicode scalar values
pub record IsText (text : List ℕ) : Type 0 where
  pub scalar : scalars text ≡ true
  pub few : IsCounted (encode_utf8_all text)
