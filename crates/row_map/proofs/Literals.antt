-- Texts of the code have one byte for each character.
use Rattle.std.proofs.Common.{◌≡◌, ℕ, zero, suc, true, codes, ltb, List, [], ◌∷◌, refl}
use Rattle.std.specs.List.{list_all}
use Rattle.std.specs.Str.{IsAscii, chars}
use Rattle.std.proofs.lemmas.Bool.{ltb-true}
use Rattle.std.proofs.lemmas.Str.{chars-IsAscii}
use Rattle.std.proofs.lemmas.Str.Ascii.{IsAscii-nil}
use Rattle.row_map.proofs.Digits.{both}

ascii : (bytes : List ℕ) → list_all (λ byte. ltb byte 128) bytes ≡ true → IsAscii bytes
ascii [] all i = IsAscii-nil i
ascii (byte ∷ bytes) all zero = ltb-true byte 128 (both _ _ all).0
ascii (byte ∷ bytes) all (suc i) = ascii bytes (both _ _ all).1 i

literal : (bytes : List ℕ) → list_all (λ byte. ltb byte 128) bytes ≡ true → chars bytes ≡ bytes
literal bytes all = chars-IsAscii bytes (ascii bytes all)

pub chars-type : chars (codes "type") ≡ codes "type"
chars-type = literal (codes "type") refl

pub chars-multipolygon : chars (codes "multipolygon") ≡ codes "multipolygon"
chars-multipolygon = literal (codes "multipolygon") refl

pub chars-boundary : chars (codes "boundary") ≡ codes "boundary"
chars-boundary = literal (codes "boundary") refl
