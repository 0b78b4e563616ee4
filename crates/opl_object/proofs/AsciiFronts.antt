-- A text that begins with ASCII is UTF-8 just where what stands behind it is.
use Rattle.std.proofs.Common.{◌≡◌, ℕ, zero, suc, ◌+◌, ◌-◌, ◌<◌, ◌≤◌, List, length, take, drop, get_or}
use Rattle.std.proofs.Common.{sym, subst, arith}
use Rattle.std.specs.Char.{is_ascii}
use Rattle.std.specs.Str.{IsAscii, IsUtf8, IsCharBoundary}
use Rattle.std.proofs.Math.Seq.{take-add}
use Rattle.std.proofs.lemmas.Bool.{ltb-true}
use Rattle.std.proofs.lemmas.List.{take_all, take-append-drop, length-drop, length-take, get_or-take}
use Rattle.std.proofs.lemmas.List.Elements.{All-from_get_or}
use Rattle.std.proofs.lemmas.Str.{IsAscii-append, IsUtf8-append, IsUtf8-drop, IsUtf8-from_ascii}
use Rattle.std.proofs.lemmas.Str.{IsCharBoundary-after_ascii, IsCharBoundary-start}
use Rattle.std.proofs.lemmas.Str.Ascii.{IsAscii-from_all}
use Rattle.opl_object.specs.declared.lanes.TheConstants.{LANES}
use Rattle.opl_object.specs.Runs.{Passes}

-- what stands behind a place, to the end
pub rest_all : (bytes : List ℕ) (n : ℕ) → take (length bytes - n) (drop n bytes) ≡ drop n bytes
rest_all bytes n = take_all (length bytes - n) (drop n bytes) (omega (arith, length-drop n bytes))

-- a front whose bytes are ASCII one by one
front : (bytes : List ℕ) (n : ℕ) → ((k : ℕ) → k < n → get_or bytes k 0 < 128) → IsAscii (take n bytes)
front bytes n low = IsAscii-from_all (take n bytes) (All-from_get_or (λ byte. byte < 128) (take n bytes) 0 each)
  where
    each : (k : ℕ) → k < length (take n bytes) → get_or (take n bytes) k 0 < 128
    each k lt =
        let within : k < n = omega (arith, length-take n bytes) in
        subst (λ byte. byte < 128) (sym (get_or-take n bytes k 0 within)) (low k within)

-- an ASCII front, and sixteen bytes more that are ASCII
pub longer : (bytes : List ℕ) (len : ℕ) → IsAscii (take len bytes) → Passes is_ascii (drop len bytes) LANES
    → IsAscii (take (len + LANES) bytes)
longer bytes len before more =
    let rest = drop len bytes in
    let low : IsAscii (take LANES rest) = front rest LANES (λ k lt. ltb-true _ _ (more.all k lt)) in
    subst IsAscii (sym (take-add len LANES bytes)) (IsAscii-append (take len bytes) (take LANES rest) before low)

-- a character begins behind an ASCII front
boundary : (bytes : List ℕ) (n : ℕ) → n ≤ length bytes → IsAscii (take n bytes) → IsUtf8 bytes → IsCharBoundary bytes n
boundary bytes zero le ascii utf8 = IsCharBoundary-start bytes utf8
boundary bytes (suc n) le ascii utf8 =
    let low : get_or bytes n 0 < 128 = omega (arith, ascii n, get_or-take (suc n) bytes n 0 (omega arith)) in
    let on : n + 1 ≡ suc n = omega arith in
    subst (IsCharBoundary bytes) on (IsCharBoundary-after_ascii bytes n utf8 (omega arith) low)

-- what stands behind an ASCII front of UTF-8 is UTF-8
pub behind : (bytes : List ℕ) (n : ℕ) → n ≤ length bytes → IsAscii (take n bytes) → IsUtf8 bytes → IsUtf8 (drop n bytes)
behind bytes n le ascii utf8 = IsUtf8-drop bytes n utf8 (boundary bytes n le ascii utf8)

-- and where what stands behind it is, all is
pub whole : (bytes : List ℕ) (n : ℕ) → IsAscii (take n bytes) → IsUtf8 (drop n bytes) → IsUtf8 bytes
whole bytes n ascii utf8 = subst IsUtf8 (take-append-drop n bytes)
    (IsUtf8-append (take n bytes) (drop n bytes) (IsUtf8-from_ascii (take n bytes) ascii) utf8)
