-- The texts of faults have one byte for each character.
use Rattle.std.proofs.Common.{◌≡◌, ℕ, zero, suc, ◌+◌, ◌/◌, ◌%◌, ◌<◌, true, false, cond, eqb, ltb, refl, List, [], ◌∷◌, ◌++◌, arith}
use Rattle.std.specs.Prelude.{decimal, codes, nat_lt}
use Rattle.std.specs.List.{list_all}
use Rattle.std.specs.Fmt.{digits, digits_onto, digit_glyph}
use Rattle.std.specs.Str.{IsAscii, chars}
use Rattle.std.proofs.lemmas.Str.{IsAscii-append, chars-IsAscii}
use Rattle.std.proofs.lemmas.Str.Ascii.{IsAscii-nil}
use Rattle.std.proofs.lemmas.Bool.Decides.{nat_tests}
use Rattle.osm_base.specs.declared.values.key.Kind.{Kind}
use Rattle.osm_base.specs.declared.values.key.Kind.TheVariants.{Node, Way, Relation}
use Rattle.osm_base.specs.declared.bounds.limits.LimitKind.{LimitKind}
use Rattle.osm_base.specs.declared.bounds.limits.LimitKind.TheVariants as kinds
use Rattle.osm_base.specs.values.Key.{KeyOf}
use Rattle.opl_object.specs.declared.why.Why.{Why}
use Rattle.opl_object.specs.declared.why.Why.TheVariants as causes
use Rattle.opl_object.specs.Why.{cause_number}
use Rattle.run_promise.specs.declared.fault.Fault.{Fault}
use Rattle.run_promise.specs.declared.fault.Fault.TheVariants.{Usage, Malformed, BadStyle, BadBounds, BadQuery, BadFeed, Gap, Limit}
use Rattle.run_promise.specs.declared.fault.Fault.TheVariants.{NotFormatted, NotEmpty, NotImported, AlreadyImported, OldFormat, Follower}
use Rattle.run_promise.specs.declared.fault.Fault.TheVariants.{UnknownTable, BadStore, ReadFault, WriteFault, DiskFault, OutOfMemory}
use Rattle.style_read.specs.declared.fault.StylePart.{StylePart}
use Rattle.style_read.specs.declared.fault.StylePart.TheVariants as parts
use Rattle.style_read.specs.Why.{cause_number as style_number}
use Rattle.map_query.specs.Fault.{cause_number as query_number}
use Rattle.delta_feed.specs.Why.{cause_number as feed_number}
use Rattle.run_promise.specs.Faults.{fault_text, kind_text, key_text, limit_text, order_text, part_text}

IsAscii-cons : (byte : ℕ) (bytes : List ℕ) → byte < 128 → IsAscii bytes → IsAscii (byte ∷ bytes)
IsAscii-cons byte bytes first others zero = first
IsAscii-cons byte bytes first others (suc i) = others i

glyph_below : (d : ℕ) → d < 10 → digit_glyph false d < 128
glyph_below d below = elim (ltb d 10) as
    (λ b. cond b (48 + d) (cond false (55 + d) (87 + d)) < 128) [ true ↦ omega arith | false ↦ omega arith ]

IsAscii-digits_onto : (k n : ℕ) (after : List ℕ) → IsAscii after → IsAscii (digits_onto k 10 false n after)
IsAscii-digits_onto zero n after h = h
IsAscii-digits_onto (suc k) n after h =
    let more : IsAscii (digit_glyph false (n % 10) ∷ after) =
    IsAscii-cons (digit_glyph false (n % 10)) after (glyph_below (n % 10) (omega arith)) h in
    elim (eqb (n / 10) 0) as (λ b. IsAscii (cond b (digit_glyph false (n % 10) ∷ after)
    (digits_onto k 10 false (n / 10) (digit_glyph false (n % 10) ∷ after)))) [
      | true ↦ more
      | false ↦ IsAscii-digits_onto k (n / 10) (digit_glyph false (n % 10) ∷ after) more
    ]

-- a number is written in ASCII
pub IsAscii-any_decimal : (n : ℕ) → IsAscii (decimal n)
unfolding digits
IsAscii-any_decimal n = IsAscii-digits_onto 64 n [] IsAscii-nil

IsAscii-words : (words : List ℕ) → list_all (λ byte. nat_lt byte 128) words ≡ true → IsAscii words
IsAscii-words [] h = IsAscii-nil
IsAscii-words (byte ∷ words) h =
    let below : ltb byte 128 ≡ true = grind arith in
    IsAscii-cons byte words (grind (arith, nat_tests)) (IsAscii-words words (grind arith))

IsAscii-kind_text : (kind : Kind) → IsAscii (kind_text kind)
IsAscii-kind_text Node = IsAscii-words (codes "n") refl
IsAscii-kind_text Way = IsAscii-words (codes "w") refl
IsAscii-kind_text Relation = IsAscii-words (codes "r") refl

IsAscii-key_text : (key : KeyOf) → IsAscii (key_text key)
IsAscii-key_text key = IsAscii-append (kind_text key.kind) (decimal key.id) (IsAscii-kind_text key.kind) (IsAscii-any_decimal key.id)

IsAscii-limit_text : (which : LimitKind) → IsAscii (limit_text which)
IsAscii-limit_text kinds.LineBytes = IsAscii-words (codes "line-bytes") refl
IsAscii-limit_text kinds.FileLines = IsAscii-words (codes "file-lines") refl
IsAscii-limit_text kinds.FileEntries = IsAscii-words (codes "file-entries") refl
IsAscii-limit_text kinds.StyleBytes = IsAscii-words (codes "style-bytes") refl
IsAscii-limit_text kinds.BoundsBytes = IsAscii-words (codes "bounds-bytes") refl
IsAscii-limit_text kinds.QueryBytes = IsAscii-words (codes "query-bytes") refl
IsAscii-limit_text kinds.Pages = IsAscii-words (codes "pages") refl
IsAscii-limit_text kinds.Pending = IsAscii-words (codes "pending") refl
IsAscii-limit_text kinds.Changes = IsAscii-words (codes "changes") refl

IsAscii-order_text : (why : Why) → IsAscii (order_text why)
IsAscii-order_text (causes.Order earlier later) =
    let first : IsAscii (codes " " ++ key_text earlier) =
    IsAscii-append (codes " ") (key_text earlier) (IsAscii-words (codes " ") refl) (IsAscii-key_text earlier) in
    let space : IsAscii (codes " " ++ key_text earlier ++ codes " ") =
    IsAscii-append (codes " " ++ key_text earlier) (codes " ") first (IsAscii-words (codes " ") refl) in
    IsAscii-append (codes " " ++ key_text earlier ++ codes " ") (key_text later) space (IsAscii-key_text later)
IsAscii-order_text causes.Utf8 = IsAscii-nil
IsAscii-order_text causes.Kind = IsAscii-nil
IsAscii-order_text causes.Id = IsAscii-nil
IsAscii-order_text causes.Field = IsAscii-nil
IsAscii-order_text causes.Repeated = IsAscii-nil
IsAscii-order_text causes.Number = IsAscii-nil
IsAscii-order_text causes.Range = IsAscii-nil
IsAscii-order_text causes.Escape = IsAscii-nil
IsAscii-order_text causes.Tag = IsAscii-nil
IsAscii-order_text causes.RepeatedKey = IsAscii-nil
IsAscii-order_text causes.Member = IsAscii-nil
IsAscii-order_text causes.HalfPlace = IsAscii-nil

IsAscii-malformed : (file line number : ℕ)
    → IsAscii (codes "malformed file " ++ decimal file ++ codes " line " ++ decimal line ++ codes " cause " ++ decimal number)
IsAscii-malformed file line number =
    let in_file : IsAscii (codes "malformed file " ++ decimal file) =
    IsAscii-append (codes "malformed file ") (decimal file) (IsAscii-words (codes "malformed file ") refl) (IsAscii-any_decimal file) in
    let at : IsAscii (codes "malformed file " ++ decimal file ++ codes " line ") =
    IsAscii-append (codes "malformed file " ++ decimal file) (codes " line ") in_file (IsAscii-words (codes " line ") refl) in
    let in_line : IsAscii (codes "malformed file " ++ decimal file ++ codes " line " ++ decimal line) =
    IsAscii-append (codes "malformed file " ++ decimal file ++ codes " line ") (decimal line) at (IsAscii-any_decimal line) in
    let of : IsAscii (codes "malformed file " ++ decimal file ++ codes " line " ++ decimal line ++ codes " cause ") =
    IsAscii-append (codes "malformed file " ++ decimal file ++ codes " line " ++ decimal line) (codes " cause ") in_line
    (IsAscii-words (codes " cause ") refl) in
    IsAscii-append (codes "malformed file " ++ decimal file ++ codes " line " ++ decimal line ++ codes " cause ") (decimal number) of
    (IsAscii-any_decimal number)

-- words and a number, and then the same again
IsAscii-two : (one other : List ℕ) (first second : ℕ) → IsAscii one → IsAscii other
    → IsAscii (one ++ decimal first ++ other ++ decimal second)
IsAscii-two one other first second h k =
    let in_one : IsAscii (one ++ decimal first) = IsAscii-append one (decimal first) h (IsAscii-any_decimal first) in
    let at : IsAscii (one ++ decimal first ++ other) = IsAscii-append (one ++ decimal first) other in_one k in
    IsAscii-append (one ++ decimal first ++ other) (decimal second) at (IsAscii-any_decimal second)

-- and once more
IsAscii-three : (one other last : List ℕ) (first second third : ℕ) → IsAscii one → IsAscii other → IsAscii last
    → IsAscii (one ++ decimal first ++ other ++ decimal second ++ last ++ decimal third)
IsAscii-three one other last first second third h k l =
    let at : IsAscii (one ++ decimal first ++ other ++ decimal second ++ last) =
    IsAscii-append (one ++ decimal first ++ other ++ decimal second) last (IsAscii-two one other first second h k) l in
    IsAscii-append (one ++ decimal first ++ other ++ decimal second ++ last) (decimal third) at (IsAscii-any_decimal third)

IsAscii-part_text : (part : StylePart) → IsAscii (part_text part)
IsAscii-part_text parts.Top = IsAscii-words (codes "top") refl
IsAscii-part_text (parts.Selection number) =
    IsAscii-append (codes "selection ") (decimal number) (IsAscii-words (codes "selection ") refl) (IsAscii-any_decimal number)
IsAscii-part_text (parts.Table number) =
    IsAscii-append (codes "table ") (decimal number) (IsAscii-words (codes "table ") refl) (IsAscii-any_decimal number)

IsAscii-bad_style : (file number : ℕ) → IsAscii
    (codes "bad style file " ++ decimal file ++ codes " cause " ++ decimal number ++ codes " part ")
IsAscii-bad_style file number = IsAscii-append (codes "bad style file " ++ decimal file ++ codes " cause " ++ decimal number)
    (codes " part ")
    (IsAscii-two (codes "bad style file ") (codes " cause ") file number (IsAscii-words (codes "bad style file ") refl)
    (IsAscii-words (codes " cause ") refl))
    (IsAscii-words (codes " part ") refl)

IsAscii-fault_text : (fault : Fault) → IsAscii (fault_text fault)
IsAscii-fault_text Usage = IsAscii-words (codes "usage") refl
IsAscii-fault_text (Malformed file line why) =
    IsAscii-append (codes "malformed file " ++ decimal file ++ codes " line " ++ decimal line ++ codes " cause " ++ decimal (cause_number why))
    (order_text why)
    (IsAscii-malformed file line (cause_number why)) (IsAscii-order_text why)
IsAscii-fault_text (BadStyle file why part) =
    IsAscii-append (codes "bad style file " ++ decimal file ++ codes " cause " ++ decimal (style_number why) ++ codes " part ")
    (part_text part)
    (IsAscii-bad_style file (style_number why)) (IsAscii-part_text part)
IsAscii-fault_text (BadBounds file line) =
    IsAscii-two (codes "bad bounds file ") (codes " line ") file line (IsAscii-words (codes "bad bounds file ") refl)
    (IsAscii-words (codes " line ") refl)
IsAscii-fault_text (BadQuery file line why) =
    IsAscii-append (codes "bad query file " ++ decimal file ++ codes " line " ++ decimal line ++ codes " cause ")
    (decimal (query_number why))
    (IsAscii-append (codes "bad query file " ++ decimal file ++ codes " line " ++ decimal line) (codes " cause ")
    (IsAscii-two (codes "bad query file ") (codes " line ") file line (IsAscii-words (codes "bad query file ") refl)
    (IsAscii-words (codes " line ") refl)) (IsAscii-words (codes " cause ") refl))
    (IsAscii-any_decimal (query_number why))
IsAscii-fault_text (BadFeed file line why) =
    IsAscii-three (codes "bad feed file ") (codes " line ") (codes " cause ") file line (feed_number why)
    (IsAscii-words (codes "bad feed file ") refl) (IsAscii-words (codes " line ") refl) (IsAscii-words (codes " cause ") refl)
IsAscii-fault_text (Gap file have got) =
    IsAscii-three (codes "gap file ") (codes " have ") (codes " got ") file have got
    (IsAscii-words (codes "gap file ") refl) (IsAscii-words (codes " have ") refl) (IsAscii-words (codes " got ") refl)
IsAscii-fault_text (Limit which value) =
    let name : IsAscii (codes "limit " ++ limit_text which) =
    IsAscii-append (codes "limit ") (limit_text which) (IsAscii-words (codes "limit ") refl) (IsAscii-limit_text which) in
    let before : IsAscii (codes "limit " ++ limit_text which ++ codes " value ") =
    IsAscii-append (codes "limit " ++ limit_text which) (codes " value ") name (IsAscii-words (codes " value ") refl) in
    IsAscii-append (codes "limit " ++ limit_text which ++ codes " value ") (decimal value) before (IsAscii-any_decimal value)
IsAscii-fault_text (ReadFault file) = IsAscii-append (codes "read fault file ") (decimal file)
    (IsAscii-words (codes "read fault file ") refl) (IsAscii-any_decimal file)
IsAscii-fault_text NotFormatted = IsAscii-words (codes "not formatted") refl
IsAscii-fault_text NotEmpty = IsAscii-words (codes "not empty") refl
IsAscii-fault_text NotImported = IsAscii-words (codes "not imported") refl
IsAscii-fault_text AlreadyImported = IsAscii-words (codes "already imported") refl
IsAscii-fault_text OldFormat = IsAscii-words (codes "old format") refl
IsAscii-fault_text Follower = IsAscii-words (codes "follower") refl
IsAscii-fault_text UnknownTable = IsAscii-words (codes "unknown table") refl
IsAscii-fault_text (BadStore page) = IsAscii-append (codes "bad store page ") (decimal page) (IsAscii-words (codes "bad store page ") refl)
    (IsAscii-any_decimal page)
IsAscii-fault_text WriteFault = IsAscii-words (codes "write fault") refl
IsAscii-fault_text DiskFault = IsAscii-words (codes "disk fault") refl
IsAscii-fault_text OutOfMemory = IsAscii-words (codes "out of memory") refl

-- the characters of a fault's line are its bytes
pub chars-fault_text : (fault : Fault) → chars (fault_text fault) ≡ fault_text fault
chars-fault_text fault = chars-IsAscii (fault_text fault) (IsAscii-fault_text fault)
