-- Pages that are held back and written in one call.
use Rattle.std.proofs.Common.{◌≡◌, inl, inr, ℕ, ◌+◌, ◌-◌, ◌<◌, ◌≤◌, List, [], ◌∷◌, ◌++◌, length, take, drop, get_or, option_map, refl, replicate, sym}
use Rattle.std.proofs.Common.{ap, ◌∙◌, subst, arith, append_assoc, length-append, length-drop, length-take}
use Rattle.std.proofs.lemmas.Bool.{cases_lt}
use Rattle.std.proofs.lemmas.List.{ext_get_or, get_or_append_left, get_or-append_right, length-replicate, take_at}
use Rattle.std.proofs.lemmas.Slice.{take-put_mid}
use borrow.Rule.Slice.PartMut.{mid_of, put_mid}
use Rattle.outside.specs.Disk.{Crashes, DiskView, Elapses, Follows, Tells, Torn, overlaid}
use Rattle.outside.proofs.Overlay.{length-overlaid, overlaid-in, overlaid-beside, overlaid-within, Torn-same}
use Rattle.page_journal.specs.PageRun.{Grows, Shows, shown}
use Rattle.page_journal.specs.PageSet.{padded}
use Rattle.page_journal.proofs.Bytes.{put_mid-overlaid}
use Rattle.page_journal.proofs.Moments.{told_written}
use Rattle.page_journal.proofs.Places.{Beside}

-- two writes, of which the second begins where the first ends, are one
overlaid-append : (at : ℕ) (first second content : List ℕ)
    → overlaid at (first ++ second) content ≡ overlaid (at + length first) second (overlaid at first content)
overlaid-append at first second content =
    let one = overlaid at (first ++ second) content in
    let mid = overlaid at first content in
    let two = overlaid (at + length first) second mid in
    let both : length (first ++ second) ≡ length first + length second = length-append first second in
    let long : length one ≡ length two =
    omega (
      arith,
      length-overlaid at (first ++ second) content,
      length-overlaid at first content,
      length-overlaid (at + length first) second mid,
    ) in
    ext_get_or 0 one two long (λ i inside.
    elim (cases_lt i at) [
      | inl before ↦
          overlaid-beside at (first ++ second) content i (inl before) ∙ sym (overlaid-beside at first content i (inl before))
          ∙ sym (overlaid-beside (at + length first) second mid i (inl (omega (arith, before))))
      | inr from ↦ elim (cases_lt i (at + length first)) [
        | inl in-first ↦
            let there : at + (i - at) ≡ i = omega (arith, from) in
            ap (λ (k : ℕ). get_or one k 0) (sym there)
            ∙ overlaid-in at (first ++ second) content (i - at) (omega (arith, from, in-first))
            ∙ get_or_append_left first second 0 (i - at) (omega (arith, from, in-first))
            ∙ sym (overlaid-in at first content (i - at) (omega (arith, from, in-first)))
            ∙ ap (λ (k : ℕ). get_or mid k 0) there
            ∙ sym (overlaid-beside (at + length first) second mid i (inl in-first))
        | inr past ↦ elim (cases_lt i (at + length first + length second)) [
          | inl in-second ↦
              let there : at + (i - at) ≡ i = omega (arith, from) in
              let here : at + length first + (i - (at + length first)) ≡ i = omega (arith, past) in
              let back : i - at - length first ≡ i - (at + length first) = omega arith in
              ap (λ (k : ℕ). get_or one k 0) (sym there)
              ∙ overlaid-in at (first ++ second) content (i - at) (omega (arith, from, in-second))
              ∙ get_or-append_right first second (length first) (i - at) 0 refl (omega (arith, past))
              ∙ ap (λ (k : ℕ). get_or second k 0) back
              ∙ sym (overlaid-in (at + length first) second mid (i - (at + length first)) (omega (arith, past, in-second)))
              ∙ ap (λ (k : ℕ). get_or two k 0) here
          | inr behind ↦
              overlaid-beside at (first ++ second) content i (inr (omega (arith, behind)))
              ∙ sym (overlaid-beside at first content i (inr past))
              ∙ sym (overlaid-beside (at + length first) second mid i (inr behind))
        ]
      ]
    ])

-- the front of a buffer into which bytes were written
pub take-overlaid : (at count : ℕ) (bytes content : List ℕ) → length bytes ≡ count → at + count ≤ length content
    → take (at + count) (overlaid at bytes content) ≡ take at content ++ bytes
take-overlaid at count bytes content long fits =
    let within : at ≤ length content = omega (arith, fits) in
    let rest = drop (at + length bytes) content in
    let size : length (take at content ++ bytes) ≡ at + count =
    length-append (take at content) bytes ∙ omega (arith, length-take at content, long, fits) in
    ap (λ (l : List ℕ). take (at + count) l) (overlaid-within at bytes content within ∙ sym (append_assoc (take at content) bytes rest))
    ∙ take_at (take at content ++ bytes) rest (at + count) size

-- and so of one into which a page was put in two parts, its bytes and the zeros behind them
pub padded_behind : (filled : ℕ) (page old held zeros : List ℕ) → length page ≤ 4096 → filled + 4096 ≤ length old → held ≡ page
    → zeros ≡ replicate (length (mid_of (filled + length page) (filled + 4096 - (filled + length page))
    (put_mid filled (filled + length page - filled) old held))) 0
    → take (filled + 4096) (put_mid (filled + length page) (filled + 4096 - (filled + length page))
    (put_mid filled (filled + length page - filled) old held) zeros)
    ≡ take filled old ++ padded page
unfolding padded
padded_behind filled page old held zeros few fits is none =
    let at : ℕ = filled + length page in
    let mid : List ℕ = put_mid filled (at - filled) old held in
    let same : length held ≡ length page = ap (λ (l : List ℕ). length l) is in
    let within : filled ≤ length old = omega (arith, fits) in
    let size : length mid ≡ length old =
    ap (λ (l : List ℕ). length l) (put_mid-overlaid filled (length page) old held within same)
    ∙ omega (arith, length-overlaid filled held old, same, few, fits) in
    let count : length (mid_of at (filled + 4096 - at) mid) ≡ 4096 - length page =
    length-take (filled + 4096 - at) (drop at mid) ∙ omega (arith, length-drop at mid, size, few, fits) in
    let zeros-are : zeros ≡ replicate (4096 - length page) 0 = none ∙ ap (λ (n : ℕ). replicate n 0) count in
    let many : length zeros ≡ 4096 - length page =
    ap (λ (l : List ℕ). length l) zeros-are ∙ length-replicate {A = ℕ} (4096 - length page) 0 in
    take-put_mid at (filled + 4096 - at) mid zeros (filled + 4096) (omega (arith, many, few)) (omega (arith, size, fits, few))
    ∙ ap (λ (l : List ℕ). l ++ zeros) (take-put_mid filled (at - filled) old held at (omega (arith, same)) within)
    ∙ append_assoc (take filled old) held zeros
    ∙ ap (λ (l : List ℕ). take filled old ++ (l ++ zeros)) is
    ∙ ap (λ (l : List ℕ). take filled old ++ (page ++ l)) zeros-are

shown-some : (at : ℕ) (held content : List ℕ) → 0 < length held → shown at held content ≡ overlaid at held content
shown-some at [] content some = absurd (omega (arith, some))
shown-some at (byte ∷ held) content some = refl

shown-append : (at : ℕ) (held page content : List ℕ) → 0 < length page
    → shown at (held ++ page) content ≡ overlaid (at + length held) page (shown at held content)
shown-append at [] page content some =
    let same : at ≡ at + 0 = omega arith in
    shown-some at page content some ∙ ap (λ (n : ℕ). overlaid n page content) same
shown-append at (byte ∷ held) page content some = overlaid-append at (byte ∷ held) page content

-- where nothing is held, the disk has it all
pub tells_none : (at filled : ℕ) (buffer content : List ℕ) (view : DiskView) → filled ≡ 0 → Shows at filled buffer view content
    → Tells view content
tells_none at filled buffer content view none shows =
    let is : content ≡ shows.now = shows.is ∙ ap (λ (n : ℕ). shown at (take n buffer) shows.now) none in
    subst (λ (l : List ℕ). Tells view l) (sym is) shows.told

pub shows_none : (at filled : ℕ) (buffer content : List ℕ) (view : DiskView) → filled ≡ 0 → Tells view content
    → Shows at filled buffer view content
shows_none at filled buffer content view none told =
    record { now = content; told = told; is = ap (λ (n : ℕ). shown at (take n buffer) content) (sym none) }

-- and else once it is written
pub tells_written : (at filled : ℕ) (buffer piece content : List ℕ) (old new : DiskView) → Shows at filled buffer old content
    → 0 < filled → filled ≤ length buffer → piece ≡ take filled buffer → new.content ≡ option_map (overlaid at piece) old.content
    → Tells new content
tells_written at filled buffer piece content old new shows some inside piece-is written =
    let told : Tells new (overlaid at piece shows.now) =
    told_written (overlaid at piece) old.content new.content shows.now shows.told written in
    let long : 0 < length (take filled buffer) = omega (arith, length-take filled buffer, some, inside) in
    let is : content ≡ overlaid at piece shows.now =
    shows.is ∙ shown-some at (take filled buffer) shows.now long ∙ ap (λ (l : List ℕ). overlaid at l shows.now) (sym piece-is) in
    subst (λ (l : List ℕ). Tells new l) (sym is) told

-- one page more
pub shows_more : (at filled place : ℕ) (buffer next page content : List ℕ) (view : DiskView) → Shows at filled buffer view content
    → at + filled ≡ place → filled ≤ length buffer → length page ≡ 4096 → take (filled + 4096) next ≡ take filled buffer ++ page
    → Shows at (filled + 4096) next view (overlaid place page content)
shows_more at filled place buffer next page content view shows end inside size held =
    let before = take filled buffer in
    let there : place ≡ at + length before = omega (arith, length-take filled buffer, end, inside) in
    record {
      now = shows.now;
      told = shows.told;
      is = ap (λ (l : List ℕ). overlaid place page l) shows.is
          ∙ ap (λ (n : ℕ). overlaid n page (shown at before shows.now)) there
          ∙ sym (shown-append at before page shows.now (omega (arith, size)))
          ∙ ap (λ (l : List ℕ). shown at l shows.now) (sym held);
    }

-- what is kept beside what was held and beside the page is kept beside both
pub beside_grown : (K : ℕ → Type 0) (at filled place new_at new_filled : ℕ) → Grows at filled place new_at new_filled
    → Beside K at filled → Beside K place 4096 → Beside K new_at new_filled
beside_grown K at filled place new_at new_filled grows held page = λ i keeps.
    elim (page i keeps) [
      | inr past ↦ inr (omega (arith, grows.end, past))
      | inl before ↦ elim grows.start [
        | inl alone ↦ inl (omega (arith, alone, before))
        | inr after ↦ elim (held i keeps) [
          | inl front ↦ inl (omega (arith, after.0, front))
          | inr behind ↦ absurd (omega (arith, after.1, behind, before))
        ]
      ]
    ]

-- no write at all
pub elapses_same : (crashes : Crashes) → Elapses crashes crashes
elapses_same crashes = record {
  later = omega arith;
  each = λ since left le now. inl now;
  keeps = λ since left le before. before;
}

pub follows_same : (at count : ℕ) (crashes : Crashes) → Follows (Torn at count) crashes crashes
follows_same at count crashes = λ left now. (left, now, Torn-same at count left)
