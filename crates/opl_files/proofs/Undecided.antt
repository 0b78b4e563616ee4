-- Bytes after which nothing stops the reader leave each fault of the file open: to end there is one way on, and a line too long another.
use Rattle.std.proofs.Common.{◌≡◌, ℕ, suc, zero, ◌+◌, ◌<◌, ◌≤◌, Bool, true, false, nat_lt, if◌then◌else◌, Option, Some, None, List, [], ◌∷◌}
use Rattle.std.proofs.Common.{◌++◌, length, length-append, refl, sym, ◌∙◌, ap, arith}
use Rattle.std.proofs.lemmas.List.{append-nil}
use Rattle.std.specs.Prelude.{Result, Ok, Err}
use Rattle.std.specs.List.{onto_first}
use Rattle.std.specs.Option.{option_or}
use Rattle.osm_base.specs.declared.bounds.limits.LimitNumbers.{LimitNumbers}
use Rattle.osm_base.specs.declared.bounds.limits.LimitKind.TheVariants.{LineBytes, FileEntries}
use Rattle.osm_base.specs.declared.values.object.Entry.{Entry}
use Rattle.osm_base.specs.values.Key.{KeyOf}
use Rattle.osm_base.specs.values.KeyOrder.{is_below}
use Rattle.opl_lines.specs.Lines.{lines_of, first_of, first_line, IsWithinLine}
use Rattle.opl_lines.specs.Reading.{begun}
use Rattle.opl_lines.proofs.LineLemmas.{first_line-within, lines_of-last, lines_of-none, lines_of-some}
use Rattle.opl_object.specs.declared.why.Why.{Why}
use Rattle.opl_object.specs.declared.why.Why.TheVariants.{Order}
use Rattle.opl_object.specs.Line.{reading}
use Rattle.opl_files.specs.declared.fault.FileFault.{FileFault}
use Rattle.opl_files.specs.declared.fault.FileFault.TheVariants.{Malformed, Limit}
use Rattle.opl_files.specs.declared.passed.Passed.{Passed}
use Rattle.opl_files.specs.declared.progress.Progress.{Progress}
use Rattle.opl_files.specs.Entries.{first_fault, entries_of}
use Rattle.opl_files.specs.Keeps.{kept_all}
use Rattle.opl_files.specs.Passed.{spelled, order_fault, count_fault, entry_fault, said_fault, text_fault}
use Rattle.opl_files.specs.Progress.{in_front, entries_from, entries_left, passed_line, IsReady}
use Rattle.opl_files.specs.Reading.{LeavesOpen}
use Rattle.opl_files.proofs.Lines.{line_fault-text, line_fault-long, entries_from-none, entries_from-next, entries_from-stop, stop_first}
use Rattle.opl_files.proofs.WholeFile.{kept_all-err}

-- a line within the limit of its bytes is not refused as too long

count_fault-other : (limits : LimitNumbers) (entries value : ℕ) → count_fault limits entries ≡ Some (Limit LineBytes value) → ⊥
count_fault-other limits entries value =
    elim (nat_lt entries limits.entries) as (λ test.
    ◌≡◌ {A = Option FileFault} (if test then None else Some (Limit FileEntries (limits.entries + 1))) (Some (Limit LineBytes value))
    → ⊥) [
      | true ↦ λ e. absurd (cc)
      | false ↦ λ e. absurd (cc)
    ]

entry_fault-other : (limits : LimitNumbers) (passed : Passed) (key : KeyOf) (value : ℕ)
    → entry_fault limits passed key ≡ Some (Limit LineBytes value) → ⊥
entry_fault-other limits passed key value =
    elim passed.last as (λ last. option_or (order_fault passed.lines last key) (count_fault limits passed.entries)
    ≡ Some (Limit LineBytes value) → ⊥) [
      | None ↦ count_fault-other limits passed.entries value
      | Some earlier ↦
          elim (is_below earlier key) as (λ test. option_or (if test then None else Some (Malformed (passed.lines + 1) (Order earlier key)))
          (count_fault limits passed.entries) ≡ Some (Limit LineBytes value) → ⊥) [
            | true ↦ count_fault-other limits passed.entries value
            | false ↦ λ e. absurd (cc)
          ]
    ]

said_fault-other : (limits : LimitNumbers) (passed : Passed) (said : Result (Option Entry) Why) (value : ℕ)
    → said_fault limits passed said ≡ Some (Limit LineBytes value) → ⊥
said_fault-other limits passed (Err why) value e = absurd (cc)
said_fault-other limits passed (Ok None) value e = absurd (cc)
said_fault-other limits passed (Ok (Some entry)) value e = entry_fault-other limits passed entry.key value e

text_fault-other : (limits : LimitNumbers) (passed : Passed) (line : List ℕ) (value : ℕ)
    → text_fault limits passed line ≡ Some (Limit LineBytes value) → ⊥
unfolding text_fault
text_fault-other limits passed line value e = said_fault-other limits passed (reading line) value e

-- bytes that make a line too long

abbrev zeros : ℕ → List ℕ
zeros zero = 0 ∷ []
zeros (suc count) = 0 ∷ zeros count

length-zeros : (count : ℕ) → length (zeros count) ≡ count + 1
length-zeros zero = refl
length-zeros (suc count) = omega (arith, length-zeros count)

lines_of-zeros : (count : ℕ) → lines_of (zeros count) ≡ zeros count ∷ []
unfolding lines_of
lines_of-zeros zero = refl
lines_of-zeros (suc count) = ap (onto_first 0) (lines_of-zeros count)

module _ (limits : LimitNumbers) (passed : Passed) where
  goes_long : (line : List ℕ) → IsWithinLine line → passed.lines < limits.lines
      → entries_from limits passed (lines_of (line ++ zeros limits.line_bytes)) ≡ Err (Limit LineBytes (limits.line_bytes + 1))
  goes_long line within counted =
      let all = line ++ zeros limits.line_bytes in
      let first : first_line all ≡ all = first_line-within line (zeros limits.line_bytes) within
      ∙ ap (λ lines. line ++ first_of lines) (lines_of-zeros limits.line_bytes) in
      let long : limits.line_bytes < length all =
      omega (arith, length-append line (zeros limits.line_bytes), length-zeros limits.line_bytes) in
      let too_long : limits.line_bytes < length (first_line all) = omega (arith, long, ap length first) in
      stop_first limits passed (lines_of all) (Limit LineBytes (limits.line_bytes + 1)) (lines_of-some all (omega arith))
      (line_fault-long limits passed (first_line all) counted too_long)

  -- a file that ends in the line, and one in which it goes on, have no fault in common
  open_line : (line : List ℕ) (fault : FileFault) → IsWithinLine line → length line ≤ limits.line_bytes
      → (0 < length line → passed.lines < limits.lines)
      → entries_from limits passed (lines_of (line ++ [])) ≡ Err fault
      → entries_from limits passed (lines_of (line ++ zeros limits.line_bytes)) ≡ Err fault → ⊥
  open_line [] fault within fits some ends long =
      let none : ◌≡◌ {A = Result (List Entry) FileFault} (Ok []) (Err fault) =
      sym (entries_from-none limits passed) ∙ sym (ap (entries_from limits passed) lines_of-none) ∙ ends in
      absurd (cc)
  open_line (byte ∷ bytes) fault within fits some ends long =
      let line = byte ∷ bytes in
      let counted : passed.lines < limits.lines = some (omega arith) in
      let too_long : ◌≡◌ {A = Result (List Entry) FileFault} (Err (Limit LineBytes (limits.line_bytes + 1))) (Err fault) =
      sym (goes_long line within counted) ∙ long in
      let one : lines_of (line ++ []) ≡ line ∷ [] = ap lines_of (append-nil line) ∙ lines_of-last line within (omega arith) in
      let ended : entries_from limits passed (line ∷ []) ≡ Err fault = sym (ap (entries_from limits passed) one) ∙ ends in
      elim (text_fault limits passed line) as (λ found. text_fault limits passed line ≡ found → ⊥) [
        | None ↦ λ e.
            let read : ◌≡◌ {A = Result (List Entry) FileFault} (in_front (spelled line) (Ok [])) (Err fault)
            = ap (in_front (spelled line)) (sym (entries_from-none limits (passed_line passed (spelled line))))
            ∙ sym (entries_from-next limits passed line [] (line_fault-text limits passed line counted fits ∙ e)) ∙ ended in
            absurd (cc)
        | Some own ↦ λ e.
            let stop : ◌≡◌ {A = Result (List Entry) FileFault} (Err own) (Err fault) =
            sym (entries_from-stop limits passed line [] own (line_fault-text limits passed line counted fits ∙ e)) ∙ ended in
            let same : own ≡ Limit LineBytes (limits.line_bytes + 1) = cc in
            text_fault-other limits passed line (limits.line_bytes + 1) (e ∙ ap Some same)
      ] refl

some_begun : (whole : Bool) (line : List ℕ) → 0 < length (if whole then [] else line) → whole ≡ false
some_begun true line h = absurd (omega arith)
some_begun false line h = refl

pub LeavesOpen-none : (limits : LimitNumbers) → LeavesOpen limits []
unfolding entries_of first_fault lines_of
LeavesOpen-none limits fault certain = let none : ◌≡◌ {A = Result (List Entry) FileFault} (Ok []) (Err fault) = certain [] in absurd (cc)

module _ {K : Type 0} (after : K → Entry → K) (limits : LimitNumbers) (before : K) (progress : Progress) (now : K)
    (ready : IsReady limits progress) (front : List ℕ)
    (same : (rest : List ℕ) → kept_all after before (entries_of limits (front ++ rest))
    ≡ kept_all after now (entries_left limits progress rest)) where
  comes_to : (fault : FileFault) → ((later : List ℕ) → entries_of limits (front ++ later) ≡ Err fault) → (rest : List ℕ)
      → entries_left limits progress rest ≡ Err fault
  comes_to fault certain rest = kept_all-err after now (entries_left limits progress rest) fault
      (sym (same rest) ∙ ap (kept_all after before) (certain rest))

  pub undecided : LeavesOpen limits front
  undecided fault certain =
      let keeps = ready.keeps in
      open_line limits progress.passed (begun progress.reader) fault keeps.within_line (omega (arith, keeps.fits, ready.line_bytes))
      (λ h. omega (arith, keeps.next_counted (some_begun progress.reader.whole progress.reader.line h), ready.counted, ready.lines))
      (comes_to fault certain []) (comes_to fault certain (zeros limits.line_bytes))
