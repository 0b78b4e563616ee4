-- What a step of the reader of lines does to the entries that are left.
use Rattle.std.proofs.Common.{◌≡◌, ℕ, suc, ◌+◌, ◌<◌, ◌≤◌, true, false, nat_lt, nat_le, Option, Some, None, List, [], ◌∷◌, ◌++◌, length}
use Rattle.std.proofs.Common.{drop, refl, sym, ◌∙◌, ap, subst, arith}
use Rattle.std.proofs.lemmas.List.{append-nil}
use Rattle.std.proofs.lemmas.Bool.{le-leb, le-ltb, lt-leb}
use Rattle.std.specs.Prelude.{Result, Ok, Err}
use Rattle.osm_base.specs.declared.bounds.limits.LimitNumbers.{LimitNumbers}
use Rattle.osm_base.specs.declared.bounds.limits.LimitKind.TheVariants as kinds
use Rattle.osm_base.specs.declared.values.object.Entry.{Entry}
use Rattle.opl_lines.specs.Lines.{lines_of, first_of}
use Rattle.opl_lines.specs.Reading.{Reading, begun}
use Rattle.opl_lines.specs.Takes.{Takes, Refuses}
use Rattle.opl_lines.specs.declared.fault.LineFault.{LineFault}
use Rattle.opl_lines.specs.declared.fault.LineFault.TheVariants.{LineBytes, FileLines, OutOfMemory}
use Rattle.opl_files.specs.declared.fault.FileFault.{FileFault}
use Rattle.opl_files.specs.declared.fault.FileFault.TheVariants as faults
use Rattle.opl_files.specs.declared.passed.Passed.{Passed}
use Rattle.opl_files.specs.declared.progress.Progress.{Progress}
use Rattle.opl_files.specs.Entries.{unless}
use Rattle.opl_files.specs.Keeps.{kept, kept_all}
use Rattle.opl_files.specs.Passed.{spelled, text_fault, line_fault}
use Rattle.opl_files.specs.Progress.{passed_line, in_front, entries_from, entries_left, IsReady}
use Rattle.opl_files.specs.Stops.{StopsAt}

-- the fault of one line

module _ (limits : LimitNumbers) (passed : Passed) (line : List ℕ) where
  pub line_fault-text : passed.lines < limits.lines → length line ≤ limits.line_bytes
      → line_fault limits passed line ≡ text_fault limits passed line
  unfolding line_fault
  line_fault-text counted short =
      let a : nat_lt passed.lines limits.lines ≡ true = le-leb (suc passed.lines) limits.lines counted in
      let b : nat_le (length line) limits.line_bytes ≡ true = le-leb (length line) limits.line_bytes short in
      rw (a, b) refl

  pub line_fault-uncounted : passed.lines ≡ limits.lines
      → line_fault limits passed line ≡ Some (faults.Limit kinds.FileLines (limits.lines + 1))
  unfolding line_fault
  line_fault-uncounted same =
      let a : nat_lt passed.lines limits.lines ≡ false = le-ltb passed.lines limits.lines (omega arith) in
      rw a refl

  pub line_fault-long : passed.lines < limits.lines → limits.line_bytes < length line
      → line_fault limits passed line ≡ Some (faults.Limit kinds.LineBytes (limits.line_bytes + 1))
  unfolding line_fault
  line_fault-long counted long =
      let a : nat_lt passed.lines limits.lines ≡ true = le-leb (suc passed.lines) limits.lines counted in
      let b : nat_le (length line) limits.line_bytes ≡ false = lt-leb (length line) limits.line_bytes long in
      rw (a, b) refl

-- the first of the lines that are left

pub entries_from-next : (limits : LimitNumbers) (passed : Passed) (line : List ℕ) (lines : List (List ℕ))
    → line_fault limits passed line ≡ None
    → entries_from limits passed (line ∷ lines) ≡ in_front (spelled line) (entries_from limits (passed_line passed (spelled line)) lines)
unfolding entries_from
entries_from-next limits passed line lines e =
    ap (λ fault. unless fault (in_front (spelled line) (entries_from limits (passed_line passed (spelled line)) lines))) e

pub entries_from-stop : (limits : LimitNumbers) (passed : Passed) (line : List ℕ) (lines : List (List ℕ)) (fault : FileFault)
    → line_fault limits passed line ≡ Some fault
    → entries_from limits passed (line ∷ lines) ≡ Err fault
unfolding entries_from
entries_from-stop limits passed line lines fault e =
    ap (λ own. unless own (in_front (spelled line) (entries_from limits (passed_line passed (spelled line)) lines))) e

pub stop_first : (limits : LimitNumbers) (passed : Passed) (lines : List (List ℕ)) (fault : FileFault) → 0 < length lines
    → line_fault limits passed (first_of lines) ≡ Some fault → entries_from limits passed lines ≡ Err fault
stop_first limits passed [] fault some e = absurd (omega arith)
stop_first limits passed (line ∷ lines) fault some e = entries_from-stop limits passed line lines fault e

some_lines : (lines : List (List ℕ)) → 0 < length (first_of lines) → 0 < length lines
some_lines [] h = absurd (omega arith)
some_lines (line ∷ lines) h = omega arith

pub entries_from-none : (limits : LimitNumbers) (passed : Passed) → entries_from limits passed [] ≡ Ok []
unfolding entries_from
entries_from-none limits passed = refl

-- a fault whose cause has a consequence

pub StopsAt-weaker : (P Q : FileFault → Type 0) (fault : FileFault) → ((own : FileFault) → P own → Q own) → StopsAt P fault
    → StopsAt Q fault
StopsAt-weaker P Q (faults.Malformed line why) h s = h (faults.Malformed line why) s
StopsAt-weaker P Q (faults.Limit which value) h s = h (faults.Limit which value) s
StopsAt-weaker P Q faults.ReadFault h s = s
StopsAt-weaker P Q faults.OutOfMemory h s = tt

module _ {K : Type 0} (after : K → Entry → K) (keeper : K) where
  kept_all-in_front : (entry : Option Entry) (left : Result (List Entry) FileFault)
      → kept_all after keeper (in_front entry left) ≡ kept_all after (kept after keeper entry) left
  kept_all-in_front None (Ok entries) = refl
  kept_all-in_front None (Err fault) = refl
  kept_all-in_front (Some entry) (Ok entries) = refl
  kept_all-in_front (Some entry) (Err fault) = refl

  module _ (limits : LimitNumbers) (passed : Passed) (line : List ℕ) (lines : List (List ℕ)) (counted : passed.lines < limits.lines)
      (short : length line ≤ limits.line_bytes) where
    -- a line that is read
    kept-line : text_fault limits passed line ≡ None
        → kept_all after keeper (entries_from limits passed (line ∷ lines))
        ≡ kept_all after (kept after keeper (spelled line)) (entries_from limits (passed_line passed (spelled line)) lines)
    kept-line read =
        ap (kept_all after keeper) (entries_from-next limits passed line lines (line_fault-text limits passed line counted short ∙ read))
        ∙ kept_all-in_front (spelled line) (entries_from limits (passed_line passed (spelled line)) lines)

    -- one that is not
    kept-stop : (fault : FileFault) → text_fault limits passed line ≡ Some fault
        → kept_all after keeper (entries_from limits passed (line ∷ lines)) ≡ Err fault
    kept-stop fault read = ap (kept_all after keeper)
        (entries_from-stop limits passed line lines fault (line_fault-text limits passed line counted short ∙ read))

  module _ (limits : LimitNumbers) (old : Progress) (ready : IsReady limits old) where
    module _ (new : Reading) (piece : List ℕ) (used : ℕ) where
      -- no line ended
      pub took_part : Takes old.reader new piece used None → (later : List ℕ)
          → kept_all after keeper (entries_left limits old (piece ++ later))
          ≡ kept_all after keeper (entries_left limits (record { reader = new; passed = old.passed }) (drop used piece ++ later))
      took_part takes later = ap (λ lines. kept_all after keeper (entries_from limits old.passed lines)) (takes.lines_of_rest later)

      module _ (line : List ℕ) (takes : Takes old.reader new piece used (Some line)) where
        pub counted : old.passed.lines < limits.lines
        counted = omega (arith, takes.counted, takes.number_kept, ready.counted, ready.lines)

        short : length line ≤ limits.line_bytes
        short = omega (arith, takes.length_kept, ready.line_bytes)

        -- a line ended that is read
        pub took_line : text_fault limits old.passed line ≡ None → (later : List ℕ)
            → kept_all after keeper (entries_left limits old (piece ++ later))
            ≡ kept_all after (kept after keeper (spelled line))
            (entries_left limits (record { reader = new; passed = passed_line old.passed (spelled line) }) (drop used piece ++ later))
        took_line read later =
            ap (λ lines. kept_all after keeper (entries_from limits old.passed lines)) (takes.lines_of_rest later)
            ∙ kept-line limits old.passed line (lines_of (begun new ++ (drop used piece ++ later))) counted short read

        -- a line ended that is not read
        pub stopped_at_line : (fault : FileFault) → text_fault limits old.passed line ≡ Some fault → (later : List ℕ)
            → kept_all after keeper (entries_left limits old (piece ++ later)) ≡ Err fault
        stopped_at_line fault read later =
            ap (λ lines. kept_all after keeper (entries_from limits old.passed lines)) (takes.lines_of_rest later)
            ∙ kept-stop limits old.passed line (lines_of (begun new ++ (drop used piece ++ later))) counted short fault read

    -- a limit is passed
    module _ (new : Reading) (piece : List ℕ) where
      abbrev Comes : FileFault → Type 0
      Comes fault = (later : List ℕ) → kept_all after keeper (entries_left limits old (piece ++ later)) ≡ Err fault

      passed_bytes : Refuses old.reader new piece LineBytes → Comes (faults.Limit kinds.LineBytes (limits.line_bytes + 1))
      passed_bytes refuses later =
          let p = refuses.too_long refl ready.no_fault later in
          let lines = lines_of (begun old.reader ++ (piece ++ later)) in
          let counted : old.passed.lines < limits.lines = omega (arith, p.0, ready.counted, ready.lines) in
          let long : limits.line_bytes < length (first_of lines) = omega (arith, p.1, ready.line_bytes) in
          ap (kept_all after keeper) (stop_first limits old.passed lines _ (some_lines lines (omega arith))
          (line_fault-long limits old.passed (first_of lines) counted long))

      passed_lines : Refuses old.reader new piece FileLines → Comes (faults.Limit kinds.FileLines (limits.lines + 1))
      passed_lines refuses later =
          let p = refuses.too_many refl ready.no_fault later in
          let lines = lines_of (begun old.reader ++ (piece ++ later)) in
          let same : old.passed.lines ≡ limits.lines = omega (arith, p.0, ready.counted, ready.lines) in
          ap (kept_all after keeper) (stop_first limits old.passed lines _ p.1
          (line_fault-uncounted limits old.passed (first_of lines) same))

      pub stopped_at_limit : (fault : LineFault) (own : FileFault)
          → (fault ≡ LineBytes → own ≡ faults.Limit kinds.LineBytes (limits.line_bytes + 1))
          → (fault ≡ FileLines → own ≡ faults.Limit kinds.FileLines (limits.lines + 1))
          → (fault ≡ OutOfMemory → own ≡ faults.OutOfMemory) → Refuses old.reader new piece fault → StopsAt Comes own
      stopped_at_limit LineBytes own bytes lines memory refuses = subst (StopsAt Comes) (sym (bytes refl)) (passed_bytes refuses)
      stopped_at_limit FileLines own bytes lines memory refuses = subst (StopsAt Comes) (sym (lines refl)) (passed_lines refuses)
      stopped_at_limit OutOfMemory own bytes lines memory refuses = subst (StopsAt Comes) (sym (memory refl)) tt

    -- the end of the file
    module _ (line : List ℕ) (last : lines_of (begun old.reader) ≡ line ∷ []) (counted : old.passed.lines < limits.lines)
        (short : length line ≤ limits.line_bytes) where
      one_line : lines_of (begun old.reader ++ []) ≡ line ∷ []
      one_line = ap lines_of (append-nil (begun old.reader)) ∙ last

      pub finished : text_fault limits old.passed line ≡ None
          → kept_all after keeper (entries_left limits old []) ≡ Ok (kept after keeper (spelled line))
      finished read =
          ap (λ lines. kept_all after keeper (entries_from limits old.passed lines)) one_line
          ∙ kept-line limits old.passed line [] counted short read
          ∙ ap (kept_all after (kept after keeper (spelled line))) (entries_from-none limits (passed_line old.passed (spelled line)))

      pub stopped_at_last : (fault : FileFault) → text_fault limits old.passed line ≡ Some fault
          → kept_all after keeper (entries_left limits old []) ≡ Err fault
      stopped_at_last fault read =
          ap (λ lines. kept_all after keeper (entries_from limits old.passed lines)) one_line
          ∙ kept-stop limits old.passed line [] counted short fault read

    pub finished_before : lines_of (begun old.reader) ≡ [] → kept_all after keeper (entries_left limits old []) ≡ Ok keeper
    finished_before none =
        ap (λ lines. kept_all after keeper (entries_from limits old.passed lines)) (ap lines_of (append-nil (begun old.reader)) ∙ none)
        ∙ ap (kept_all after keeper) (entries_from-none limits old.passed)
