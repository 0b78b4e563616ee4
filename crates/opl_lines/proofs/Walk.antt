-- A walk over a piece, take by take.
use Rattle.std.proofs.Common.{◌≡◌, ◌≢◌, ℕ, suc, ◌+◌, ◌-◌, ◌<◌, ◌≤◌, cond, Bool, true, false, Option, None, Some, List, [], ◌∷◌, ◌++◌}
use Rattle.std.proofs.Common.{length, drop, refl, sym, ◌∙◌, ap, arith, append_assoc, Vec, Global}
use Rattle.std.proofs.lemmas.Bool.{lt-ltb, le-ltb}
use Rattle.std.proofs.lemmas.List.{append-nil, map-append}
use Rattle.std.specs.Bool.{OnTrue}
use Rattle.std.specs.Option.{option_to_list}
use Rattle.opl_lines.specs.declared.fault.LineFault.{LineFault}
use Rattle.opl_lines.specs.declared.fault.LineFault.TheVariants.{LineBytes, FileLines, OutOfMemory}
use Rattle.opl_lines.specs.Lines.{lines_of, first_of}
use Rattle.opl_lines.specs.Reading.{Reading, begun, KeepsLimits, ended}
use Rattle.opl_lines.specs.Takes.{Takes, Refuses}
use Rattle.opl_lines.specs.Whole.{texts, limit_passed, limit_left, GoesOn}

-- ---- the limit that lines pass first

-- a line that is short enough passes none
limit_passed-short : (line_bytes lines : ℕ) (line : List ℕ) (later : List (List ℕ)) → length line ≤ line_bytes
    → limit_passed line_bytes (suc lines) (line ∷ later) ≡ limit_passed line_bytes lines later
unfolding limit_passed
limit_passed-short line_bytes lines line later short = rw (le-ltb line_bytes (length line) short) refl

limit_passed-long : (line_bytes lines : ℕ) (all : List (List ℕ)) → line_bytes < length (first_of all)
    → limit_passed line_bytes (suc lines) all ≡ Some LineBytes
unfolding limit_passed
limit_passed-long line_bytes lines [] long = absurd (omega arith)
limit_passed-long line_bytes lines (line ∷ later) long = rw (lt-ltb line_bytes (length line) long) refl

limit_passed-many : (line_bytes : ℕ) (all : List (List ℕ)) → 0 < length all → limit_passed line_bytes 0 all ≡ Some FileLines
unfolding limit_passed
limit_passed-many line_bytes [] some = absurd (omega arith)
limit_passed-many line_bytes (line ∷ later) some = refl

-- a limit that stops a reader is the one that the lines pass
pub refused_limit : (old new : Reading) (piece : List ℕ) (fault : LineFault) → Refuses old new piece fault → old.failed ≡ None
    → fault ≢ OutOfMemory
    → (later : List ℕ) → limit_left old (piece ++ later) ≡ Some fault
refused_limit old new piece LineBytes refuses none memory later =
    let long = refuses.too_long refl none later in
    let left : old.lines - old.number ≡ suc (old.lines - (old.number + 1)) = omega (arith, long.0) in
    rw left (limit_passed-long old.line_bytes (old.lines - (old.number + 1)) (lines_of (begun old ++ (piece ++ later))) long.1)
refused_limit old new piece FileLines refuses none memory later =
    let many = refuses.too_many refl none later in
    let left : old.lines - old.number ≡ 0 = omega (arith, many.0) in
    rw left (limit_passed-many old.line_bytes (lines_of (begun old ++ (piece ++ later))) many.1)
refused_limit old new piece OutOfMemory refuses none memory later = absurd (memory refl)

-- where no bytes are left, the line that ends there passes none
pub limit_left-end : (old new : Reading) (ends : Bool) → lines_of (begun old) ≡ cond ends (new.line ∷ []) [] → OnTrue ends (new ≡ ended old)
    → OnTrue ends (length new.line ≤ old.line_bytes) → KeepsLimits new → limit_left old [] ≡ None
unfolding limit_passed
limit_left-end old new true line end fits keeps =
    let left : old.lines - old.number ≡ suc (old.lines - (old.number + 1)) =
    omega (arith, keeps.counted, ap (λ (r : Reading). r.number) end, ap (λ (r : Reading). r.lines) end) in
    rw left (ap (limit_passed old.line_bytes (suc (old.lines - (old.number + 1)))) (ap lines_of (append-nil (begun old)) ∙ line)
    ∙ limit_passed-short old.line_bytes (old.lines - (old.number + 1)) new.line [] fits)
limit_left-end old new false line end fits keeps =
    ap (limit_passed old.line_bytes (old.lines - old.number)) (ap lines_of (append-nil (begun old)) ∙ line)

-- ---- a walk over a piece

-- a reader has taken the piece but for this rest
pub record Walks (first now : Reading) (before after : List (List ℕ)) (piece rest : List ℕ) : Type 0 where
  pub lines_kept : (later : List ℕ) → after ++ lines_of (begun now ++ (rest ++ later)) ≡ before
      ++ lines_of (begun first ++ (piece ++ later))
  pub limit_kept : (later : List ℕ) → limit_left now (rest ++ later) ≡ limit_left first (piece ++ later)
  pub no_fault : now.failed ≡ None

pub walks_none : (first : Reading) (before : List (List ℕ)) (piece : List ℕ) → first.failed ≡ None
    → Walks first first before before piece piece
walks_none first before piece none = record { lines_kept = λ later. refl; limit_kept = λ later. refl; no_fault = none }

pub walks_all : (first now : Reading) (before after : List (List ℕ)) (piece rest : List ℕ) → length rest ≡ 0
    → Walks first now before after piece rest → GoesOn first now before after piece
walks_all first now before after piece [] none walks =
    record { lines_kept = λ later. walks.lines_kept later; limit_kept = λ later. walks.limit_kept later; no_fault = walks.no_fault }
walks_all first now before after piece (byte ∷ rest) none walks = absurd (omega arith)

module _ (old mid : Reading) (rest : List ℕ) (used : ℕ) where
  -- the limit that the lines pass, after a take
  limit_after : (line : Option (List ℕ)) → Takes old mid rest used line → (later : List ℕ)
      → limit_left mid (drop used rest ++ later) ≡ limit_left old (rest ++ later)
  limit_after None takes later =
      let left : mid.lines - mid.number ≡ old.lines - old.number = omega (arith, takes.counted, takes.same_limits.1) in
      rw (takes.same_limits.0, left) (ap (limit_passed old.line_bytes (old.lines - old.number)) (sym (takes.lines_of_rest later)))
  limit_after (Some line) takes later =
      let left : old.lines - old.number ≡ suc (mid.lines - mid.number) =
      omega (arith, takes.counted, takes.number_kept, takes.same_limits.1) in
      rw (takes.same_limits.0, left)
      (sym (limit_passed-short old.line_bytes (mid.lines - mid.number) line
      (lines_of (begun mid ++ (drop used rest ++ later))) takes.length_kept)
      ∙ ap (limit_passed old.line_bytes (suc (mid.lines - mid.number))) (sym (takes.lines_of_rest later)))

  -- one take more
  pub walks_on : (first : Reading) (before so_far now : List (List ℕ)) (piece after : List ℕ) (line : Option (List ℕ))
      → Takes old mid rest used line → after ≡ drop used rest → now ≡ so_far ++ option_to_list line
      → Walks first old before so_far piece rest → Walks first mid before now piece after
  walks_on first before so_far now piece after line takes after_is now_is walks = record {
    lines_kept = λ later.
        ap (λ lines. lines ++ lines_of (begun mid ++ (after ++ later))) now_is
        ∙ append_assoc so_far (option_to_list line) (lines_of (begun mid ++ (after ++ later)))
        ∙ ap (λ bytes. so_far ++ (option_to_list line ++ lines_of (begun mid ++ (bytes ++ later)))) after_is
        ∙ ap (λ lines. so_far ++ lines) (sym (takes.lines_of_rest later))
        ∙ walks.lines_kept later;
    limit_kept = λ later. ap (λ bytes. limit_left mid (bytes ++ later)) after_is ∙ limit_after line takes later ∙ walks.limit_kept later;
    no_fault = takes.no_fault.1;
  }

-- a copy of the line that ended
pub texts-push : (old new : List (Vec ℕ Global)) (copy : Vec ℕ Global) (line : List ℕ) → new ≡ old ++ copy ∷ [] → copy.items ≡ line
    → texts new ≡ texts old ++ line ∷ []
texts-push old new copy line new_is copy_is =
    ap texts new_is ∙ map-append (λ (v : Vec ℕ Global). v.items) old (copy ∷ []) ∙ ap (λ line. texts old ++ line ∷ []) copy_is
