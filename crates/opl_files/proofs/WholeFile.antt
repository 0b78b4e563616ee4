-- Judged line by line, a file comes to what it is as a whole.
use Rattle.std.proofs.Common.{◌≡◌, ℕ, ◌+◌, Option, Some, None, List, [], ◌∷◌, ◌++◌, length, length-append, refl, sym, ◌∙◌, ap}
use Rattle.std.proofs.Common.{arith}
use Rattle.std.proofs.lemmas.List.Elements.{filter_map-append}
use Rattle.std.proofs.lemmas.List.{append-nil}
use Rattle.std.specs.Prelude.{Result, Ok, Err, fold}
use Rattle.std.specs.List.{cons_option}
use Rattle.std.specs.Option.{option_len, option_or}
use Rattle.osm_base.specs.declared.bounds.limits.LimitNumbers.{LimitNumbers}
use Rattle.osm_base.specs.declared.values.object.Entry.{Entry}
use Rattle.osm_base.specs.values.Key.{KeyOf}
use Rattle.opl_lines.specs.Lines.{lines_of}
use Rattle.opl_files.specs.declared.fault.FileFault.{FileFault}
use Rattle.opl_files.specs.declared.passed.Passed.{Passed}
use Rattle.object_fold.specs.Change.{last_key}
use Rattle.opl_files.specs.Entries.{first_fault, unless, entries_of}
use Rattle.opl_files.specs.Keeps.{kept_all}
use Rattle.object_fold.specs.Keeps.{pushed}
use Rattle.object_fold.proofs.Joined.{fold-pushed}
use Rattle.opl_files.specs.Passed.{spelled, spelled_by, passed_by, line_fault}
use Rattle.opl_files.specs.Progress.{last_of, passed_line, in_front, entries_from}
use Rattle.opl_files.specs.Reading.{ReadsAll, HasEntries}

-- one line more

pub last_key-more : (before : Option KeyOf) (entries : List Entry) (entry : Option Entry)
    → last_key before (entries ++ cons_option entry []) ≡ last_of (last_key before entries) entry
last_key-more before [] None = refl
last_key-more before [] (Some entry) = refl
last_key-more before (first ∷ entries) entry = last_key-more (Some first.key) entries entry

length-more : (entries : List Entry) (entry : Option Entry) → length (entries ++ cons_option entry []) ≡ length entries + option_len entry
length-more entries None = ap length (append-nil entries) ∙ omega arith
length-more entries (Some entry) = length-append entries (entry ∷ [])

same_passed : (lines other : ℕ) (entries counted : ℕ) (last own : Option KeyOf) → lines ≡ other → entries ≡ counted → last ≡ own
    → ◌≡◌ {A = Passed} (record { lines = lines; entries = entries; last = last }) (record { lines = other; entries = counted; last = own })
same_passed lines other entries counted last own p q r = λ i. record { lines = p i; entries = q i; last = r i }

passed_by-more : (before : List (List ℕ)) (line : List ℕ) → passed_by (before ++ line ∷ []) ≡ passed_line (passed_by before) (spelled line)
unfolding passed_by
passed_by-more before line =
    let spells : spelled_by (before ++ line ∷ []) ≡ spelled_by before ++ cons_option (spelled line) [] =
    filter_map-append spelled before (line ∷ []) in
    same_passed _ _ _ _ _ _
    (length-append before (line ∷ []))
    (ap length spells ∙ length-more (spelled_by before) (spelled line))
    (ap (last_key None) spells ∙ last_key-more None (spelled_by before) (spelled line))

-- all lines

in_front-unless : (entry : Option Entry) (fault : Option FileFault) (entries : List Entry)
    → in_front entry (unless fault (Ok entries)) ≡ unless fault (Ok (cons_option entry entries))
in_front-unless entry None entries = refl
in_front-unless entry (Some fault) entries = refl

entries_from-is : (limits : LimitNumbers) (before lines : List (List ℕ))
    → entries_from limits (passed_by before) lines ≡ unless (first_fault limits before lines) (Ok (spelled_by lines))
unfolding entries_from first_fault
entries_from-is limits before [] = refl
entries_from-is limits before (line ∷ lines) =
    let more = before ++ line ∷ [] in
    elim (line_fault limits (passed_by before) line) as
    (λ fault. unless fault (in_front (spelled line) (entries_from limits (passed_line (passed_by before) (spelled line)) lines))
    ≡ unless (option_or fault (first_fault limits more lines)) (Ok (cons_option (spelled line) (spelled_by lines)))) [
      | None ↦
          ap (λ passed. in_front (spelled line) (entries_from limits passed lines)) (sym (passed_by-more before line))
          ∙ ap (in_front (spelled line)) (entries_from-is limits more lines)
          ∙ in_front-unless (spelled line) (first_fault limits more lines) (spelled_by lines)
      | Some fault ↦ refl
    ]

-- from the start of the file
pub entries_of-start : (limits : LimitNumbers) (passed : Passed) (bytes : List ℕ) → passed ≡ record { lines = 0; entries = 0; last = None }
    → entries_from limits passed (lines_of bytes) ≡ entries_of limits bytes
unfolding entries_of passed_by
entries_of-start limits passed bytes e = ap (λ own. entries_from limits own (lines_of bytes)) e ∙ entries_from-is limits [] (lines_of bytes)

-- what a keeper makes of a fault, and of entries that it adds to a list

pub kept_all-err : {K : Type 0} (after : K → Entry → K) (keeper : K) (entries : Result (List Entry) FileFault) (fault : FileFault)
    → kept_all after keeper entries ≡ Err fault → entries ≡ Err fault
kept_all-err after keeper (Ok entries) fault e = absurd (cc)
kept_all-err after keeper (Err own) fault e = let same : own ≡ fault = cc in ap Err same

pub kept_all-pushed : (read : Result (List Entry) FileFault) (entries : List Entry) → kept_all pushed [] read ≡ Ok entries
    → read ≡ Ok entries
kept_all-pushed (Ok own) entries e = let same : fold pushed [] own ≡ entries = cc in ap Ok (sym (fold-pushed [] own) ∙ same)
kept_all-pushed (Err fault) entries e = absurd (cc)

pub ReadsAll-HasEntries : (limits : LimitNumbers) (before now : List Entry) (left rest : Option (List ℕ)) → before ≡ []
    → ReadsAll pushed limits before now left rest → HasEntries limits now left rest
ReadsAll-HasEntries limits before now None rest none h = tt
ReadsAll-HasEntries limits before now (Some bytes) None none h = h
ReadsAll-HasEntries limits before now (Some bytes) (Some later) none h =
    (kept_all-pushed (entries_of limits bytes) now (ap (λ own. kept_all pushed own (entries_of limits bytes)) (sym none) ∙ h.0), h.1)
