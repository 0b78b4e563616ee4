-- A file of entries, written out, is read as these.
use Rattle.std.proofs.Common.{◌≡◌, ◌≤◌, ◌<◌, ℕ, ◌+◌, true, nat_le, nat_lt, Option, Some, None, List, [], ◌∷◌, ◌++◌, length, map, refl, ap, ◌∙◌, append_assoc, arith}
use Rattle.std.specs.Prelude.{Ok, flat_map}
use Rattle.std.specs.List.{AllByRecursion, cons_option}
use Rattle.std.proofs.lemmas.Bool.Decides.{nat_tests}
use Rattle.std.proofs.lemmas.List.{length-append}
use Rattle.osm_base.specs.bounds.Limits.{standard}
use Rattle.osm_base.specs.declared.bounds.limits.LimitNumbers.{LimitNumbers}
use Rattle.osm_base.specs.declared.bounds.limits.TheConstants.{MAX_ENTRIES}
use Rattle.osm_base.specs.declared.values.object.Entry.{Entry}
use Rattle.osm_base.specs.values.Key.{KeyOf}
use Rattle.osm_base.specs.values.KeyOrder.{is_below}
use Rattle.opl_lines.specs.Lines.{lines_of}
use Rattle.opl_lines.proofs.LineLemmas.{lines_of-ended, lines_of-none}
use Rattle.opl_object.specs.Line.{reading}
use Rattle.opl_object.specs.Written.{entry_text, line_text}
use Rattle.opl_object.proofs.SpelledLines.{line_again}
use Rattle.opl_object.proofs.WrittenLines.{line_spelled}
use Rattle.object_fold.specs.Change.{Follows, IsChange, RiseFrom, last_key}
use Rattle.opl_files.specs.Entries.{entries_of, first_fault}
use Rattle.opl_files.specs.Passed.{count_fault, entry_in, line_fault, order_fault, passed_by, spelled, spelled_by, text_fault}
use Rattle.opl_files.specs.declared.passed.Passed.{Passed}
use Rattle.demo_map.specs.Written.{FitsLine}
use Rattle.demo_map.proofs.WrittenLine.{line_within}

lines_are : (entries : List Entry) → AllByRecursion FitsLine entries → lines_of (flat_map entry_text entries) ≡ map line_text entries
lines_are [] fit = lines_of-none
lines_are (entry ∷ entries) fit =
    ap lines_of (append_assoc (line_text entry) (10 ∷ []) (flat_map entry_text entries))
    ∙ lines_of-ended (line_text entry) (flat_map entry_text entries) (line_within entry fit.0)
    ∙ ap (λ lines. line_text entry ∷ lines) (lines_are entries fit.1)

is_read : (entry : Entry) → FitsLine entry → reading (line_text entry) ≡ Ok (Some entry)
is_read entry fits = line_again (line_text entry) entry (line_spelled entry fits.writable fits.id fits.sound)

is_spelled : (entry : Entry) → FitsLine entry → spelled (line_text entry) ≡ Some entry
is_spelled entry fits = ap entry_in (is_read entry fits)

spelled_are : (entries : List Entry) → AllByRecursion FitsLine entries → spelled_by (map line_text entries) ≡ entries
spelled_are [] fit = refl
spelled_are (entry ∷ entries) fit =
    ap (λ own. cons_option own (spelled_by (map line_text entries))) (is_spelled entry fit.0)
    ∙ ap (λ rest. entry ∷ rest) (spelled_are entries fit.1)

cons_pushed : (own : Option Entry) (rest : List Entry) (entry : Entry) → cons_option own (rest ++ entry ∷ []) ≡ cons_option own rest ++ entry ∷ []
cons_pushed None rest entry = refl
cons_pushed (Some own) rest entry = refl

spelled_pushed : (lines : List (List ℕ)) (line : List ℕ) (entry : Entry) → spelled line ≡ Some entry
    → spelled_by (lines ++ line ∷ []) ≡ spelled_by lines ++ entry ∷ []
spelled_pushed [] line entry is = ap (λ own. cons_option own []) is
spelled_pushed (first ∷ lines) line entry is =
    ap (λ rest. cons_option (spelled first) rest) (spelled_pushed lines line entry is) ∙ cons_pushed (spelled first) (spelled_by lines) entry

last_pushed : (before : Option KeyOf) (entries : List Entry) (entry : Entry) → last_key before (entries ++ entry ∷ []) ≡ Some entry.key
last_pushed before [] entry = refl
last_pushed before (first ∷ entries) entry = last_pushed (Some first.key) entries entry

-- a line without a fault

in_order : (lines : ℕ) (last : Option KeyOf) (key : KeyOf) → Follows last key → order_fault lines last key ≡ None
in_order lines None key follows = refl
in_order lines (Some earlier) key follows = let e : is_below earlier key ≡ true = follows in rw e refl

few_enough : (limits : LimitNumbers) (count : ℕ) → count < limits.entries → count_fault limits count ≡ None
few_enough limits count few = let e : nat_lt count limits.entries ≡ true = grind (arith, nat_tests, few) in rw e refl

clean : (limits : LimitNumbers) (passed : Passed) (line : List ℕ) (entry : Entry) → passed.lines < limits.lines
    → length line ≤ limits.line_bytes → reading line ≡ Ok (Some entry) → Follows passed.last entry.key → passed.entries < limits.entries
    → line_fault limits passed line ≡ None
unfolding line_fault text_fault
clean limits passed line entry there short read follows few =
    let first : nat_lt passed.lines limits.lines ≡ true = grind (arith, nat_tests, there) in
    let second : nat_le (length line) limits.line_bytes ≡ true = grind (arith, nat_tests, short) in
    rw (first, second, read, in_order passed.lines passed.last entry.key follows, few_enough limits passed.entries few)

-- all lines before are of these entries, and none of those that are left has a fault
no_fault : (before : List (List ℕ)) (done entries : List Entry) → spelled_by before ≡ done → length before ≡ length done
    → AllByRecursion FitsLine entries → RiseFrom (last_key None done) entries → length done + length entries ≤ MAX_ENTRIES
    → first_fault standard before (map line_text entries) ≡ None
unfolding first_fault passed_by
no_fault before done [] spells counts fit rise few = refl
no_fault before done (entry ∷ entries) spells counts fit rise few =
    let many : length (spelled_by before) ≡ length done = ap (λ own. length own) spells in
    let last : last_key None (spelled_by before) ≡ last_key None done = ap (λ own. last_key None own) spells in
    let here : line_fault standard (passed_by before) (line_text entry) ≡ None =
    clean standard (passed_by before) (line_text entry) entry (omega (arith, counts, few)) fit.0.short (is_read entry fit.0)
    (rw last rise.1) (omega (arith, many, few)) in
    let next : first_fault standard (before ++ line_text entry ∷ []) (map line_text entries) ≡ None =
    no_fault (before ++ line_text entry ∷ []) (done ++ entry ∷ []) entries
    (spelled_pushed before (line_text entry) entry (is_spelled entry fit.0) ∙ ap (λ own. own ++ entry ∷ []) spells)
    (rw (length-append before (line_text entry ∷ []), length-append done (entry ∷ []), counts))
    fit.1 (rw (last_pushed None done entry) rise.2)
    (rw (length-append done (entry ∷ [])) (omega (arith, few))) in
    rw (here, next)

pub read_again : (entries : List Entry) → AllByRecursion FitsLine entries → IsChange entries → length entries ≤ MAX_ENTRIES
    → entries_of standard (flat_map entry_text entries) ≡ Ok entries
unfolding entries_of
read_again entries fit rise few =
    let none : first_fault standard [] (map line_text entries) ≡ None = no_fault [] [] entries refl refl fit rise (omega (arith, few)) in
    rw (lines_are entries fit, none, spelled_are entries fit)
