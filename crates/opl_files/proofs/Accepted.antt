-- What a file has that has no fault.
use Rattle.std.proofs.Common.{◌≡◌, ℕ, ◌+◌, ◌<◌, ◌≤◌, true, false, nat_lt, nat_le, if◌then◌else◌, Option, Some, None, List, [], ◌∷◌, length}
use Rattle.std.proofs.Common.{IsTrue, IfSome, IsOk, refl, sym, ◌∙◌, ap, subst, arith}
use Rattle.std.proofs.lemmas.Bool.{leb-true, ltb-true}
use Rattle.std.specs.Prelude.{Result, Ok, Err}
use Rattle.std.specs.List.{AllByRecursion, cons_option}
use Rattle.std.specs.Option.{option_or}
use Rattle.osm_base.specs.declared.bounds.limits.LimitNumbers.{LimitNumbers}
use Rattle.osm_base.specs.declared.bounds.limits.LimitKind.TheVariants.{LineBytes, FileLines, FileEntries}
use Rattle.osm_base.specs.declared.values.object.Entry.{Entry}
use Rattle.osm_base.specs.values.KeyOrder.{is_below}
use Rattle.opl_lines.specs.Lines.{lines_of}
use Rattle.opl_object.specs.declared.why.Why.{Why}
use Rattle.opl_object.specs.declared.why.Why.TheVariants.{Order}
use Rattle.opl_object.specs.Line.{reading}
use Rattle.opl_files.specs.declared.fault.FileFault.{FileFault}
use Rattle.opl_files.specs.declared.fault.FileFault.TheVariants.{Malformed, Limit}
use Rattle.opl_files.specs.declared.passed.Passed.{Passed}
use Rattle.object_fold.specs.Change.{Follows, IsProper, RiseFrom}
use Rattle.opl_files.specs.Entries.{unless, entries_of, IsAccepted}
use Rattle.opl_files.specs.Passed.{entry_in, spelled, spelled_by, count_fault, order_fault, entry_fault, said_fault, text_fault}
use Rattle.opl_files.specs.Passed.{line_fault}
use Rattle.opl_files.specs.Progress.{last_of, passed_line, in_front, entries_from}
use Rattle.opl_files.specs.Reading.{HasEntries}
use Rattle.opl_files.proofs.Proper.{reading-IsProper}
use Rattle.opl_files.proofs.WholeFile.{entries_of-start}

-- a line without a fault

abbrev Fits : LimitNumbers → Passed → Entry → Type 0
Fits limits passed entry = Follows passed.last entry.key × (passed.entries < limits.entries)

counted : (limits : LimitNumbers) (entries : ℕ) → count_fault limits entries ≡ None → entries < limits.entries
counted limits entries =
    elim (nat_lt entries limits.entries) as (λ test. nat_lt entries limits.entries ≡ test
    → ◌≡◌ {A = Option FileFault} (if test then None else Some (Limit FileEntries (limits.entries + 1))) None → entries < limits.entries) [
      | true ↦ λ less e. ltb-true entries limits.entries less
      | false ↦ λ less e. absurd (cc)
    ] refl

entry_fits : (limits : LimitNumbers) (passed : Passed) (entry : Entry) → entry_fault limits passed entry.key ≡ None
    → Fits limits passed entry
entry_fits limits passed entry =
    elim passed.last as (λ last. option_or (order_fault passed.lines last entry.key) (count_fault limits passed.entries) ≡ None
    → Follows last entry.key × (passed.entries < limits.entries)) [
      | None ↦ λ e. (tt, counted limits passed.entries e)
      | Some earlier ↦
          elim (is_below earlier entry.key) as (λ test. is_below earlier entry.key ≡ test
          → option_or (if test then None else Some (Malformed (passed.lines + 1) (Order earlier entry.key)))
          (count_fault limits passed.entries) ≡ None
          → IsTrue (is_below earlier entry.key) × (passed.entries < limits.entries)) [
            | true ↦ λ below e. (below, counted limits passed.entries e)
            | false ↦ λ below e. absurd (cc)
          ] refl
    ]

said_well : (limits : LimitNumbers) (passed : Passed) (said : Result (Option Entry) Why) → said_fault limits passed said ≡ None
    → IsOk said × IfSome (entry_in said) (Fits limits passed)
said_well limits passed (Err why) e = absurd (cc)
said_well limits passed (Ok None) e = (refl, tt)
said_well limits passed (Ok (Some entry)) e = (refl, entry_fits limits passed entry e)

read_well : (limits : LimitNumbers) (passed : Passed) (line : List ℕ) → text_fault limits passed line ≡ None
    → IsOk (reading line) × IfSome (spelled line) (Fits limits passed)
unfolding text_fault
read_well limits passed line e = said_well limits passed (reading line) e

record Keeps (limits : LimitNumbers) (passed : Passed) (line : List ℕ) : Type 0 where
  number : passed.lines < limits.lines
  line_bytes : length line ≤ limits.line_bytes
  read : IsOk (reading line)
  entry : IfSome (spelled line) (Fits limits passed)

keeps : (limits : LimitNumbers) (passed : Passed) (line : List ℕ) → line_fault limits passed line ≡ None → Keeps limits passed line
unfolding line_fault
keeps limits passed line =
    elim (nat_lt passed.lines limits.lines) as (λ first. nat_lt passed.lines limits.lines ≡ first
    → ◌≡◌ {A = Option FileFault} (if first
    then (if nat_le (length line) limits.line_bytes then text_fault limits passed line else Some (Limit LineBytes (limits.line_bytes + 1)))
    else Some (Limit FileLines (limits.lines + 1))) None → Keeps limits passed line) [
      | true ↦ λ number.
          elim (nat_le (length line) limits.line_bytes) as (λ second. nat_le (length line) limits.line_bytes ≡ second
          → ◌≡◌ {A = Option FileFault} (if second then text_fault limits passed line else Some (Limit LineBytes (limits.line_bytes + 1)))
          None → Keeps limits passed line) [
            | true ↦ λ short e.
                let well = read_well limits passed line e in
                record {
                  number = ltb-true passed.lines limits.lines number;
                  line_bytes = leb-true (length line) limits.line_bytes short;
                  read = well.0;
                  entry = well.1;
                }
            | false ↦ λ short e. absurd (cc)
          ] refl
      | false ↦ λ number e. absurd (cc)
    ] refl

-- the entry of a line is of its key's kind
spelled-IsProper : (line : List ℕ) → IfSome (spelled line) IsProper
spelled-IsProper line =
    elim (reading line) as (λ said. reading line ≡ said → IfSome (entry_in said) IsProper) [
      | Ok entry ↦ elim entry as (λ entry. reading line ≡ Ok entry → IfSome entry IsProper) [
        | None ↦ λ e. tt
        | Some entry ↦ λ e. reading-IsProper line entry e
      ]
      | Err why ↦ λ e. tt
    ] refl

-- all lines

record Rest (limits : LimitNumbers) (passed : Passed) (lines : List (List ℕ)) (entries : List Entry) : Type 0 where
  number : passed.lines ≤ limits.lines → passed.lines + length lines ≤ limits.lines
  line_bytes : AllByRecursion (λ line. length line ≤ limits.line_bytes) lines
  read : AllByRecursion (λ line. IsOk (reading line)) lines
  spelled : entries ≡ spelled_by lines
  counted : passed.entries ≤ limits.entries → passed.entries + length entries ≤ limits.entries
  rise : RiseFrom passed.last entries

without_fault : (fault : Option FileFault) (value : Result (List Entry) FileFault) (entries : List Entry) → unless fault value ≡ Ok entries
    → (fault ≡ None) × (value ≡ Ok entries)
without_fault None value entries e = (refl, e)
without_fault (Some fault) value entries e = absurd (cc)

in_front-ok : (entry : Option Entry) (left : Result (List Entry) FileFault) (entries : List Entry) → in_front entry left ≡ Ok entries
    → (own : List Entry) × (left ≡ Ok own) × (cons_option entry own ≡ entries)
in_front-ok entry (Ok own) entries e = let same : cons_option entry own ≡ entries = cc in (own, refl, same)
in_front-ok entry (Err fault) entries e = absurd (cc)

same_ok : (one other : List Entry) → ◌≡◌ {A = Result (List Entry) FileFault} (Ok one) (Ok other) → one ≡ other
same_ok one other e = cc

counted-more : (limits : LimitNumbers) (passed : Passed) (entry : Option Entry) → IfSome entry (Fits limits passed) → (own : List Entry)
    → ((passed_line passed entry).entries ≤ limits.entries → (passed_line passed entry).entries + length own ≤ limits.entries)
    → passed.entries ≤ limits.entries → passed.entries + length (cons_option entry own) ≤ limits.entries
counted-more limits passed None fits own more within = omega (arith, more (omega arith))
counted-more limits passed (Some entry) fits own more within = omega (arith, fits.1, more (omega (arith, fits.1)))

rise-more : (limits : LimitNumbers) (passed : Passed) (entry : Option Entry) → IfSome entry (Fits limits passed) → IfSome entry IsProper
    → (own : List Entry)
    → RiseFrom (last_of passed.last entry) own → RiseFrom passed.last (cons_option entry own)
rise-more limits passed None fits proper own rise = rise
rise-more limits passed (Some entry) fits proper own rise = (proper, fits.0, rise)

rest : (limits : LimitNumbers) (passed : Passed) (lines : List (List ℕ)) (entries : List Entry)
    → entries_from limits passed lines ≡ Ok entries → Rest limits passed lines entries
unfolding entries_from
rest limits passed [] entries e =
    subst (Rest limits passed []) (same_ok [] entries e) (record {
      number = λ within. omega arith;
      line_bytes = tt;
      read = tt;
      spelled = refl;
      counted = λ within. omega arith;
      rise = tt;
    })
rest limits passed (line ∷ lines) entries e =
    let entry = spelled line in
    let next = passed_line passed entry in
    let well = without_fault (line_fault limits passed line) (in_front entry (entries_from limits next lines)) entries e in
    let kept = keeps limits passed line well.0 in
    let front = in_front-ok entry (entries_from limits next lines) entries well.1 in
    let own = front.0 in
    let later = rest limits next lines own front.1 in
    subst (Rest limits passed (line ∷ lines)) front.2 (record {
      number = λ within. omega (arith, kept.number, later.number (omega (arith, kept.number)));
      line_bytes = (kept.line_bytes, later.line_bytes);
      read = (kept.read, later.read);
      spelled = ap (cons_option entry) later.spelled;
      counted = counted-more limits passed entry kept.entry own later.counted;
      rise = rise-more limits passed entry kept.entry (spelled-IsProper line) own later.rise;
    })

pub accepted : (limits : LimitNumbers) (bytes : List ℕ) (entries : List Entry) → entries_of limits bytes ≡ Ok entries
    → IsAccepted limits bytes entries
accepted limits bytes entries e =
    let start : Passed = record { lines = 0; entries = 0; last = None } in
    let all = rest limits start (lines_of bytes) entries (entries_of-start limits start bytes refl ∙ e) in
    record {
      lines = omega (arith, all.number (omega arith));
      line_bytes = all.line_bytes;
      read = all.read;
      spelled = all.spelled;
      counted = omega (arith, all.counted (omega arith));
      rise = all.rise;
    }

pub HasEntries-IsAccepted : (limits : LimitNumbers) (entries : List Entry) (left rest : Option (List ℕ))
    → HasEntries limits entries left rest
    → (bytes : List ℕ) → left ≡ Some bytes → IsAccepted limits bytes entries
HasEntries-IsAccepted limits entries None rest has bytes told = absurd (cc)
HasEntries-IsAccepted limits entries (Some own) None has bytes told = absurd has
HasEntries-IsAccepted limits entries (Some own) (Some later) has bytes told =
    let same : own ≡ bytes = cc in
    accepted limits bytes entries (ap (entries_of limits) (sym same) ∙ has.0)
