-- The faults of lines: what reading refuses has this fault, and what has it is refused so.
use Rattle.std.proofs.Common.{◌≡◌, ℕ, true, false, cond, ◌⊎◌, inl, inr, List, [], ◌∷◌, Option, None, Some, Result, Ok, Err, refl, sym, ◌∙◌}
use Rattle.std.proofs.Common.{ap}
use Rattle.std.specs.List.{AllByRecursion}
use Rattle.std.specs.Str.{IsUtf8, is_utf8}
use Rattle.std.proofs.lemmas.Bool.{cases_Bool, false_from_ne_true}
use Rattle.std.proofs.lemmas.Str.{is_utf8-from_IsUtf8, IsUtf8-from_is_utf8}
use Rattle.osm_base.specs.declared.values.object.Entry.{Entry}
use Rattle.osm_base.specs.declared.values.object.Object.{Object}
use Rattle.osm_base.specs.values.Key.{KeyOf}
use Rattle.opl_object.specs.declared.parts.Parts.{Parts}
use Rattle.opl_object.specs.declared.why.Why.{Why}
use Rattle.opl_object.specs.declared.why.Why.TheVariants as causes
use Rattle.opl_object.specs.Faults.{FieldsFault, PlaceFault, KeyFault, EntryFault, HasFault}
use Rattle.opl_object.specs.Fields.{fields_of}
use Rattle.opl_object.specs.Line.{is_skipped, utf8_of, key_of, object_of, entry_of, entry_from, reading}
use Rattle.opl_object.specs.Parts.{parts_of}
use Rattle.opl_object.specs.Why.{◌>>=◌}
use Rattle.opl_object.proofs.FaultsOfFields.{fields_fault, fields_fault_again}
use Rattle.opl_object.proofs.FirstFaults.{err_is, then_err, taken_err}
use Rattle.opl_object.proofs.SpelledFields.{parts_said, parts_again}
use Rattle.opl_object.proofs.SpelledLines.{fields_utf8}

-- ---- what is refused has the fault

-- the entry of a key, where there is an object
abbrev with_object : KeyOf → Parts → Object → Entry
with_object key parts object = record { key = key; object = cond parts.deleted None (Some object) }

parts_fault : (key : KeyOf) (fields : List (List ℕ)) (why : Why) (read : Result Parts Why) → parts_of key.kind fields ≡ read
    → AllByRecursion IsUtf8 fields
    → (read >>= λ parts. entry_of key parts) ≡ Err why → FieldsFault key.kind fields why ⊎ PlaceFault key.kind fields why
unfolding entry_of
parts_fault key fields why (Err cause) read_is all e =
    inl (fields_fault key.kind fields why all (read_is ∙ ap (λ cause. Err cause) (sym (err_is {A = Entry} cause why e))))
parts_fault key fields why (Ok parts) read_is all e =
    let said = parts_said key.kind fields parts all read_is in
    inr (record {
      pairs = said.pairs;
      parts = parts;
      form = said.form;
      say = said.say;
      fault =
          then_err (object_of key.kind parts) (with_object key parts) why e;
    })

key_fault : (fields : List (List ℕ)) (why : Why) (key : Result KeyOf Why) → AllByRecursion IsUtf8 fields
    → (key >>= λ key. parts_of key.kind fields >>= λ parts. entry_of key parts) ≡ Err why → KeyFault key fields why
key_fault fields why (Err cause) all e = err_is {A = Entry} cause why e
key_fault fields why (Ok key) all e = parts_fault key fields why (parts_of key.kind fields) refl all e

entry_fault : (fields : List (List ℕ)) (why : Why) → AllByRecursion IsUtf8 fields → entry_from fields ≡ Err why → EntryFault fields why
unfolding entry_from
entry_fault [] why all e = err_is {A = Entry} causes.Kind why e
entry_fault (first ∷ fields) why all e = key_fault fields why (key_of first) all.1 e

-- the entry of a line that counts
abbrev counted : List ℕ → Result (Option Entry) Why
counted line = utf8_of line >>= λ text. entry_from (fields_of text) >>= λ entry. Ok (Some entry)

abbrev there : Entry → Option Entry
there entry = Some entry

pub line_fault : (line : List ℕ) (why : Why) → reading line ≡ Err why → HasFault line why
unfolding reading
line_fault line why e =
    let counts = taken_err (is_skipped line) None (counted line) why e in
    record {
      counts = λ skipped. let wrong : true ≡ false = sym skipped ∙ counts.0 in cc;
      first = elim (cases_Bool (is_utf8 line)) [
        | inl valid ↦ (
            let utf8 = IsUtf8-from_is_utf8 line valid in
            let read : (entry_from (fields_of line) >>= λ entry. Ok (there entry)) ≡ Err why = rw valid at counts.1 in
            inr (utf8, entry_fault (fields_of line) why (fields_utf8 line utf8) (then_err (entry_from (fields_of line)) there why read)))
        | inr broken ↦ inl (
          λ utf8. let wrong : true ≡ false = sym (is_utf8-from_IsUtf8 line utf8) ∙ broken in cc,
          err_is {A = Option Entry} causes.Utf8 why (rw broken at counts.1),
        )
      ];
    }

-- ---- what has the fault is refused

key_fault_again : (fields : List (List ℕ)) (why : Why) (key : Result KeyOf Why) → AllByRecursion IsUtf8 fields → KeyFault key fields why
    → (key >>= λ key. parts_of key.kind fields >>= λ parts. entry_of key parts) ≡ Err why
unfolding entry_of
key_fault_again fields why (Err cause) all f = ap (λ cause. Err cause) (sym f)
key_fault_again fields why (Ok key) all (inl f) = ap (λ r. r >>= λ parts. entry_of key parts) (fields_fault_again key.kind fields why all f)
key_fault_again fields why (Ok key) all (inr f) =
    ap (λ fs. parts_of key.kind fs >>= λ parts. entry_of key parts) f.form
    ∙ ap (λ r. r >>= λ parts. entry_of key parts) (parts_again key.kind f.pairs f.parts f.say)
    ∙ ap (λ r. r >>= λ object. Ok (with_object key f.parts object)) f.fault

entry_fault_again : (fields : List (List ℕ)) (why : Why) → AllByRecursion IsUtf8 fields → EntryFault fields why
    → entry_from fields ≡ Err why
unfolding entry_from
entry_fault_again [] why all f = ap (λ cause. Err cause) (sym f)
entry_fault_again (first ∷ fields) why all f = key_fault_again fields why (key_of first) all.1 f

counted_fault : (line : List ℕ) (why : Why) → ((IsUtf8 line → ⊥) × (why ≡ causes.Utf8)) ⊎ (IsUtf8 line × EntryFault (fields_of line) why)
    → counted line ≡ Err why
counted_fault line why (inl broken) =
    let invalid : is_utf8 line ≡ false = false_from_ne_true _ (λ valid. broken.0 (IsUtf8-from_is_utf8 line valid)) in
    ap (λ test. cond test (Ok line) (Err causes.Utf8) >>= λ text. entry_from (fields_of text) >>= λ entry. Ok (there entry)) invalid
    ∙ ap (λ cause. Err cause) (sym broken.1)
counted_fault line why (inr fault) =
    ap (λ test. cond test (Ok line) (Err causes.Utf8) >>= λ text. entry_from (fields_of text) >>= λ entry. Ok (there entry))
    (is_utf8-from_IsUtf8 line fault.0)
    ∙ ap (λ r. r >>= λ entry. Ok (there entry)) (entry_fault_again (fields_of line) why (fields_utf8 line fault.0) fault.1)

pub line_fault_again : (line : List ℕ) (why : Why) → HasFault line why → reading line ≡ Err why
unfolding reading
line_fault_again line why f =
    ap (λ test. cond test (Ok None) (counted line)) (false_from_ne_true _ f.counts) ∙ counted_fault line why f.first
