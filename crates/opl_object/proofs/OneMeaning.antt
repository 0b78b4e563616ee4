-- Each line has one meaning, and what reading gives says which.
use Rattle.std.proofs.Common.{◌≡◌, ℕ, ◌⊎◌, inl, inr, List, Option, None, Some, Result, Ok, Err, refl, sym, ◌∙◌, ap, cond}
use Rattle.std.proofs.lemmas.Bool.{cases_Bool}
use Rattle.osm_base.specs.declared.values.object.Entry.{Entry}
use Rattle.opl_object.specs.declared.why.Why.{Why}
use Rattle.opl_object.specs.Faults.{HasFault}
use Rattle.opl_object.specs.Fields.{fields_of}
use Rattle.opl_object.specs.Line.{IsSkipped, is_skipped, utf8_of, entry_from, reading}
use Rattle.opl_object.specs.Meaning.{HasOneMeaning}
use Rattle.opl_object.specs.Spells.{Spells}
use Rattle.opl_object.specs.Why.{◌>>=◌}
use Rattle.opl_object.proofs.FaultsOfLines.{line_fault, line_fault_again}
use Rattle.opl_object.proofs.SpelledLines.{line_spells, line_again}
use Rattle.opl_object.proofs.Steps.{bind_ok, ok_is}

pub skipped_reads : (line : List ℕ) → IsSkipped line → reading line ≡ Ok None
unfolding reading
skipped_reads line s = ap (λ b. cond b (Ok None) (utf8_of line >>= λ text. entry_from (fields_of text) >>= λ entry. Ok (Some entry))) s

none_skipped : (line : List ℕ) → reading line ≡ Ok None → IsSkipped line
unfolding reading
none_skipped line e = elim (cases_Bool (is_skipped line)) [
  | inl skipped ↦ skipped
  | inr counts ↦ (
      let read : (utf8_of line >>= λ text. entry_from (fields_of text) >>= λ entry. Ok (Some entry)) ≡ Ok None = rw counts at e in
      let text = bind_ok (utf8_of line) (λ text. entry_from (fields_of text) >>= λ entry. Ok (Some entry)) None read in
      let found = bind_ok (entry_from (fields_of text.0)) (λ entry. Ok (Some entry)) None text.2 in
      absurd (let wrong : some_of found.0 ≡ None = ok_is (some_of found.0) None found.2 in cc))
] where
  some_of : Entry → Option Entry
  some_of x = Some x

abbrev outcome : Result (Option Entry) Why → Result (Option Entry) Why
outcome r = r

meaning : (line : List ℕ) (read : Result (Option Entry) Why) → reading line ≡ read
    → IsSkipped line ⊎ (((entry : Entry) × Spells line entry) ⊎ ((why : Why) × HasFault line why))
meaning line (Ok None) e = inl (none_skipped line e)
meaning line (Ok (Some entry)) e = inr (inl (entry, line_spells line entry e))
meaning line (Err why) e = inr (inr (why, line_fault line why e))

entry_is : (a b : Entry) → outcome (Ok (Some a)) ≡ Ok (Some b) → a ≡ b
entry_is a b e = cc

fault_is : (a b : Why) → outcome (Err a) ≡ Err b → a ≡ b
fault_is a b e = cc

no_both : (a : Option Entry) (b : Why) → outcome (Ok a) ≡ Err b → ⊥
no_both a b e = absurd cc

pub each_line : (line : List ℕ) → HasOneMeaning line
each_line line = record {
  some = meaning line (reading line) refl;
  skipped_no_entry = λ entry skipped s. s.counts skipped;
  skipped_no_fault = λ why skipped fault. no_both None why (sym (skipped_reads line skipped) ∙ line_fault_again line why fault);
  entry_no_fault = λ entry why s fault. no_both (Some entry) why (sym (line_again line entry s) ∙ line_fault_again line why fault);
  one_entry = λ entry other s t. entry_is entry other (sym (line_again line entry s) ∙ line_again line other t);
  one_fault = λ why other f g. fault_is why other (sym (line_fault_again line why f) ∙ line_fault_again line other g);
}
