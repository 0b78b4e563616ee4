-- Lines that are read apart from those before them have the same entries behind them, where their keys, and how many they are, allow it.
use Rattle.std.proofs.Common.{◌≡◌, ℕ, suc, zero, ◌+◌, ◌<◌, ◌≤◌, Bool, true, false, nat_lt, nat_le, Option, Some, None, List, [], ◌∷◌}
use Rattle.std.proofs.Common.{◌++◌, length, length-append, take, drop, append_assoc, refl, sym, ◌∙◌, ap, subst, arith}
use Rattle.std.proofs.lemmas.Bool.{le-leb}
use Rattle.std.proofs.lemmas.Grind.{fold-append}
use Rattle.std.proofs.lemmas.List.{append-nil, drop-drop, drop-take, length-drop, length-take-le, take-take}
use Rattle.std.specs.Prelude.{Result, Ok, Err, fold}
use Rattle.std.specs.List.{cons_option}
use Rattle.std.specs.Option.{option_len, option_or}
use Rattle.osm_base.specs.declared.bounds.limits.LimitNumbers.{LimitNumbers}
use Rattle.osm_base.specs.declared.values.object.Entry.{Entry}
use Rattle.osm_base.specs.values.Key.{KeyOf}
use Rattle.osm_base.specs.values.KeyOrder.{is_below}
use Rattle.opl_lines.specs.Lines.{lines_of, IsWithinLine}
use Rattle.opl_lines.specs.Steps.{IsFirstLine}
use Rattle.opl_lines.specs.declared.reader.TheConstants.{NEWLINE}
use Rattle.opl_lines.proofs.LineLemmas.{lines_of-ended}
use Rattle.opl_object.specs.Line.{reading}
use Rattle.opl_object.specs.declared.why.Why.{Why}
use Rattle.opl_files.specs.declared.fault.FileFault.{FileFault}
use Rattle.opl_files.specs.declared.parts.Part.{Part}
use Rattle.opl_files.specs.declared.parts.Share.{Share}
use Rattle.opl_files.specs.declared.passed.Passed.{Passed}
use Rattle.object_fold.specs.Change.{Follows, FollowsAll, IsChange, RiseFrom, last_key}
use Rattle.opl_files.specs.Entries.{unless}
use Rattle.opl_files.specs.Keeps.{kept_all}
use Rattle.opl_files.specs.Passed.{spelled, entry_in, order_fault, count_fault, said_fault, text_fault, line_fault}
use Rattle.opl_files.specs.Parts.{none_passed, behind, passed_all, in_front_all, keeps_to, IsPart, TakesLines, AreShares, bytes_in}
use Rattle.opl_files.specs.Progress.{last_of, passed_line, in_front, entries_from}
use Rattle.opl_files.proofs.Lines.{entries_from-next, entries_from-none}
use Rattle.opl_files.proofs.WholeFile.{last_key-more}

-- one line more, behind others

same_passed : (lines other : ℕ) (entries counted : ℕ) (last own : Option KeyOf) → lines ≡ other → entries ≡ counted → last ≡ own
    → ◌≡◌ {A = Passed} (record { lines = lines; entries = entries; last = last })
    (record { lines = other; entries = counted; last = own })
same_passed lines other entries counted last own p q r = λ i. record { lines = p i; entries = q i; last = r i }

last_behind : (own last : Option KeyOf) (entry : Option Entry) → last_of (option_or own last) entry ≡ option_or (last_of own entry) last
last_behind own last None = refl
last_behind own last (Some entry) = refl

passed_behind : (before own : Passed) (entry : Option Entry)
    → passed_line (behind before own) entry ≡ behind before (passed_line own entry)
passed_behind before own entry = same_passed _ _ _ _ _ _ (omega arith) (omega arith) (last_behind own.last before.last entry)

-- a key that comes after the last one is no fault

order_follows : (lines : ℕ) (last : Option KeyOf) (key : KeyOf) → Follows last key → order_fault lines last key ≡ None
order_follows lines None key follows = refl
order_follows lines (Some earlier) key follows =
    let e : is_below earlier key ≡ true = follows in rw e refl

follows_order : (lines : ℕ) (last : Option KeyOf) (key : KeyOf) → order_fault lines last key ≡ None → Follows last key
follows_order lines None key none = tt
follows_order lines (Some earlier) key none =
    elim (is_below earlier key) as (λ (b : Bool). is_below earlier key ≡ b → is_below earlier key ≡ true) [
      | true ↦ λ is. is
      | false ↦ λ is. absurd (let wrong = rw is at none in cc)
    ] refl

count_few : (limits : LimitNumbers) (entries : ℕ) → entries < limits.entries → count_fault limits entries ≡ None
count_few limits entries few =
    let a : nat_lt entries limits.entries ≡ true = le-leb (suc entries) limits.entries few in rw a refl

or_none : {A : Type 0} (one other : Option A) → option_or one other ≡ None → one ≡ None
or_none None other none = refl
or_none (Some found) other none = absurd (cc)

follows_behind : (own last : Option KeyOf) (key : KeyOf) → Follows own key → (own ≡ None → Follows last key)
    → Follows (option_or own last) key
follows_behind None last key follows first = first refl
follows_behind (Some earlier) last key follows first = follows

-- a line that is read apart is read behind others

abbrev follows_one : Option KeyOf → Option Entry → Type 0
follows_one last None = Unit {0}
follows_one last (Some entry) = Follows last entry.key

said_behind : (limits : LimitNumbers) (before own : Passed) (said : Result (Option Entry) Why) → said_fault limits own said ≡ None
    → before.entries + own.entries + length (cons_option (entry_in said) []) ≤ limits.entries → (own.last ≡ None
    → follows_one before.last (entry_in said))
    → said_fault limits (behind before own) said ≡ None
said_behind limits before own (Err why) none few first = absurd (cc)
said_behind limits before own (Ok None) none few first = refl
said_behind limits before own (Ok (Some entry)) none few first =
    let own_order : order_fault own.lines own.last entry.key ≡ None = or_none _ _ none in
    let follows = follows_behind own.last before.last entry.key (follows_order own.lines own.last entry.key own_order) first in
    let here : order_fault (before.lines + own.lines) (option_or own.last before.last) entry.key ≡ None = order_follows
    (before.lines + own.lines) (option_or own.last before.last) entry.key follows in
    let counted : count_fault limits (before.entries + own.entries) ≡ None = count_few limits (before.entries + own.entries) (omega
    (arith, few)) in
    rw (here, counted) refl

line_none : (limits : LimitNumbers) (passed : Passed) (line : List ℕ) → line_fault limits passed line ≡ None
    → (nat_le (length line) limits.line_bytes ≡ true) × (text_fault limits passed line ≡ None)
unfolding line_fault
line_none limits passed line none =
    elim (nat_lt passed.lines limits.lines) as (λ (a : Bool). nat_lt passed.lines limits.lines ≡ a
    → (nat_le (length line) limits.line_bytes ≡ true) × (text_fault limits passed line ≡ None)) [
      | true ↦ λ counted. elim (nat_le (length line) limits.line_bytes) as (λ (b : Bool). nat_le (length line) limits.line_bytes ≡ b
          → (nat_le (length line) limits.line_bytes ≡ true) × (text_fault limits passed line ≡ None)) [
            | true ↦ λ short. (short, rw (counted, short) at none)
            | false ↦ λ long. absurd (let wrong = rw (counted, long) at none in cc)
          ] refl
      | false ↦ λ many. absurd (let wrong = rw many at none in cc)
    ] refl

line_behind : (limits : LimitNumbers) (before own : Passed) (line : List ℕ) → line_fault limits own line ≡ None
    → before.lines + own.lines < limits.lines
    → before.entries + own.entries + length (cons_option (spelled line) []) ≤ limits.entries → (own.last ≡ None
    → follows_one before.last (spelled line))
    → line_fault limits (behind before own) line ≡ None
unfolding line_fault text_fault
line_behind limits before own line none counted few first =
    let own_line = line_none limits own line none in
    let a : nat_lt (before.lines + own.lines) limits.lines ≡ true = le-leb (suc (before.lines + own.lines)) limits.lines counted in
    rw (a, own_line.0) (said_behind limits before own (reading line) own_line.1 few first)

-- and so are all

record Read (limits : LimitNumbers) (own : Passed) (line : List ℕ) (lines : List (List ℕ)) (entries : List Entry) : Type 0 where
  none : line_fault limits own line ≡ None
  more : List Entry
  rest : entries_from limits (passed_line own (spelled line)) lines ≡ Ok more
  all : cons_option (spelled line) more ≡ entries

unless_parts : (fault : Option FileFault) (entry : Option Entry) (left : Result (List Entry) FileFault) (entries : List Entry)
    → unless fault (in_front entry left) ≡ Ok entries
    → (fault ≡ None) × ((more : List Entry) × (left ≡ Ok more) × (cons_option entry more ≡ entries))
unless_parts (Some fault) entry left entries is = absurd (cc)
unless_parts None entry (Err fault) entries is = absurd (cc)
unless_parts None entry (Ok more) entries is = (refl, (more, refl, cc))

read_parts : (limits : LimitNumbers) (own : Passed) (line : List ℕ) (lines : List (List ℕ)) (entries : List Entry)
    → entries_from limits own (line ∷ lines) ≡ Ok entries → Read limits own line lines entries
unfolding entries_from
read_parts limits own line lines entries is =
    let parts = unless_parts (line_fault limits own line) (spelled line) (entries_from limits (passed_line own
    (spelled line)) lines) entries is in
    record { none = parts.0; more = parts.1.0; rest = parts.1.1; all = parts.1.2 }

first_one : (last : Option KeyOf) (entry : Option Entry) (more : List Entry) → FollowsAll last (cons_option entry more)
    → follows_one last entry
first_one last None more follows = tt
first_one last (Some entry) more follows = follows

next_first : (own last : Option KeyOf) (entry : Option Entry) (more : List Entry) → (own ≡ None
    → FollowsAll last (cons_option entry more)) → last_of own entry ≡ None → FollowsAll last more
next_first own last None more first none = first none
next_first own last (Some entry) more first none = absurd (cc)

length_one : (entry : Option Entry) (more : List Entry) → length (cons_option entry more) ≡ length (cons_option entry []) + length more
length_one None more = omega arith
length_one (Some entry) more = omega arith

entries_more : (entries : ℕ) (entry : Option Entry) → entries + option_len entry ≡ entries + length (cons_option entry [])
entries_more entries None = omega arith
entries_more entries (Some entry) = omega arith

in_front_both : (entry : Option Entry) (more : List Entry) (left : Result (List Entry) FileFault)
    → in_front entry (in_front_all more left) ≡ in_front_all (cons_option entry more) left
in_front_both None more (Ok entries) = refl
in_front_both None more (Err fault) = refl
in_front_both (Some entry) more (Ok entries) = refl
in_front_both (Some entry) more (Err fault) = refl

in_front_two : (one other : List Entry) (left : Result (List Entry) FileFault)
    → in_front_all one (in_front_all other left) ≡ in_front_all (one ++ other) left
in_front_two one other (Ok more) = ap Ok (sym (append_assoc one other more))
in_front_two one other (Err fault) = refl

pub in_front_none : (left : Result (List Entry) FileFault) → left ≡ in_front_all [] left
in_front_none (Ok entries) = refl
in_front_none (Err fault) = refl

pub shift : (limits : LimitNumbers) (before : Passed) (lines : List (List ℕ)) (own : Passed) (entries : List Entry) (rest : List
    (List ℕ)) → entries_from limits own lines ≡ Ok entries
    → before.lines + own.lines + length lines ≤ limits.lines → before.entries + own.entries + length entries ≤ limits.entries
    → (own.last ≡ None → FollowsAll before.last entries)
    → entries_from limits (behind before own) (lines ++ rest) ≡ in_front_all entries (entries_from limits (behind before
    (passed_all own lines)) rest)
shift limits before [] own entries rest is counted few first =
    let none : [] ≡ entries = (let e = sym (entries_from-none limits own) ∙ is in cc) in
    subst (λ (own_entries : List Entry). entries_from limits (behind before own) rest ≡ in_front_all own_entries (entries_from limits
    (behind before own) rest)) none (in_front_none (entries_from limits (behind before own) rest))
shift limits before (line ∷ lines) own entries rest is counted few first =
    let parts = read_parts limits own line lines entries is in
    let entry = spelled line in
    let long = length_one entry parts.more in
    let whole : length (cons_option entry parts.more) ≡ length entries = ap length parts.all in
    let here = line_behind limits before own line parts.none (omega (arith, counted)) (omega (arith, few, long, whole))
    (λ none. first_one before.last entry parts.more (subst (FollowsAll before.last) (sym parts.all) (first none))) in
    let next = shift limits before lines (passed_line own entry) parts.more rest parts.rest (omega (arith, counted)) (omega
    (arith, few, long, whole, entries_more own.entries entry))
    (next_first own.last before.last entry parts.more (λ none. subst (FollowsAll before.last) (sym parts.all) (first none))) in
    entries_from-next limits (behind before own) line (lines ++ rest) here
    ∙ ap (λ passed. in_front entry (entries_from limits passed (lines ++ rest))) (passed_behind before own entry)
    ∙ ap (in_front entry) next
    ∙ in_front_both entry parts.more (entries_from limits (behind before (passed_all (passed_line own entry) lines)) rest)
    ∙ ap (λ own_entries. in_front_all own_entries (entries_from limits (behind before (passed_all
    (passed_line own entry) lines)) rest)) parts.all

-- lines are read apart, one after another

passed_snoc : (passed : Passed) (lines : List (List ℕ)) (line : List ℕ)
    → passed_all passed (lines ++ line ∷ []) ≡ passed_line (passed_all passed lines) (spelled line)
passed_snoc passed [] line = refl
passed_snoc passed (one ∷ lines) line = passed_snoc (passed_line passed (spelled one)) lines line

passed_lines : (passed : Passed) (lines : List (List ℕ)) → (passed_all passed lines).lines ≡ passed.lines + length lines
passed_lines passed [] = omega arith
passed_lines passed (line ∷ lines) = let more = passed_lines (passed_line passed (spelled line)) lines in omega (arith, more)

in_front_step : (entries : List Entry) (entry : Option Entry) (left : Result (List Entry) FileFault)
    → in_front_all entries (in_front entry left) ≡ in_front_all (entries ++ cons_option entry []) left
in_front_step entries None (Ok more) = ap (λ own. Ok (own ++ more)) (sym (append-nil entries))
in_front_step entries None (Err fault) = refl
in_front_step entries (Some entry) (Ok more) = ap Ok (sym (append_assoc entries (entry ∷ []) more))
in_front_step entries (Some entry) (Err fault) = refl

-- a front of the bytes was read apart, and this is left of them
pub record HasFront (limits : LimitNumbers) (bytes rest : List ℕ) (part : Part) : Type 0 where
  pub front : List ℕ
  pub parts : bytes ≡ front ++ rest
  pub lines : IsPart limits front part

pub starts : (limits : LimitNumbers) (bytes : List ℕ) (part : Part) → part ≡ record { passed = none_passed; change = [] }
    → HasFront limits bytes bytes part
starts limits bytes part none = record {
  front = [];
  parts = refl;
  lines = subst (IsPart limits []) (sym none) (record {
    own = [];
    whole = λ later. refl;
    read = λ more. in_front_none (entries_from limits none_passed more);
    passed_are = refl;
    last = refl;
  });
}

line_more : (limits : LimitNumbers) (front line : List ℕ) (part : Part) → IsPart limits front part → IsWithinLine line
    → line_fault limits part.passed line ≡ None
    → IsPart limits (front ++ (line ++ NEWLINE ∷ []))
    (record { passed = passed_line part.passed (spelled line); change = part.change ++ cons_option (spelled line) [] })
line_more limits front line part read within none = record {
  own = read.own ++ line ∷ [];
  whole = λ later. ap lines_of (append_assoc front (line ++ NEWLINE ∷ []) later) ∙ read.whole ((line ++ NEWLINE ∷ []) ++ later)
      ∙ ap (λ bytes. read.own ++ lines_of bytes) (append_assoc line (NEWLINE ∷ []) later)
      ∙ ap (λ lines. read.own ++ lines) (lines_of-ended line later within)
      ∙ sym (append_assoc read.own (line ∷ []) (lines_of later));
  read = λ more. ap (entries_from limits none_passed) (append_assoc read.own (line ∷ []) more) ∙ read.read (line ∷ more)
      ∙ ap (in_front_all part.change) (entries_from-next limits part.passed line more none)
      ∙ in_front_step part.change (spelled line) (entries_from limits (passed_line part.passed (spelled line)) more);
  passed_are = passed_snoc none_passed read.own line ∙ ap (λ own. passed_line own (spelled line)) read.passed_are;
  last = ap (λ last. last_of last (spelled line)) read.last ∙ sym (last_key-more None part.change (spelled line));
}

pub step : (limits : LimitNumbers) (bytes rest next line : List ℕ) (old new : Part) → HasFront limits bytes rest old
    → IsFirstLine rest line next → line_fault limits old.passed line ≡ None → new.passed ≡ passed_line old.passed (spelled line)
    → new.change ≡ old.change ++ cons_option (spelled line) [] → HasFront limits bytes next new
step limits bytes rest next line old new read first none is are = record {
  front = read.front ++ (line ++ NEWLINE ∷ []);
  parts = read.parts ∙ ap (λ own. read.front ++ own) (first.parts ∙ sym (append_assoc line (NEWLINE ∷ []) next))
      ∙ sym (append_assoc read.front (line ++ NEWLINE ∷ []) next);
  lines = subst (λ (own : Passed × List Entry). IsPart limits (read.front ++ (line ++ NEWLINE ∷ []))
      (record { passed = own.0; change = own.1 })) (λ i. (sym is i, sym are i))
      (line_more limits read.front line old read.lines first.within_line none);
}

pub shorter : (rest line next : List ℕ) → IsFirstLine rest line next → length next < length rest
shorter rest line next first = let lengths = ap length first.parts ∙ length-append line (NEWLINE ∷ next) in omega (arith, lengths)

-- where no more is read, so many bytes were

pub front_within : (limits : LimitNumbers) (bytes rest : List ℕ) (part : Part) → HasFront limits bytes rest part
    → length rest ≤ length bytes
front_within limits bytes rest part read =
    let lengths = ap length read.parts ∙ length-append read.front rest in omega (arith, lengths)

take_front : (front rest : List ℕ) → take (length front) (front ++ rest) ≡ front
take_front [] rest = refl
take_front (byte ∷ front) rest = ap (λ own. byte ∷ own) (take_front front rest)

pub ends : (limits : LimitNumbers) (bytes rest : List ℕ) (part : Part) (len : ℕ) → HasFront limits bytes rest part
    → len + length rest ≡ length bytes → IsPart limits (take len bytes) part
ends limits bytes rest part len read is =
    let lengths = ap length read.parts ∙ length-append read.front rest in
    let count : len ≡ length read.front = omega (arith, is, lengths) in
    subst (λ (own : List ℕ). IsPart limits own part)
    (sym (take_front read.front rest) ∙ ap (λ bytes. take (length read.front) bytes) (sym read.parts)
    ∙ ap (λ n. take n bytes) (sym count))
    read.lines

-- and put behind others

behind_none : (before : Passed) → behind before none_passed ≡ before
behind_none before = same_passed (before.lines + 0) before.lines (before.entries + 0) before.entries before.last before.last
    (omega arith) (omega arith) refl

-- what a file comes to that has these lines, and behind them these bytes
abbrev comes_to : LimitNumbers → Part → List ℕ → Result (List Entry) FileFault
comes_to limits part bytes = in_front_all part.change (entries_from limits part.passed (lines_of bytes))

adds : (limits : LimitNumbers) (before own : Part) (bytes : List ℕ) → IsPart limits bytes own
    → before.passed.lines + own.passed.lines ≤ limits.lines → before.passed.entries + length own.change ≤ limits.entries
    → FollowsAll before.passed.last own.change
    → (later : List ℕ) → comes_to limits before (bytes ++ later)
    ≡ comes_to limits (record { passed = behind before.passed own.passed; change = before.change ++ own.change }) later
adds limits before own bytes part counted few first =
    let is : entries_from limits none_passed part.own ≡ Ok own.change = ap (entries_from limits none_passed) (sym (append-nil part.own))
    ∙ part.read [] ∙ ap (in_front_all own.change) (entries_from-none limits own.passed) ∙ ap Ok (append-nil own.change) in
    let count : own.passed.lines ≡ length part.own = sym (ap (λ (passed : Passed). passed.lines) part.passed_are)
    ∙ (let many = passed_lines none_passed part.own in omega (arith, many)) in
    λ later. ap (λ lines. in_front_all before.change (entries_from limits before.passed lines)) (part.whole later)
    ∙ ap (λ passed. in_front_all before.change (entries_from limits passed (part.own ++ lines_of later))) (sym
    (behind_none before.passed))
    ∙ ap (in_front_all before.change) (shift limits before.passed part.own none_passed own.change (lines_of later) is
    (omega (arith, counted, count)) (omega (arith, few)) (λ _. first))
    ∙ in_front_two before.change own.change
    (entries_from limits (behind before.passed (passed_all none_passed part.own)) (lines_of later))
    ∙ ap (λ passed. in_front_all (before.change ++ own.change) (entries_from limits (behind before.passed passed) (lines_of later)))
    part.passed_are

-- the last key of both

last_key-some : (key : KeyOf) (before : Option KeyOf) (entries : List Entry)
    → last_key (Some key) entries ≡ option_or (last_key (Some key) entries) before
last_key-some key before [] = refl
last_key-some key before (entry ∷ entries) = last_key-some entry.key before entries

-- the last of some entries has their last key
pub last_key-last : (before : Option KeyOf) (front : List Entry) (entry : Entry) → last_key before (front ++ entry ∷ []) ≡ Some entry.key
last_key-last before [] entry = refl
last_key-last before (first ∷ front) entry = last_key-last (Some first.key) front entry

last_key-or : (before : Option KeyOf) (entries : List Entry) → last_key before entries ≡ option_or (last_key None entries) before
last_key-or before [] = refl
last_key-or before (entry ∷ entries) = last_key-some entry.key before entries

module _ {K : Type 0} (after : K → Entry → K) where
  kept_front : (keeper : K) (front : List Entry) (more : Result (List Entry) FileFault)
      → kept_all after keeper (in_front_all front more) ≡ kept_all after (fold after keeper front) more
  kept_front keeper front (Ok more) = ap Ok (fold-append after keeper front more)
  kept_front keeper front (Err fault) = refl

  pub adds_to : (limits : LimitNumbers) (before : Passed) (keeper : K) (own : Part) (bytes : List ℕ) → IsPart limits bytes own
      → before.lines + own.passed.lines ≤ limits.lines → before.entries + length own.change ≤ limits.entries
      → FollowsAll before.last own.change
      → TakesLines after limits before keeper bytes (record {
        lines = before.lines + own.passed.lines;
        entries = before.entries + own.passed.entries;
        last = last_key before.last own.change;
      }) (fold after keeper own.change) []
  adds_to limits before keeper own bytes part counted few first = λ later.
      let last : option_or own.passed.last before.last ≡ last_key before.last own.change =
      ap (λ last. option_or last before.last) part.last ∙ sym (last_key-or before.last own.change) in
      ap (kept_all after keeper) (in_front_none (entries_from limits before (lines_of (bytes ++ later)))
      ∙ adds limits (record { passed = before; change = [] }) own bytes part counted few first later)
      ∙ kept_front keeper own.change (entries_from limits (behind before own.passed) (lines_of later))
      ∙ ap (λ passed. kept_all after (fold after keeper own.change) (entries_from limits passed (lines_of later)))
      (same_passed _ _ _ _ _ _ refl refl last)

-- entries that come after others rise with them

pub rise_behind : (last : Option KeyOf) (entries : List Entry) → IsChange entries → FollowsAll last entries → RiseFrom last entries
rise_behind last [] rise follows = tt
rise_behind last (entry ∷ entries) rise follows = (rise.0, follows, rise.2)

-- shares behind one another

take_none : {A : Type 0} (used len : ℕ) → ◌≡◌ {A = List A} [] (take len [])
take_none used zero = refl
take_none used (suc len) = refl

take_more : {A : Type 0} (used len : ℕ) (bytes : List A) → take (used + len) bytes ≡ take used bytes ++ take len (drop used bytes)
take_more zero len bytes = let none : 0 + len ≡ len = omega arith in ap (λ n. take n bytes) none
take_more (suc used) len [] = let next : suc used + len ≡ suc (used + len) = omega arith in rw next (take_none (used + len) len)
take_more (suc used) len (byte ∷ bytes) =
    let next : suc used + len ≡ suc (used + len) = omega arith in
    rw next (ap (λ own. byte ∷ own) (take_more used len bytes))

pub takes_share : {K : Type 0} (after : K → Entry → K) (limits : LimitNumbers) (old : Passed) (first : K) (now : Passed) (keeper : K)
    (new : Passed) (next : K) (bytes : List ℕ) (used len : ℕ) → TakesLines after limits old first (take used bytes) now keeper []
    → TakesLines after limits now keeper (take len (drop used bytes)) new next []
    → TakesLines after limits old first (take (used + len) bytes) new next []
takes_share after limits old first now keeper new next bytes used len so_far more = λ later.
    ap (λ own. keeps_to after limits old first (own ++ later)) (take_more used len bytes)
    ∙ ap (keeps_to after limits old first) (append_assoc (take used bytes) (take len (drop used bytes)) later)
    ∙ so_far (take len (drop used bytes) ++ later)
    ∙ more later

pub shares_behind : (limits : LimitNumbers) (bytes : List ℕ) (used len : ℕ) (shares : List Share)
    → AreShares limits (drop len (drop used bytes)) shares → AreShares limits (drop (used + len) bytes) shares
shares_behind limits bytes used len shares are = subst (λ own. AreShares limits own shares) (drop-drop len used bytes) are

-- shares have no more bytes than those whose shares they are, and are those of so many of them

pub shares_within : (limits : LimitNumbers) (bytes : List ℕ) (shares : List Share) → AreShares limits bytes shares
    → bytes_in shares ≤ length bytes
shares_within limits bytes [] are = omega arith
shares_within limits bytes (share ∷ shares) are =
    let more = shares_within limits (drop share.len bytes) shares are.2 in
    omega (arith, more, are.0, length-drop share.len bytes)

pub shares_cover : (limits : LimitNumbers) (bytes : List ℕ) (shares : List Share) → AreShares limits bytes shares
    → AreShares limits (take (bytes_in shares) bytes) shares
shares_cover limits bytes [] are = tt
shares_cover limits bytes (share ∷ shares) are =
    let more = shares_within limits (drop share.len bytes) shares are.2 in (
      omega (arith, length-take-le (share.len + bytes_in shares) bytes (omega (arith, are.0, more, length-drop share.len bytes))),
      subst (λ own. IsPart limits own share.part) (sym (take-take share.len (share.len + bytes_in shares) bytes (omega arith))) are.1,
      subst (λ own. AreShares limits own shares) (sym (drop-take share.len (bytes_in shares) bytes))
          (shares_cover limits (drop share.len bytes) shares are.2),
    )
