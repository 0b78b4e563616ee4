-- A line of a file, from one piece to the next.
use Rattle.std.proofs.Common.{◌≡◌, ℕ, ◌+◌, ◌<◌, ◌≤◌, ◌==◌, Bool, true, false, List, [], ◌∷◌, ◌++◌, length, drop, Option, Some, None, take, append-nil, refl, sym, ap, ◌∙◌, subst, arith}
use Rattle.std.specs.Prelude.{IfNone, IfSome, if◌then◌else◌}
use Rattle.std.specs.Option.{option_to_list}
use Rattle.std.proofs.lemmas.Bool.{eq-eqb, false≢true, lt-ltb, ne_eqb}
use Rattle.std.proofs.lemmas.List.{drop_all}
use Rattle.outside.specs.Reads.{MovesBytes}
use Rattle.opl_lines.proofs.LineLemmas.{lines_of-none}
use Rattle.opl_lines.specs.Lines.{IsWithinLine, first_of, lines_of}
use Rattle.opl_lines.specs.declared.reader.TheConstants.{NEWLINE}
use Rattle.opl_lines.specs.Reading.{KeepsLimits, Reading, begun}
use Rattle.opl_lines.specs.Takes.{Takes}
use Rattle.osm_base.specs.declared.bounds.limits.LimitKind.TheVariants as kinds
use Rattle.outside.specs.Bytes.{BothKnown}
use Rattle.delta_feed.specs.Blocks.{limit_at}
use Rattle.delta_feed.specs.Feeding.{IsReading, PassesLimit, TakesOne, TakesPiece, lines_left, one_if}
use Rattle.delta_feed.specs.declared.fault.FeedFault.{FeedFault}
use Rattle.delta_feed.specs.declared.fault.FeedFault.TheVariants as faults
use Rattle.delta_feed.specs.declared.reader.FeedReader.{FeedReader}
use Rattle.delta_feed.proofs.Known.{before, both, less, nothing_read}

-- so far: the lines that were left are those of what is begun, held and left now
abbrev pub Left : (first now : FeedReader) → Option (List ℕ) → Option (List ℕ) → Type 0
Left first now start left = BothKnown start left (λ before after. lines_left first before ≡ lines_of (begun now.lines ++ (now.ahead ++ after)))

begun_none : (reading : Reading) → reading.whole ≡ true → begun reading ≡ []
begun_none reading whole = rw whole refl

pub left_start : (reader : FeedReader) (left : Option (List ℕ)) → reader.lines.whole ≡ true → Left reader reader left left
left_start reader left whole = nothing_read left _ (λ bytes. ap (λ own. lines_of (own ++ (reader.ahead ++ bytes))) (sym (begun_none reader.lines whole)))

pub left_moved : (first now new : FeedReader) (more : Bool) (start left rest : Option (List ℕ)) → Left first now start left
    → MovesBytes now.ahead new.ahead more left rest → new.lines ≡ now.lines → Left first new start rest
left_moved first now new more start left rest so_far moves same = both start left rest _ _ _ so_far moves
    (λ a b c was moved. was ∙ ap (λ own. lines_of (begun now.lines ++ own)) moved.0 ∙ ap (λ (own : Reading). lines_of (begun own ++ (new.ahead ++ c))) (sym same))

pub left_on : (first now new : FeedReader) (start left : Option (List ℕ)) → Left first now start left → TakesPiece now new false → Left first new start left
left_on first now new start left so_far takes = less start left _ _ so_far (λ a b was. was ∙ takes.lines_are b)

-- a line ended
pub line_taken : (first now new : FeedReader) (start left : Option (List ℕ)) → Left first now start left → TakesPiece now new true
    → BothKnown start left (λ before after. TakesOne true new.lines.line (lines_left first before) (lines_left new after))
line_taken first now new start left so_far takes = less start left _ _ so_far
    (λ a b was. was ∙ takes.lines_are b ∙ ap (λ own. new.lines.line ∷ lines_of (own ++ (new.ahead ++ b))) (begun_none new.lines (takes.ends refl)))

-- the file ended
last_one : (taken : Bool) (line : List ℕ) (lines after : List (List ℕ)) → lines ≡ (if taken then line ∷ [] else []) → after ≡ [] → TakesOne taken line lines after
last_one true line lines after is none = is ∙ ap (λ own. line ∷ own) (sym none)
last_one false line lines after is none = (is, none)

pub file_ended : (first now new : FeedReader) (more taken : Bool) (start left rest : Option (List ℕ)) → Left first now start left
    → more ≡ false → MovesBytes now.ahead new.ahead more left rest → lines_of (begun now.lines) ≡ (if taken then new.lines.line ∷ [] else []) → new.ahead ≡ []
    → BothKnown start rest (λ before after. TakesOne taken new.lines.line (lines_left first before) (lines_left new after))
file_ended first now new more taken start left rest so_far ended moves last none = both start left rest _ _ _ so_far moves
    (λ a b c was moved.
    let nothing : c ≡ [] = moved.1 ended in
    let all : now.ahead ++ b ≡ [] = moved.0 ∙ ap (λ own. own ++ c) none ∙ nothing in
    last_one taken new.lines.line (lines_left first a) (lines_left new c)
    (was ∙ ap (λ own. lines_of (begun now.lines ++ own)) all ∙ ap lines_of (append-nil (begun now.lines)) ∙ last)
    (ap (λ own. lines_of (own ++ c)) none ∙ ap lines_of nothing ∙ lines_of-none))

-- a limit is passed
same_limit : (first now : FeedReader) (lines : List (List ℕ)) (fault : FeedFault) → now.limits ≡ first.limits → now.lines.number ≡ first.lines.number
    → PassesLimit now lines fault → PassesLimit first lines fault
same_limit first now [] fault limits number passes = passes
same_limit first now (line ∷ rest) fault limits number passes =
    subst (λ n. limit_at first.limits n line ≡ Some fault) number (subst (λ own. limit_at own now.lines.number line ≡ Some fault) limits passes)

pub limit_passed : (first now : FeedReader) (start left : Option (List ℕ)) (fault : FeedFault) → Left first now start left → now.limits ≡ first.limits
    → now.lines.number ≡ first.lines.number
    → ((later : List ℕ) → PassesLimit now (lines_of (begun now.lines ++ (now.ahead ++ later))) fault)
    → IfSome start (λ bytes. PassesLimit first (lines_left first bytes) fault)
limit_passed first now start left fault so_far limits number passes = before start left _ _ so_far
    (λ a b was. subst (λ own. PassesLimit first own fault) (sym was)
    (same_limit first now (lines_of (begun now.lines ++ (now.ahead ++ b))) fault limits number (passes b)))

-- ---- one piece

listed : (taken : Bool) (line : List ℕ) → option_to_list (if taken then Some line else None) ≡ (if taken then line ∷ [] else [])
listed true line = refl
listed false line = refl

is_none : (taken : Bool) (line : List ℕ) (P : List ℕ → Type 0) → taken ≡ true → IfSome (if taken then Some line else None) P → P line
is_none true line P is holds = holds
is_none false line P is holds = absurd (false≢true is)

no_line : (taken : Bool) (line : List ℕ) (P : Type 0) → taken ≡ false → IfNone (if taken then Some line else None) P → P
no_line true line P is holds = absurd (false≢true (sym is))
no_line false line P is holds = holds

whole_of : (reading : Reading) (whole : Bool) → reading.whole ≡ whole → KeepsLimits reading → begun reading ≡ [] → whole ≡ true
whole_of reading true is keeps none = refl
whole_of reading false is keeps none = absurd (omega (arith, keeps.has_bytes is, ap length (sym line_is ∙ none)))
  where
    line_is : begun reading ≡ reading.line
    line_is = rw is refl

pub piece_taken : (old new : FeedReader) (used : ℕ) (taken : Bool) → IsReading old → KeepsLimits new.lines
    → Takes old.lines new.lines old.ahead used (if taken then Some new.lines.line else None) → new.ahead ≡ drop used old.ahead
    → TakesPiece old new taken
piece_taken old new used taken ready keeps takes rest = record {
  lines_are = λ later. takes.lines_of_rest later
      ∙ ap (λ own. own ++ lines_of (begun new.lines ++ (drop used old.ahead ++ later))) (listed taken new.lines.line)
      ∙ ap (λ own. (if taken then new.lines.line ∷ [] else []) ++ lines_of (begun new.lines ++ (own ++ later))) (sym rest);
  ends = λ is. whole_of new.lines new.lines.whole refl keeps
      (is_none taken new.lines.line (λ bytes. IsWithinLine bytes × (begun old.lines ++ take used old.ahead ≡ bytes ++ NEWLINE ∷ []) × (begun new.lines ≡ [])) is takes.line_taken).2;
  all = λ is. rest ∙ ap (λ n. drop n old.ahead) (no_line taken new.lines.line ((used ≡ length old.ahead) × (begun new.lines ≡ begun old.lines ++ old.ahead)) is takes.all_taken).0
      ∙ drop_all (length old.ahead) old.ahead (omega arith);
  number = takes.counted ∙ counted taken new.lines.line old.lines.number;
  fits = λ is. record {
    counted = omega (arith, takes.number_kept, takes.counted, listed_one taken new.lines.line is, ready.most);
    fits = omega (arith, is_none taken new.lines.line (λ bytes. length bytes ≤ old.lines.line_bytes) is takes.length_kept, ready.line_bytes);
  };
}
  where
    counted : (taken : Bool) (line : List ℕ) (n : ℕ) → n + length (option_to_list (if taken then Some line else None)) ≡ n + one_if taken
    counted true line n = refl
    counted false line n = refl

    listed_one : (taken : Bool) (line : List ℕ) → taken ≡ true → length (option_to_list (if taken then Some line else None)) ≡ 1
    listed_one true line is = refl
    listed_one false line is = absurd (false≢true is)

-- the limits that a piece passes
pub bytes_pass : (reader : FeedReader) (lines : List (List ℕ)) → IsReading reader → reader.lines.number < reader.lines.lines
    → reader.lines.line_bytes < length (first_of lines)
    → PassesLimit reader lines (faults.Limit kinds.LineBytes (reader.limits.line_bytes + 1))
bytes_pass reader [] ready counted long = absurd (omega (arith, long))
bytes_pass reader (line ∷ rest) ready counted long =
    let other : (reader.lines.number == reader.limits.lines) ≡ false = ne_eqb _ _ (λ e. omega (arith, e, counted, ready.most)) in
    rw (other, lt-ltb reader.limits.line_bytes (length line) (omega (arith, long, ready.line_bytes))) refl

pub lines_pass : (reader : FeedReader) (lines : List (List ℕ)) → IsReading reader → reader.lines.number ≡ reader.lines.lines
    → 0 < length lines → PassesLimit reader lines (faults.Limit kinds.FileLines (reader.limits.lines + 1))
lines_pass reader [] ready counted some = absurd (omega (arith, some))
lines_pass reader (line ∷ rest) ready counted some = rw (eq-eqb _ _ (counted ∙ ready.most)) refl
