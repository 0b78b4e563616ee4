-- The lines of a file of queries, one after the other.
use Rattle.std.proofs.Common.{◌≡◌, ℕ, ◌+◌, ◌<◌, ◌≤◌, suc, Bool, true, false, refl, sym, ◌∙◌, ap, arith, List, [], ◌∷◌, ◌++◌, map, length}
use Rattle.std.proofs.Common.{length-append, append_assoc, drop, Result, Ok, Err}
use Rattle.std.specs.List.{AllByRecursion}
use Rattle.opl_lines.specs.Lines.{lines_of}
use Rattle.opl_lines.specs.Steps.{IsFront}
use Rattle.opl_lines.proofs.LineLemmas.{lines_of-none, lines_of-ended, lines_of-last}
use Rattle.style_read.specs.Style.{StyleOf}
use Rattle.map_query.specs.declared.fault.QueryWhy.{QueryWhy}
use Rattle.map_query.specs.declared.query.Query.{Query}
use Rattle.map_query.specs.Line.{IsAsked, query_of}
use Rattle.map_query.specs.Reading.{IsFirstBad}

-- the first line of bytes
pub cut_ended : (bytes front : List ℕ) (ends : Bool) → IsFront bytes front ends → ends ≡ true
    → lines_of bytes ≡ front ∷ lines_of (drop (length front + 1) bytes)
cut_ended bytes front true cut e = ap lines_of cut.parts ∙ lines_of-ended front (drop (length front + 1) bytes) cut.within_line
cut_ended bytes front false cut e = absurd (cc)

no_more : {A : Type 0} (xs : List A) → xs ++ [] ≡ xs
no_more [] = refl
no_more (x ∷ xs) = ap (λ ys. x ∷ ys) (no_more xs)

pub cut_last : (bytes front : List ℕ) (ends : Bool) → IsFront bytes front ends → ends ≡ false → 0 < length bytes
    → lines_of bytes ≡ front ∷ lines_of []
cut_last bytes front true cut e some = absurd (cc)
cut_last bytes front false cut e some =
    let same : bytes ≡ front = cut.parts ∙ no_more front in
    rw (same, lines_of-none) (lines_of-last front cut.within_line (rw (← same) some))

pub cut_shorter : (bytes front : List ℕ) (ends : Bool) → IsFront bytes front ends → ends ≡ true → length bytes ≤ length front → ⊥
cut_shorter bytes front true cut e h =
    let long : length bytes ≡ length front + suc (length (drop (length front + 1) bytes)) = ap length cut.parts ∙ length-append front _ in
    omega arith
cut_shorter bytes front false cut e h = cc

-- what is read, and then what is left
pub record IsRead (style : StyleOf) (bytes : List ℕ) (queries : List Query) (rest : List ℕ) : Type 0 where
  pub all : map (query_of style) (lines_of bytes) ≡ map Ok queries ++ map (query_of style) (lines_of rest)
  pub asked : AllByRecursion (IsAsked style) queries
  pub room : length queries + length rest ≤ length bytes

pub none_read : (style : StyleOf) (bytes : List ℕ) → IsRead style bytes [] bytes
none_read style bytes = record { all = refl; asked = tt; room = omega arith }

one_more : (queries : List Query) (query : Query)
    → map {B = Result Query QueryWhy} Ok (queries ++ query ∷ []) ≡ map Ok queries ++ Ok query ∷ []
one_more [] query = refl
one_more (first ∷ queries) query = ap (λ rest. Ok first ∷ rest) (one_more queries query)

each_more : {A : Type 0} (P : A → Type 0) (xs : List A) (x : A) → AllByRecursion P xs → P x → AllByRecursion P (xs ++ x ∷ [])
each_more P [] x e f = (f, tt)
each_more P (y ∷ ys) x e f = (e.0, each_more P ys x e.1 f)

pub one_read : (style : StyleOf) (bytes rest line after : List ℕ) (queries : List Query) (query : Query) → IsRead style bytes queries rest
    → lines_of rest ≡ line ∷ lines_of after
    → length after < length rest → query_of style line ≡ Ok query → IsAsked style query → IsRead style bytes (queries ++ query ∷ []) after
one_read style bytes rest line after queries query read cut shorter good asked = record {
  all = read.all ∙ ap (λ lines. map Ok queries ++ map (query_of style) lines) cut
      ∙ ap (λ first. map Ok queries ++ first ∷ map (query_of style) (lines_of after)) good
      ∙ sym (append_assoc (map Ok queries) (Ok query ∷ []) (map (query_of style) (lines_of after)))
      ∙ ap (λ front. front ++ map (query_of style) (lines_of after)) (sym (one_more queries query));
  asked = each_more (IsAsked style) queries query read.asked asked;
  room = omega (arith, read.room, length-append queries (query ∷ []));
}

pub bad_read : (style : StyleOf) (bytes rest line after : List ℕ) (queries : List Query) (why : QueryWhy) → IsRead style bytes queries rest
    → lines_of rest ≡ line ∷ lines_of after
    → query_of style line ≡ Err why → IsFirstBad style (lines_of bytes) (length queries + 1) why
bad_read style bytes rest line after queries why read cut bad = record {
  before = queries;
  behind = map (query_of style) (lines_of after);
  number = refl;
  here = read.all ∙ ap (λ lines. map Ok queries ++ map (query_of style) lines) cut
      ∙ ap (λ first. map Ok queries ++ first ∷ map (query_of style) (lines_of after)) bad;
}

pub all_read : (style : StyleOf) (bytes rest : List ℕ) (queries : List Query) → IsRead style bytes queries rest → length rest ≤ 0
    → map Ok queries ≡ map (query_of style) (lines_of bytes)
all_read style bytes [] queries read none =
    sym (read.all ∙ ap (λ lines. map Ok queries ++ map (query_of style) lines) lines_of-none ∙ no_more (map Ok queries))
all_read style bytes (byte ∷ rest) queries read none = absurd (omega arith)
