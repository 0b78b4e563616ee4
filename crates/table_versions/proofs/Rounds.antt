-- A round of queries.
use Rattle.std.proofs.Common.{◌≡◌, ℕ, ◌+◌, ◌≤◌, ◌<◌, true, List, [], ◌∷◌, ◌++◌, length, drop, get_or, refl, sym, ap, subst, ◌∙◌, arith}
use Rattle.std.proofs.Common.{append_assoc, length-append}
use Rattle.std.proofs.lemmas.List.{append-nil, drop_more}
use mathlib.Core.List.{IsPrefix}
use Rattle.style_read.specs.Style.{StyleOf}
use Rattle.map_query.specs.declared.query.Query.{Query}
use Rattle.table_versions.specs.Fronts.{Begins, FrontOf}
use Rattle.table_versions.proofs.Shapes.{begins_itself}
use Rattle.table_versions.specs.declared.answers.Answer.{Answer}
use Rattle.table_versions.specs.Answers.{AreAnswers, IsAnswer}
use Rattle.table_versions.specs.Views.{ReaderOf}

prefix_trans : {A : Type 0} (xs ys zs : List A) → IsPrefix xs ys → IsPrefix ys zs → IsPrefix xs zs
prefix_trans xs ys zs p q = (p.0 ++ q.0, sym (append_assoc xs p.0 q.0) ∙ (ap (λ w. w ++ q.0) p.1 ∙ q.1))

pub begins_trans : (one two three : FrontOf) → Begins one two → Begins two three → Begins one three
begins_trans one two three p q = record {
  book = q.book ∙ p.book;
  first = q.first ∙ p.first;
  base = q.base ∙ p.base;
  log =
      prefix_trans one.log two.log three.log p.log q.log;
}

-- what a reader was is what it is, but for what it saw and how often it was not let in
abbrev pub OnlyLooked : (old now : ReaderOf) → Type 0
OnlyLooked old now = now ≡ record old { seen = now.seen; refusals = now.refusals }

-- so many queries were answered
pub record Asked (old now : ReaderOf) (queries : List Query) (index : ℕ) (answers : List Answer) : Type 0 where
  pub same : OnlyLooked old now
  pub seen : Begins old.seen now.seen
  pub later : old.refusals ≤ now.refusals
  pub count : length answers ≡ index
  pub handle : 0 < length answers → old.has_handle ≡ true
  pub goes : (to : FrontOf) (rest : List Answer) → AreAnswers old.style old.told now.seen to (drop index queries) rest
      → AreAnswers old.style old.told old.seen to queries (answers ++ rest)

pub asked_nothing : (old : ReaderOf) (queries : List Query) → Asked old old queries 0 []
asked_nothing old queries = record {
  same = refl;
  seen = begins_itself old.seen;
  later = omega arith;
  count = refl;
  handle =
      λ some. absurd (omega (arith, some));
  goes = λ to rest given. given;
}

same_both : (old now new : ReaderOf) → OnlyLooked old now → OnlyLooked now new → OnlyLooked old new
same_both old now new one other = other ∙ ap (λ (reader : ReaderOf). record reader { seen = new.seen; refusals = new.refusals }) one

-- one more was
pub asked_more : (old now new : ReaderOf) (queries : List Query) (index : ℕ) (answers : List Answer) (query : Query) (given : Answer)
    → Asked old now queries index answers
    → index < length queries → query ≡ get_or queries index query → OnlyLooked now new → Begins now.seen new.seen
    → now.refusals ≤ new.refusals → Begins now.told new.seen → now.has_handle ≡ true
    → IsAnswer now.style new.seen query given → Asked old new queries (index + 1) (answers ++ given ∷ [])
asked_more old now new queries index answers query given asked within is same seen later told has answer =
    let style : now.style ≡ old.style = ap (λ (reader : ReaderOf). reader.style) asked.same in
    let told_old : now.told ≡ old.told = ap (λ (reader : ReaderOf). reader.told) asked.same in
    let told' : Begins old.told new.seen = subst (λ front. Begins front new.seen) told_old told in
    let answer' : IsAnswer old.style new.seen query given = subst (λ (own : StyleOf). IsAnswer own new.seen query given) style answer in
    let left : drop index queries ≡ query ∷ drop (index + 1) queries =
    drop_more queries index query within ∙ ap (λ first. first ∷ drop (index + 1) queries) (sym is) in
    record {
      same = same_both old now new asked.same same;
      seen = begins_trans old.seen now.seen new.seen asked.seen seen;
      later = omega (arith, asked.later, later);
      count = length-append answers (given ∷ []) ∙ ap (λ n. n + 1) asked.count;
      handle = λ some. sym (ap (λ (reader : ReaderOf). reader.has_handle) asked.same) ∙ has;
      goes = λ to rest more.
          let here : AreAnswers old.style old.told now.seen to (query ∷ drop (index + 1) queries) (given ∷ rest) =
          (new.seen, (seen, told', answer', more)) in
          let all = asked.goes to (given ∷ rest) (subst (λ qs. AreAnswers old.style old.told now.seen to qs (given ∷ rest))
          (sym left) here) in
          subst (λ xs. AreAnswers old.style old.told old.seen to queries xs) (sym (append_assoc answers (given ∷ []) rest)) all;
    }

-- the answers up to here
pub asked_so_far : (old now : ReaderOf) (queries : List Query) (index : ℕ) (answers : List Answer) → Asked old now queries index answers
    → AreAnswers old.style old.told old.seen now.seen queries answers
asked_so_far old now queries index answers asked =
    subst (λ xs. AreAnswers old.style old.told old.seen now.seen queries xs) (append-nil answers)
    (asked.goes now.seen [] (begins_itself now.seen))

-- and where the reader was not let in at the next query
pub asked_shut : (old now new : ReaderOf) (queries : List Query) (index : ℕ) (answers : List Answer) → Asked old now queries index answers
    → new.seen ≡ now.seen
    → AreAnswers old.style old.told old.seen new.seen queries answers
asked_shut old now new queries index answers asked same =
    subst (λ front. AreAnswers old.style old.told old.seen front queries answers) (sym same)
    (asked_so_far old now queries index answers asked)
