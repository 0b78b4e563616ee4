use Rattle.std.proofs.Common.{◌≡◌, inl, inr, ℕ, ◌<◌, ◌≤◌, length, sym, subst, arith}
use Rattle.std.proofs.lemmas.Bool.{cases_lt}
use Rattle.std.proofs.lemmas.List.{length_push}
use Rattle.std.proofs.lemmas.Map.Iter.{iter_turn}
use Rattle.std.specs.Map.Iter.{deref_pair}
use Rattle.page_journal.specs.PageSet.{number_at, plain}
use Rattle.page_journal.proofs.Entries.{number_at-plain, plain_long}
use Rattle.page_journal.proofs.page_set.are_within.Goals as goal

pub returns-then-not-is_within : goal.returns-then-not-is_within
returns-then-not-is_within c = (
  λ no. absurd (cc),
  λ all.
      let entries = c.args.pages.now.entries in
      let yielded = c.loop-number.yielded in
      let start : c.into_iter-number-iterator.result ≡ entries = c.into_iter-number-iterator.ensures.into_iter_gives.0 in
      let turn = iter_turn deref_pair entries yielded c.into_iter-number-iterator.result _ _ _ start c.loop-number.yielded_by
      (c.in-Some.number, c.in-Some.field-0-1) c.in-Some.is c.next.ensures.steps in
      let here = number_at-plain entries (length yielded) c.in-Some.number.now c.in-Some.field-0-1.now turn.1 in
      let both = all (length yielded) (omega (arith, turn.0, plain_long entries)) in
      let yes = c.is_within.ensures.1 (omega (arith, both.0, here), omega (arith, both.1, here)) in
      cc (c.if-not-is_within.true, yes),
)

pub loop-number-preserved : goal.loop-number-preserved
loop-number-preserved c =
    let entries = c.args.pages.now.entries in
    let yielded = c.loop-number.yielded in
    let start : c.into_iter-number-iterator.result ≡ entries = c.into_iter-number-iterator.ensures.into_iter_gives.0 in
    let turn = iter_turn deref_pair entries yielded c.into_iter-number-iterator.result _ _ _ start c.loop-number.yielded_by
    (c.in-Some.number, c.in-Some.field-0-1) c.in-Some.is c.next.ensures.steps in
    let here = number_at-plain entries (length yielded) c.in-Some.number.now c.in-Some.field-0-1.now turn.1 in
    let is = c.is_within.ensures.0 c.if-not-is_within.false in
    let more = length_push yielded (c.in-Some.number, c.in-Some.field-0-1) in
    record {
      can = tt;
      finite = tt;
      within = λ place inside. elim (cases_lt place (length yielded)) [
        | inl earlier ↦ c.loop-number.invariant.within place earlier
        | inr last ↦
            let same : place ≡ length yielded = omega (arith, inside, last, more) in
            subst (λ (k : ℕ). (1 ≤ number_at (plain entries) k) × (number_at (plain entries) k < c.args.home)) (sym same)
            (omega (arith, here, is.0), omega (arith, here, is.1))
      ];
    }
