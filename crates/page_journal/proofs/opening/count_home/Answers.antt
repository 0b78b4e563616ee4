use Rattle.std.proofs.Common.{refl}
use Rattle.page_journal.proofs.Finishing.{too_few}
use Rattle.page_journal.proofs.opening.count_home.Goals as goal

pub returns-then-not-holds-clause-answers : goal.returns-then-not-holds-clause-answers
returns-then-not-holds-clause-answers g c = λ bytes told long head. (
  refl,
  too_few c.in_ok-home.home _ c.args.len c.holds.result
      (c.in_ok-home.ensures.value bytes told long head) c.if-not-holds.true c.holds.ensures,
)
