use Rattle.std.proofs.Common.{arith}
use Rattle.page_journal.specs.PageSet.{plain}
use Rattle.page_journal.proofs.Settable.{set_within, entries_within}
use Rattle.page_journal.proofs.page_set.PageSet.can_commit.Goals as goal

pub returns-then-home-count : goal.returns-then-home-count
returns-then-home-count c = (λ no. absurd (cc), λ can. absurd (omega (arith, c.if-home-count.true, can.more)))

pub returns-then-not-are_within : goal.returns-then-not-are_within
returns-then-not-are_within c = (
  λ no. absurd (cc),
  λ can.
      let yes = c.are_within.ensures.1 (entries_within
      (plain c.self.inside.pages.entries) c.self.invariant.sorted c.args.self.now c.self.view_is c.args.home can.within) in
      cc (c.if-not-are_within.true, yes),
)

pub returns : goal.returns
returns c = (
  λ yes. record {
    more = omega (arith, c.if-home-count.false);
    within = set_within (plain c.self.inside.pages.entries) c.self.invariant.sorted c.args.self.now c.self.view_is c.args.home
        (c.are_within.ensures.0 c.if-not-are_within.false);
    root = c.tells.ensures.0 c.if-not-tells.false;
    new = c.has_all.ensures.0 yes;
  },
  λ can. c.has_all.ensures.1 can.new,
)
