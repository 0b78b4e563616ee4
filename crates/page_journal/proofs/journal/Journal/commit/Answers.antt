use Rattle.std.proofs.Common.{ℕ, subst, arith, rules}
use Rattle.page_journal.specs.PageSet.{plain, overwritten}
use Rattle.page_journal.specs.Written.{Makes}
use Rattle.page_journal.proofs.Entries.{plain_long}
use Rattle.page_journal.proofs.Sets.{numbers_rise, set_below, set_some, set_few, set_makes}
use Rattle.page_journal.proofs.journal.Journal.commit.Goals as goal

pub write_through-requires-clause-rises : goal.write_through-requires-clause-rises
write_through-requires-clause-rises g c =
    let es = plain c.set.inside.pages.entries in
    let same = plain_long c.set.inside.pages.entries in
    λ one two before inside. numbers_rise es c.set.invariant.sorted one two before (omega (arith, inside, same))

pub write_through-requires-clause-below : goal.write_through-requires-clause-below
write_through-requires-clause-below g c =
    let es = plain c.set.inside.pages.entries in
    let same = plain_long c.set.inside.pages.entries in
    λ place inside. set_below es c.set.invariant.sorted c.args.set.now c.set.view_is c.args.self.now.pages c.args.home c.requires place
    (omega (arith, inside, same))

pub write_through-requires-clause-fits : goal.write_through-requires-clause-fits
write_through-requires-clause-fits g c =
    let es = plain c.set.inside.pages.entries in
    let same = plain_long c.set.inside.pages.entries in
    record {
      some = omega (
        arith,
        set_some es c.set.invariant.sorted c.args.set.now c.set.view_is c.args.self.now.pages c.args.home c.requires,
        same,
      );
      few = omega (
        arith,
        set_few es c.set.invariant.sorted c.args.set.now c.set.view_is c.args.self.now.pages c.args.home c.requires,
        same,
      );
      room = search rules;
    }

pub returns-in-Ok-clause-any_moment : goal.returns-in-Ok-clause-any_moment
returns-in-Ok-clause-any_moment g c =
    let es = plain c.set.inside.pages.entries in
    let same = plain_long c.set.inside.pages.entries in
    λ old rest long.
    let new = overwritten c.args.set.now c.args.home old in
    let makes = subst (λ (n : ℕ). Makes es n c.args.home old new) same
    (set_makes es c.set.invariant.sorted c.args.set.now c.set.view_is c.args.self.now.pages c.args.home c.requires old long
    c.args.self.now.some) in
    c.write_through.ensures.any_moment old new rest.0 rest.1 makes

pub returns-in-Ok-clause-done : goal.returns-in-Ok-clause-done
returns-in-Ok-clause-done g c =
    let es = plain c.set.inside.pages.entries in
    let same = plain_long c.set.inside.pages.entries in
    λ old rest long.
    let new = overwritten c.args.set.now c.args.home old in
    let makes = subst (λ (n : ℕ). Makes es n c.args.home old new) same
    (set_makes es c.set.invariant.sorted c.args.set.now c.set.view_is c.args.self.now.pages c.args.home c.requires old long
    c.args.self.now.some) in
    c.in-Ok.ensures.done old new rest.0 rest.1 makes

pub returns-in-Err-clause-any_moment : goal.returns-in-Err-clause-any_moment
returns-in-Err-clause-any_moment g c =
    let es = plain c.set.inside.pages.entries in
    let same = plain_long c.set.inside.pages.entries in
    λ old rest long.
    let new = overwritten c.args.set.now c.args.home old in
    let makes = subst (λ (n : ℕ). Makes es n c.args.home old new) same
    (set_makes es c.set.invariant.sorted c.args.set.now c.set.view_is c.args.self.now.pages c.args.home c.requires old long
    c.args.self.now.some) in
    c.write_through.ensures.any_moment old new rest.0 rest.1 makes
