-- A text that is to be empty is looked at.
use Rattle.std.proofs.Common.{◌∙◌, Bool, rules, sym}
use Rattle.update_flow.proofs.Judgements.{empty_at, fault_at, only_read, rooted_at, unused_is, used_not}
use Rattle.update_flow.proofs.judging.is_unused_empty.Goals as goal

pub returns-then-is_used-clause-tells : goal.returns-then-is_used-clause-tells
returns-then-is_used-clause-tells g c = λ rest was unused. absurd (used_not c.args.n c.if-is_used.ensures unused)

pub returns-then-is_used-clause-chain : goal.returns-then-is_used-clause-chain
returns-then-is_used-clause-chain g c = λ pages opens none unused. absurd (used_not c.args.n c.if-is_used.ensures unused)

pub returns-then-is_used-clause-reads : goal.returns-then-is_used-clause-reads
returns-then-is_used-clause-reads g c = record { only = only_read c.args.buckets.now c.requires.ready.going; runs = search rules }

pub returns-in-Ok-clause-tells : goal.returns-in-Ok-clause-tells
returns-in-Ok-clause-tells g c = λ rest was.
    empty_at c.args.n c.in-Ok.empty rest (unused_is c.args.n c.requires.text c.if-is_used.ensures) (c.in-Ok.ensures.tells rest was)

pub returns-in-Ok-clause-chain : goal.returns-in-Ok-clause-chain
returns-in-Ok-clause-chain g c = λ pages opens none unused. c.in-Ok.ensures.chain pages opens none

pub returns-in-Err-clause-refused : goal.returns-in-Err-clause-refused
returns-in-Err-clause-refused g c = λ at is pages opens.
    let own = rooted_at c.in-Err.fault at (sym c.at_root.ensures ∙ fault_at Bool c.at_root.result at is) in (
      own.0,
      (
        c.args.n,
        own.1.0,
        unused_is c.args.n c.requires.text c.if-is_used.ensures,
        c.in-Err.ensures.refused own.1.0 (cc (own.1.1)) pages opens,
      ),
    )
