-- The fields say whether it is that of a follower.
use Rattle.std.proofs.Common.{Err, rules, sym, ap, ◌∙◌}
use Rattle.chain_store.specs.declared.root.Root.{Root}
use Rattle.page_journal.specs.declared.fault.StoreFault.TheVariants as store
use Rattle.update_flow.specs.Roots.{is_following}
use Rattle.update_flow.specs.declared.fault.FlowFault.TheVariants as flow
use Rattle.update_flow.proofs.Checks.{err_again}
use Rattle.update_flow.proofs.OpeningReads.{style_unread}
use Rattle.update_flow.proofs.Openings.{own_found}
use Rattle.update_flow.proofs.opening.judged.Goals as goal

pub returns-then-is_following-clause-found : goal.returns-then-is_following-clause-found
returns-then-is_following-clause-found g c = λ fits state holds.
    own_found state (g.D.Disk.view c.args.disk.now) c.args.found
    (ap (λ (r : Root). is_following r) (sym c.root.ensures) ∙ sym c.if-is_following.ensures) fits holds

pub returns-then-is_following-clause-looks : goal.returns-then-is_following-clause-looks
returns-then-is_following-clause-looks g c = record {
  finds = record {
    alone = search rules;
    stays = search rules;
    once = λ state fits holds. style_unread state (g.D.Disk.view c.args.disk.now) holds;
    cause = search rules;
  };
  sound = search rules;
}

-- a refusal
pub returns-in-Err-clause-looks : goal.returns-in-Err-clause-looks
returns-in-Err-clause-looks g c = record { finds = search rules; sound = c.in-Err.ensures.looks.sound }

pub returns-in-Err-clause-bad : goal.returns-in-Err-clause-bad
returns-in-Err-clause-bad g c = λ at is.
    c.in-Err.ensures.bad at (err_again (Err c.in-Err.fault) (flow.Store (store.BadStore at)) is)
