use Rattle.std.proofs.Common.{refl, sym, subst, ◌∙◌, rules}
use Rattle.osm_base.specs.map.Listers.{index_of}
use Rattle.osm_base.specs.map.Objects.{folded_all}
use Rattle.osm_base.specs.map.Pending.{PendingOf}
use Rattle.dep_closure.specs.PendingSet.{ArePending, AreTooMany, IsPendingOf, LeavesRows}
use Rattle.dep_closure.specs.Questions.{of_all}
use Rattle.dep_closure.specs.Stops.{Stops}
use Rattle.dep_closure.proofs.Asked.{asks_whole}
use Rattle.dep_closure.proofs.Bridge.{gathered-pending}
use Rattle.dep_closure.proofs.Cuts.{if_err-then, if_ok-then, on_err}
use Rattle.dep_closure.proofs.Rows.{leaves-rows}
use Rattle.dep_closure.proofs.pending_set.pending.Goals as goal

pub returns-clause-pending : goal.returns-clause-pending
returns-clause-pending g c =
    let change = c.args.change.now in
    if_ok-then c.within.result c.within.ensures.few (λ kept is objects has_old knows.
    subst (λ (own : PendingOf). IsPendingOf c.args.style.now objects change own) (sym is.0)
    (gathered-pending objects change c.args.style.now c.args.old.now c.in_ok-set.set c.entries-entries.ensures.rise has_old
    (c.in_ok-set.ensures.gathered (index_of (folded_all objects change)) knows)))

pub returns-clause-others : goal.returns-clause-others
returns-clause-others g c =
    let change = c.args.change.now in
    if_ok-then c.within.result c.within.ensures.few (λ kept is objects has_old knows.
    subst (λ (own : PendingOf). LeavesRows c.args.style.now objects change own) (sym is.0)
    (leaves-rows c.args.style.now objects change c.in_ok-set.set
    (gathered-pending objects change c.args.style.now c.args.old.now c.in_ok-set.set c.entries-entries.ensures.rise has_old
    (c.in_ok-set.ensures.gathered (index_of (folded_all objects change)) knows))))

pub returns-clause-asks : goal.returns-clause-asks
returns-clause-asks g c =
    let change = c.args.change.now in
    let limit = c.args.limits.now.pending in
    let bears = g.B.Back.bears c.gathered.new.back (g.B.Back.faults c.args.back.now) in
    let are_pending = ArePending (g.B.Back.knows c.args.back.now) c.args.style.now c.args.old.now change in
    let pending : are_pending c.in_ok-set.set = λ objects has_old knows.
    gathered-pending objects change c.args.style.now c.args.old.now c.in_ok-set.set c.entries-entries.ensures.rise has_old
    (c.in_ok-set.ensures.gathered (index_of (folded_all objects change)) knows) in
    record {
      only = record {
        index = c.in_ok-set.ensures.asks.only.index;
        spent = search rules;
        unspent = search rules;
        faults = search rules;
        stopped = if_err-then c.within.result c.within.ensures.many (λ why is.
            subst (λ own. Stops bears (AreTooMany limit are_pending) own) (sym is.0)
            (record { set = c.in_ok-set.set; pending = pending; number = refl; over = is.1 }));
      };
      asked = search rules;
    }

pub returns-clause-asked_some : goal.returns-clause-asked_some
returns-clause-asked_some g c =
    let all = c.in_ok-set.ensures.asks.asked in
    on_err c.within.result _ (
      all.0,
      λ index knows way there. sym (all.1.due index knows way) ∙ there,
      asks_whole g.B.Back.asks c.args.back.now c.gathered.new.back (of_all c.args.change.now all.0) all.2,
    )
