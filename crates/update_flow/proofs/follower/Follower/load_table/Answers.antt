-- The store that was open is the one on the disk.
use Rattle.std.proofs.Common.{◌∙◌, Option, None, refl, sym, ap}
use Rattle.std.proofs.lemmas.Option.{same_Some}
use Rattle.std.specs.Prelude.{is_some}
use Rattle.std.specs.Result.{result_err}
use Rattle.style_read.specs.Style.{StyleOf}
use Rattle.update_flow.specs.Follower.{handle_of}
use Rattle.update_flow.specs.declared.fault.FlowFault.TheVariants as flow
use Rattle.update_flow.proofs.Carrying.{ok_then}
use Rattle.update_flow.proofs.Followers.{follower_looked, never_ends, stays_ended}
use Rattle.update_flow.proofs.Handles.{kept_fits}
use Rattle.update_flow.proofs.Openings.{state_here}
use Rattle.update_flow.proofs.follower.Follower.load_table.Goals as goal

pub returns-clause-looks : goal.returns-clause-looks
returns-clause-looks g c =
    follower_looked (handle_of c.args.self.now) _ c.rows_on.new.kept refl (λ fits. fits) refl refl (result_err c.rows_on.result)
    (record { changes_same = refl; imported_same = refl; old_same = refl; style_same = refl; follower_same = refl })
    (ap (λ (o : Option StyleOf). is_some o) c.in-Some.is)
    (λ held opened.
    c.rows_on.ensures.follower held (kept_fits c.args.self.now.store c.in-Some-take.store _
    (sym c.take.ensures.value ∙ c.in-Some-take.is) opened.fits)
    (state_here _ _ opened.at_rest) (same_Some held.style c.in-Some.style (sym opened.shows.style_is ∙ c.in-Some.is)))

pub returns-clause-table : goal.returns-clause-table
returns-clause-table g c =
    ok_then c.rows_on.result _ _
    (λ found told held opened.
    told held (kept_fits c.args.self.now.store c.in-Some-take.store _ (sym c.take.ensures.value ∙ c.in-Some-take.is) opened.fits)
    (state_here _ _ opened.at_rest) (same_Some held.style c.in-Some.style (sym opened.shows.style_is ∙ c.in-Some.is)))
    c.rows_on.ensures.followed

pub returns-clause-unbegun : goal.returns-clause-unbegun
returns-clause-unbegun g c = (
  (λ is. absurd (never_ends None c.rows_on.result flow.NotImported c.rows_on.ensures.ends.alone (λ may. may) is)),
  (λ none. let some = ap (λ (o : Option StyleOf). is_some o) c.in-Some.is in absurd (cc (none, some))),
)

pub returns-clause-stays : goal.returns-clause-stays
returns-clause-stays g c =
    stays_ended None c.args.self.now _ (record { same_disk = refl; same_limits = refl }) (λ is. record { changes_same = refl; imported_same = refl; old_same = refl; style_same = refl; follower_same = refl })
    (λ is. c.rows_on.ensures.stays) (ap (λ o. is_some o) (sym c.take.ensures.value ∙ c.in-Some-take.is)) c.rows_on.result
    (λ is. record { changes_same = refl; imported_same = refl; old_same = refl; style_same = refl; follower_same = refl })
    c.rows_on.ensures.ends
