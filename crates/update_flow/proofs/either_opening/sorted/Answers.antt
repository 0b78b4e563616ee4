-- The fields say which kind it is.
use Rattle.std.proofs.Common.{◌≡◌, Some, None, Err, rules, refl, sym, ap, ◌∙◌}
use Rattle.chain_store.specs.declared.root.Root.{Root}
use Rattle.update_flow.specs.Judged.{AreSound}
use Rattle.update_flow.specs.Roots.{is_following}
use Rattle.update_flow.specs.declared.fault.FlowFault.{FlowFault}
use Rattle.update_flow.proofs.SoundOpened.{never_bad, never_own, opened_sound, pages_sound}
use Rattle.update_flow.proofs.either_opening.sorted.Goals as goal

-- a follower's
pub with_tables-requires-clause-own : goal.with_tables-requires-clause-own
with_tables-requires-clause-own g c = ap (λ (r : Root). is_following r) (sym c.root-root.ensures) ∙ sym c.if-is_following.ensures

pub returns-in-Ok-clause-found : goal.returns-in-Ok-clause-found
returns-in-Ok-clause-found g c = λ fits state holds.
    let own = c.in-Ok.ensures.found fits state holds in
    (sym own.own ∙ c.in-Ok.ensures.styled.0, own)

pub returns-in-Ok-clause-fields : goal.returns-in-Ok-clause-fields
returns-in-Ok-clause-fields g c = (
  c.in-Ok.ensures.styled.0,
  record {
    kind = ap (λ (r : Root). is_following r) (sym c.root-root.ensures) ∙ sym c.if-is_following.ensures;
    count = c.in-Ok.ensures.styled.1 ∙ ap (λ (r : Root). r.changes) c.root-root.ensures;
  },
)

pub returns-in-Ok-clause-judged : goal.returns-in-Ok-clause-judged
returns-in-Ok-clause-judged g c = λ image fits holds is.
    absurd (never_own image (g.D.Disk.view c.args.disk.now) (g.D.Disk.view c.with_tables.new.disk) c.args.found fits holds
    c.with_tables.ensures.looks.finds.stays is
    (ap (λ (r : Root). is_following r) (sym c.root-root.ensures) ∙ sym c.if-is_following.ensures))

pub returns-in-Err-clause-looks : goal.returns-in-Err-clause-looks
returns-in-Err-clause-looks g c = record { finds = search rules; sound = c.in-Err.ensures.looks.sound }

pub returns-in-Err-clause-judged : goal.returns-in-Err-clause-judged
returns-in-Err-clause-judged g c = λ image fits holds is.
    absurd (never_own image (g.D.Disk.view c.args.disk.now) (g.D.Disk.view c.with_tables.new.disk) c.args.found fits holds
    c.with_tables.ensures.looks.finds.stays is
    (ap (λ (r : Root). is_following r) (sym c.root-root.ensures) ∙ sym c.if-is_following.ensures))

-- any other
pub returns-in-Ok-styled-clause-judged : goal.returns-in-Ok-styled-clause-judged
returns-in-Ok-styled-clause-judged g c = λ image fits holds is. record {
  answer = refl;
  found = opened_sound image (g.D.Disk.view c.args.disk.now) (g.D.Disk.view c.styled.new.disk) c.args.found fits holds
      c.styled.ensures.looks.finds.stays is c.in-Ok-styled.opened c.in-Ok-styled.ensures.fits c.in-Ok-styled.ensures.fields
      c.in-Ok-styled.ensures.style;
}

pub returns-in-Err-styled-clause-looks : goal.returns-in-Err-styled-clause-looks
returns-in-Err-styled-clause-looks g c = record { finds = search rules; sound = c.in-Err-styled.ensures.looks.sound }

pub returns-in-Err-styled-clause-judged : goal.returns-in-Err-styled-clause-judged
returns-in-Err-styled-clause-judged g c = λ image fits holds is.
    let sound : AreSound fits.pages = pages_sound image (g.D.Disk.view c.args.disk.now) (g.D.Disk.view c.styled.new.disk) c.args.found fits
    holds c.styled.ensures.looks.finds.stays is in
    record {
      answer = never_bad c.in-Err-styled.fault (Some c.in-Err-styled.fault ≡ None) c.in-Err-styled.ensures.looks.finds.alone
          (λ page same. (c.in-Err-styled.ensures.bad page (ap (λ (f : FlowFault). Err f) same) fits).0 sound);
      found = tt;
    }
