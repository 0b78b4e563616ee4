-- The fields say which state it is.
use Rattle.std.proofs.Common.{inl, inr, rules, sym, ap, refl, ◌∙◌}
use Rattle.chain_store.specs.declared.root.Root.{Root}
use Rattle.bucket_store.specs.Opening.{opened_root}
use Rattle.update_flow.specs.Roots.{is_blank, is_following, is_imported, is_old}
use Rattle.update_flow.specs.declared.fields.TheConstants.{IMPORTED_FORMAT}
use Rattle.update_flow.proofs.Followers.{blank_base, made_fields, own_fields, taken_state}
use Rattle.update_flow.proofs.Judgements.{made_apart, own_apart}
use Rattle.update_flow.proofs.OpeningReads.{style_unread}
use Rattle.update_flow.proofs.Openings.{is_one}
use Rattle.update_flow.proofs.follower_opening.based.Goals as goal

pub returns-then-is_blank-clause-found : goal.returns-then-is_blank-clause-found
returns-then-is_blank-clause-found g c = λ fits state holds.
    blank_base state (g.D.Disk.view c.args.disk.now) c.args.found _
    (ap (λ (r : Root). is_blank r) (sym c.root-root.ensures) ∙ sym c.if-is_blank.ensures) refl refl refl fits holds

pub returns-then-is_blank-clause-fields : goal.returns-then-is_blank-clause-fields
returns-then-is_blank-clause-fields g c =
    made_fields _ (ap (λ (r : Root). is_blank r) (sym c.root-root.ensures) ∙ sym c.if-is_blank.ensures)

pub returns-then-is_blank-clause-looks : goal.returns-then-is_blank-clause-looks
returns-then-is_blank-clause-looks g c = record {
  finds = record {
    alone = search rules;
    stays = search rules;
    once = λ state fits holds. style_unread state (g.D.Disk.view c.args.disk.now) holds;
    cause = search rules;
  };
  sound = search rules;
}

pub returns-then-is_blank-clause-taken : goal.returns-then-is_blank-clause-taken
returns-then-is_blank-clause-taken g c = λ begun.
    absurd (made_apart IMPORTED_FORMAT (opened_root c.args.found) (ap (λ (r : Root). is_blank r) (sym c.root-root.ensures) ∙ sym c.if-is_blank.ensures) begun)

-- a follower's
pub with_tables-requires-clause-own : goal.with_tables-requires-clause-own
with_tables-requires-clause-own g c = ap (λ (r : Root). is_following r) (sym c.root-root.ensures) ∙ sym c.if-is_following.ensures

pub returns-in-Ok-clause-found : goal.returns-in-Ok-clause-found
returns-in-Ok-clause-found g c = c.in-Ok.ensures.found

pub returns-in-Ok-clause-fields : goal.returns-in-Ok-clause-fields
returns-in-Ok-clause-fields g c =
    own_fields c.in-Ok.base.style c.in-Ok.base.version _ c.in-Ok.ensures.styled.0
    (record {
      kind = ap (λ (r : Root). is_following r) (sym c.root-root.ensures) ∙ sym c.if-is_following.ensures;
      count = c.in-Ok.ensures.styled.1 ∙ ap (λ (r : Root). r.changes) c.root-root.ensures;
    })

pub returns-in-Ok-clause-taken : goal.returns-in-Ok-clause-taken
returns-in-Ok-clause-taken g c = λ begun.
    absurd (own_apart (opened_root c.args.found) (ap (λ (r : Root). is_following r) (sym c.root-root.ensures) ∙ sym c.if-is_following.ensures) (inr begun))

pub returns-in-Err-clause-looks : goal.returns-in-Err-clause-looks
returns-in-Err-clause-looks g c = record { finds = search rules; sound = c.in-Err.ensures.looks.sound }

pub returns-in-Err-clause-taken : goal.returns-in-Err-clause-taken
returns-in-Err-clause-taken g c = λ begun.
    absurd (own_apart (opened_root c.args.found) (ap (λ (r : Root). is_following r) (sym c.root-root.ensures) ∙ sym c.if-is_following.ensures) (inr begun))

-- an imported one, or an old one
pub returns-then-is_imported-clause-found : goal.returns-then-is_imported-clause-found
returns-then-is_imported-clause-found g c = λ fits state holds.
    taken_state state (g.D.Disk.view c.args.disk.now) c.args.found c.root-root.result c.root-root.ensures (sym c.if-is_blank.ensures)
    (sym c.if-is_following.ensures) fits holds

pub returns-then-is_imported-clause-fields : goal.returns-then-is_imported-clause-fields
returns-then-is_imported-clause-fields g c = inl (ap (λ (r : Root). is_imported r) (sym c.root-root.ensures) ∙ sym c.if-is_imported.ensures)

pub returns-then-is_imported-clause-looks : goal.returns-then-is_imported-clause-looks
returns-then-is_imported-clause-looks g c = record {
  finds = record {
    alone = search rules;
    stays = search rules;
    once = λ state fits holds. style_unread state (g.D.Disk.view c.args.disk.now) holds;
    cause = search rules;
  };
  sound = search rules;
}

pub returns-then-is_old-clause-found : goal.returns-then-is_old-clause-found
returns-then-is_old-clause-found g c = λ fits state holds.
    taken_state state (g.D.Disk.view c.args.disk.now) c.args.found c.root-root.result c.root-root.ensures (sym c.if-is_blank.ensures)
    (sym c.if-is_following.ensures) fits holds

pub returns-then-is_old-clause-fields : goal.returns-then-is_old-clause-fields
returns-then-is_old-clause-fields g c = inr (ap (λ (r : Root). is_old r) (sym c.root-root.ensures) ∙ sym c.if-is_old.ensures)

pub returns-then-is_old-clause-looks : goal.returns-then-is_old-clause-looks
returns-then-is_old-clause-looks g c = record {
  finds = record {
    alone = search rules;
    stays = search rules;
    once = λ state fits holds. style_unread state (g.D.Disk.view c.args.disk.now) holds;
    cause = search rules;
  };
  sound = search rules;
}

-- neither
pub returns-clause-looks : goal.returns-clause-looks
returns-clause-looks g c = record {
  finds = search rules;
  sound = λ fits state holds.
      is_one state (g.D.Disk.view c.args.disk.now) c.args.found c.root-root.result c.root-root.ensures (sym c.if-is_blank.ensures)
      (sym c.if-is_old.ensures) (sym c.if-is_imported.ensures) (sym c.if-is_following.ensures) fits holds;
}

pub returns-clause-taken : goal.returns-clause-taken
returns-clause-taken g c = λ begun.
    let here = ap (λ (r : Root). is_imported r) c.root-root.ensures ∙ begun in
    absurd (cc (here, c.if-is_imported.ensures))
