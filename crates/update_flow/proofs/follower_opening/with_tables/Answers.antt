-- The style is that of the state.
use Rattle.std.proofs.Common.{rules, sym, ap, refl, ◌∙◌}
use Rattle.chain_store.specs.declared.root.Root.{Root}
use Rattle.update_flow.proofs.Followers.{own_state}
use Rattle.update_flow.proofs.Openings.{own_found, root_of, tells_count}
use Rattle.update_flow.proofs.follower_opening.with_tables.Goals as goal

pub returns-in-Ok-clause-found : goal.returns-in-Ok-clause-found
returns-in-Ok-clause-found g c = λ fits state holds.
    let view = g.D.Disk.view c.args.disk.now in
    let own = own_found state view c.args.found c.requires.own fits holds in
    let is = own_state state own in
    let read = c.in-Ok.ensures.found fits state holds is.0 in
    record {
      version_is = c.in-Ok.ensures.styled.changes_are ∙ c.requires.count
          ∙ ap (λ (r : Root). r.changes) (root_of state view c.args.found fits holds) ∙ tells_count state holds.image is.0 holds.means;
      style_is = read.0;
      own = c.in-Ok.ensures.styled.styled ∙ sym own;
      today = is.1;
      fits = read.1;
    }

pub returns-in-Ok-clause-styled : goal.returns-in-Ok-clause-styled
returns-in-Ok-clause-styled g c = (c.in-Ok.ensures.styled.styled, c.in-Ok.ensures.styled.changes_are)

pub returns-in-Ok-clause-looks : goal.returns-in-Ok-clause-looks
returns-in-Ok-clause-looks g c = record {
  finds = record {
    alone = search rules;
    stays = c.with_style.ensures.finds.stays;
    once = c.in-Ok.ensures.finds.once;
    cause = search rules;
  };
  sound = search rules;
}

pub returns-in-Err-clause-looks : goal.returns-in-Err-clause-looks
returns-in-Err-clause-looks g c = record {
  finds = record {
    alone = c.in-Err.ensures.finds.alone;
    stays = c.with_style.ensures.finds.stays;
    once = search rules;
    cause = search rules;
  };
  sound = λ fits state holds.
      let is = own_state state (own_found state (g.D.Disk.view c.args.disk.now) c.args.found c.requires.own fits holds) in
      c.in-Err.ensures.sound fits state holds is.0 is.1;
}
