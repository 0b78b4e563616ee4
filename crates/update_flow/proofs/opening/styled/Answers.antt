-- The fields say which state it is.
use Rattle.std.proofs.Common.{◌≡◌, ◌⊎◌, inl, inr, ℕ, List, true, false, ap, refl, rules, sym, ◌∙◌}
use Rattle.std.specs.Result.{result_err}
use Rattle.chain_store.specs.declared.root.Root.{Root}
use Rattle.chain_store.specs.Directories.{root_in}
use Rattle.update_flow.specs.BadPage.{AreOfNoStore, BadFields, BadStyle, root_told}
use Rattle.update_flow.specs.Roots.{is_blank, is_following, is_imported, is_old}
use Rattle.update_flow.proofs.Checks.{blank_found}
use Rattle.update_flow.proofs.Judgements.{fields_unsound, style_unsound}
use Rattle.update_flow.proofs.OpeningReads.{style_unread}
use Rattle.update_flow.proofs.Openings.{fields_of, found_of, is_one, sound_of}
use Rattle.update_flow.proofs.opening.styled.Goals as goal

pub returns-then-is_blank-clause-found : goal.returns-then-is_blank-clause-found
returns-then-is_blank-clause-found g c = λ fits state holds.
    blank_found state (g.D.Disk.view c.args.disk.now) c.args.found _
    (ap (λ (r : Root). is_blank r) (sym c.root-root.ensures) ∙ sym c.if-is_blank.ensures) refl refl refl refl fits holds

pub returns-then-is_blank-clause-fields : goal.returns-then-is_blank-clause-fields
returns-then-is_blank-clause-fields g c = record {
  kind = ap (λ (r : Root). is_blank r) (sym c.root-root.ensures) ∙ sym c.if-is_blank.ensures;
  count = λ is. absurd (cc (is));
}

pub returns-then-is_blank-clause-looks : goal.returns-then-is_blank-clause-looks
returns-then-is_blank-clause-looks g c = record {
  finds = record {
    alone = search rules;
    stays = search rules;
    once = λ state fits holds. style_unread state (g.D.Disk.view c.args.disk.now) holds;
    cause = search rules;
  };
  sound = search rules;
}

-- an old store
pub returns-then-is_old-clause-found : goal.returns-then-is_old-clause-found
returns-then-is_old-clause-found g c =
    found_of c.root-root.result (g.D.Disk.view c.args.disk.now) (g.D.Disk.view c.with_style.new.disk) c.args.found true c.with_style.result
    c.root-root.ensures (sym c.if-is_blank.ensures) (ap (λ (r : Root). is_following r) c.root-root.ensures ∙ c.requires.own)
    c.if-is_old.ensures c.with_style.ensures.styled c.with_style.ensures.found

pub returns-then-is_old-clause-fields : goal.returns-then-is_old-clause-fields
returns-then-is_old-clause-fields g c =
    fields_of c.root-root.result _ true c.with_style.result c.root-root.ensures (λ _. sym c.if-is_old.ensures) (λ is. absurd (cc (is)))
    c.with_style.ensures.styled

pub returns-then-is_old-clause-looks : goal.returns-then-is_old-clause-looks
returns-then-is_old-clause-looks g c = record {
  finds = c.with_style.ensures.finds;
  sound = sound_of c.root-root.result (g.D.Disk.view c.args.disk.now) c.args.found true (result_err c.with_style.result)
      c.root-root.ensures (sym c.if-is_blank.ensures) c.if-is_old.ensures c.with_style.ensures.sound;
}

-- one of this format
pub returns-then-is_imported-clause-found : goal.returns-then-is_imported-clause-found
returns-then-is_imported-clause-found g c =
    found_of c.root-root.result (g.D.Disk.view c.args.disk.now)
    (g.D.Disk.view c.with_style-then-is_imported.new.disk) c.args.found false c.with_style-then-is_imported.result
    c.root-root.ensures (sym c.if-is_blank.ensures) (ap (λ (r : Root). is_following r) c.root-root.ensures ∙ c.requires.own)
    c.if-is_old.ensures c.with_style-then-is_imported.ensures.styled c.with_style-then-is_imported.ensures.found

pub returns-then-is_imported-clause-fields : goal.returns-then-is_imported-clause-fields
returns-then-is_imported-clause-fields g c =
    fields_of c.root-root.result _ false c.with_style-then-is_imported.result c.root-root.ensures (λ is. absurd (cc (is)))
    (λ _. sym c.if-is_imported.ensures)
    c.with_style-then-is_imported.ensures.styled

pub returns-then-is_imported-clause-looks : goal.returns-then-is_imported-clause-looks
returns-then-is_imported-clause-looks g c = record {
  finds = c.with_style-then-is_imported.ensures.finds;
  sound = sound_of c.root-root.result (g.D.Disk.view c.args.disk.now) c.args.found false (result_err c.with_style-then-is_imported.result)
      c.root-root.ensures (sym c.if-is_blank.ensures) c.if-is_old.ensures c.with_style-then-is_imported.ensures.sound;
}

-- neither
pub returns-clause-looks : goal.returns-clause-looks
returns-clause-looks g c = record {
  finds = search rules;
  sound = λ fits state holds.
      is_one state (g.D.Disk.view c.args.disk.now) c.args.found c.root-root.result c.root-root.ensures (sym c.if-is_blank.ensures)
      (sym c.if-is_old.ensures) (sym c.if-is_imported.ensures)
      (ap (λ (r : Root). is_following r) c.root-root.ensures ∙ c.requires.own) fits holds;
}

-- which page is blamed
pub returns-then-is_blank-clause-fits : goal.returns-then-is_blank-clause-fits
returns-then-is_blank-clause-fits g c = λ fits. record { rests = fits.rests; many = fits.many; keeps = fits.keeps }

pub returns-then-is_old-clause-bad : goal.returns-then-is_old-clause-bad
returns-then-is_old-clause-bad g c = λ at is fits.
    let same : c.root-root.result ≡ root_told fits.pages = c.root-root.ensures ∙ ap (λ (l : List ℕ). root_in l) fits.keeps.front in
    let old : is_old (root_told fits.pages) ≡ true = ap (λ (r : Root). is_old r) (sym same) ∙ sym c.if-is_old.ensures in
    let kind : (is_imported (root_told fits.pages) ≡ true) ⊎ (is_old (root_told fits.pages) ≡ true) = inr old in
    let bad = c.with_style.ensures.bad at is fits (λ _. old) in
    (style_unsound fits.pages c.args.found.kept fits.keeps at kind bad, BadStyle kind bad)

pub returns-then-is_imported-clause-bad : goal.returns-then-is_imported-clause-bad
returns-then-is_imported-clause-bad g c = λ at is fits.
    let same : c.root-root.result ≡ root_told fits.pages = c.root-root.ensures ∙ ap (λ (l : List ℕ). root_in l) fits.keeps.front in
    let begun : is_imported (root_told fits.pages) ≡ true = ap (λ (r : Root). is_imported r) (sym same) ∙ sym c.if-is_imported.ensures in
    let kind : (is_imported (root_told fits.pages) ≡ true) ⊎ (is_old (root_told fits.pages) ≡ true) = inl begun in
    let bad = c.with_style-then-is_imported.ensures.bad at is fits (λ dated. absurd (cc (dated))) in
    (style_unsound fits.pages c.args.found.kept fits.keeps at kind bad, BadStyle kind bad)

pub returns-clause-bad : goal.returns-clause-bad
returns-clause-bad g c = λ at is fits.
    let same : c.root-root.result ≡ root_told fits.pages = c.root-root.ensures ∙ ap (λ (l : List ℕ). root_in l) fits.keeps.front in
    let none : AreOfNoStore (root_told fits.pages) = record {
      made = ap (λ (r : Root). is_blank r) (sym same) ∙ sym c.if-is_blank.ensures;
      begun = ap (λ (r : Root). is_imported r) (sym same) ∙ sym c.if-is_imported.ensures;
      old = ap (λ (r : Root). is_old r) (sym same) ∙ sym c.if-is_old.ensures;
      own = ap (λ (r : Root). is_following r) (sym same) ∙ (ap (λ (r : Root). is_following r) c.root-root.ensures ∙ c.requires.own);
    } in
    (fields_unsound fits.pages none, BadFields none (cc (is)))
