-- The row that is taken out is that of the table.
use Rattle.std.proofs.Common.{◌≡◌, ◌≢◌, ◌<◌, ◌∙◌, List, length, get_or, rules, sym, ap, subst, arith}
use Rattle.std.proofs.lemmas.List.{get_or_default}
use Rattle.osm_base.specs.declared.values.row.TableRow.{TableRow}
use Rattle.row_store.specs.Tables.{StandsAt}
use Rattle.row_store.proofs.TurnLaws.{none_taken, one_taken, place_is}
use Rattle.row_store.proofs.turning.take_out.Goals as goal
use Rattle.row_store.proofs.turning.take_out.Goals.{else-at-len-via-else-at-len, else-at-len-via-then-at-len+else-index-table}

pub returns-then-index-table-clause-rows : goal.returns-then-index-table-clause-rows
returns-then-index-table-clause-rows c =
    let rows = c.args.rows.now.items in
    let at = c.place_of-at.result in
    let stands = subst (λ (l : List TableRow). StandsAt l c.args.table at) c.as_slice.ensures.value c.place_of-at.ensures.place in
    let within : at < length rows = omega (arith, c.if-at-len.true, c.len.ensures) in
    let there : get_or rows at c.index.result.now ≡ c.index.result.now = search rules in
    let table : c.index.result.now.table ≡ c.args.table = search rules in
    c.remove.ensures.items ∙ one_taken c.args.table rows at 0 c.requires stands within
    (λ own. ap (λ (r : TableRow). r.table) (get_or_default rows at own c.index.result.now within ∙ there) ∙ table)

pub returns-then-index-table-clause-place : goal.returns-then-index-table-clause-place
returns-then-index-table-clause-place c =
    place_is c.args.table c.args.rows.now.items c.place_of-at.result 0 c.requires
    (subst (λ (l : List TableRow). StandsAt l c.args.table c.place_of-at.result) c.as_slice.ensures.value c.place_of-at.ensures.place)

pub returns-else-at-len-clause-rows : goal.returns-else-at-len-clause-rows
returns-else-at-len-clause-rows c =
    let rows = c.args.rows.now.items in
    let at = c.place_of-at.result in
    let stands = subst (λ (l : List TableRow). StandsAt l c.args.table at) c.as_slice.ensures.value c.place_of-at.ensures.place in
    let none : (own : TableRow) → at < length rows → (get_or rows at own).table ≢ c.args.table = elim c.else-at-len.branch [
      | else-at-len-via-then-at-len+else-index-table w ↦ λ own within.
          let there : get_or rows at w.index.result.now ≡ w.index.result.now = search rules in
          let apart : w.index.result.now.table ≢ c.args.table = search rules in
          subst (λ (r : TableRow). r.table ≢ c.args.table) (sym (get_or_default rows at own w.index.result.now within ∙ there)) apart
      | else-at-len-via-else-at-len w ↦ λ own within. absurd (omega (arith, within, w.if-at-len.false, c.len.ensures))
    ] in
    none_taken c.args.table rows at 0 c.requires stands none

pub returns-else-at-len-clause-place : goal.returns-else-at-len-clause-place
returns-else-at-len-clause-place c =
    place_is c.args.table c.args.rows.now.items c.place_of-at.result 0 c.requires
    (subst (λ (l : List TableRow). StandsAt l c.args.table c.place_of-at.result) c.as_slice.ensures.value c.place_of-at.ensures.place)
