use Rattle.std.proofs.Common.{arith, ◌≡◌, ◌∙◌, ◌+◌, ℕ, List, [], length, sym, subst}
use Rattle.osm_base.specs.declared.values.row.Delta.{Delta}
use Rattle.osm_base.specs.map.Spots.{TableMap}
use Rattle.grid_index.specs.Grid.{BoxMap}
use Rattle.map_query.specs.RowBoxes.{IsBoxed}
use Rattle.map_query.proofs.KeptBoxes.{same_boxes}
use Rattle.table_versions.specs.Fronts.{FrontOf}
use Rattle.table_versions.specs.Versions.{after, tables_of, version_of}
use Rattle.table_versions.proofs.making.copies.Goals as goal

pub returns-clause-alike : goal.returns-clause-alike
returns-clause-alike c =
    let first : TableMap = c.args.first in
    let again : TableMap = c.in_ok-again.again in
    let one : BoxMap = c.in_ok-boxes_of.field-0 in
    let other : BoxMap = c.in_ok-boxes_of-2.field-0 in
    let copy : again ≡ first = c.in_ok-again.ensures.equal in
    let tables : c.in_ok-new.field-0 ≡ c.in_ok-new-2.field-0 =
    c.in_ok-new.ensures.same ∙ (sym copy ∙ sym c.in_ok-new-2.ensures.same) in
    let boxes : one ≡ other = same_boxes first one other c.in_ok-boxes_of.ensures.boxes
    (subst (λ (tables : TableMap). IsBoxed tables other) copy c.in_ok-boxes_of-2.ensures.boxes) in
    let fronts : c.again-2.result ≡ c.again-3.result = c.again-2.ensures.same ∙ sym c.again-3.ensures.same in
    λ i. record { alloc = c.args.alloc; tables = tables i; boxes = boxes i; version = c.args.version; front = fronts i }

-- a history without a delta shows its first tables, which have seen as many changes as these
shows-first : (front : FrontOf) (first : TableMap) → front.first ≡ first → front.log ≡ [] → first ≡ tables_of front
shows-first front first is empty = subst (λ (log : List Delta). first ≡ after front.first log) (sym empty) (sym is)

shows-base : (front : FrontOf) (base : ℕ) → front.base ≡ base → front.log ≡ [] → base ≡ version_of front
shows-base front base is empty =
    let none : base ≡ front.base + 0 = omega arith in
    subst (λ (log : List Delta). base ≡ front.base + length log) (sym empty) none

pub returns-clause-version : goal.returns-clause-version
returns-clause-version c =
    let shown : FrontOf = c.again-2.result in
    let front : FrontOf = c.args.front.now in
    let same : front ≡ shown = sym c.again-2.ensures.same in
    let tables : c.in_ok-new.field-0 ≡ c.args.first = c.in_ok-new.ensures.same in
    let first : c.args.first ≡ tables_of shown =
    subst (λ (own : FrontOf). c.args.first ≡ tables_of own) same (shows-first front c.args.first c.requires.first c.requires.empty) in
    let version : c.args.version ≡ version_of shown =
    subst (λ (own : FrontOf). c.args.version ≡ version_of own) same (shows-base front c.args.version c.requires.base c.requires.empty) in
    let boxes : IsBoxed c.in_ok-new.field-0 c.in_ok-boxes_of.field-0 =
    subst (λ (own : TableMap). IsBoxed own c.in_ok-boxes_of.field-0) (sym tables) c.in_ok-boxes_of.ensures.boxes in
    record { tables = tables ∙ first; version = version; boxes = boxes }
