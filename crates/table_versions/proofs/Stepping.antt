-- What the steps to a version make of the one before.
use Rattle.std.proofs.Common.{◌≡◌, ◌+◌, List, [], ◌∷◌, ◌++◌, length, fold, refl, sym, ap, subst, ◌∙◌, arith, length-append}
use Rattle.std.proofs.lemmas.Grind.{fold-append}
use Rattle.osm_base.specs.declared.values.row.Delta.{Delta}
use Rattle.osm_base.specs.declared.values.row.RowChange.{RowChange}
use Rattle.osm_base.specs.map.Spots.{TableMap, changed, changed_all}
use Rattle.grid_index.specs.Grid.{with_box}
use Rattle.table_versions.specs.Fronts.{FrontOf}
use Rattle.table_versions.specs.declared.shown.Shown.{Shown}
use Rattle.table_versions.specs.declared.shown.Step.TheVariants.{Whole}
use Rattle.map_query.specs.RowBoxes.{IsBoxed, box_in}
use Rattle.map_query.proofs.KeptBoxes.{boxed_change}
use Rattle.table_versions.specs.Rule.{IsVersion}
use Rattle.table_versions.specs.Versions.{after, applied}
use Rattle.table_versions.specs.Steps.{stepped, steps_of_all, steps_to}

-- all changes of rows
pub record Walks (old new : Shown) (changes : List RowChange) : Type 0 where
  pub tables : new.tables ≡ changed_all old.tables changes
  pub boxes : IsBoxed old.tables old.boxes → IsBoxed new.tables new.boxes

pub walks : (shown : Shown) (changes : List RowChange) → Walks shown (fold stepped shown (steps_of_all changes)) changes
walks shown [] = record { tables = refl; boxes = λ is. is }
walks shown (change ∷ changes) =
    let next : Shown = record shown {
      boxes = with_box shown.boxes change.table change.key (box_in change.row);
      tables =
          changed shown.tables change;
    } in
    let rest = walks next changes in
    record { tables = rest.tables; boxes = λ is. rest.boxes (boxed_change shown.tables shown.boxes change is) }

after-snoc : (tables : TableMap) (log : List Delta) (delta : Delta) → after tables (log ++ delta ∷ []) ≡ applied (after tables log) delta
after-snoc tables [] delta = refl
after-snoc tables (first ∷ log) delta = after-snoc (applied tables first) log delta

-- the steps to the version that a delta makes, from one, make it
pub next_version : (old new : Shown) (delta : Delta) (front : FrontOf) → IsVersion old
    → front ≡ record old.front { log = old.front.log ++ delta ∷ [] }
    → delta.version ≡ old.front.base + length old.front.log + 1 → new ≡ fold stepped old (steps_to delta front)
    → IsVersion new × (new.front ≡ front)
next_version old new delta front is more number same =
    let log = old.front.log in
    let middle : Shown = fold stepped old (steps_of_all delta.changes) in
    let walked = walks old delta.changes in
    let whole : Shown = record middle { version = delta.version; front = front } in
    let ends : new ≡ whole = same ∙ fold-append stepped old (steps_of_all delta.changes) (Whole delta.version front ∷ []) in
    let first : front.first ≡ old.front.first = ap (λ (f : FrontOf). f.first) more in
    let base : front.base ≡ old.front.base = ap (λ (f : FrontOf). f.base) more in
    let deltas : front.log ≡ log ++ delta ∷ [] = ap (λ (f : FrontOf). f.log) more in
    let tables : middle.tables ≡ after front.first front.log =
    walked.tables ∙ (ap (λ tables. changed_all tables delta.changes) is.tables
    ∙ (sym (after-snoc old.front.first log delta) ∙ (λ i. after (sym first i) (sym deltas i)))) in
    let version : delta.version ≡ front.base + length front.log =
    omega (arith, number, base, ap length deltas, length-append log (delta ∷ [])) in
    let holds : IsVersion whole = record { tables = tables; version = version; boxes = walked.boxes is.boxes } in
    (subst IsVersion (sym ends) holds, ap (λ (shown : Shown). shown.front) ends)
