-- Each step keeps the rule.
use Rattle.std.proofs.Common.{◌≡◌, ◌≢◌, ℕ, ◌+◌, List, [], ◌∷◌, ◌++◌, length, fold, set, Option, Some, None, refl, sym, ap, subst, ◌∙◌}
use Rattle.std.proofs.Common.{⊎_elim}
use mathlib.Core.Option.{some}
use lib.ListN.{get_elem?}
use Rattle.left_right.specs.Register.{Admits, TurnsAt, Turns, Forks, Merges}
use Rattle.atomic_table.proofs.Lists.{at_set, at_snoc}
use Rattle.logbook.specs.Pages.{Book}
use Rattle.osm_base.specs.declared.values.row.Delta.{Delta}
use Rattle.table_versions.specs.Fronts.{FrontOf}
use Rattle.table_versions.specs.declared.shown.Shown.{Shown}
use Rattle.table_versions.specs.Rule.{IsKept, IsVersion, Knows, Looks}
use Rattle.table_versions.specs.Steps.{stepped, steps_to}
use Rattle.table_versions.proofs.Stepping.{next_version}

abbrev Fit : Book → List (Option Book) → Type 0
Fit book views = (seat : ℕ) (view : Option Book) → get_elem? views seat ≡ some view → Knows book view

fit_set : (book : Book) (views : List (Option Book)) (seat : ℕ) (view : Option Book) → Fit book views → Knows book view
    → Fit book (set views seat view)
fit_set book views seat view fit knows other found at =
    ⊎_elim (λ (t : (other ≡ seat) × (view ≡ found)). subst (Knows book) t.1 knows)
    (λ (t : (other ≢ seat) × (get_elem? views other ≡ some found)). fit other found t.1) (at_set views seat other view found at)

fit_push : (book : Book) (views : List (Option Book)) (view : Option Book) → Fit book views → Knows book view
    → Fit book (views ++ view ∷ [])
fit_push book views view fit knows other found at =
    ⊎_elim (fit other found) (λ (same : view ≡ found). subst (Knows book) same knows) (at_snoc views view found other at)

-- before anyone knows anything
pub starts : (shown : Shown) → IsVersion shown → IsKept shown (None ∷ [])
starts shown version = record {
  version = version;
  fits =
      λ seat view at. fit_push shown.front.book [] None (λ seat view at. absurd (cc at)) tt seat view at;
}

pub admits : Admits IsKept None
admits shown views kept = record { version = kept.version; fits = fit_push shown.front.book views None kept.fits tt }

pub opens : (seat : ℕ) (view : Option Book) (old new : Shown) → new ≡ old
    → TurnsAt IsKept seat view old new (λ before old new after. after ≡ Some new.front.book)
opens seat view old new same views kept at =
    let book : Book = new.front.book in
    let version : IsVersion new = subst IsVersion (sym same) kept.version in
    let fit : Fit book views = subst (λ (shown : Shown). Fit shown.front.book views) (sym same) kept.fits in (
      Some book,
      record { version = version; fits = fit_set book views seat (Some book) fit refl },
      refl,
    )

pub shows : (seat : ℕ) (view : Option Book) (old new : Shown) (delta : Delta) (front : FrontOf)
    → front ≡ record old.front { log = old.front.log ++ delta ∷ [] }
    → delta.version ≡ old.front.base + length old.front.log + 1 → new ≡ fold stepped old (steps_to delta front)
    → TurnsAt IsKept seat view old new (λ before old new after. Looks before new after)
shows seat view old new delta front more number same views kept at =
    let next = next_version old new delta front kept.version more number same in
    let book : new.front.book ≡ old.front.book = ap (λ (f : FrontOf). f.book) (next.1 ∙ more) in
    let fit : Fit new.front.book views = subst (λ book. Fit book views) (sym book) kept.fits in
    let knows : Knows new.front.book view = fit seat view at in (
      view,
      record { version = next.0; fits = fit_set new.front.book views seat view fit knows },
      record { same = refl; version = next.0; book = knows },
    )

pub looks : (seat : ℕ) (view : Option Book) → Turns IsKept seat view (λ shown. shown) (λ before old new after. Looks before new after)
looks seat view shown views kept at =
    let knows : Knows shown.front.book view = kept.fits seat view at in (
      view,
      record { version = kept.version; fits = fit_set shown.front.book views seat view kept.fits knows },
      record { same = refl; version = kept.version; book = knows },
    )

pub forks : (seat : ℕ) (view : Option Book) → Forks IsKept seat view view view
forks seat view shown views kept at =
    let knows : Knows shown.front.book view = kept.fits seat view at in
    record {
      version = kept.version;
      fits = fit_push shown.front.book (set views seat view) view
          (fit_set shown.front.book views seat view kept.fits knows) knows;
    }

pub merges : (seat : ℕ) (view : Option Book) (other : ℕ) (note : Option Book) → Merges IsKept seat view other note note None
merges seat view other note shown views kept at apart there =
    let knows : Knows shown.front.book note =
    ⊎_elim (λ (t : (other ≡ seat) × (note ≡ note)). absurd (apart t.0))
    (λ (t : (other ≢ seat) × (get_elem? views other ≡ some note)). kept.fits other note t.1)
    (at_set views seat other note note there) in
    record {
      version = kept.version;
      fits = fit_set shown.front.book (set views seat note) other None
          (fit_set shown.front.book views seat note kept.fits knows) tt;
    }
