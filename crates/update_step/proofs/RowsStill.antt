-- Rows that are set where they are there already.
use mathlib.Core.Bool.{false≢true}
use Rattle.std.proofs.Common.{◌≡◌, ◌==◌, ◌+◌, ◌*◌, ℕ, Bool, true, false, not, cond, List, [], ◌∷◌, length, Option, refl, sym, ap}
use Rattle.std.proofs.Common.{◌∙◌, arith, nat_eq}
use Rattle.std.specs.Cmp.{nat_cmp_total}
use Rattle.std.specs.FinMap as finite
use Rattle.std.specs.FinMap.{nat_cmp-IsAntisymmetric}
use Rattle.std.specs.List.{list_any}
use Rattle.std.specs.Ordering.{eq_by_cmp, nat_cmp}
use Rattle.osm_base.specs.declared.values.key.Kind.{Kind}
use Rattle.osm_base.specs.declared.values.key.Kind.TheVariants as kinds
use Rattle.osm_base.specs.declared.values.object.Entry.{Entry}
use Rattle.osm_base.specs.declared.values.row.TableRow.{TableRow}
use Rattle.osm_base.specs.values.Key.{KeyOf}
use Rattle.osm_base.specs.values.KeyOrder.{key_cmp}
use Rattle.store_maps.specs.Append.{set_all_rows}
use Rattle.store_maps.specs.Maps.{Maps, all_kept, kept_rows, rows_at, set, set_rows, unless_empty}
use Rattle.store_maps.specs.Stands.{HoldsRows}
use Rattle.store_maps.specs.Step.{change_on}
use Rattle.store_maps.proofs.IdLists.{same_as}
use Rattle.store_maps.proofs.RowMaps.{got-all, rows_stay}
use Rattle.store_maps.proofs.Sets.{get-set}

found_set : {X : Type 0} (values : finite.FinMap nat_cmp X) (key : ℕ) (found : Option X) → finite.get values key ≡ found
    → set values key found ≡ values
found_set values key found is = finite.same_map nat_cmp_total nat_cmp-IsAntisymmetric (set values key found) values
    (λ own. get-set values key found own
    ∙ elim (nat_eq own key) as (λ b. nat_eq own key ≡ b → cond b found (finite.get values own) ≡ finite.get values own) [
      | true ↦ λ same. sym (ap (finite.get values) (same_as own key same) ∙ is)
      | false ↦ λ _. refl
    ] refl)

-- to set the rows that a key has changes nothing
pub same-set : (maps : Maps) (kind : Kind) (id : ℕ) (rows : List TableRow) → rows_at maps kind id ≡ unless_empty rows
    → maps ≡ set_rows maps kind id rows
same-set maps kinds.Node id rows is = sym
    (ap (λ values. record maps { node_rows = values }) (found_set maps.node_rows id (unless_empty rows) is))
same-set maps kinds.Way id rows is = sym
    (ap (λ values. record maps { other_rows = values }) (found_set maps.other_rows (2 * id) (unless_empty rows) is))
same-set maps kinds.Relation id rows is =
    sym (ap (λ values. record maps { other_rows = values }) (found_set maps.other_rows (2 * id + 1) (unless_empty rows) is))

-- rows of which it is not so that there are some
pub no-items : {X : Type 0} (xs : List X) (none : Bool) → none ≡ (length xs == 0) → not none ≡ false → xs ≡ []
no-items [] none is not_some = refl
no-items (x ∷ xs) true is not_some = absurd (let zero_long = same_as (length (x ∷ xs)) 0 (sym is) in omega (arith, zero_long))
no-items (x ∷ xs) false is not_some = absurd (false≢true (sym not_some))

-- a key whose rows are to stay has them, where other keys got theirs
pub rows-still : (old new : KeyOf → List TableRow) (maps : Maps) (keys : List KeyOf) → HoldsRows maps old → (own : KeyOf)
    → old own ≡ new own → rows_at (set_all_rows maps new keys) own.kind own.id ≡ unless_empty (new own)
rows-still old new maps keys has own same =
    got-all new keys maps own.kind own.id
    ∙ elim (list_any (eq_by_cmp key_cmp own) keys) as
    (λ b. cond b (unless_empty (new own)) (rows_at maps own.kind own.id) ≡ unless_empty (new own)) [
      | true ↦ refl
      | false ↦ has.at own.kind own.id ∙ ap unless_empty same
    ]

pub kept_unless : (rows : List TableRow) → kept_rows (unless_empty rows) ≡ rows
kept_unless [] = refl
kept_unless (first ∷ rest) = refl

-- the rows that a key has
pub kept-were : (maps : Maps) (rows : KeyOf → List TableRow) → HoldsRows maps rows → (own : KeyOf) → all_kept maps own ≡ rows own
kept-were maps rows has own = ap kept_rows (has.at own.kind own.id) ∙ kept_unless (rows own)

-- entries leave all rows
pub entries-keep : (maps : Maps) (change : List Entry) (rows : KeyOf → List TableRow) → HoldsRows maps rows
    → HoldsRows (change_on maps change) rows
entries-keep maps change rows has = record { at = λ kind id. rows_stay change maps kind id ∙ has.at kind id }
