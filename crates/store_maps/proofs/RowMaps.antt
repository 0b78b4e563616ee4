-- The maps of rows after a change.
use Rattle.std.proofs.Common.{◌≡◌, ℕ, Bool, true, false, ◌||◌, ◌+◌, ◌*◌, cond, List, [], ◌∷◌, Option, refl, sym, ap, ◌∙◌, arith, nat_eq}
use Rattle.std.specs.FinMap as finite
use Rattle.std.specs.List.{list_any}
use Rattle.std.specs.Ordering.{eq_by_cmp, nat_cmp}
use Rattle.std.specs.Cmp.{unsigned_tied}
use Rattle.std.proofs.lemmas.Bool.Decides.{nat_tests}
use Rattle.osm_base.specs.declared.values.key.Kind.{Kind}
use Rattle.osm_base.specs.declared.values.key.Kind.TheVariants as kinds
use Rattle.osm_base.specs.declared.values.object.Entry.{Entry}
use Rattle.osm_base.specs.declared.values.object.Object.{Object}
use Rattle.osm_base.specs.declared.values.row.TableRow.{TableRow}
use Rattle.osm_base.specs.values.Key.{KeyOf}
use Rattle.osm_base.specs.values.KeyOrder.{key_cmp}
use Rattle.store_maps.specs.Append.{appended, set_all_rows}
use Rattle.store_maps.specs.Maps.{Maps, empty_maps, rows_at, set_object, set_rows, unless_empty, way_or_relation_in}
use Rattle.store_maps.specs.Stands.{HoldsRows}
use Rattle.store_maps.specs.Step.{change_on, entry_on, relisted_to}
use Rattle.store_maps.proofs.ObjectMaps.{same_key}
use Rattle.store_maps.proofs.Sets.{get-set}

-- the objects and their index are of other maps
stay_set : (maps : Maps) (own : Kind) (number : ℕ) (object : Option Object) (kind : Kind) (id : ℕ)
    → rows_at (set_object maps own number object) kind id ≡ rows_at maps kind id
stay_set maps kinds.Node number object kinds.Node id = refl
stay_set maps kinds.Node number object kinds.Way id = refl
stay_set maps kinds.Node number object kinds.Relation id = refl
stay_set maps kinds.Way number object kinds.Node id = refl
stay_set maps kinds.Way number object kinds.Way id = refl
stay_set maps kinds.Way number object kinds.Relation id = refl
stay_set maps kinds.Relation number object kinds.Node id = refl
stay_set maps kinds.Relation number object kinds.Way id = refl
stay_set maps kinds.Relation number object kinds.Relation id = refl

stay_listed : (maps : Maps) (own : KeyOf) (old new : Option Object) (kind : Kind) (id : ℕ)
    → rows_at (relisted_to maps own old new) kind id ≡ rows_at maps kind id
stay_listed maps own old new kinds.Node id = refl
stay_listed maps own old new kinds.Way id = refl
stay_listed maps own old new kinds.Relation id = refl

-- entries leave all rows
pub rows_stay : (entries : List Entry) (maps : Maps) (kind : Kind) (id : ℕ)
    → rows_at (change_on maps entries) kind id ≡ rows_at maps kind id
rows_stay [] maps kind id = refl
rows_stay (entry ∷ entries) maps kind id =
    rows_stay entries (entry_on maps entry) kind id
    ∙ stay_set (relisted_to maps entry.key (way_or_relation_in maps entry.key.kind entry.key.id) entry.object)
    entry.key.kind entry.key.id entry.object
    kind id
    ∙ stay_listed maps entry.key (way_or_relation_in maps entry.key.kind entry.key.id) entry.object kind id

abbrev key : Kind → ℕ → KeyOf
key kind id = record { kind = kind; id = id }

-- the numbers of ways and of relations are apart
even_even : (id own : ℕ) → nat_eq (2 * id) (2 * own) ≡ nat_eq id own
even_even id own = grind (arith, nat_tests)

odd_odd : (id own : ℕ) → nat_eq (2 * id + 1) (2 * own + 1) ≡ nat_eq id own
odd_odd id own = grind (arith, nat_tests)

even_odd : (id own : ℕ) → nat_eq (2 * id) (2 * own + 1) ≡ false
even_odd id own = grind (arith, nat_tests)

odd_even : (id own : ℕ) → nat_eq (2 * id + 1) (2 * own) ≡ false
odd_even id own = grind (arith, nat_tests)

-- a key gets rows, and no other does
got : (maps : Maps) (own : Kind) (number : ℕ) (rows : List TableRow) (kind : Kind) (id : ℕ)
    → rows_at (set_rows maps own number rows) kind id
    ≡ cond (eq_by_cmp key_cmp (key kind id) (key own number)) (unless_empty rows) (rows_at maps kind id)
got maps kinds.Node number rows kinds.Node id =
    get-set maps.node_rows number (unless_empty rows) id
    ∙ ap (λ b. cond b (unless_empty rows) (finite.get maps.node_rows id)) (sym (unsigned_tied id number))
got maps kinds.Node number rows kinds.Way id = refl
got maps kinds.Node number rows kinds.Relation id = refl
got maps kinds.Way number rows kinds.Node id = refl
got maps kinds.Way number rows kinds.Way id =
    get-set maps.other_rows (2 * number) (unless_empty rows) (2 * id)
    ∙ ap (λ b. cond b (unless_empty rows) (finite.get maps.other_rows (2 * id))) (even_even id number ∙ sym (unsigned_tied id number))
got maps kinds.Way number rows kinds.Relation id =
    get-set maps.other_rows (2 * number) (unless_empty rows) (2 * id + 1)
    ∙ ap (λ b. cond b (unless_empty rows) (finite.get maps.other_rows (2 * id + 1))) (odd_even id number)
got maps kinds.Relation number rows kinds.Node id = refl
got maps kinds.Relation number rows kinds.Way id =
    get-set maps.other_rows (2 * number + 1) (unless_empty rows) (2 * id)
    ∙ ap (λ b. cond b (unless_empty rows) (finite.get maps.other_rows (2 * id))) (even_odd id number)
got maps kinds.Relation number rows kinds.Relation id =
    get-set maps.other_rows (2 * number + 1) (unless_empty rows) (2 * id + 1)
    ∙ ap (λ b. cond b (unless_empty rows) (finite.get maps.other_rows (2 * id + 1))) (odd_odd id number ∙ sym (unsigned_tied id number))

in_turn : {X : Type 0} (first later : Bool) (x y : X) → cond later x (cond first x y) ≡ cond (first || later) x y
in_turn true true x y = refl
in_turn true false x y = refl
in_turn false true x y = refl
in_turn false false x y = refl

module _ (rows : KeyOf → List TableRow) where
  abbrev are : Kind → ℕ → Option (List TableRow)
  are kind id = unless_empty (rows (key kind id))

  -- these keys have their rows, and all others those that they had
  pub got-all : (keys : List KeyOf) (maps : Maps) (kind : Kind) (id : ℕ)
      → rows_at (set_all_rows maps rows keys) kind id
      ≡ cond (list_any (eq_by_cmp key_cmp (key kind id)) keys) (are kind id) (rows_at maps kind id)
  got-all [] maps kind id = refl
  got-all (own ∷ keys) maps kind id =
      let later = list_any (eq_by_cmp key_cmp (key kind id)) keys in
      got-all keys (set_rows maps own.kind own.id (rows own)) kind id
      ∙ ap (cond later (are kind id)) (got maps own.kind own.id (rows own) kind id
      ∙ elim (eq_by_cmp key_cmp (key kind id) own) as
      (λ b. eq_by_cmp key_cmp (key kind id) own ≡ b
      → cond b (unless_empty (rows own)) (rows_at maps kind id) ≡ cond b (are kind id) (rows_at maps kind id)) [
        | true ↦ λ same. ap (λ own. unless_empty (rows own)) (sym (same_key (key kind id) own same))
        | false ↦ λ _. refl
      ] refl)
      ∙ in_turn (eq_by_cmp key_cmp (key kind id) own) later (are kind id) (rows_at maps kind id)

  -- all rows are right after a change, where those outside the keys are what they were
  pub rows_follow : (old : KeyOf → List TableRow) (maps : Maps) (entries : List Entry) (keys : List KeyOf) → HoldsRows maps old
      → ((own : KeyOf) → list_any (eq_by_cmp key_cmp own) keys ≡ false → rows own ≡ old own)
      → HoldsRows (appended maps entries rows keys) rows
  rows_follow old maps entries keys holds same = record {
    at = λ kind id. got-all keys (change_on maps entries) kind id
        ∙ elim (list_any (eq_by_cmp key_cmp (key kind id)) keys) as
        (λ b. list_any (eq_by_cmp key_cmp (key kind id)) keys ≡ b
        → cond b (are kind id) (rows_at (change_on maps entries) kind id) ≡ are kind id) [
          | true ↦ λ _. refl
          | false ↦ λ outside. rows_stay entries maps kind id ∙ holds.at kind id ∙ ap unless_empty (sym (same (key kind id) outside))
        ] refl;
  }

-- maps without a value have no rows
pub empty_rows : (rows : KeyOf → List TableRow) → ((own : KeyOf) → rows own ≡ []) → HoldsRows empty_maps rows
empty_rows rows none = record { at = at }
  where
    at : (kind : Kind) (id : ℕ) → rows_at empty_maps kind id ≡ unless_empty (rows (key kind id))
    at kinds.Node id = finite.get-empty nat_cmp id ∙ ap unless_empty (sym (none (key kinds.Node id)))
    at kinds.Way id = finite.get-empty nat_cmp (2 * id) ∙ ap unless_empty (sym (none (key kinds.Way id)))
    at kinds.Relation id = finite.get-empty nat_cmp (2 * id + 1) ∙ ap unless_empty (sym (none (key kinds.Relation id)))
