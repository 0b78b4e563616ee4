-- The entries of a map of objects as the rows of those of one kind, by their ids.
use Rattle.std.proofs.Common.{◌≡◌, ℕ, List, [], ◌∷◌, ◌++◌, refl, sym, ap, subst, ◌∙◌, true, false, cond, Ordering}
use Rattle.std.specs.Prelude.{Bool, ◌&&◌, Option, None, Some, T, flat_map}
use Rattle.std.specs.declared.cmp.Ordering.TheVariants.{Less, Equal, Greater}
use Rattle.std.specs.Ordering.{nat_cmp, is_lt, is_eq, eq_by_cmp}
use Rattle.std.specs.Cmp.{nat_cmp_total, tied_itself, unsigned_tied}
use Rattle.std.specs.FinMap as finite
use Rattle.std.specs.FinMap.{nat_cmp-IsAntisymmetric}
use Rattle.std.specs.FinMap.Entries.{find, is_sorted, below_all}
use Rattle.osm_base.specs.values.Key.{KeyOf}
use Rattle.osm_base.specs.values.KeyOrder.{key_cmp}
use Rattle.osm_base.specs.declared.values.key.Kind.{Kind}
use Rattle.osm_base.specs.declared.values.key.Kind.TheVariants.{Node, Way, Relation}
use Rattle.osm_base.specs.declared.values.object.Object.{Object}
use Rattle.osm_base.specs.map.Objects.{ObjectSet}
use Rattle.osm_base.specs.map.Listers.{is_kind}
use Rattle.object_fold.proofs.Listers.{key, kind_same, tied-ids, untied-kinds}
use Rattle.tag_rows.specs.RowsById.{RowMap, all_rows_text}
use Rattle.tag_rows.specs.WayRows.{some_row}

-- the row with this id in front, where it is not empty
abbrev in_front : ℕ → List ℕ → List (ℕ × List ℕ) → List (ℕ × List ℕ)
in_front id [] rest = rest
in_front id (byte ∷ bytes) rest = (id, byte ∷ bytes) ∷ rest

text_in_front : (id : ℕ) (row : List ℕ) (rest : List (ℕ × List ℕ))
    → row ++ flat_map (λ e. e.1) rest ≡ flat_map (λ e. e.1) (in_front id row rest)
text_in_front id [] rest = refl
text_in_front id (byte ∷ bytes) rest = refl

first : (a b : Bool) → T (a && b) → T a
first true b h = tt
first false b h = absurd h

second : (a b : Bool) → T (a && b) → T b
second true b h = h
second false b h = absurd h

both : (a b : Bool) → T a → T b → T (a && b)
both true b g h = h
both false b g h = absurd g

below_in_front : (id next : ℕ) (row : List ℕ) (rest : List (ℕ × List ℕ)) → T (is_lt (nat_cmp id next)) → T (below_all nat_cmp id rest)
    → T (below_all nat_cmp id (in_front next row rest))
below_in_front id next [] rest lower below = below
below_in_front id next (byte ∷ bytes) rest lower below = both _ _ lower below

sorted_in_front : (id : ℕ) (row : List ℕ) (rest : List (ℕ × List ℕ)) → T (below_all nat_cmp id rest) → T (is_sorted nat_cmp rest)
    → T (is_sorted nat_cmp (in_front id row rest))
sorted_in_front id [] rest below sorted = sorted
sorted_in_front id (byte ∷ bytes) rest below sorted = both _ _ below sorted

apart : (order : Ordering) → T (is_lt order) → is_eq order ≡ false
apart Less lower = refl
apart Equal lower = absurd lower
apart Greater lower = absurd lower

equal : (order : Ordering) → is_eq order ≡ true → order ≡ Equal
equal Less is = absurd (cc)
equal Equal is = refl
equal Greater is = absurd (cc)

pub same_id : (id next : ℕ) → eq_by_cmp nat_cmp id next ≡ true → id ≡ next
same_id id next is = nat_cmp-IsAntisymmetric id next (equal _ is)

find_below : (id : ℕ) (rows : List (ℕ × List ℕ)) → T (below_all nat_cmp id rows) → find nat_cmp id rows ≡ None
find_below id [] below = refl
find_below id (row ∷ rows) below =
    ap (λ b. cond b (Some row.1) (find nat_cmp id rows)) (apart _ (first _ _ below)) ∙ find_below id rows (second _ _ below)

found_here : (id : ℕ) (row : List ℕ) (rows : List (ℕ × List ℕ)) → T (below_all nat_cmp id rows)
    → find nat_cmp id (in_front id row rows) ≡ some_row row
found_here id [] rows below = find_below id rows below
found_here id (byte ∷ bytes) rows below =
    ap (λ order. cond (is_eq order) (Some (byte ∷ bytes)) (find nat_cmp id rows)) (tied_itself nat_cmp_total id)

found_later : (id next : ℕ) (row : List ℕ) (rows : List (ℕ × List ℕ)) → eq_by_cmp nat_cmp id next ≡ false
    → find nat_cmp id (in_front next row rows) ≡ find nat_cmp id rows
found_later id next [] rows other = refl
found_later id next (byte ∷ bytes) rows other = ap (λ b. cond b (Some (byte ∷ bytes)) (find nat_cmp id rows)) other

own_order : (own : Kind) (id next : ℕ) → key_cmp (key own id) (key own next) ≡ nat_cmp id next
own_order Node id next = refl
own_order Way id next = refl
own_order Relation id next = refl

module _ (own : Kind) (row : ℕ → Option Object → List ℕ) (none : (id : ℕ) → row id None ≡ []) where
  -- the row of the object at a key, where it is of the kind
  abbrev pub entry_line : KeyOf × Object → List ℕ
  entry_line entry = cond (is_kind own entry.0.kind) (row entry.0.id (Some entry.1)) []

  abbrev own_lines : List (KeyOf × Object) → List (ℕ × List ℕ)
  own_lines [] = []
  own_lines (entry ∷ entries) = in_front entry.0.id (entry_line entry) (own_lines entries)

  own_lines_text : (entries : List (KeyOf × Object)) → flat_map entry_line entries ≡ flat_map (λ e. e.1) (own_lines entries)
  own_lines_text [] = refl
  own_lines_text (entry ∷ entries) =
      ap (λ text. entry_line entry ++ text) (own_lines_text entries) ∙ text_in_front entry.0.id (entry_line entry) (own_lines entries)

  below_one : (id next : ℕ) (kind : Kind) (row : List ℕ) (rest : List (ℕ × List ℕ)) → T (is_lt (key_cmp (key own id) (key kind next)))
      → T (below_all nat_cmp id rest)
      → T (below_all nat_cmp id (in_front next (cond (is_kind own kind) row []) rest))
  below_one id next kind row rest lower below =
      elim (is_kind own kind) as (λ b. is_kind own kind ≡ b → T (below_all nat_cmp id (in_front next (cond b row []) rest))) [
        | true ↦ λ same. below_in_front id next row rest
            (subst (λ order. T (is_lt order)) (own_order own id next)
            (subst (λ kind. T (is_lt (key_cmp (key own id) (key kind next)))) (sym (kind_same own kind same)) lower)) below
        | false ↦ λ differs. below
      ] refl

  below_lines : (id : ℕ) (entries : List (KeyOf × Object)) → T (below_all key_cmp (key own id) entries)
      → T (below_all nat_cmp id (own_lines entries))
  below_lines id [] below = tt
  below_lines id (entry ∷ entries) below =
      below_one id entry.0.id entry.0.kind (row entry.0.id (Some entry.1)) (own_lines entries) (first _ _ below)
      (below_lines id entries (second _ _ below))

  sorted_one : (kind : Kind) (id : ℕ) (row : List ℕ) (entries : List (KeyOf × Object)) → T (below_all key_cmp (key kind id) entries)
      → T (is_sorted nat_cmp (own_lines entries))
      → T (is_sorted nat_cmp (in_front id (cond (is_kind own kind) row []) (own_lines entries)))
  sorted_one kind id row entries below sorted =
      elim (is_kind own kind) as (λ b. is_kind own kind ≡ b → T (is_sorted nat_cmp (in_front id (cond b row []) (own_lines entries)))) [
        | true ↦ λ same. sorted_in_front id row (own_lines entries)
            (below_lines id entries (subst (λ kind. T (below_all key_cmp (key kind id) entries)) (sym (kind_same own kind same)) below))
            sorted
        | false ↦ λ differs. sorted
      ] refl

  sorted_lines : (entries : List (KeyOf × Object)) → T (is_sorted key_cmp entries) → T (is_sorted nat_cmp (own_lines entries))
  sorted_lines [] sorted = tt
  sorted_lines (entry ∷ entries) sorted =
      sorted_one entry.0.kind entry.0.id (row entry.0.id (Some entry.1)) entries (first _ _ sorted)
      (sorted_lines entries (second _ _ sorted))

  found_one : (id next : ℕ) (object : Object) (found : Option Object) (rows : List (ℕ × List ℕ)) (same : Bool)
      → eq_by_cmp nat_cmp id next ≡ same → T (below_all nat_cmp next rows)
      → find nat_cmp id rows ≡ some_row (row id found)
      → find nat_cmp id (in_front next (row next (Some object)) rows) ≡ some_row (row id (cond same (Some object) found))
  found_one id next object found rows true is below rest =
      subst (λ i. find nat_cmp i (in_front next (row next (Some object)) rows) ≡ some_row (row i (Some object))) (sym (same_id id next is))
      (found_here next _ rows below)
  found_one id next object found rows false is below rest = found_later id next _ rows is ∙ rest

  found_any : (id next : ℕ) (kind : Kind) (object : Object) (entries : List (KeyOf × Object))
      → T (below_all key_cmp (key kind next) entries)
      → find nat_cmp id (own_lines entries) ≡ some_row (row id (find key_cmp (key own id) entries))
      → find nat_cmp id (in_front next (cond (is_kind own kind) (row next (Some object)) []) (own_lines entries))
      ≡ some_row (row id (cond (eq_by_cmp key_cmp (key own id) (key kind next)) (Some object) (find key_cmp (key own id) entries)))
  found_any id next kind object entries below rest =
      elim (is_kind own kind) as (λ b. is_kind own kind ≡ b
      → find nat_cmp id (in_front next (cond b (row next (Some object)) []) (own_lines entries))
      ≡ some_row (row id (cond (eq_by_cmp key_cmp (key own id) (key kind next)) (Some object) (find key_cmp (key own id) entries)))) [
        | true ↦ λ same.
            found_one id next object (find key_cmp (key own id) entries) (own_lines entries) (eq_by_cmp nat_cmp id next) refl
            (below_lines next entries (subst (λ kind. T (below_all key_cmp (key kind next) entries)) (sym (kind_same own kind same)) below))
            rest
            ∙ ap (λ b. some_row (row id (cond b (Some object) (find key_cmp (key own id) entries))))
            (unsigned_tied id next ∙ sym (tied-ids own kind id next same))
        | false ↦ λ differs. rest ∙ ap (λ b. some_row (row id (cond b (Some object) (find key_cmp (key own id) entries))))
            (sym (untied-kinds own kind id next differs))
      ] refl

  -- at each id the row of the object of the kind with that id
  find_lines : (id : ℕ) (entries : List (KeyOf × Object)) → T (is_sorted key_cmp entries)
      → find nat_cmp id (own_lines entries) ≡ some_row (row id (find key_cmp (key own id) entries))
  find_lines id [] sorted = sym (ap some_row (none id))
  find_lines id (entry ∷ entries) sorted =
      found_any id entry.0.id entry.0.kind entry.1 entries (first _ _ sorted) (find_lines id entries (second _ _ sorted))

  -- rows that are those of the objects are the objects' text
  pub text-entries : (rows : RowMap) (objects : ObjectSet)
      → ((id : ℕ) → finite.get rows id ≡ some_row (row id (finite.get objects (key own id))))
      → all_rows_text rows ≡ flat_map entry_line (finite.entries objects)
  text-entries rows objects are =
      let held = finite.entries objects in
      let sorted = sorted_lines held (finite.entries_sorted objects) in
      let same_line = λ (id : ℕ). are id ∙ ap (λ found. some_row (row id found)) (finite.get-entries objects (key own id))
      ∙ sym (find_lines id held (finite.entries_sorted objects)) ∙ sym (finite.get-from_sorted nat_cmp (own_lines held) id sorted) in
      ap (λ (own : RowMap). flat_map (λ e. e.1) (finite.entries own))
      (finite.same_map nat_cmp_total nat_cmp-IsAntisymmetric rows (finite.from_sorted (own_lines held)) same_line)
      ∙ ap (flat_map (λ e. e.1)) (finite.entries-from_sorted nat_cmp (own_lines held) sorted)
      ∙ sym (own_lines_text held)

  -- the rows of any objects, and what they are at an id
  pub rows_in : ObjectSet → RowMap
  rows_in objects = finite.from_sorted (own_lines (finite.entries objects))

  pub get-rows_in : (objects : ObjectSet) (id : ℕ) → finite.get (rows_in objects) id ≡ some_row (row id (finite.get objects (key own id)))
  unfolding rows_in
  get-rows_in objects id =
      finite.get-from_sorted nat_cmp (own_lines (finite.entries objects)) id
      (sorted_lines (finite.entries objects) (finite.entries_sorted objects))
      ∙ find_lines id (finite.entries objects) (finite.entries_sorted objects)
      ∙ ap (λ found. some_row (row id found)) (sym (finite.get-entries objects (key own id)))
