-- The rows of ways: those of no objects, those that stay, and their text.
use Rattle.std.proofs.Common.{◌≡◌, ◌<◌, ◌+◌, ℕ, Bool, true, false, ◌||◌, cond, List, [], ◌∷◌, ◌++◌, map, fold, take, length, get_or}
use Rattle.std.proofs.Common.{append_assoc, Option, Some, None, refl, sym, ap, ◌∙◌, nat_eq}
use Rattle.std.proofs.lemmas.List.{append-nil, take_more}
use Rattle.std.proofs.lemmas.List.Folds.{list_any-append}
use Rattle.std.proofs.lemmas.Cmp.{nat_eq_equiv}
use Rattle.std.specs.Prelude.{flat_map}
use Rattle.std.specs.Option.{option_and_then, option_map}
use Rattle.std.specs.Ordering.{nat_cmp, is_eq, eq_by_cmp}
use Rattle.std.specs.Cmp.{Equal-is, nat_cmp_total, unsigned_tied, tied_itself}
use Rattle.std.specs.Cmp.Lexicographic.{slice_cmp, nat_list_cmp_total}
use Rattle.std.specs.FinMap as finite
use Rattle.osm_base.specs.declared.values.key.Kind.{Kind}
use Rattle.osm_base.specs.declared.values.key.Kind.TheVariants as kinds
use Rattle.osm_base.specs.declared.values.object.Entry.{Entry}
use Rattle.osm_base.specs.declared.values.object.Object.{Object}
use Rattle.osm_base.specs.declared.values.object.Object.TheVariants.{Node, Way, Relation}
use Rattle.osm_base.specs.values.Key.{KeyOf, way_key}
use Rattle.osm_base.specs.values.KeyOrder.{key_cmp}
use Rattle.osm_base.proofs.KeyLaws.{key_cmp-IsAntisymmetric}
use Rattle.osm_base.specs.values.Place.{PlaceOf}
use Rattle.piece_ends.specs.Pieces.{Line}
use Rattle.piece_ends.specs.Points.{line}
use Rattle.osm_base.specs.map.Objects.{ObjectSet, folded, folded_all, place_in}
use Rattle.object_fold.proofs.FoldLaws.{get-with_object}
use Rattle.osm_base.specs.map.Listers.{is_kind, known_of}
use Rattle.osm_base.specs.values.Ids.{has}
use Rattle.row_rules.specs.Shape.{line_in}
use Rattle.dep_closure.specs.Ways.{Leaves}
use Rattle.tag_rows.specs.TrimmedChange.{trimmed_object, trimmed_entry, with_entry}
use Rattle.tag_rows.specs.RowsById.{RowMap, set_row, all_rows_text}
use Rattle.tag_rows.specs.Lines.{way_row, object_row, of_way, lines_text}
use Rattle.tag_rows.specs.WayRows.{some_row, row_at, AreRows, after_way}
use Rattle.tag_rows.proofs.KindRows.{same_id, text-entries, rows_in, get-rows_in}

of_way-cond : (kind : Kind) (text : List ℕ) → cond (is_kind kinds.Way kind) text [] ≡ of_way kind text
of_way-cond kinds.Node text = refl
of_way-cond kinds.Way text = refl
of_way-cond kinds.Relation text = refl

-- the text of right rows
pub text-rows : (key : List ℕ) (objects : ObjectSet) (rows : RowMap) → AreRows key objects rows → all_rows_text rows ≡ lines_text key objects
text-rows key objects rows right =
    text-entries kinds.Way (object_row key (known_of objects).place) (λ id. refl) rows objects right
    ∙ λ i. flat_map (λ (entry : KeyOf × Object).
    of_way-cond entry.0.kind (object_row key (known_of objects).place entry.0.id (Some entry.1)) i) (finite.entries objects)

-- no row is right for no object
pub no-rows : (key : List ℕ) (objects : ObjectSet) (rows : RowMap) → objects ≡ finite.empty → rows ≡ finite.empty → AreRows key objects rows
no-rows key objects rows none no_row id =
    ap (λ (own : RowMap). finite.get own id) no_row ∙ finite.get-empty nat_cmp id
    ∙ sym (ap (λ found. some_row (object_row key (known_of objects).place id found))
    (ap (λ (own : ObjectSet). finite.get own (way_key id)) none ∙ finite.get-empty key_cmp (way_key id)))

-- the row by the object and its line
abbrev row_by : List ℕ → ℕ → Option Object → Option Line → List ℕ
row_by key id (Some (Way nodes tags)) found = way_row id (finite.get tags key) found
row_by key id _ found = []

row_by-object_row : (key : List ℕ) (place : ℕ → Option PlaceOf) (id : ℕ) (object : Option Object)
    → object_row key place id object ≡ row_by key id object (line_in place object)
row_by-object_row key place id None = refl
row_by-object_row key place id (Some (Node own tags)) = refl
row_by-object_row key place id (Some (Way nodes tags)) = refl
row_by-object_row key place id (Some (Relation members tags)) = refl

row-left : (key : List ℕ) (change : List Entry) (objects : ObjectSet) (way : ℕ) → Leaves change objects way
    → row_at key (folded_all objects change) way ≡ row_at key objects way
row-left key change objects way left =
    row_by-object_row key (known_of (folded_all objects change)).place way (finite.get (folded_all objects change) (way_key way))
    ∙ (λ i. row_by key way (left.object i) (left.line i))
    ∙ sym (row_by-object_row key (known_of objects).place way (finite.get objects (way_key way)))

-- rows of which those that are due are built anew
pub renewed-rows : (key : List ℕ) (objects : ObjectSet) (change : List Entry) (due : List ℕ) (old new : RowMap) → AreRows key objects old
    → ((way : ℕ) → has due way ≡ false → Leaves change objects way)
    → ((id : ℕ) → finite.get new id ≡ cond (has due id) (some_row (row_at key (folded_all objects change) id)) (finite.get old id))
    → AreRows key (folded_all objects change) new
renewed-rows key objects change due old new rows others set id =
    set id
    ∙ elim (has due id) as (λ b. has due id ≡ b
    → cond b (some_row (row_at key (folded_all objects change) id)) (finite.get old id)
    ≡ some_row (row_at key (folded_all objects change) id)) [
      | true ↦ λ is. refl
      | false ↦ λ not. rows id ∙ ap some_row (sym (row-left key change objects id (others id not)))
    ] refl

-- an object more of an import, whose way, if it makes one, is among the ids
pub more-held : (objects : ObjectSet) (before after : List ℕ) (entry : Entry)
    → ((way : ℕ) → has before way ≡ false → finite.get objects (way_key way) ≡ None)
    → ((way : ℕ) → has after way ≡ false → has before way ≡ false)
    → ((way : ℕ) → has after way ≡ false → entry.key ≡ way_key way → entry.object ≡ None)
    → (way : ℕ) → has after way ≡ false → finite.get (folded objects entry) (way_key way) ≡ None
more-held objects before after entry held more added way not =
    get-with_object objects entry.key entry.object (way_key way)
    ∙ elim (eq_by_cmp key_cmp (way_key way) entry.key) as
    (λ b. eq_by_cmp key_cmp (way_key way) entry.key ≡ b → cond b entry.object (finite.get objects (way_key way)) ≡ None) [
      | true ↦ λ same. added way not (sym (key_cmp-IsAntisymmetric (way_key way) entry.key
          ((Equal-is (key_cmp (way_key way) entry.key)).0 same)))
      | false ↦ λ _. held way (more way not)
    ] refl

-- the rows of all ways of an import
pub import-rows : (key : List ℕ) (objects : ObjectSet) (ways : List ℕ) (none rows : RowMap) → none ≡ finite.empty
    → ((way : ℕ) → has ways way ≡ false → finite.get objects (way_key way) ≡ None)
    → ((id : ℕ) → finite.get rows id ≡ cond (has ways id) (some_row (row_at key objects id)) (finite.get none id))
    → AreRows key objects rows
import-rows key objects ways none rows no_row held set id =
    set id
    ∙ elim (has ways id) as (λ b. has ways id ≡ b
    → cond b (some_row (row_at key objects id)) (finite.get none id) ≡ some_row (row_at key objects id)) [
      | true ↦ λ _. refl
      | false ↦ λ not.
          ap (λ (own : RowMap). finite.get own id) no_row ∙ finite.get-empty nat_cmp id
          ∙ sym (ap (λ found. some_row (object_row key (known_of objects).place id found)) (held id not))
    ] refl

-- no way is among no objects
pub none-held : (objects : ObjectSet) → objects ≡ finite.empty → (way : ℕ) → finite.get objects (way_key way) ≡ None
none-held objects none way = ap (λ (own : ObjectSet). finite.get own (way_key way)) none ∙ finite.get-empty key_cmp (way_key way)

-- one row more is built
get-set_row : (rows : RowMap) (id : ℕ) (text : List ℕ) (other : ℕ)
    → finite.get (set_row rows id text) other ≡ cond (eq_by_cmp nat_cmp other id) (some_row text) (finite.get rows other)
get-set_row rows id [] other = finite.get-remove nat_cmp_total rows id other
get-set_row rows id (byte ∷ bytes) other = finite.get-insert nat_cmp_total rows id (byte ∷ bytes) other

or-true : (b : Bool) → (b || true) ≡ true
or-true true = refl
or-true false = refl

or-false : (b : Bool) → (b || false) ≡ b
or-false true = refl
or-false false = refl

pub set-more : (due : List ℕ) (index id : ℕ) (row : ℕ → List ℕ) (first old new : RowMap) (text : List ℕ) → index < length due
    → id ≡ get_or due index 0
    → ((other : ℕ) → finite.get old other ≡ cond (has (take index due) other) (some_row (row other)) (finite.get first other))
    → new ≡ set_row old id text → text ≡ row id
    → (other : ℕ) → finite.get new other ≡ cond (has (take (index + 1) due) other) (some_row (row other)) (finite.get first other)
set-more due index id row first old new text within is so_far set same other =
    let taken = take_more due index 0 within ∙ ap (λ own. take index due ++ own ∷ []) (sym is) in
    let known : has (take (index + 1) due) other ≡ (has (take index due) other || (nat_eq id other || false)) =
    ap (λ ids. has ids other) taken ∙ list_any-append (λ own. nat_eq own other) (take index due) (id ∷ []) in
    let equal : eq_by_cmp nat_cmp other id ≡ nat_eq id other = unsigned_tied other id ∙ nat_eq_equiv.symm other id in
    ap (λ (own : RowMap). finite.get own other) set ∙ get-set_row old id text other
    ∙ elim (nat_eq id other) as (λ b. nat_eq id other ≡ b
    → cond (eq_by_cmp nat_cmp other id) (some_row text) (finite.get old other)
    ≡ cond (has (take (index + 1) due) other) (some_row (row other)) (finite.get first other)) [
      | true ↦ λ here.
          ap (λ b. cond b (some_row text) (finite.get old other)) (equal ∙ here)
          ∙ ap some_row (same ∙ ap row (sym (same_id other id (equal ∙ here))))
          ∙ sym (ap (λ b. cond b (some_row (row other)) (finite.get first other))
          (known ∙ ap (λ b. has (take index due) other || (b || false)) here ∙ or-true (has (take index due) other)))
      | false ↦ λ apart.
          ap (λ b. cond b (some_row text) (finite.get old other)) (equal ∙ apart) ∙ so_far other
          ∙ sym (ap (λ b. cond b (some_row (row other)) (finite.get first other))
          (known ∙ ap (λ b. has (take index due) other || (b || false)) apart ∙ or-false (has (take index due) other)))
    ] refl

-- what is kept of all entries of a file
pub fold-with_entry : (key : List ℕ) (before entries : List Entry)
    → fold with_entry (record { key = key; entries = before }) entries
    ≡ record { key = key; entries = before ++ map (trimmed_entry key) entries }
fold-with_entry key before [] = ap (λ own. record { key = key; entries = own }) (sym (append-nil before))
fold-with_entry key before (entry ∷ entries) =
    fold-with_entry key (before ++ trimmed_entry key entry ∷ []) entries
    ∙ ap (λ own. record { key = key; entries = own }) (append_assoc before (trimmed_entry key entry ∷ []) (map (trimmed_entry key) entries))

pub fold-after_way : (key : List ℕ) (objects : ObjectSet) (entries : List Entry)
    → fold after_way (record { key = key; objects = objects }) entries
    ≡ record { key = key; objects = folded_all objects (map (trimmed_entry key) entries) }
fold-after_way key objects [] = refl
fold-after_way key objects (entry ∷ entries) = fold-after_way key (folded objects (trimmed_entry key entry)) entries

-- of the objects that they make the same is kept
module _ (key : List ℕ) where
  abbrev IsKeptOf : ObjectSet → ObjectSet → Type 0
  IsKeptOf kept objects = (at : KeyOf) → finite.get kept at ≡ option_and_then (trimmed_object key) (finite.get objects at)

  chosen : (same : Bool) (one other : Option Object)
      → cond same (option_and_then (trimmed_object key) one) (option_and_then (trimmed_object key) other)
      ≡ option_and_then (trimmed_object key) (cond same one other)
  chosen true one other = refl
  chosen false one other = refl

  kept_folded : (kept objects : ObjectSet) (entries : List Entry) → IsKeptOf kept objects
      → IsKeptOf (folded_all kept (map (trimmed_entry key) entries)) (folded_all objects entries)
  kept_folded kept objects [] is = is
  kept_folded kept objects (entry ∷ entries) is =
      kept_folded (folded kept (trimmed_entry key entry)) (folded objects entry) entries (λ at.
      get-with_object kept entry.key (option_and_then (trimmed_object key) entry.object) at
      ∙ ap (cond (eq_by_cmp key_cmp at entry.key) (option_and_then (trimmed_object key) entry.object)) (is at)
      ∙ chosen (eq_by_cmp key_cmp at entry.key) entry.object (finite.get objects at)
      ∙ ap (option_and_then (trimmed_object key)) (sym (get-with_object objects entry.key entry.object at)))

  kept_place : (object : Option Object) → place_in (option_and_then (trimmed_object key) object) ≡ place_in object
  kept_place None = refl
  kept_place (Some (Node None tags)) = refl
  kept_place (Some (Node (Some place) tags)) = refl
  kept_place (Some (Relation members tags)) = refl
  kept_place (Some (Way nodes tags)) = elim (finite.get tags key) as
      (λ found. place_in (option_map (λ value. Way nodes (finite.insert finite.empty key value)) found) ≡ None)
      [ None ↦ refl | Some value ↦ refl ]

  one_tag : (value : List ℕ) → finite.get (finite.insert (finite.empty {R = slice_cmp nat_cmp}) key value) key ≡ Some value
  one_tag value = finite.get-insert nat_list_cmp_total (finite.empty {R = slice_cmp nat_cmp}) key value key
      ∙ ap (λ order. cond (is_eq order) (Some value) (finite.get (finite.empty {R = slice_cmp nat_cmp}) key))
      (tied_itself nat_list_cmp_total key)

  kept_row : (place : ℕ → Option PlaceOf) (id : ℕ) (object : Option Object)
      → object_row key place id (option_and_then (trimmed_object key) object) ≡ object_row key place id object
  kept_row place id None = refl
  kept_row place id (Some (Node None tags)) = refl
  kept_row place id (Some (Node (Some own) tags)) = refl
  kept_row place id (Some (Relation members tags)) = refl
  kept_row place id (Some (Way nodes tags)) =
      elim (finite.get tags key) as (λ found. object_row key place id
      (option_map (λ value. Way nodes (finite.insert finite.empty key value)) found) ≡ way_row id found (line place nodes)) [
        | None ↦ refl
        | Some value ↦ ap (λ found. way_row id found (line place nodes)) (one_tag value)
      ]

  module _ (kept objects : ObjectSet) (is : IsKeptOf kept objects) where
    same_place_at : (id : ℕ) → (known_of kept).place id ≡ (known_of objects).place id
    same_place_at id = ap place_in (is (record { kind = kinds.Node; id = id }))
        ∙ kept_place (finite.get objects (record { kind = kinds.Node; id = id }))

    same_row : (id : ℕ) → row_at key kept id ≡ row_at key objects id
    same_row id =
        (λ i. object_row key (λ own. same_place_at own i) id (is (way_key id) i))
        ∙ kept_row (known_of objects).place id (finite.get objects (way_key id))

    kept_text : lines_text key kept ≡ lines_text key objects
    kept_text =
        let rows = rows_in kinds.Way (object_row key (known_of kept).place) (λ id. refl) kept in
        let right = get-rows_in kinds.Way (object_row key (known_of kept).place) (λ id. refl) kept in
        sym (text-rows key kept rows right) ∙ text-rows key objects rows (λ id. right id ∙ ap some_row (same_row id))

  pub trimmed-rows : (entries : List Entry)
      → lines_text key (folded_all finite.empty (map (trimmed_entry key) entries)) ≡ lines_text key (folded_all finite.empty entries)
  trimmed-rows entries =
      kept_text (folded_all finite.empty (map (trimmed_entry key) entries)) (folded_all finite.empty entries)
      (kept_folded finite.empty finite.empty entries
      (λ at. finite.get-empty key_cmp at ∙ sym (ap (option_and_then (trimmed_object key)) (finite.get-empty key_cmp at))))
