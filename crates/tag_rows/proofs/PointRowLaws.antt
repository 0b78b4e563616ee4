-- The rows that are kept are those of the objects, after each entry.
use Rattle.std.proofs.Common.{◌≡◌, ℕ, List, [], ◌∷◌, refl, sym, ap, ◌∙◌, true, false, cond}
use Rattle.std.specs.Prelude.{Bool, Option, Some, flat_map}
use Rattle.std.specs.Ordering.{nat_cmp, eq_by_cmp}
use Rattle.std.specs.Cmp.{nat_cmp_total}
use Rattle.std.specs.FinMap.{get-empty, get-insert, get-remove}
use Rattle.std.specs.FinMap as finite
use Rattle.osm_base.specs.values.Key.{KeyOf, node_key}
use Rattle.osm_base.specs.values.KeyOrder.{key_cmp}
use Rattle.osm_base.specs.declared.values.key.Kind.{Kind}
use Rattle.osm_base.specs.declared.values.key.Kind.TheVariants.{Node, Way, Relation}
use Rattle.osm_base.specs.declared.values.object.Object.{Object}
use Rattle.osm_base.specs.declared.values.object.Entry.{Entry}
use Rattle.osm_base.specs.map.Objects.{ObjectSet, with_object, folded, folded_all}
use Rattle.object_fold.proofs.FoldLaws.{get-with_object}
use Rattle.osm_base.specs.map.Listers.{is_kind}
use Rattle.tag_rows.specs.Points.{node_row, of_node, tag_row, points_text}
use Rattle.tag_rows.specs.PointRows.{Rows, with_row, after_kind, after_entry, after_entries, no_rows, rows_text, node_row_at, Shows, shown}
use Rattle.tag_rows.specs.WayRows.{some_row}
use Rattle.tag_rows.proofs.KindRows.{same_id, text-entries}

-- the rows are those of the nodes of these objects that have one, and no other
pub record Keeps (key : List ℕ) (points : Rows) (objects : ObjectSet) : Type 0 where
  pub key_is : points.key ≡ key
  pub rows_are : (id : ℕ) → finite.get points.rows id ≡ some_row (node_row_at key objects id)

get-with_row : (points : Rows) (id : ℕ) (row : List ℕ) (at : ℕ)
    → finite.get (with_row points id row).rows at ≡ cond (eq_by_cmp nat_cmp at id) (some_row row) (finite.get points.rows at)
get-with_row points id [] at = get-remove nat_cmp_total points.rows id at
get-with_row points id (byte ∷ bytes) at = get-insert nat_cmp_total points.rows id (byte ∷ bytes) at

either_row : (key own : List ℕ) (at id : ℕ) (object found : Option Object) (row : Option (List ℕ)) (same : Bool) → own ≡ key
    → eq_by_cmp nat_cmp at id ≡ same → row ≡ some_row (node_row key at found)
    → cond same (some_row (node_row own id object)) row ≡ some_row (node_row key at (cond same object found))
either_row key own at id object found row true owned is kept = λ i. some_row (node_row (owned i) ((sym (same_id at id is)) i) object)
either_row key own at id object found row false owned is kept = kept

kept_kind : (key : List ℕ) (kind : Kind) (id : ℕ) (object : Option Object) (points : Rows) (objects : ObjectSet) → Keeps key points objects
    → Keeps key (after_kind kind points (record { key = record { kind = kind; id = id }; object = object }))
    (with_object objects (record { kind = kind; id = id }) object)
unfolding tag_row
kept_kind key Node id object points objects kept = record {
  key_is = kept.key_is;
  rows_are = λ at. get-with_row points id _ at
      ∙ either_row key points.key at id object (finite.get objects (node_key at)) _ (eq_by_cmp nat_cmp at id) kept.key_is refl
      (kept.rows_are at)
      ∙ ap (λ found. some_row (node_row key at found)) (sym (get-with_object objects (node_key id) object (node_key at)));
}
kept_kind key Way id object points objects kept = record {
  key_is = kept.key_is;
  rows_are = λ at. kept.rows_are at ∙ ap (λ found. some_row (node_row key at found))
      (sym (get-with_object objects (record { kind = Way; id = id }) object (node_key at)));
}
kept_kind key Relation id object points objects kept = record {
  key_is = kept.key_is;
  rows_are = λ at. kept.rows_are at ∙ ap (λ found. some_row (node_row key at found))
      (sym (get-with_object objects (record { kind = Relation; id = id }) object (node_key at)));
}

pub trimmed_entry : (key : List ℕ) (entry : Entry) (points : Rows) (objects : ObjectSet) → Keeps key points objects
    → Keeps key (after_entry points entry) (folded objects entry)
trimmed_entry key entry points objects kept = kept_kind key entry.key.kind entry.key.id entry.object points objects kept

pub kept_entries : (key : List ℕ) (entries : List Entry) (points : Rows) (objects : ObjectSet) → Keeps key points objects
    → Keeps key (after_entries points entries) (folded_all objects entries)
kept_entries key [] points objects kept = kept
kept_entries key (entry ∷ entries) points objects kept =
    kept_entries key entries (after_entry points entry) (folded objects entry) (trimmed_entry key entry points objects kept)

pub kept_first : (key : List ℕ) → Keeps key (no_rows key) finite.empty
kept_first key = record {
  key_is = refl;
  rows_are = λ id. get-empty nat_cmp id ∙ ap (λ found. some_row (node_row key id found)) (sym (get-empty key_cmp (node_key id)));
}

of_node-cond : (kind : Kind) (row : List ℕ) → cond (is_kind Node kind) row [] ≡ of_node kind row
of_node-cond Node row = refl
of_node-cond Way row = refl
of_node-cond Relation row = refl

-- then they are the text of the objects
pub kept-text : (key : List ℕ) (points : Rows) (objects : ObjectSet) → Keeps key points objects → rows_text points ≡ points_text key objects
kept-text key points objects kept =
    text-entries Node (node_row key) (λ id. refl) points.rows objects kept.rows_are
    ∙ λ i. flat_map (λ (entry : KeyOf × Object). of_node-cond entry.0.kind (node_row key entry.0.id (Some entry.1)) i)
    (finite.entries objects)

shown_row : (row : List ℕ) → shown (some_row row) ≡ row
shown_row [] = refl
shown_row (byte ∷ bytes) = refl

pub kept_shows : (key : List ℕ) (points : Rows) (objects : ObjectSet) → Keeps key points objects → Shows points objects
kept_shows key points objects kept = λ id. ap shown (kept.rows_are id) ∙ shown_row _
    ∙ ap (λ own. node_row_at own objects id) (sym kept.key_is)
