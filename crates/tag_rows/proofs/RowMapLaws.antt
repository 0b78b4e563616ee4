-- The tree of kept rows, as a finite map, and its texts in order.
use Rattle.std.proofs.Common.{◌≡◌, ℕ, Bool, true, false, cond, ◌&&◌, T, Some, None, List, [], ◌∷◌, ◌++◌, length, map, append_assoc, refl}
use Rattle.std.proofs.Common.{sym, ◌∙◌, ap, subst}
use Rattle.std.proofs.lemmas.Bool.{eqb-true, eq-eqb, false≢true}
use Rattle.std.proofs.lemmas.List.{append-nil, nil_from_length}
use Rattle.std.specs.Prelude.{flat_map, ◌==◌}
use Rattle.std.specs.List.{AllByRecursion, concat}
use Rattle.std.specs.List.Sorted.{IsStrictlySortedBy}
use Rattle.std.specs.Map.{keys_of, values_of}
use Rattle.std.specs.Ordering.{nat_cmp, eq_by_cmp, is_eq, is_lt}
use Rattle.std.specs.Cmp.{nat_cmp_total}
use Rattle.std.specs.declared.cmp.Ordering.{Ordering}
use Rattle.std.specs.declared.cmp.Ordering.TheVariants.{Less, Equal, Greater}
use Rattle.std.specs.FinMap.{is_sorted, entries, from_entries, from_sorted, entries-from_sorted, get-from_entries, get-from_sorted}
use Rattle.std.specs.FinMap.{same_map, nat_cmp-IsAntisymmetric}
use Rattle.std.specs.FinMap.Entries.{below_all}
use Rattle.std.specs.FinMap as finite
use Rattle.std.specs.BTreeMap.{BTreeMap, Updates, get}
use Rattle.osm_base.proofs.Found.{found, inserted, removed}
use Rattle.tag_rows.specs.RowsById.{RowMap, set_row, all_rows_text}

-- a sorted list of entries is that of its map

is_less : (order : Ordering) → order ≡ Less → T (is_lt order)
is_less order e = subst (λ (own : Ordering). T (is_lt own)) (sym e) tt

both : (a b : Bool) → T a → T b → T (a && b)
both true b p q = q
both false b p q = absurd p

all_below : (key : ℕ) (es : List (ℕ × List ℕ)) → AllByRecursion (λ other. nat_cmp key other ≡ Less) (keys_of es)
    → T (below_all nat_cmp key es)
all_below key [] h = tt
all_below key (entry ∷ es) h = both (is_lt (nat_cmp key entry.0)) (below_all nat_cmp key es) (is_less _ h.0) (all_below key es h.1)

sorted_entries : (es : List (ℕ × List ℕ)) → IsStrictlySortedBy nat_cmp (keys_of es) → T (is_sorted nat_cmp es)
unfolding IsStrictlySortedBy
sorted_entries [] h = tt
sorted_entries (entry ∷ es) h = both (below_all nat_cmp entry.0 es) (is_sorted nat_cmp es) (all_below entry.0 es h.0)
    (sorted_entries es h.1)

same_entries : (es : List (ℕ × List ℕ)) → IsStrictlySortedBy nat_cmp (keys_of es) → entries (from_entries {R = nat_cmp} es) ≡ es
same_entries es h =
    let sorted = sorted_entries es h in
    ap entries (same_map nat_cmp_total nat_cmp-IsAntisymmetric (from_entries {R = nat_cmp} es) (from_sorted es)
    (λ q. get-from_entries nat_cmp_total es q ∙ sym (get-from_sorted nat_cmp es q sorted)))
    ∙ entries-from_sorted nat_cmp es sorted

texts : (es : List (ℕ × List ℕ)) → flat_map (λ entry. entry.1) es ≡ concat (values_of es)
texts [] = refl
texts (entry ∷ es) = ap (λ (later : List ℕ). entry.1 ++ later) (texts es)

pub kept_text : (es : List (ℕ × List ℕ)) → IsStrictlySortedBy nat_cmp (keys_of es) → all_rows_text (from_entries es) ≡ concat (values_of es)
kept_text es h = ap (flat_map (λ entry. entry.1)) (same_entries es h) ∙ texts es

-- a list whose length is tested

pub no_byte : (bytes : List ℕ) → (length bytes == 0) ≡ true → bytes ≡ []
no_byte bytes e = nil_from_length bytes (eqb-true (length bytes) 0 e)

pub some_byte : (copy bytes : List ℕ) → copy ≡ bytes → (length bytes == 0) ≡ false → copy ≡ [] → ⊥
some_byte copy bytes same e none = false≢true (sym e ∙ eq-eqb (length bytes) 0 (ap (λ (own : List ℕ). length own) (sym same ∙ none)))

-- texts one behind another

pub texts_more : {A : Type 0} (text : A → List ℕ) (items : List A) (item : A)
    → concat (map text items) ++ text item ≡ concat (map text (items ++ item ∷ []))
texts_more text [] item = sym (append-nil (text item))
texts_more text (first ∷ items) item = append_assoc (text first) (concat (map text items)) (text item)
    ∙ ap (λ (later : List ℕ). text first ++ later) (texts_more text items item)

pub one_more : {A B : Type 0} (value : A → B) (items : List A) (item : A) (rest : List B)
    → map value items ++ (value item ∷ rest) ≡ map value (items ++ item ∷ []) ++ rest
one_more value [] item rest = refl
one_more value (first ∷ items) item rest = ap (λ later. value first ∷ later) (one_more value items item rest)

-- one row more

module _ (own : RowMap) (id : ℕ) (old new : BTreeMap ℕ (List ℕ)) (view : from_entries {R = nat_cmp} old.entries ≡ own) where
  pub taken_out : (row : List ℕ) → row ≡ [] → Updates nat_cmp old new id None → from_entries new.entries ≡ set_row own id row
  taken_out row none updates =
      removed nat_cmp nat_cmp_total nat_cmp-IsAntisymmetric old new id updates
      ∙ ap (λ (rows : RowMap). finite.remove rows id) view ∙ ap (set_row own id) (sym none)

  some_row : (row : List ℕ) → (row ≡ [] → ⊥) → finite.insert own id row ≡ set_row own id row
  some_row [] some = absurd (some refl)
  some_row (byte ∷ bytes) some = refl

  pub put_in : (row : List ℕ) → (row ≡ [] → ⊥) → Updates nat_cmp old new id (Some row) → from_entries new.entries ≡ set_row own id row
  put_in row some updates =
      inserted nat_cmp nat_cmp_total nat_cmp-IsAntisymmetric old new id row updates
      ∙ ap (λ (rows : RowMap). finite.insert rows id row) view ∙ some_row row some

-- an id without a row

module _ (own : RowMap) (id : ℕ) (rows : BTreeMap ℕ (List ℕ)) (view : from_entries {R = nat_cmp} rows.entries ≡ own) where
  pub left_out : (row : List ℕ) → row ≡ [] → get nat_cmp rows id ≡ None → own ≡ set_row own id row
  left_out row none absent =
      same_map nat_cmp_total nat_cmp-IsAntisymmetric own (finite.remove own id)
      (λ q. elim (eq_by_cmp nat_cmp q id) as (λ b. eq_by_cmp nat_cmp q id ≡ b → finite.get own q ≡ cond b None (finite.get own q)) [
        | true ↦ λ e.
            ap (λ (at : ℕ). finite.get own at) (nat_cmp-IsAntisymmetric q id (tied (nat_cmp q id) e))
            ∙ ap (λ (map : RowMap). finite.get map id) (sym view)
            ∙ sym (found nat_cmp nat_cmp_total nat_cmp-IsAntisymmetric id rows.entries) ∙ absent
        | false ↦ λ e. refl
      ] refl
      ∙ sym (finite.get-remove nat_cmp_total own id q))
      ∙ ap (set_row own id) (sym none)
    where
      tied : (order : Ordering) → is_eq order ≡ true → order ≡ Equal
      tied Equal e = refl
      tied Less e = absurd (false≢true e)
      tied Greater e = absurd (false≢true e)
