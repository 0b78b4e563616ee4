-- Trees of rows and of changes, as they are written.
use denote.Ref.{Bor}
use Rattle.std.proofs.Common.{◌≡◌, ℕ, Bool, true, false, T, List, [], ◌∷◌, ◌++◌, ◌&&◌, Option, Some, refl, sym, ap, ◌∙◌, subst, append_assoc, append-nil}
use Rattle.std.specs.Prelude.{map}
use Rattle.std.proofs.lemmas.List.{map-append}
use Rattle.std.specs.BTreeMap.{BTreeMap, IsOrdered}
use Rattle.std.specs.declared.cmp.Ordering.{Ordering}
use Rattle.std.specs.declared.cmp.Ordering.TheVariants.{Less}
use Rattle.std.specs.FinMap as finite
use Rattle.std.specs.FinMap.{is_sorted}
use Rattle.std.specs.FinMap.Entries.{below_all}
use Rattle.std.specs.List.{AllByRecursion}
use Rattle.std.specs.List.Sorted.{IsStrictlySortedBy}
use Rattle.std.specs.Ordering.{is_lt}
use Rattle.osm_base.specs.declared.values.row.Row.{Row}
use Rattle.osm_base.specs.declared.values.row.RowChange.{RowChange}
use Rattle.osm_base.specs.map.Spots.{SpotOf, spot_cmp}
use Rattle.osm_base.specs.map.SpotTree.{rows_in}
use Rattle.std.specs.Map.Iter.{deref_pair}
use Rattle.delta_feed.specs.Text.{ended_line, entry_lines, row_lines, rows_at, table_entries, ended_lines, told_entries}
use Rattle.delta_feed.specs.Writing.{lent_entries, told_by}
use Rattle.osm_base.proofs.SpotOrder.{spot_cmp_total, spot_cmp-IsAntisymmetric, tree_cmp, tree_cmp-spot_cmp}

both : (a b : Bool) → T a → T b → T (a && b)
both true b s t = t
both false b s t = absurd s

below_lt : (o : Ordering) → o ≡ Less → T (is_lt o)
below_lt o is = subst (λ own. T (is_lt own)) (sym is) tt

module _ {X : Type 0} where
  keys_below : (spot : SpotOf) (entries : List (SpotOf × X))
      → AllByRecursion (λ other. spot_cmp spot other ≡ Less) (map (λ entry. entry.0) entries) → T (below_all spot_cmp spot entries)
  keys_below spot [] h = tt
  keys_below spot (entry ∷ entries) h =
      both (is_lt (spot_cmp spot entry.0)) (below_all spot_cmp spot entries) (below_lt (spot_cmp spot entry.0) h.0) (keys_below spot entries h.1)

  keys_rise : (entries : List (SpotOf × X)) → IsStrictlySortedBy spot_cmp (map (λ entry. entry.0) entries) → T (is_sorted spot_cmp entries)
  unfolding IsStrictlySortedBy
  keys_rise [] h = tt
  keys_rise (entry ∷ entries) h = both (below_all spot_cmp entry.0 entries) (is_sorted spot_cmp entries) (keys_below entry.0 entries h.0)
      (keys_rise entries h.1)

  -- the entries of the map of a tree are its own
  pub entries_are : (entries : List (SpotOf × X)) → T (is_sorted spot_cmp entries) → finite.entries (finite.from_entries {R = spot_cmp} entries) ≡ entries
  entries_are entries sorted =
      ap finite.entries (finite.same_map spot_cmp_total spot_cmp-IsAntisymmetric (finite.from_entries entries) (finite.from_sorted entries)
      (λ q. finite.get-from_entries spot_cmp_total entries q ∙ sym (finite.get-from_sorted spot_cmp entries q sorted)))
      ∙ finite.entries-from_sorted spot_cmp entries sorted

  pub tree_entries : (tree : BTreeMap SpotOf X) → IsOrdered tree_cmp tree → finite.entries (finite.from_entries {R = spot_cmp} tree.entries) ≡ tree.entries
  tree_entries tree ordered = entries_are tree.entries (keys_rise tree.entries (subst (λ cmp. IsOrdered cmp tree) tree_cmp-spot_cmp ordered))

-- ---- the text of what stands at spots, one behind the other

pub text_append : (lines others : List (List ℕ)) → ended_lines (lines ++ others) ≡ ended_lines lines ++ ended_lines others
text_append [] others = refl
text_append (line ∷ lines) others = ap (λ own. ended_line line ++ own) (text_append lines others)
    ∙ sym (append_assoc (ended_line line) (ended_lines lines) (ended_lines others))

pub entries_more : (entries : List (SpotOf × Option Row)) (spot : SpotOf) (row : Option Row)
    → ended_lines (entry_lines (entries ++ (spot, row) ∷ [])) ≡ ended_lines (entry_lines entries) ++ ended_lines (row_lines spot row)
entries_more [] spot row = ap ended_lines (append-nil (row_lines spot row))
entries_more (entry ∷ entries) spot row =
    text_append (row_lines entry.0 entry.1) (entry_lines (entries ++ (spot, row) ∷ []))
    ∙ ap (λ own. ended_lines (row_lines entry.0 entry.1) ++ own) (entries_more entries spot row)
    ∙ sym (append_assoc (ended_lines (row_lines entry.0 entry.1)) (ended_lines (entry_lines entries)) (ended_lines (row_lines spot row)))
    ∙ ap (λ own. own ++ ended_lines (row_lines spot row)) (sym (text_append (row_lines entry.0 entry.1) (entry_lines entries)))

-- entries as they came, and what is written of them
abbrev pub came_changes : List (Bor SpotOf × Bor RowChange) → List (SpotOf × Option Row)
came_changes yielded = map (λ entry. (entry.0.now, entry.1.now.row)) yielded

pub changes_more : (out old : List ℕ) (yielded : List (Bor SpotOf × Bor RowChange)) (spot : Bor SpotOf) (change : Bor RowChange)
    → out ≡ old ++ ended_lines (entry_lines (came_changes yielded))
    → out ++ ended_lines (row_lines spot.now change.now.row) ≡ old ++ ended_lines (entry_lines (came_changes (yielded ++ (spot, change) ∷ [])))
changes_more out old yielded spot change is =
    ap (λ own. own ++ ended_lines (row_lines spot.now change.now.row)) is
    ∙ append_assoc old (ended_lines (entry_lines (came_changes yielded))) (ended_lines (row_lines spot.now change.now.row))
    ∙ ap (λ own. old ++ own) (sym (entries_more (came_changes yielded) spot.now change.now.row)
    ∙ ap (λ own. ended_lines (entry_lines own)) (sym (map-append (λ (entry : Bor SpotOf × Bor RowChange). (entry.0.now, entry.1.now.row)) yielded ((spot, change) ∷ []))))

lent_are : (yielded : List (Bor SpotOf × Bor Row)) → lent_entries yielded ≡ table_entries (map deref_pair yielded)
lent_are [] = refl
lent_are (entry ∷ yielded) = ap (λ own. (entry.0.now, Some entry.1.now) ∷ own) (lent_are yielded)

came_changes_are : (yielded : List (Bor SpotOf × Bor RowChange)) → came_changes yielded ≡ told_entries (map deref_pair yielded)
came_changes_are [] = refl
came_changes_are (entry ∷ yielded) = ap (λ own. (entry.0.now, entry.1.now.row) ∷ own) (came_changes_are yielded)

-- all that came
pub rows_told : (yielded : List (Bor SpotOf × Bor Row)) (rows : BTreeMap SpotOf Row) → map deref_pair yielded ≡ rows.entries → IsOrdered tree_cmp rows
    → lent_entries yielded ≡ rows_at (rows_in rows)
rows_told yielded rows all ordered = lent_are yielded ∙ ap table_entries (all ∙ sym (tree_entries rows ordered))

pub changes_told : (yielded : List (Bor SpotOf × Bor RowChange)) (told : BTreeMap SpotOf RowChange) → map deref_pair yielded ≡ told.entries
    → IsOrdered tree_cmp told → came_changes yielded ≡ told_entries (finite.entries (told_by told))
changes_told yielded told all ordered = came_changes_are yielded ∙ ap told_entries (all ∙ sym (tree_entries told ordered))
