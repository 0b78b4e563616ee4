-- What a search has found, mark by mark, part by part and level by level.
use Rattle.std.proofs.Common.{◌≡◌, ℕ, ◌+◌, ◌<◌, ◌≤◌, ◌==◌, Bool, true, false, cond, not, ◌&&◌, ◌||◌, List, [], ◌∷◌, ◌++◌, map, Option, Some}
use Rattle.std.proofs.Common.{None, refl, sym, ◌∙◌, ap, subst, inl, inr, arith}
use Rattle.std.specs.Prelude.{◌⊎◌, filter}
use Rattle.std.specs.Option.{option_map_or}
use denote.Ref.{Bor}
use Rattle.std.specs.Ordering.{is_eq, is_le, is_lt, eq_by_cmp, nat_cmp, ordering_then}
use Rattle.std.specs.declared.cmp.Ordering.TheVariants.{Less, Equal, Greater}
use Rattle.std.specs.declared.ops.Bound.TheVariants.{Excluded}
use Rattle.std.specs.BTreeMap.Range.{range_contains}
use Rattle.std.specs.BTreeSet.{BTreeSet, keys_between}
use Rattle.std.specs.Cmp.{nat_cmp_is, nat_cmp_total}
use Rattle.std.specs.FinMap as finite
use Rattle.std.specs.List.{AllByRecursion}
use Rattle.std.specs.Map.Iter.{deref}
use Rattle.std.proofs.lemmas.Bool.{cases_lt}
use Rattle.std.proofs.lemmas.Cmp.{tied_itself}
use Rattle.osm_base.specs.declared.values.place.GeoBox.{GeoBox}
use Rattle.osm_base.specs.map.Spots.{SpotOf, spot_cmp}
use Rattle.osm_base.specs.values.Key.{KeyOf}
use Rattle.osm_base.specs.values.KeyOrder.{key_cmp}
use Rattle.osm_base.proofs.SpotOrder.{spot_cmp_total, spot_cmp-IsAntisymmetric}
use Rattle.grid_index.specs.declared.cells.Cells.{Cells}
use Rattle.grid_index.specs.declared.marks.Mark.{Mark}
use Rattle.grid_index.specs.Cells as cell
use Rattle.grid_index.specs.Grid.{BoxMap, is_wanted, wanted}
use Rattle.grid_index.specs.Marks.{has, mark_cmp, mark_number}
use Rattle.grid_index.specs.Search.{CoversParts, Grows, IsDone, IsPart, spot_of, with_passed}
use Rattle.grid_index.proofs.Marked.{same_mark, same_spot, spot_itself}
use Rattle.grid_index.proofs.Order.{tree_cmp, tree_cmp-mark_cmp}

-- ---- one spot more

pub get-wanted : (test : GeoBox → Bool) (boxes : BoxMap) (table : ℕ) (spot : SpotOf)
    → finite.get (wanted test boxes table) spot ≡ cond (is_wanted test boxes table spot) (finite.get boxes spot) None
get-wanted test boxes table spot =
    finite.get-retain_keys boxes (is_wanted test boxes table) spot
    (λ other tie. ap (is_wanted test boxes table) (sym (spot_cmp-IsAntisymmetric spot other tie)))

nat_itself : (n : ℕ) → (n == n) ≡ true
nat_itself n = grind (arith)

-- what a spot of the table is wanted for
wanted_at : (test : GeoBox → Bool) (boxes : BoxMap) (table : ℕ) (key : KeyOf) (box : Option GeoBox)
    → finite.get boxes (record { table = table; key = key }) ≡ box
    → finite.get (wanted test boxes table) (record { table = table; key = key }) ≡ cond (option_map_or test box false) box None
wanted_at test boxes table key box e =
    get-wanted test boxes table (record { table = table; key = key })
    ∙ ap (λ b. cond (b && option_map_or test (finite.get boxes (record { table = table; key = key })) false)
    (finite.get boxes (record { table = table; key = key })) None) (nat_itself table)
    ∙ ap (λ found. cond (option_map_or test found false) found None) e

pub record Looks (W old new : BoxMap) (spot : SpotOf) : Type 0 where
  pub part : IsPart W new
  pub keeps : (other : SpotOf) → IsDone W old other → IsDone W new other
  pub done : IsDone W new spot

done_of_none : (W found : BoxMap) (spot : SpotOf) → IsPart W found → finite.get W spot ≡ None → IsDone W found spot
done_of_none W found spot h none = elim (h spot) [ inl nothing ↦ nothing ∙ sym none | inr done ↦ done ]

same_looks : (W found : BoxMap) (spot : SpotOf) → IsPart W found → finite.get W spot ≡ None → Looks W found found spot
same_looks W found spot h none = record { part = h; keeps = λ other done. done; done = done_of_none W found spot h none }

insert_looks : (W found : BoxMap) (spot : SpotOf) (box : GeoBox) → IsPart W found → finite.get W spot ≡ Some box
    → Looks W found (finite.insert found spot box) spot
insert_looks W found spot box h here = record {
  part = λ other. at_other other (λ b. (b ≡ None) ⊎ (b ≡ finite.get W other)) (inr) (h other);
  keeps = λ other done. at_other other (λ b. b ≡ finite.get W other) (λ e. e) done;
  done = finite.get-insert spot_cmp_total found spot box spot ∙ ap (λ b. cond b (Some box) (finite.get found spot)) (spot_itself spot)
      ∙ sym here;
}
  where
    at_other : (other : SpotOf) (P : Option GeoBox → Type 0) → (Some box ≡ finite.get W other → P (Some box)) → P (finite.get found other)
        → P (finite.get (finite.insert found spot box) other)
    at_other other P new old = subst P (sym (finite.get-insert spot_cmp_total found spot box other))
        (go (eq_by_cmp spot_cmp other spot) refl)
      where
        go : (b : Bool) → eq_by_cmp spot_cmp other spot ≡ b → P (cond b (Some box) (finite.get found other))
        go true e = new (subst (λ one. Some box ≡ finite.get W one) (sym (same_spot other spot e)) (sym here))
        go false e = old

pub looks : (test : GeoBox → Bool) (boxes found : BoxMap) (table : ℕ) (key : KeyOf) → IsPart (wanted test boxes table) found
    → Looks (wanted test boxes table) found (with_passed test found (record { table = table; key = key })
    (finite.get boxes (record { table = table; key = key }))) (record { table = table; key = key })
looks test boxes found table key h = go (finite.get boxes (record { table = table; key = key })) refl
  where
    go : (box : Option GeoBox) → finite.get boxes (record { table = table; key = key }) ≡ box
        → Looks (wanted test boxes table) found (with_passed test found (record { table = table; key = key }) box)
        (record { table = table; key = key })
    go None e = same_looks (wanted test boxes table) found (record { table = table; key = key }) h (wanted_at test boxes table key None e)
    go (Some box) e = passed (test box) refl
      where
        passed : (b : Bool) → test box ≡ b → Looks (wanted test boxes table) found
            (cond b (finite.insert found (record { table = table; key = key }) box) found) (record { table = table; key = key })
        passed true f = insert_looks (wanted test boxes table) found (record { table = table; key = key }) box h
            (wanted_at test boxes table key (Some box) e ∙ ap (λ b. cond b (Some box) None) f)
        passed false f = same_looks (wanted test boxes table) found (record { table = table; key = key }) h
            (wanted_at test boxes table key (Some box) e ∙ ap (λ b. cond b (Some box) None) f)

-- ---- the marks of some parts

pub record Walked (W old new : BoxMap) (table : ℕ) (yielded : List (Bor Mark)) : Type 0 where
  pub part : IsPart W new
  pub keeps : (spot : SpotOf) → IsDone W old spot → IsDone W new spot
  pub seen : AllByRecursion (λ mark. mark.now.table ≡ table → IsDone W new (spot_of mark.now)) yielded

pub none_walked : (W found : BoxMap) (table : ℕ) → IsPart W found → Walked W found found table []
none_walked W found table h = record { part = h; keeps = λ spot done. done; seen = tt }

each_more : (P Q : Bor Mark → Type 0) (xs : List (Bor Mark)) (x : Bor Mark) → ((y : Bor Mark) → P y → Q y) → AllByRecursion P xs → Q x
    → AllByRecursion Q (xs ++ x ∷ [])
each_more P Q [] x f h q = (q, tt)
each_more P Q (y ∷ ys) x f h q = (f y h.0, each_more P Q ys x f h.1 q)

pub one_walked : (test : GeoBox → Bool) (boxes old mid new : BoxMap) (table : ℕ) (yielded : List (Bor Mark)) (mark : Bor Mark)
    → Walked (wanted test boxes table) old mid table yielded
    → new ≡ with_passed test mid (record { table = table; key = mark.now.key })
    (finite.get boxes (record { table = table; key = mark.now.key }))
    → Walked (wanted test boxes table) old new table (yielded ++ mark ∷ [])
one_walked test boxes old mid new table yielded mark walked e =
    let W = wanted test boxes table in
    let spot : SpotOf = record { table = table; key = mark.now.key } in
    let looked : Looks W mid new spot = subst (λ found. Looks W mid found spot) (sym e)
    (looks test boxes mid table mark.now.key walked.part) in
    record {
      part = looked.part;
      keeps = λ other done. looked.keeps other (walked.keeps other done);
      seen = each_more (λ one. one.now.table ≡ table → IsDone W mid (spot_of one.now))
          (λ one. one.now.table ≡ table → IsDone W new (spot_of one.now)) yielded mark
          (λ one seen same. looked.keeps (spot_of one.now) (seen same)) walked.seen
          (λ same. subst (IsDone W new) (λ i. record { table = sym same i; key = mark.now.key }) looked.done);
    }

-- where each of some marks is seen, one that is among them is
at_mark : (P : Mark → Type 0) (marks : List Mark) (mark : Mark) → AllByRecursion P marks → has marks mark ≡ true → P mark
at_mark P [] mark all e = absurd (cc)
at_mark P (one ∷ marks) mark all e = go (is_eq (mark_cmp mark one)) refl (λ there. at_mark P marks mark all.1 there)
  where
    go : (b : Bool) → is_eq (mark_cmp mark one) ≡ b → (has marks mark ≡ true → P mark) → P mark
    go true same rest = subst P (sym (same_mark mark one same)) all.0
    go false other rest = rest (sym (ap (λ b. b || has marks mark) other) ∙ e)

shown_all : (P : Mark → Type 0) (yielded : List (Bor Mark)) → AllByRecursion (λ mark. P mark.now) yielded
    → AllByRecursion P (map deref yielded)
shown_all P [] h = tt
shown_all P (mark ∷ yielded) h = (h.0, shown_all P yielded h.1)

-- a mark that passes a test is among those that pass it
has-filter : (test : Mark → Bool) (marks : List Mark) (mark : Mark) → test mark ≡ true → has marks mark ≡ true
    → has (filter test marks) mark ≡ true
has-filter test [] mark passes e = e
has-filter test (one ∷ marks) mark passes e = go (is_eq (mark_cmp mark one)) refl (λ there. has-filter test marks mark passes there)
  where
    or_true : (a b : Bool) → b ≡ true → (a || b) ≡ true
    or_true true b e = refl
    or_true false b e = e

    kept : (b : Bool) → has (filter test marks) mark ≡ true → has (cond b (one ∷ filter test marks) (filter test marks)) mark ≡ true
    kept true h = or_true (is_eq (mark_cmp mark one)) (has (filter test marks) mark) h
    kept false h = h

    go : (b : Bool) → is_eq (mark_cmp mark one) ≡ b → (has marks mark ≡ true → has (filter test marks) mark ≡ true)
        → has (cond (test one) (one ∷ filter test marks) (filter test marks)) mark ≡ true
    go true same rest =
        let passed : test one ≡ true = ap test (sym (same_mark mark one same)) ∙ passes in
        ap (λ b. has (cond b (one ∷ filter test marks) (filter test marks)) mark) passed ∙ ap (λ b. b || has (filter test marks) mark) same
    go false other rest = kept (test one) (rest (sym (ap (λ b. b || has marks mark) other) ∙ e))

equal_tables : (one other table : ℕ) → one ≡ table → other ≡ table → nat_cmp one other ≡ Equal
equal_tables one other table e f = ap (nat_cmp one) (f ∙ sym e) ∙ tied_itself nat_cmp_total one

pub in_range : (table first last : ℕ) (lo hi mark : Mark) → lo.table ≡ table → lo.part < first → hi.table ≡ table → last < hi.part
    → mark.table ≡ table → first ≤ mark.part → mark.part ≤ last
    → range_contains mark_cmp (Excluded lo) (Excluded hi) mark ≡ true
in_range table first last lo hi mark a b c d e f g =
    let front : mark_cmp lo mark ≡ Less = ap (λ o. ordering_then o (ordering_then (nat_cmp lo.part mark.part) (key_cmp lo.key mark.key)))
    (equal_tables lo.table mark.table table a e)
    ∙ ap (λ o. ordering_then o (key_cmp lo.key mark.key)) (sym (nat_cmp_is lo.part mark.part Less (omega (arith, b, f)))) in
    let back : mark_cmp hi mark ≡ Greater = ap (λ o. ordering_then o (ordering_then (nat_cmp hi.part mark.part) (key_cmp hi.key mark.key)))
    (equal_tables hi.table mark.table table c e)
    ∙ ap (λ o. ordering_then o (key_cmp hi.key mark.key)) (sym (nat_cmp_is hi.part mark.part Greater (omega (arith, d, g)))) in
    ap (λ o. is_lt o && not (is_le (mark_cmp hi mark))) front ∙ ap (λ o. not (is_le o)) back

pub parts_covered : (marks : BTreeSet Mark) (W old new : BoxMap) (table first last : ℕ) (lo hi : Mark) (yielded : List (Bor Mark))
    → Walked W old new table yielded
    → map deref yielded ≡ keys_between tree_cmp (Excluded lo) (Excluded hi) marks → lo.table ≡ table → lo.part < first → hi.table ≡ table
    → last < hi.part
    → CoversParts marks.keys table W new first last
parts_covered marks W old new table first last lo hi yielded walked shown a b c d mark there same e f =
    let all = shown_all (λ one. one.table ≡ table → IsDone W new (spot_of one)) yielded walked.seen in
    let between = subst (AllByRecursion (λ one. one.table ≡ table → IsDone W new (spot_of one)))
    (shown ∙ ap (λ cmp. keys_between cmp (Excluded lo) (Excluded hi) marks) tree_cmp-mark_cmp) all in
    at_mark (λ one. one.table ≡ table → IsDone W new (spot_of one))
    (filter (range_contains mark_cmp (Excluded lo) (Excluded hi)) marks.keys) mark between
    (has-filter (range_contains mark_cmp (Excluded lo) (Excluded hi)) marks.keys mark
    (in_range table first last lo hi mark a b c d same e f) there) same

-- ---- the columns of a level

pub record Levelled (marks : List Mark) (table : ℕ) (W old new : BoxMap) (level : ℕ) (cells : Cells) (next : ℕ) : Type 0 where
  pub part : IsPart W new
  pub keeps : (spot : SpotOf) → IsDone W old spot → IsDone W new spot
  pub covers : (column : ℕ) → cell.part level cells.west ≤ column → column < next
      → CoversParts marks table W new (mark_number level column (cell.part level cells.south))
      (mark_number level column (cell.part level cells.north))

pub none_levelled : (marks : List Mark) (table : ℕ) (W found : BoxMap) (level : ℕ) (cells : Cells) (next : ℕ)
    → next ≡ cell.part level cells.west → IsPart W found
    → Levelled marks table W found found level cells next
none_levelled marks table W found level cells next e h =
    record { part = h; keeps = λ spot done. done; covers = λ column west below. absurd (omega (arith, e, west, below)) }

pub one_levelled : (marks : List Mark) (table : ℕ) (W old mid new : BoxMap) (level : ℕ) (cells : Cells) (next first last : ℕ)
    → Levelled marks table W old mid level cells next
    → first ≡ mark_number level next (cell.part level cells.south) → last ≡ mark_number level next (cell.part level cells.north)
    → Grows W mid new → CoversParts marks table W new first last
    → Levelled marks table W old new level cells (next + 1)
one_levelled marks table W old mid new level cells next first last levelled e f grows covered = record {
  part = grows.part;
  keeps = λ spot done. grows.keeps spot (levelled.keeps spot done);
  covers = λ column west below mark there same a b. elim (cases_lt column next) [
    | inl earlier ↦ grows.keeps (spot_of mark) (levelled.covers column west earlier mark there same a b)
    | inr later ↦
        (let here : column ≡ next = omega (arith, below, later) in
        covered mark there same
        (subst (λ n. n ≤ mark.part) (ap (λ column. mark_number level column (cell.part level cells.south)) here ∙ sym e) a)
        (subst (λ n. mark.part ≤ n) (ap (λ column. mark_number level column (cell.part level cells.north)) here ∙ sym f) b))
  ];
}
