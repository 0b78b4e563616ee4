-- Rows that are put among others, record by record.
use Rattle.std.proofs.Common.{◌≡◌, ◌≢◌, ◌⊎◌, inl, inr, ◌<◌, ◌≤◌, ◌+◌, ◌%◌, zero, suc, ℕ, Bool, true, false, cond, List, [], ◌∷◌, length}
use Rattle.std.proofs.Common.{take, get_or, Option, Some, None, refl, sym, ap, subst, ◌∙◌, arith, nat_eq}
use Rattle.std.specs.List.{AllByRecursion}
use Rattle.std.specs.Option.{IsSome}
use Rattle.std.specs.Prelude.{◌==◌, ◌&&◌, ◌++◌, T, if◌then◌else◌}
use Rattle.std.specs.Cmp.{Equal-is}
use Rattle.std.specs.Ordering.{eq_by_cmp, is_eq, is_lt, nat_cmp}
use Rattle.std.specs.declared.cmp.Ordering.{Ordering}
use Rattle.std.specs.FinMap.Entries.{below_all, find, is_sorted}
use Rattle.std.specs.FinMap as map
use Rattle.std.specs.FinMap.{nat_cmp-IsAntisymmetric}
use Rattle.std.proofs.lemmas.Bool.{cases_eq, cases_order}
use Rattle.std.proofs.Math.Nat.{mod-eq_of_lt}
use Rattle.std.proofs.lemmas.Bool.Decides.{nat_tests}
use Rattle.std.proofs.lemmas.Cmp.{tied_itself}
use Rattle.std.proofs.lemmas.List.{take_more}
use Rattle.osm_base.specs.declared.values.row.Row.{Row}
use Rattle.osm_base.specs.declared.values.row.TableRow.{TableRow}
use Rattle.osm_base.specs.map.Spots.{SpotOf, TableMap, spot_cmp}
use Rattle.osm_base.specs.values.Key.{KeyOf}
use Rattle.osm_base.proofs.SpotOrder.{spot_cmp_total, spot_cmp-IsAntisymmetric}
use Rattle.bucket_records.proofs.MapLaws.{apart_of, equal_of}
use Rattle.bucket_store.specs.Image.{Image, IsBucketOf}
use Rattle.bucket_store.proofs.Images.{part_gives}
use Rattle.style_read.specs.declared.style.TableDef.{TableDef}
use Rattle.value_bytes.specs.Forms.{IsNoValue, NeedsFor, Spells}
use Rattle.value_bytes.specs.declared.fault.ValueFault.{ValueFault}
use Rattle.value_bytes.specs.declared.fault.ValueFault.TheVariants.{NotSpelled, OutOfMemory}
use Rattle.row_store.specs.Rows.{AreRows, rows_bytes}
use Rattle.row_store.specs.Loading.{Among, AreTold, Fills, IsTold, IsWithin, RowsBySpot, is_wanted, key_of, row_or, spot_at, with_all}
use Rattle.row_store.specs.Loading.{with_wanted}

pub decide : (b : Bool) → (b ≡ true) ⊎ (b ≡ false)
decide true = inl refl
decide false = inr refl

either_way : {X : Type 0} (b : Bool) (x : X) → cond b x x ≡ x
either_way true x = refl
either_way false x = refl

twice : {X : Type 0} (b : Bool) (x y z : X) → cond b x (cond b y z) ≡ cond b x z
twice true x y z = refl
twice false x y z = refl

abbrev spot : ℕ → KeyOf → SpotOf
spot table key = record { table = table; key = key }

pub spot_same : (one other : SpotOf) → one ≡ other → eq_by_cmp spot_cmp one other ≡ true
spot_same one other same = subst (λ (s : SpotOf). eq_by_cmp spot_cmp one s ≡ true) same (ap is_eq (tied_itself spot_cmp_total one))

pub spot_apart : (one other : SpotOf) → (one ≡ other → ⊥) → eq_by_cmp spot_cmp one other ≡ false
spot_apart one other apart = elim (decide (eq_by_cmp spot_cmp one other)) [
  | inl same ↦ absurd (apart (spot_cmp-IsAntisymmetric one other ((Equal-is (spot_cmp one other)).0 same)))
  | inr differs ↦ differs
]

same_or_apart : (key other : KeyOf) → (key ≡ other) ⊎ (key ≡ other → ⊥)
same_or_apart key other = elim (decide (eq_by_cmp spot_cmp (spot 0 key) (spot 0 other))) [
  | inl same ↦ inl (ap (λ (s : SpotOf). s.key)
      (spot_cmp-IsAntisymmetric (spot 0 key) (spot 0 other) ((Equal-is (spot_cmp (spot 0 key) (spot 0 other))).0 same)))
  | inr differs ↦ inr (λ same. absurd (let yes = spot_same (spot 0 key) (spot 0 other) (ap (spot 0) same) in cc (yes, differs)))
]

pub met : (one other : ℕ) → one ≡ other → nat_eq one other ≡ true
met one other same = grind (arith, nat_tests)

pub unmet : (one other : ℕ) → one ≢ other → nat_eq one other ≡ false
unmet one other differs = grind (arith, nat_tests)

-- a row more, if it is wanted
got_wanted : (b : Bool) (tables : TableMap) (one own : SpotOf) (row : Row)
    → map.get (if b then map.insert tables own row else tables) one
    ≡ cond b (cond (eq_by_cmp spot_cmp one own) (Some row) (map.get tables one)) (map.get tables one)
got_wanted true tables one own row = map.get-insert spot_cmp_total tables own row one
got_wanted false tables one own row = refl

-- the rows of the key
got_here : (wanted : Option ℕ) (key : KeyOf) (rows : List TableRow) (tables : TableMap) (table : ℕ)
    → map.get (with_all wanted key rows tables) (spot table key)
    ≡ cond (is_wanted wanted table) (row_or rows table (map.get tables (spot table key))) (map.get tables (spot table key))
got_here wanted key [] tables table = sym (either_way (is_wanted wanted table) (map.get tables (spot table key)))
got_here wanted key (row ∷ rows) tables table =
    let x = map.get tables (spot table key) in
    let rest = cond (is_wanted wanted table) (row_or rows table x) x in
    let before = got_here wanted key rows tables table in
    got_wanted (is_wanted wanted row.table) (with_all wanted key rows tables) (spot table key) (spot row.table key) row.row
    ∙ ap (λ (o : Option Row). cond (is_wanted wanted row.table)
    (cond (eq_by_cmp spot_cmp (spot table key) (spot row.table key)) (Some row.row) o) o) before
    ∙ elim (cases_eq row.table table) [
      | inl same ↦
          ap (λ (b : Bool). cond (is_wanted wanted row.table) (cond b (Some row.row) rest) rest)
          (spot_same (spot table key) (spot row.table key) (ap (λ (t : ℕ). spot t key) (sym same)))
          ∙ ap (λ (t : ℕ). cond (is_wanted wanted t) (Some row.row) rest) same
          ∙ twice (is_wanted wanted table) (Some row.row) (row_or rows table x) x
          ∙ ap (λ (b : Bool). cond (is_wanted wanted table) (cond b (Some row.row) (row_or rows table x)) x)
          (sym (met row.table table same))
      | inr apart ↦
          ap (λ (b : Bool). cond (is_wanted wanted row.table) (cond b (Some row.row) rest) rest)
          (spot_apart (spot table key) (spot row.table key) (λ same. apart (ap (λ (s : SpotOf). s.table) (sym same))))
          ∙ either_way (is_wanted wanted row.table) rest
          ∙ ap (λ (b : Bool). cond (is_wanted wanted table) (cond b (Some row.row) (row_or rows table x)) x)
          (sym (unmet row.table table apart))
    ]

-- other keys have theirs
got_apart : (wanted : Option ℕ) (key : KeyOf) (rows : List TableRow) (tables : TableMap) (one : SpotOf) → (one.key ≡ key → ⊥)
    → map.get (with_all wanted key rows tables) one ≡ map.get tables one
got_apart wanted key [] tables one apart = refl
got_apart wanted key (row ∷ rows) tables one apart =
    let x = map.get (with_all wanted key rows tables) one in
    got_wanted (is_wanted wanted row.table) (with_all wanted key rows tables) one (spot row.table key) row.row
    ∙ ap (λ (b : Bool). cond (is_wanted wanted row.table) (cond b (Some row.row) x) x)
    (spot_apart one (spot row.table key) (λ same. apart (ap (λ (s : SpotOf). s.key) same)))
    ∙ either_way (is_wanted wanted row.table) x
    ∙ got_apart wanted key rows tables one apart

-- the last of some rows is put first
pub all_push : (wanted : Option ℕ) (key : KeyOf) (front : List TableRow) (row : TableRow) (tables : TableMap)
    → with_all wanted key (front ++ row ∷ []) tables ≡ with_all wanted key front (with_wanted wanted key row tables)
all_push wanted key [] row tables = refl
all_push wanted key (first ∷ front) row tables =
    ap (λ (t : TableMap). with_wanted wanted key first t) (all_push wanted key front row tables)

-- a row that is there is there again
or_again : (b : Bool) (own : Option Row) (rows : List TableRow) (table : ℕ)
    → row_or rows table (row_or rows table None) ≡ row_or rows table None
    → cond b own (row_or rows table (cond b own (row_or rows table None))) ≡ cond b own (row_or rows table None)
or_again true own rows table same = refl
or_again false own rows table same = same

again : (rows : List TableRow) (table : ℕ) → row_or rows table (row_or rows table None) ≡ row_or rows table None
again [] table = refl
again (row ∷ rows) table = or_again (nat_eq row.table table) (Some row.row) rows table (again rows table)

abbrev told : Option ℕ → List TableRow → ℕ → Option Row
told wanted own table = if is_wanted wanted table then row_or own table None else None

told_again : (b : Bool) (own : List TableRow) (table : ℕ)
    → cond b (row_or own table (cond b (row_or own table None) None)) (cond b (row_or own table None) None)
    ≡ cond b (row_or own table None) None
told_again true own table = again own table
told_again false own table = refl

module _ (which : ℕ) (rows : RowsBySpot) where
  -- a record fills in its rows
  module _ (wanted : Option ℕ) (number : ℕ) (own : List TableRow) (old new : TableMap)
      (is : new ≡ with_all wanted (key_of which number) own old)
      (at : (table : ℕ) → rows (spot_at which number table) ≡ told wanted own table) where
    here : (table : ℕ) → map.get new (spot_at which number table)
        ≡ cond (is_wanted wanted table) (row_or own table (map.get old (spot_at which number table)))
        (map.get old (spot_at which number table))
    here table = ap (λ (t : TableMap). map.get t (spot_at which number table)) is ∙ got_here wanted (key_of which number) own old table

    there : (one : SpotOf) → (one.key ≡ key_of which number → ⊥) → map.get new one ≡ map.get old one
    there one apart = ap (λ (t : TableMap). map.get t one) is ∙ got_apart wanted (key_of which number) own old one apart

    kept_here : (table : ℕ) → map.get old (spot_at which number table) ≡ rows (spot_at which number table)
        → map.get new (spot_at which number table) ≡ rows (spot_at which number table)
    kept_here table same =
        here table
        ∙ ap (λ (o : Option Row). cond (is_wanted wanted table) (row_or own table o) o) (same ∙ at table)
        ∙ told_again (is_wanted wanted table) own table
        ∙ sym (at table)

    new_here : (table : ℕ) → map.get old (spot_at which number table) ≡ None
        → map.get new (spot_at which number table) ≡ rows (spot_at which number table)
    new_here table none =
        here table ∙ ap (λ (o : Option Row). cond (is_wanted wanted table) (row_or own table o) o) none ∙ sym (at table)

    placed : (one : SpotOf) → one.key ≡ key_of which number → spot_at which number one.table ≡ one
    placed one same = λ i. record { table = one.table; key = sym same i }

    keeps_one : (one : SpotOf) → map.get old one ≡ rows one → map.get new one ≡ rows one
    keeps_one one same = elim (same_or_apart one.key (key_of which number)) [
      | inl mine ↦
          subst (λ (s : SpotOf). map.get new s ≡ rows s) (placed one mine)
          (kept_here one.table (subst (λ (s : SpotOf). map.get old s ≡ rows s) (sym (placed one mine)) same))
      | inr apart ↦ there one apart ∙ same
    ]

    within_one : IsWithin rows old → IsWithin rows new
    within_one within one = elim (within one) [
      | inl same ↦ inl (keeps_one one same)
      | inr none ↦ elim (same_or_apart one.key (key_of which number)) [
        | inl mine ↦
            inl (subst (λ (s : SpotOf). map.get new s ≡ rows s) (placed one mine)
            (new_here one.table (subst (λ (s : SpotOf). map.get old s ≡ None) (sym (placed one mine)) none)))
        | inr apart ↦ inr (there one apart ∙ none)
      ]
    ]

    gives_one : IsWithin rows old → (table : ℕ) → map.get new (spot_at which number table) ≡ rows (spot_at which number table)
    gives_one within table = elim (within (spot_at which number table)) [
      | inl same ↦ kept_here table same
      | inr none ↦ new_here table none
    ]

    pub fills_one : Fills which rows (λ n. number ≡ n) old new
    fills_one = record {
      keeps = keeps_one;
      within = within_one;
      gives = λ within n same table. subst (λ (k : ℕ). map.get new (spot_at which k table) ≡ rows (spot_at which k table)) same
          (gives_one within table);
    }

  -- nothing was put
  pub fills_none : (Part : ℕ → Type 0) (tables : TableMap) → ((n : ℕ) → Part n → ⊥) → Fills which rows Part tables tables
  fills_none Part tables none = record {
    keeps = λ one same. same;
    within = λ within. within;
    gives = λ within n part table. absurd (none n part);
  }

  -- one after another
  pub fills_then : (One Two All : ℕ → Type 0) (old mid new : TableMap) → Fills which rows One old mid → Fills which rows Two mid new
      → ((n : ℕ) → All n → One n ⊎ Two n) → Fills which rows All old new
  fills_then One Two All old mid new first second split = record {
    keeps = λ one same. second.keeps one (first.keeps one same);
    within = λ within. second.within (first.within within);
    gives = λ within n part table. elim (split n part) [
      | inl one ↦ second.keeps (spot_at which n table) (first.gives within n one table)
      | inr two ↦ second.gives (first.within within) n two table
    ];
  }

  pub fills_fewer : (One All : ℕ → Type 0) (old new : TableMap) → Fills which rows All old new → ((n : ℕ) → One n → All n)
      → Fills which rows One old new
  fills_fewer One All old new fills leads = record {
    keeps = fills.keeps;
    within = fills.within;
    gives = λ within n part. fills.gives within n (leads n part);
  }

-- rows of another map stay, and come nowhere wrong
pub fills_beside : (one other : ℕ) (rows : RowsBySpot) (Part Two : ℕ → Type 0) (old mid new : TableMap) → Fills one rows Part old mid
    → Fills other rows Two mid new
    → Fills one rows Part old new
fills_beside one other rows Part Two old mid new first second = record {
  keeps = λ at same. second.keeps at (first.keeps at same);
  within = λ within. second.within (first.within within);
  gives = λ within n part table. second.keeps (spot_at one n table) (first.gives within n part table);
}

pub fills_before : (one other : ℕ) (rows : RowsBySpot) (Part Two : ℕ → Type 0) (old mid new : TableMap) → Fills one rows Part old mid
    → Fills other rows Two mid new
    → Fills other rows Two old new
fills_before one other rows Part Two old mid new first second = record {
  keeps = λ at same. second.keeps at (first.keeps at same);
  within = λ within. second.within (first.within within);
  gives = λ within n part table. second.gives (first.within within) n part table;
}

-- a record more
last_among : (front : List (ℕ × List ℕ)) (own one : ℕ × List ℕ) (n : ℕ) → one ≡ own → Among (front ++ own ∷ []) n
    → Among front n ⊎ (one.0 ≡ n)
last_among [] own one n is (inl same) = inr (ap (λ (p : ℕ × List ℕ). p.0) is ∙ same)
last_among [] own one n is (inr none) = absurd none
last_among (first ∷ front) own one n is (inl same) = inl (inl same)
last_among (first ∷ front) own one n is (inr later) = elim (last_among front own one n is later) [
  | inl before ↦ inl (inr before)
  | inr mine ↦ inr mine
]

pub among_more : (records : List (ℕ × List ℕ)) (place : ℕ) (one : ℕ × List ℕ) (n : ℕ) → place < length records
    → one ≡ get_or records place one
    → Among (take (place + 1) records) n → Among (take place records) n ⊎ (one.0 ≡ n)
among_more records place one n within is among =
    last_among (take place records) (get_or records place one) one n is
    (subst (λ (l : List (ℕ × List ℕ)). Among l n) (take_more records place one within) among)

pub among_all : (records : List (ℕ × List ℕ)) (place n : ℕ) → length records ≤ place → Among records n → Among (take place records) n
among_all [] place n past among = absurd among
among_all (first ∷ records) zero n past among = absurd (omega (arith, past))
among_all (first ∷ records) (suc place) n past (inl same) = inl same
among_all (first ∷ records) (suc place) n past (inr more) = inr (among_all records place n (omega (arith, past)) more)

-- a record of those that tell rows
pub told_at : (Told : ℕ × List ℕ → Type 0) (records : List (ℕ × List ℕ)) (place : ℕ) (one : ℕ × List ℕ) → AllByRecursion Told records
    → place < length records
    → one ≡ get_or records place one → Told one
told_at Told [] place one each within is = absurd (omega (arith, within))
told_at Told (first ∷ records) zero one each within is = subst Told (sym is) each.0
told_at Told (first ∷ records) (suc place) one each within is = told_at Told records place one each.1 (omega (arith, within)) is

-- each entry of a map is found in it
left : (a b : Bool) → T (a && b) → T a
left true b p = tt
left false b p = p

right : (a b : Bool) → T (a && b) → T b
right true b p = p
right false b p = absurd p

later : (a b : ℕ) → T (is_lt (nat_cmp a b)) → b ≢ a
later a b less same = absurd (subst (λ (r : Ordering). T (is_lt r)) (equal_of a b (sym same)) less)

shifted : (x : ℕ × List ℕ) (all es : List (ℕ × List ℕ)) → T (below_all nat_cmp x.0 es)
    → AllByRecursion (λ e. find nat_cmp e.0 all ≡ Some e.1) es
    → AllByRecursion (λ e. find nat_cmp e.0 (x ∷ all) ≡ Some e.1) es
shifted x all [] low each = tt
shifted x all (e ∷ es) low each = (
  ap (λ (b : Bool). cond b (Some x.1) (find nat_cmp e.0 all))
      (apart_of e.0 x.0 (later x.0 e.0 (left (is_lt (nat_cmp x.0 e.0)) (below_all nat_cmp x.0 es) low))) ∙ each.0,
  shifted x all es (right (is_lt (nat_cmp x.0 e.0)) (below_all nat_cmp x.0 es) low) each.1,
)

entries_found : (es : List (ℕ × List ℕ)) → T (is_sorted nat_cmp es) → AllByRecursion (λ e. find nat_cmp e.0 es ≡ Some e.1) es
entries_found [] sorted = tt
entries_found (x ∷ es) sorted = (
  ap (λ (r : Ordering). cond (is_eq r) (Some x.1) (find nat_cmp x.0 es)) (equal_of x.0 x.0 refl),
  shifted x es es (left (below_all nat_cmp x.0 es) (is_sorted nat_cmp es) sorted)
      (entries_found es (right (below_all nat_cmp x.0 es) (is_sorted nat_cmp es) sorted)),
)

nothing : (bytes : List ℕ) → None ≡ Some bytes → ⊥
nothing bytes e = cc

found_among : (es : List (ℕ × List ℕ)) (n : ℕ) (bytes : List ℕ) → find nat_cmp n es ≡ Some bytes → Among es n
found_among [] n bytes same = absurd (nothing bytes same)
found_among (e ∷ es) n bytes same = elim (decide (is_eq (nat_cmp n e.0))) [
  | inl mine ↦ inl (sym (nat_cmp-IsAntisymmetric n e.0 ((Equal-is (nat_cmp n e.0)).0 mine)))
  | inr other ↦ inr (found_among es n bytes (sym (ap (λ (b : Bool). cond b (Some e.1) (find nat_cmp n es)) other) ∙ same))
]

each_so : (One Two : ℕ × List ℕ → Type 0) (es : List (ℕ × List ℕ)) → ((e : ℕ × List ℕ) → One e → Two e) → AllByRecursion One es
    → AllByRecursion Two es
each_so One Two [] leads each = tt
each_so One Two (e ∷ es) leads each = (leads e each.0, each_so One Two es leads each.1)

there_in : (o : Option (List ℕ)) → IsSome o → (bytes : List ℕ) × (o ≡ Some bytes)
there_in None some = absurd (cc)
there_in (Some bytes) some = (bytes, refl)

-- the records of a bucket are those of its map
module _ (definitions : List TableDef) (wanted : Option ℕ) (which : ℕ) (rows : RowsBySpot) (now : Image) (bucket : ℕ)
    (records : List (ℕ × List ℕ))
    (are : IsBucketOf now which bucket records) where
  in_map : (n : ℕ) (bytes : List ℕ) → map.get are.own n ≡ Some bytes → map.get (now.maps which) n ≡ Some bytes
  in_map n bytes same = elim (decide (n % now.root.buckets == bucket)) [
    | inl mine ↦ sym (are.part.each n ∙ ap (λ (b : Bool). cond b (map.get (now.maps which) n) None) mine) ∙ same
    | inr other ↦ absurd (nothing bytes (sym (are.part.each n ∙ ap (λ (b : Bool). cond b (map.get (now.maps which) n) None) other) ∙ same))
  ]

  pub records_told : AreTold definitions wanted which rows (now.maps which)
      → AllByRecursion (λ one. IsTold definitions wanted which rows one.0 one.1) records
  records_told told =
      subst (λ (l : List (ℕ × List ℕ)). AllByRecursion (λ one. IsTold definitions wanted which rows one.0 one.1) l) (sym are.are)
      (each_so (λ e. find nat_cmp e.0 (map.entries are.own) ≡ Some e.1) (λ one. IsTold definitions wanted which rows one.0 one.1)
      (map.entries are.own)
      (λ e found. told e.0 e.1 (in_map e.0 e.1 (map.get-entries are.own e.0 ∙ found)))
      (entries_found (map.entries are.own) (map.entries_sorted are.own)))

  pub all_among : (n : ℕ) → IsSome (map.get (now.maps which) n) → n % now.root.buckets ≡ bucket → Among records n
  all_among n some mine =
      let there = there_in (map.get (now.maps which) n) some in
      subst (λ (l : List (ℕ × List ℕ)). Among l n) (sym are.are)
      (found_among (map.entries are.own) n there.0
      (sym (map.get-entries are.own n) ∙ part_gives now.root.buckets bucket (now.maps which) are.own n are.part mine ∙ there.1))

  -- the numbers of the bucket are among its records
  pub bucket_fills : (old new : TableMap) → Fills which rows (Among records) old new
      → Fills which rows (λ n. IsSome (map.get (now.maps which) n) × (n % now.root.buckets ≡ bucket)) old new
  bucket_fills old new fills =
      fills_fewer which rows (λ n. IsSome (map.get (now.maps which) n) × (n % now.root.buckets ≡ bucket)) (Among records) old new fills
      (λ n part. all_among n part.0 part.1)

-- bytes that tell rows are read as they
pub memory_alone : (definitions : List TableDef) (wanted : Option ℕ) (which : ℕ) (rows : RowsBySpot) (number : ℕ) (bytes : List ℕ)
    (fault : ValueFault)
    → NeedsFor (IsNoValue rows_bytes (AreRows definitions) bytes) fault → IsTold definitions wanted which rows number bytes
    → fault ≡ OutOfMemory
memory_alone definitions wanted which rows number bytes NotSpelled none told = absurd (none told.own told.are told.bytes_are)
memory_alone definitions wanted which rows number bytes OutOfMemory none told = refl

pub record_fills : (definitions : List TableDef) (wanted : Option ℕ) (which : ℕ) (rows : RowsBySpot) (number : ℕ) (bytes : List ℕ)
    (read : List TableRow) (key : KeyOf) (old new : TableMap) → Spells rows_bytes (AreRows definitions) bytes read
    → key ≡ key_of which number
    → new ≡ with_all wanted key read old → IsTold definitions wanted which rows number bytes → Fills which rows (λ n. number ≡ n) old new
record_fills definitions wanted which rows number bytes read key old new spells here is told =
    fills_one which rows wanted number told.own old new
    (is ∙ ap (λ (k : KeyOf). with_all wanted k read old) here
    ∙ ap (λ (l : List TableRow). with_all wanted (key_of which number) l old) (sym (spells.alone told.own told.are told.bytes_are)))
    told.at

-- a bucket more
pub bucket_split : (n bucket count : ℕ) → bucket < count → n % count < bucket + 1 → (n % count < bucket) ⊎ (n % count ≡ bucket % count)
bucket_split n bucket count low below = elim (cases_order (n % count) bucket) [
  | inl same ↦ inr (same ∙ sym (mod-eq_of_lt low))
  | inr (inl less) ↦ inl less
  | inr (inr more) ↦ absurd (omega (arith, more, below))
]
