-- Rows that are put into the maps of rows of a store, and leave all else as it is.
use Rattle.std.proofs.Common.{◌≡◌, ◌≢◌, ◌<◌, ◌≤◌, ◌+◌, ◌==◌, ℕ, Bool, cond, List, [], ◌∷◌, ◌++◌, reverse, Option, None, Some, IsTrue, false, true, refl}
use Rattle.std.proofs.Common.{sym, ap, subst, ◌∙◌, arith, eq-eqb, nat_le}
use Rattle.std.specs.Prelude.{IfSome}
use Rattle.std.specs.FinMap as finite
use Rattle.std.specs.List.Sorted.{IsPermutation}
use Rattle.std.specs.Int.{is_power_of_two}
use Rattle.std.specs.Int.Count.{ones}
use Rattle.std.proofs.lemmas.Bool.{ne_eqb}
use Rattle.std.proofs.lemmas.Bool.Decides.{nat_tests}
use Rattle.std.proofs.lemmas.List.{reverse-reverse, reverse-append}
use Rattle.std.proofs.lemmas.List.Elements.{All-from_recursion, recursion_from_All}
use Rattle.std.proofs.lemmas.List.Sorted.{All-permutation}
use Rattle.outside.specs.declared.disk.Disk.{Ghosts}
use Rattle.osm_base.specs.declared.values.key.Kind.{Kind}
use Rattle.osm_base.specs.declared.values.key.Kind.TheVariants as kinds
use Rattle.osm_base.specs.declared.values.row.Row.{Row}
use Rattle.osm_base.specs.declared.values.row.RowChange.{RowChange}
use Rattle.osm_base.specs.map.Spots.{SpotOf, TableMap, changed_all, spot_of}
use Rattle.style_read.specs.Style.{StyleOf}
use Rattle.style_read.specs.declared.style.TableDef.{TableDef}
use Rattle.chain_store.specs.declared.root.Root.{Root}
use Rattle.bucket_records.specs.Records.{BucketMap}
use Rattle.bucket_store.specs.Image.{Image, with_buckets, with_root, with_text, with_value}
use Rattle.bucket_store.specs.declared.buckets.Buckets.{Buckets}
use Rattle.bucket_store.proofs.Images.{maps_beside, maps_with_root, maps_with_text, root_with_root, root_with_value, texts_beside, texts_here}
use Rattle.bucket_store.proofs.Images.{texts_with_root, texts_with_value}
use Rattle.store_maps.specs.Rows.{Fits}
use Rattle.value_bytes.specs.Maps.{HoldsMap}
use Rattle.row_store.specs.Clearing.{without_map, without_rows}
use Rattle.row_store.specs.Maps.{map_of}
use Rattle.row_store.specs.Rows.{AreRows, rows_bytes}
use Rattle.row_store.specs.Tables.{HoldsTables}
use Rattle.row_store.proofs.ClearLaws.{no_rows_left}
use Rattle.row_store.proofs.TableLaws.{no_tables}
use Rattle.delta_feed.specs.Sound.{AreRising, IsFull, IsRowIn}
use Rattle.delta_feed.specs.declared.block.Block.TheVariants as blocks
use Rattle.update_flow.specs.Settling.{counted_to}
use Rattle.update_flow.specs.Stands.{IsBlank, IsFollowing}
use Rattle.update_flow.specs.State.{Following, followed, follower_buckets, taken_whole}
use Rattle.update_flow.specs.Taking.{AllFit, FitsTable, HasRoom, HasTables, IsBeside, following_root, styled, versioned}
use Rattle.update_flow.specs.declared.fields.TheConstants.{STYLE_TEXT}
use Rattle.update_flow.proofs.SoundSteps.{blank_count}

beside_rows : (kind : Kind) (m : ℕ) → m < 6 → m ≡ map_of kind → ⊥
beside_rows kinds.Node m below is = absurd (omega (arith, below, is))
beside_rows kinds.Way m below is = absurd (omega (arith, below, is))
beside_rows kinds.Relation m below is = absurd (omega (arith, below, is))

-- a record of rows is another
pub value_beside : (kind : Kind) (key : ℕ) (bytes : Option (List ℕ)) (now : Image) → IsBeside now (with_value (map_of kind) key bytes now)
value_beside kind key bytes now = record {
  root = root_with_value (map_of kind) key bytes now;
  texts = λ n. texts_with_value (map_of kind) key bytes now n;
  maps = λ m below. maps_beside (map_of kind) key bytes now m (beside_rows kind m below);
}

pub beside_same : (image : Image) → IsBeside image image
beside_same image = record { root = refl; texts = λ n. refl; maps = λ m below. refl }

pub beside_then : (old mid new : Image) → IsBeside old mid → IsBeside mid new → IsBeside old new
beside_then old mid new first second = record {
  root = second.root ∙ first.root;
  texts = λ n. second.texts n ∙ first.texts n;
  maps = λ m below. second.maps m below ∙ first.maps m below;
}

module _ {D : Type 0} {g : Ghosts D} (definitions : List TableDef) (rest now : Image) where
  pub tables_then : (one two : TableMap) (mid new : Buckets D g) (first : HasTables definitions one rest now mid)
      → HasTables definitions two rest first.later new → HasTables definitions two rest now new
  tables_then one two mid new first second = record {
    later = second.later;
    has = second.has;
    holds = second.holds;
    beside = beside_then now first.later second.later first.beside second.beside;
  }

-- The changes that are left are made one after another, the last of the list first.
pub all_turned : (changes turned : List RowChange) (tables : TableMap) → turned ≡ reverse changes
    → changed_all tables (reverse turned) ≡ changed_all tables changes
all_turned changes turned tables is =
    ap (λ (l : List RowChange). changed_all tables l) (ap (λ (l : List RowChange). reverse l) is ∙ reverse-reverse changes)

pub last_first : (front : List RowChange) (change : RowChange) → reverse (front ++ change ∷ []) ≡ change ∷ reverse front
last_first front change = reverse-append front (change ∷ [])

pub fit_turned : (definitions : List TableDef) (changes turned : List RowChange) → turned ≡ reverse changes → AllFit definitions changes
    → AllFit definitions (reverse turned)
fit_turned definitions changes turned is fit =
    subst (λ (l : List RowChange). AllFit definitions l)
    (sym (ap (λ (l : List RowChange). reverse l) is ∙ reverse-reverse changes)) fit

-- changes in another order fit too
pub fit_moved : (definitions : List TableDef) (changes moved : List RowChange) → IsPermutation changes moved → AllFit definitions changes
    → AllFit definitions moved
fit_moved definitions changes moved is fit =
    recursion_from_All (FitsTable definitions) moved
    (All-permutation (FitsTable definitions) changes moved is (All-from_recursion (FitsTable definitions) changes fit))

-- each row of a block is one of its table
one_fits : (definitions : List TableDef) (table : ℕ) (row : Option Row) → IsRowIn definitions table row
    → IfSome row (λ row. Fits definitions (record { table = table; row = row }))
one_fits definitions table None is = tt
one_fits definitions table (Some row) is = record { there = is.there; cells = is.is.cells.count_is }

pub rising_fit : (definitions : List TableDef) (last : Option SpotOf) (changes : List RowChange) → AreRising definitions last changes
    → AllFit definitions changes
rising_fit definitions last [] rising = tt
rising_fit definitions last (change ∷ changes) rising = (
  one_fits definitions change.table change.row rising.0,
  rising_fit definitions (Some (spot_of change)) changes rising.2,
)

-- Maps that hold tables hold them wherever they are the same.
pub tables_same : (definitions : List TableDef) (one other : ℕ → BucketMap) (tables : TableMap) → ((m : ℕ) → other m ≡ one m)
    → HoldsTables definitions one tables → HoldsTables definitions other tables
tables_same definitions one other tables same holds = record {
  node_rows = holds.node_rows;
  other_rows = holds.other_rows;
  nodes = subst (λ (b : BucketMap). HoldsMap rows_bytes (AreRows definitions) b holds.node_rows) (sym (same 6)) holds.nodes;
  others = subst (λ (b : BucketMap). HoldsMap rows_bytes (AreRows definitions) b holds.other_rows) (sym (same 7)) holds.others;
  rows = holds.rows;
  ids = holds.ids;
}

-- A store gets buckets, or loses its rows.
pub given_room : (now : Image) → now.root.buckets ≡ 0 → (now.root.buckets ≡ 0 → (m : ℕ) → m < 8 → now.maps m ≡ finite.empty)
    → HasRoom now (with_root (with_buckets follower_buckets now.root) now)
given_room now zero none =
    let root = with_buckets follower_buckets now.root in
    let maps : (m : ℕ) → m < 8 → (with_root root now).maps m ≡ finite.empty = λ m below. maps_with_root root now m ∙ none zero m below in
    record {
      buckets = ap (λ (r : Root). r.buckets) (root_with_root root now)
          ∙ sym (ap (λ (b : Bool). cond b follower_buckets now.root.buckets) (eq-eqb now.root.buckets 0 zero));
      texts = λ n. texts_with_root root now n;
      maps = λ m below. maps_with_root root now m;
      none = λ definitions. no_tables definitions (with_root root now).maps (maps 6 (omega arith)) (maps 7 (omega arith));
    }

pub cleared_room : (now : Image) → now.root.buckets ≢ 0 → HasRoom now (without_rows now)
unfolding without_map
cleared_room now some = record {
  buckets = sym (ap (λ (b : Bool). cond b follower_buckets now.root.buckets) (ne_eqb now.root.buckets 0 some));
  texts = λ n. refl;
  maps = λ m below.
      ap (λ (b : Bool). cond b finite.empty ((without_map 6 now).maps m)) (ne_eqb m 7 (λ is. absurd (omega (arith, below, is))))
      ∙ ap (λ (b : Bool). cond b finite.empty (now.maps m)) (ne_eqb m 6 (λ is. absurd (omega (arith, below, is))));
  none = λ definitions. no_rows_left now definitions;
}

-- so many buckets may be asked for
pub follower_power : is_power_of_two 1024 ≡ true
unfolding ones
follower_power = refl

-- Whole tables, with their style and its version, are a follower's store.
pub whole_becomes : (version : ℕ) (bytes : List ℕ) (style : StyleOf) (rows : List RowChange) (buckets : ℕ) (rest later after : Image)
    → IsFull version bytes style rows → 1 ≤ buckets → IsTrue (is_power_of_two buckets) → buckets ≤ 65536 → later.root.buckets ≡ buckets
    → ((n : ℕ) → n < 8 → n ≢ STYLE_TEXT → rest.texts n ≡ []) → ((m : ℕ) → m < 6 → rest.maps m ≡ finite.empty) → HasRoom rest later
    → IsBeside later after → HoldsTables style.tables after.maps (changed_all finite.empty rows)
    → IsFollowing (taken_whole buckets version bytes style rows) (styled version bytes after)
whole_becomes version bytes style rows buckets rest later after full some power few count empty unlisted room beside tables =
    let root = following_root version after.root.buckets in
    let text = with_text STYLE_TEXT bytes after in
    let maps : (m : ℕ) → (styled version bytes after).maps m ≡ after.maps m =
    λ m. maps_with_root root text m ∙ maps_with_text STYLE_TEXT bytes after m in
    record {
      root = root_with_root root text
          ∙ ap (λ (n : ℕ). following_root version n) (ap (λ (r : Root). r.buckets) beside.root ∙ count);
      counted = full.version_fits;
      some = some;
      power = power;
      few = few;
      style_text = texts_with_root root text STYLE_TEXT ∙ texts_here STYLE_TEXT bytes after STYLE_TEXT refl;
      style = full.read;
      others = λ n below apart.
          texts_with_root root text n ∙ texts_beside STYLE_TEXT bytes after n apart ∙ beside.texts n ∙ room.texts n ∙ empty n below apart;
      unlisted = λ m below. maps m ∙ beside.maps m below ∙ room.maps m below ∙ unlisted m below;
      tables = tables_same style.tables after.maps (styled version bytes after).maps (changed_all finite.empty rows) maps tables;
    }

-- What a block that is new makes of what a follower holds.
later_not : (one other : ℕ) → one < other → nat_le other one ≡ false
later_not one other later = grind (arith, nat_tests, later)

pub whole_new : (held : Following) (version : ℕ) (bytes : List ℕ) (style : StyleOf) (rows : List RowChange) → held.version < version
    → taken_whole held.buckets version bytes style rows ≡ followed held (blocks.Full version bytes style rows)
whole_new held version bytes style rows later =
    sym (ap (λ (b : Bool). cond b held (taken_whole held.buckets version bytes style rows)) (later_not held.version version later))

module _ (version : ℕ) (bytes : List ℕ) (style : StyleOf) (rows : List RowChange) (rest later after : Image) (full : IsFull version bytes style rows)
    (room : HasRoom rest later) (beside : IsBeside later after) (tables : HoldsTables style.tables after.maps (changed_all finite.empty rows)) where
  pub blank_becomes : IsBlank rest → (rest.root.buckets ≡ 0 → (m : ℕ) → m < 8 → rest.maps m ≡ finite.empty)
      → IsFollowing (taken_whole follower_buckets version bytes style rows) (styled version bytes after)
  blank_becomes blank none =
      let zero = blank_count rest.root blank.root in
      whole_becomes version bytes style rows follower_buckets rest later after full (omega arith) follower_power (omega arith)
      (room.buckets ∙ ap (λ (b : Bool). cond b follower_buckets rest.root.buckets) (eq-eqb rest.root.buckets 0 zero))
      (λ n below apart. blank.texts n below) (λ m below. none zero m (omega (arith, below))) room beside tables

  pub held_becomes : (held : Following) → IsFollowing held rest → held.version < version
      → IsFollowing (followed held (blocks.Full version bytes style rows)) (styled version bytes after)
  held_becomes held is newer =
      let same : rest.root.buckets ≡ held.buckets = ap (λ (r : Root). r.buckets) is.root in
      subst (λ (h : Following). IsFollowing h (styled version bytes after)) (whole_new held version bytes style rows newer)
      (whole_becomes version bytes style rows held.buckets rest later after full is.some is.power is.few
      (room.buckets
      ∙ ap (λ (b : Bool). cond b follower_buckets rest.root.buckets)
      (ne_eqb rest.root.buckets 0 (λ zero. let some = is.some in absurd (omega (arith, some, same, zero)))) ∙ same)
      is.others is.unlisted room beside tables)

-- A change of its tables, with its version, is one.
pub delta_becomes : (version : ℕ) (held : Following) (changes : List RowChange) (rest after : Image) → IsFollowing held rest
    → version ≤ 9223372036854775807 → IsBeside rest after → HoldsTables held.style.tables after.maps (changed_all held.tables changes)
    → IsFollowing (record held { tables = changed_all held.tables changes; version = version }) (versioned version after)
delta_becomes version held changes rest after is few beside tables =
    let root = counted_to version after.root in
    let maps : (m : ℕ) → (versioned version after).maps m ≡ after.maps m = λ m. maps_with_root root after m in
    record {
      root = root_with_root root after ∙ ap (λ (r : Root). counted_to version r) (beside.root ∙ is.root);
      counted = few;
      some = is.some;
      power = is.power;
      few = is.few;
      style_text = texts_with_root root after STYLE_TEXT ∙ beside.texts STYLE_TEXT ∙ is.style_text;
      style = is.style;
      others = λ n below apart. texts_with_root root after n ∙ beside.texts n ∙ is.others n below apart;
      unlisted = λ m below. maps m ∙ beside.maps m below ∙ is.unlisted m below;
      tables = tables_same held.style.tables after.maps (versioned version after).maps (changed_all held.tables changes) maps tables;
    }

pub delta_new : (held next : Following) (version : ℕ) → version ≡ held.version + 1 → next ≡ cond (version == held.version + 1) next held
delta_new held next version is = sym (ap (λ (b : Bool). cond b next held) (eq-eqb version (held.version + 1) is))
