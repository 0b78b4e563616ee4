-- The entries of a change whose objects a table may want.
use Rattle.std.proofs.Common.{◌≡◌, ◌<◌, ◌≤◌, ◌+◌, ℕ, Bool, true, false, ◌||◌, ◌&&◌, cond, List, [], ◌∷◌, ◌++◌, length, take, slice_index_or}
use Rattle.std.proofs.Common.{Option, None, Some, refl, sym, ap, ◌∙◌, arith}
use mathlib.Core.Bool.{false≢true}
use Rattle.std.specs.Cmp.{Equal-is}
use Rattle.std.specs.FinMap as finite
use Rattle.std.specs.List.{AllByRecursion, filter, list_any}
use Rattle.std.specs.Ordering.{eq_by_cmp}
use Rattle.std.proofs.lemmas.List.{append-nil, take_more}
use Rattle.std.proofs.lemmas.List.Elements.{filter-append}
use Rattle.osm_base.specs.declared.values.key.Kind.{Kind}
use Rattle.osm_base.specs.declared.values.object.Entry.{Entry}
use Rattle.osm_base.specs.map.Listers.{is_kind}
use Rattle.osm_base.specs.map.Objects.{ObjectSet, folded_all}
use Rattle.osm_base.specs.values.Key.{KeyOf}
use Rattle.osm_base.specs.values.KeyOrder.{key_cmp}
use Rattle.osm_base.proofs.KeyLaws.{key_cmp-IsAntisymmetric}
use Rattle.style_read.specs.Style.{StyleOf}
use Rattle.object_fold.specs.Change.{Follows, IsChange, RiseFrom}
use Rattle.object_fold.proofs.FoldLaws.{Untouched, get-untouched}
use Rattle.row_rules.specs.Wanted.{may_have_rows}
use Rattle.update_step.specs.Importing.{ids_named, keys_named, wanted_among}
use Rattle.update_step.proofs.AfterForms.{forms-after}
use Rattle.update_step.proofs.NamedKeys.{below_all, ids-push}

-- Those that are left of entries that rise rise too.

behind : (last : Option KeyOf) (own next : KeyOf) → Follows last own → Follows (Some own) next → Follows last next
behind None own next one other = tt
behind (Some first) own next one other = below_all first own next one other

rise-behind : (last : Option KeyOf) (own : KeyOf) (entries : List Entry) → Follows last own → RiseFrom (Some own) entries
    → RiseFrom last entries
rise-behind last own [] follows rise = tt
rise-behind last own (entry ∷ entries) follows rise = (rise.0, behind last own entry.key follows rise.1, rise.2)

left-rise : (keep : Entry → Bool) (last : Option KeyOf) (entries : List Entry) → RiseFrom last entries → RiseFrom last (filter keep entries)
left-rise keep last [] rise = tt
left-rise keep last (entry ∷ entries) rise =
    let later : RiseFrom (Some entry.key) (filter keep entries) = left-rise keep (Some entry.key) entries rise.2 in
    elim (keep entry) as (λ b. RiseFrom last (cond b (entry ∷ filter keep entries) (filter keep entries))) [
      | true ↦ (rise.0, rise.1, later)
      | false ↦ rise-behind last entry.key (filter keep entries) rise.1 later
    ]

pub wanted-rise : (style : StyleOf) (entries : List Entry) → IsChange entries → IsChange (wanted_among style entries)
wanted-rise style entries rise = left-rise (λ (entry : Entry). may_have_rows style entry.object) None entries rise

-- The ids of one kind, one entry more.

and_true : {X : Type 0} (b : Bool) (one other : X) → cond b one other ≡ cond (b && true) one other
and_true true one other = refl
and_true false one other = refl

and_false : {X : Type 0} (b : Bool) (one other : X) → other ≡ cond (b && false) one other
and_false true one other = refl
and_false false one other = refl

pub wanted-more : (style : StyleOf) (kind : Kind) (entries : List Entry) (at : ℕ) (own : Entry) → at < length entries
    → own ≡ slice_index_or entries at own
    → ids_named kind (wanted_among style (take (at + 1) entries))
    ≡ cond (is_kind kind own.key.kind && may_have_rows style own.object)
    (ids_named kind (wanted_among style (take at entries)) ++ own.key.id ∷ []) (ids_named kind (wanted_among style (take at entries)))
wanted-more style kind entries at own below is =
    let front : List Entry = wanted_among style (take at entries) in
    ap (λ (list : List Entry). ids_named kind (wanted_among style list))
    (take_more entries at own below ∙ ap (λ (next : Entry). take at entries ++ next ∷ []) (sym is))
    ∙ ap (ids_named kind) (filter-append (λ (entry : Entry). may_have_rows style entry.object) (take at entries) (own ∷ []))
    ∙ elim (may_have_rows style own.object) as
    (λ b. ids_named kind (front ++ cond b (own ∷ []) [])
    ≡ cond (is_kind kind own.key.kind && b) (ids_named kind front ++ own.key.id ∷ []) (ids_named kind front)) [
      | true ↦ ids-push kind front own ∙ and_true (is_kind kind own.key.kind) (ids_named kind front ++ own.key.id ∷ [])
          (ids_named kind front)
      | false ↦ ap (ids_named kind) (append-nil front)
          ∙ and_false (is_kind kind own.key.kind) (ids_named kind front ++ own.key.id ∷ []) (ids_named kind front)
    ]

-- They are no more than all.

pub wanted-few : (style : StyleOf) (entries : List Entry) → length (keys_named (wanted_among style entries)) ≤ length entries
wanted-few style [] = omega arith
wanted-few style (entry ∷ entries) =
    let wanted : List Entry = wanted_among style entries in
    let later : length (keys_named wanted) ≤ length entries = wanted-few style entries in
    elim (may_have_rows style entry.object) as (λ b. length (keys_named (cond b (entry ∷ wanted) wanted)) ≤ length (entry ∷ entries)) [
      | true ↦ omega (arith, later)
      | false ↦ omega (arith, later)
    ]

-- What none of them names may have no rows.

module _ (style : StyleOf) (objects : ObjectSet) (own : KeyOf) where
  abbrev Unwanted : Type 0
  Unwanted = may_have_rows style (finite.get objects own) ≡ false

  abbrev none_of : List Entry → Bool
  none_of entries = list_any (eq_by_cmp key_cmp own) (keys_named entries)

  here : (entry : Entry) (wanted : List Entry) → eq_by_cmp key_cmp own entry.key ≡ true → finite.get objects entry.key ≡ entry.object
      → none_of (cond (may_have_rows style entry.object) (entry ∷ wanted) wanted) ≡ false → Unwanted
  here entry wanted same is none =
      elim (may_have_rows style entry.object) as
      (λ b. may_have_rows style entry.object ≡ b → none_of (cond b (entry ∷ wanted) wanted) ≡ false → Unwanted) [
        | true ↦ λ _ none. absurd (false≢true (sym none ∙ ap (λ b. b || none_of wanted) same))
        | false ↦ λ unwanted _. ap (λ key. may_have_rows style (finite.get objects key))
            (key_cmp-IsAntisymmetric own entry.key ((Equal-is (key_cmp own entry.key)).0 same)) ∙ ap (may_have_rows style) is ∙ unwanted
      ] refl none

  later : (b : Bool) (entry : Entry) (wanted : List Entry) → eq_by_cmp key_cmp own entry.key ≡ false
      → none_of (cond b (entry ∷ wanted) wanted) ≡ false → none_of wanted ≡ false
  later true entry wanted apart none = sym (ap (λ b. b || none_of wanted) apart) ∙ none
  later false entry wanted apart none = none

  go : (entries : List Entry) → AllByRecursion (λ (entry : Entry). finite.get objects entry.key ≡ entry.object) entries
      → none_of (wanted_among style entries) ≡ false → (Untouched own entries → Unwanted) → Unwanted
  go [] all none otherwise = otherwise tt
  go (entry ∷ entries) all none otherwise =
      elim (eq_by_cmp key_cmp own entry.key) as (λ b. eq_by_cmp key_cmp own entry.key ≡ b → Unwanted) [
        | true ↦ λ same. here entry (wanted_among style entries) same all.0 none
        | false ↦ λ apart. go entries all.1 (later (may_have_rows style entry.object) entry (wanted_among style entries) apart none)
            (λ untouched. otherwise (apart, untouched))
      ] refl

no_object : (style : StyleOf) → may_have_rows style None ≡ false
unfolding may_have_rows
no_object style = refl

pub none-unwanted : (style : StyleOf) (entries : List Entry) (own : KeyOf) → IsChange entries
    → list_any (eq_by_cmp key_cmp own) (keys_named (wanted_among style entries)) ≡ false
    → may_have_rows style (finite.get (folded_all finite.empty entries) own) ≡ false
none-unwanted style entries own rise none =
    go style (folded_all finite.empty entries) own entries (forms-after finite.empty entries rise) none
    (λ untouched. ap (may_have_rows style) (get-untouched finite.empty entries own untouched ∙ finite.get-empty key_cmp own)
    ∙ no_object style)
