-- Bytes put one after the other, and lists put item by item.
use Rattle.std.proofs.Common.{◌≡◌, ℕ, zero, suc, ◌+◌, ◌≤◌, eqb, false, Option, Some, None, Result, Ok, Err, List, [], ◌∷◌, ◌++◌, length}
use Rattle.std.proofs.Common.{take, drop, refl, sym, ◌∙◌, ap, subst, append_assoc, add-one, arith}
use Rattle.std.specs.Prelude.{flat_map}
use Rattle.std.specs.List.{join_by, slice_get, AllByRecursion}
use Rattle.std.specs.Result.{OnOk, OnErr}
use Rattle.std.specs.Io.KnownBytes.{Appends}
use Rattle.std.proofs.lemmas.List.{append-nil}
use Rattle.std.proofs.lemmas.Bool.Decides.{nat_tests}
use Rattle.outside.specs.Bytes.{AppendsPrefix}
use Rattle.outside.specs.Causes.{HasCause}
use Rattle.osm_base.specs.declared.values.object.Object.{Object}
use Rattle.osm_base.specs.declared.values.object.Object.TheVariants.{Node, Way, Relation}
use Rattle.osm_base.specs.values.Tags.{TagMap}
use Rattle.opl_object.specs.Escapes.{IsText}
use Rattle.opl_object.specs.Lists.{comma_before, OfTags}
use Rattle.opl_object.specs.Written.{place_text, object_text, tag_field, node_field, member_field, tags_in, own_text, IsSound, IsOwnSound}

-- ---- one after the other

pub Appends-nothing : (now : Option (List ℕ)) → Appends now now []
Appends-nothing None = tt
Appends-nothing (Some a) = sym (append-nil a)

pub Appends-then : (before mid now : Option (List ℕ)) (xs ys : List ℕ) → Appends before mid xs → Appends mid now ys
    → Appends before now (xs ++ ys)
Appends-then None mid now xs ys p q = tt
Appends-then (Some a) None now xs ys p q = absurd p
Appends-then (Some a) (Some b) None xs ys p q = q
Appends-then (Some a) (Some b) (Some c) xs ys p q = q ∙ ap (λ front. front ++ ys) p ∙ append_assoc a xs ys

pub AppendsPrefix-then : (before mid now : Option (List ℕ)) (xs ys : List ℕ) → Appends before mid xs → AppendsPrefix mid now ys
    → AppendsPrefix before now (xs ++ ys)
AppendsPrefix-then None mid now xs ys p q = tt
AppendsPrefix-then (Some a) None now xs ys p q = absurd p
AppendsPrefix-then (Some a) (Some b) None xs ys p q = q
AppendsPrefix-then (Some a) (Some b) (Some c) xs ys p (front, back, whole, grown) = (
  xs ++ front,
  back,
  ap (λ rest. xs ++ rest) whole ∙ sym (append_assoc xs front back),
  grown ∙ ap (λ all. all ++ front) p ∙ append_assoc a xs front,
)

pub AppendsPrefix-more : (before now : Option (List ℕ)) (xs ys : List ℕ) → AppendsPrefix before now xs → AppendsPrefix before now (xs ++ ys)
AppendsPrefix-more None now xs ys p = tt
AppendsPrefix-more (Some a) None xs ys p = p
AppendsPrefix-more (Some a) (Some b) xs ys (front, back, whole, grown) =
    (front, back ++ ys, ap (λ all. all ++ ys) whole ∙ append_assoc front back ys, grown)

on_err : {T E : Type 0} (P : Type 0) (result : Result T E) → P → OnErr result P
on_err P (Ok x) p = tt
on_err P (Err e) p = p

pub err-by : {T E : Type 0} (result : Result T E) (before now : Option (List ℕ)) (xs : List ℕ) → AppendsPrefix before now xs
    → OnErr result (AppendsPrefix before now xs)
err-by result before now xs p = on_err (AppendsPrefix before now xs) result p

-- a fault in the first of two pieces, and one in the second
pub err-first : {T E : Type 0} (result : Result T E) (before now : Option (List ℕ)) (xs ys : List ℕ) → AppendsPrefix before now xs
    → OnErr result (AppendsPrefix before now (xs ++ ys))
err-first result before now xs ys p = on_err (AppendsPrefix before now (xs ++ ys)) result (AppendsPrefix-more before now xs ys p)

pub err-then : {T E : Type 0} (result : Result T E) (before mid now : Option (List ℕ)) (xs ys : List ℕ) → Appends before mid xs
    → AppendsPrefix mid now ys → OnErr result (AppendsPrefix before now (xs ++ ys))
err-then result before mid now xs ys p q = on_err (AppendsPrefix before now (xs ++ ys)) result (AppendsPrefix-then before mid now xs ys p q)

-- ---- item by item

take-suc_here : {X : Type 0} (items : List X) (i : ℕ) (item : X) → slice_get items i ≡ Some item
    → take (suc i) items ≡ take i items ++ item ∷ []
take-suc_here [] i item e = absurd (cc)
take-suc_here (x ∷ items) zero item e = let same : x ≡ item = cc in ap (λ one. one ∷ []) same
take-suc_here (x ∷ items) (suc i) item e = ap (λ rest. x ∷ rest) (take-suc_here items i item e)

take-here : {X : Type 0} (items : List X) (i : ℕ) (item : X) → slice_get items i ≡ Some item
    → take (i + 1) items ≡ take i items ++ item ∷ []
take-here items i item e = ap (λ n. take n items) (add-one i) ∙ take-suc_here items i item e

length-here : {X : Type 0} (items : List X) (i : ℕ) (item : X) → slice_get items i ≡ Some item → length (take i items) ≡ i
length-here [] i item e = absurd (cc)
length-here (x ∷ items) zero item e = refl
length-here (x ∷ items) (suc i) item e = ap suc (length-here items i item e)

module _ {X : Type 0} (f : X → List ℕ) where
  flat_map-push : (items : List X) (item : X)
      → flat_map (λ x. 44 ∷ [] ++ f x) (items ++ item ∷ []) ≡ flat_map (λ x. 44 ∷ [] ++ f x) items ++ (44 ∷ f item)
  flat_map-push [] item = append-nil (44 ∷ f item)
  flat_map-push (x ∷ items) item = ap (λ rest. (44 ∷ f x) ++ rest) (flat_map-push items item)
      ∙ sym (append_assoc (44 ∷ f x) (flat_map (λ x. 44 ∷ [] ++ f x) items) (44 ∷ f item))

  join_by-push : (items : List X) (item : X)
      → join_by f (44 ∷ []) (items ++ item ∷ []) ≡ join_by f (44 ∷ []) items ++ comma_before (length items) ++ f item
  join_by-push [] item = append-nil (f item)
  join_by-push (x ∷ items) item =
      let some : eqb (suc (length items)) 0 ≡ false = grind (arith, nat_tests) in
      rw some (
      ap (λ rest. f x ++ rest) (flat_map-push items item)
      ∙ sym (append_assoc (f x) (flat_map (λ x. 44 ∷ [] ++ f x) items) (44 ∷ f item))
      ∙ sym (append_assoc (f x ++ flat_map (λ x. 44 ∷ [] ++ f x) items) (44 ∷ []) (f item))
      )

  pub join_by-take : (items : List X) (i : ℕ) (item : X) → slice_get items i ≡ Some item
      → join_by f (44 ∷ []) (take (i + 1) items) ≡ join_by f (44 ∷ []) (take i items) ++ comma_before i ++ f item
  join_by-take items i item e =
      ap (join_by f (44 ∷ [])) (take-here items i item e) ∙ join_by-push (take i items) item
      ∙ ap (λ n. join_by f (44 ∷ []) (take i items) ++ comma_before n ++ f item) (length-here items i item e)

  flat_map-cut : (items : List X) (n : ℕ) → flat_map (λ x. 44 ∷ [] ++ f x) items ≡ flat_map (λ x. 44 ∷ [] ++ f x) (take n items)
      ++ flat_map (λ x. 44 ∷ [] ++ f x) (drop n items)
  flat_map-cut items zero = refl
  flat_map-cut [] (suc n) = refl
  flat_map-cut (x ∷ items) (suc n) =
      ap (λ rest. (44 ∷ f x) ++ rest) (flat_map-cut items n)
      ∙ sym (append_assoc (44 ∷ f x) (flat_map (λ x. 44 ∷ [] ++ f x) (take n items)) (flat_map (λ x. 44 ∷ [] ++ f x) (drop n items)))

  join_by-cut : (items : List X) (n : ℕ) → (rest : List ℕ) × (join_by f (44 ∷ []) items ≡ join_by f (44 ∷ []) (take n items) ++ rest)
  join_by-cut items zero = (join_by f (44 ∷ []) items, refl)
  join_by-cut [] (suc n) = ([], refl)
  join_by-cut (x ∷ items) (suc n) = (
    flat_map (λ x. 44 ∷ [] ++ f x) (drop n items),
    ap (λ rest. f x ++ rest) (flat_map-cut items n)
        ∙ sym (append_assoc (f x) (flat_map (λ x. 44 ∷ [] ++ f x) (take n items)) (flat_map (λ x. 44 ∷ [] ++ f x) (drop n items))),
  )

  module _ (items : List X) (i : ℕ) (item : X) (there : slice_get items i ≡ Some item) (before mid : Option (List ℕ))
      (front : Appends before mid (join_by f (44 ∷ []) (take i items))) where
    prefix : (now : Option (List ℕ)) → AppendsPrefix before now (join_by f (44 ∷ []) (take i items) ++ comma_before i ++ f item)
        → AppendsPrefix before now (join_by f (44 ∷ []) items)
    prefix now p =
        let cut = join_by-cut items (i + 1) in
        subst (AppendsPrefix before now) (sym cut.1) (AppendsPrefix-more before now (join_by f (44 ∷ []) (take (i + 1) items)) cut.0
        (subst (AppendsPrefix before now) (sym (join_by-take items i item there)) p))

    -- a fault at the comma before an item, and one at the item
    pub comma-err : {T E : Type 0} (result : Result T E) (now : Option (List ℕ)) → AppendsPrefix mid now (comma_before i)
        → OnErr result (AppendsPrefix before now (join_by f (44 ∷ []) items))
    comma-err result now p = on_err (AppendsPrefix before now (join_by f (44 ∷ []) items)) result
        (prefix now (AppendsPrefix-more before now _ (f item)
        (AppendsPrefix-then before mid now (join_by f (44 ∷ []) (take i items)) (comma_before i) front p)))

    pub item-err : {T E : Type 0} (result : Result T E) (next now : Option (List ℕ)) → Appends mid next (comma_before i)
        → AppendsPrefix next now (f item) → OnErr result (AppendsPrefix before now (join_by f (44 ∷ []) items))
    item-err result next now p q = on_err (AppendsPrefix before now (join_by f (44 ∷ []) items)) result
        (prefix now (AppendsPrefix-then before next now (join_by f (44 ∷ []) (take i items) ++ comma_before i) (f item)
        (Appends-then before mid next (join_by f (44 ∷ []) (take i items)) (comma_before i) front p) q))

    -- one item more
    pub item-ok : (next now : Option (List ℕ)) → Appends mid next (comma_before i) → Appends next now (f item)
        → Appends before now (join_by f (44 ∷ []) (take (i + 1) items))
    item-ok next now p q = subst (Appends before now) (sym (join_by-take items i item there))
        (Appends-then before next now (join_by f (44 ∷ []) (take i items) ++ comma_before i) (f item)
        (Appends-then before mid next (join_by f (44 ∷ []) (take i items)) (comma_before i) front p) q)

-- what holds of each item so far, and of the next
pub AllByRecursion-take : {X : Type 0} (P : X → Type 0) (items : List X) (i : ℕ) (item : X) → slice_get items i ≡ Some item
    → AllByRecursion P (take i items) → P item → AllByRecursion P (take (i + 1) items)
AllByRecursion-take {X = X} P items i item e all here =
    subst (AllByRecursion P) (sym (take-here items i item e)) (push (take i items) all) where
      push : (front : List X) → AllByRecursion P front → AllByRecursion P (front ++ item ∷ [])
      push [] all = (here, tt)
      push (x ∷ front) all = (all.0, push front all.1)

pub AllByRecursion-at : {X : Type 0} (P : X → Type 0) (items : List X) (i : ℕ) (item : X) → slice_get items i ≡ Some item
    → AllByRecursion P items → P item
AllByRecursion-at P [] i item e all = absurd (cc)
AllByRecursion-at P (x ∷ items) zero item e all = let same : x ≡ item = cc in subst P same all.0
AllByRecursion-at P (x ∷ items) (suc i) item e all = AllByRecursion-at P items i item e all.1

-- the first of three pieces, and the second
pub err-of-three : {T E : Type 0} (result : Result T E) (before now : Option (List ℕ)) (xs ys zs : List ℕ) → AppendsPrefix before now xs
    → OnErr result (AppendsPrefix before now (xs ++ ys ++ zs))
err-of-three result before now xs ys zs p = err-first result before now (xs ++ ys) zs (AppendsPrefix-more before now xs ys p)

pub err-second : {T E : Type 0} (result : Result T E) (before mid now : Option (List ℕ)) (xs ys zs : List ℕ) → Appends before mid xs
    → AppendsPrefix mid now ys → OnErr result (AppendsPrefix before now (xs ++ ys ++ zs))
err-second result before mid now xs ys zs p q = err-first result before now (xs ++ ys) zs (AppendsPrefix-then before mid now xs ys p q)

pub err-third : {T E : Type 0} (result : Result T E) (before one two now : Option (List ℕ)) (xs ys zs : List ℕ) → Appends before one xs
    → Appends one two ys → AppendsPrefix two now zs → OnErr result (AppendsPrefix before now (xs ++ ys ++ zs))
err-third result before one two now xs ys zs p q r = err-then result before two now (xs ++ ys) zs (Appends-then before one two xs ys p q) r

-- ---- what is put last says how it went

pub ok-after : {T E : Type 0} (result : Result T E) (before mid now : Option (List ℕ)) (xs ys : List ℕ) → Appends before mid xs
    → OnOk result (Appends mid now ys) → OnOk result (Appends before now (xs ++ ys))
ok-after (Ok x) before mid now xs ys p q = Appends-then before mid now xs ys p q
ok-after (Err e) before mid now xs ys p q = tt

pub err-after : {T E : Type 0} (result : Result T E) (before mid now : Option (List ℕ)) (xs ys : List ℕ) → Appends before mid xs
    → OnErr result (AppendsPrefix mid now ys) → OnErr result (AppendsPrefix before now (xs ++ ys))
err-after (Ok x) before mid now xs ys p q = tt
err-after (Err e) before mid now xs ys p q = AppendsPrefix-then before mid now xs ys p q

pub cause-after : {T E : Type 0} (result : Result T E) (before mid now : ℕ) → before ≤ mid → HasCause mid now result
    → HasCause before now result
cause-after (Ok x) before mid now first last = record { later = omega (arith, last.later); failed = tt }
cause-after (Err e) before mid now first last = record { later = omega (arith, last.later); failed = omega (arith, last.failed) }

-- ---- the tags of an object, and then its own fields

object_err : {T E : Type 0} (result : Result T E) (before now : Option (List ℕ)) (object : Object)
    → AppendsPrefix before now (tag_field (tags_in object)) → OnErr result (AppendsPrefix before now (object_text object))
unfolding tags_in
object_err result before now (Node place tags) p = err-first result before now (tag_field tags) (place_text place) p
object_err result before now (Way nodes tags) p = err-first result before now (tag_field tags) (node_field nodes) p
object_err result before now (Relation members tags) p = err-first result before now (tag_field tags) (member_field members) p

object_parts : (object : Object) → object_text object ≡ tag_field (tags_in object) ++ own_text object
unfolding tags_in own_text
object_parts (Node place tags) = refl
object_parts (Way nodes tags) = refl
object_parts (Relation members tags) = refl

module _ {T E : Type 0} (result : Result T E) (object : Object) (tags : TagMap) (same : tags ≡ tags_in object) where
  pub object-err_first : (before now : Option (List ℕ)) → AppendsPrefix before now (tag_field tags)
      → OnErr result (AppendsPrefix before now (object_text object))
  object-err_first before now p = object_err result before now object (subst (λ tags. AppendsPrefix before now (tag_field tags)) same p)

  module _ (before mid now : Option (List ℕ)) (front : Appends before mid (tag_field tags)) where
    own : Appends before mid (tag_field (tags_in object))
    own = subst (λ tags. Appends before mid (tag_field tags)) same front

    pub object-ok : OnOk result (Appends mid now (own_text object)) → OnOk result (Appends before now (object_text object))
    object-ok p = subst (λ text. OnOk result (Appends before now text)) (sym (object_parts object))
        (ok-after result before mid now (tag_field (tags_in object)) (own_text object) own p)

    pub object-err : OnErr result (AppendsPrefix mid now (own_text object)) → OnErr result (AppendsPrefix before now (object_text object))
    object-err p = subst (λ text. OnErr result (AppendsPrefix before now text)) (sym (object_parts object))
        (err-after result before mid now (tag_field (tags_in object)) (own_text object) own p)

sound : (object : Object) → OfTags IsText (tags_in object) → IsOwnSound object → IsSound object
unfolding tags_in IsOwnSound
sound (Node place tags) p q = (q, p)
sound (Way nodes tags) p q = p
sound (Relation members tags) p q = (p, q)

pub object-sound : {T E : Type 0} (result : Result T E) (object : Object) (tags : TagMap) → tags ≡ tags_in object → OfTags IsText tags
    → OnOk result (IsOwnSound object) → OnOk result (IsSound object)
object-sound (Ok x) object tags same p q = sound object (subst (OfTags IsText) same p) q
object-sound (Err e) object tags same p q = tt
