-- Bytes that are held back, one after the other.
use Rattle.std.proofs.Common.{◌≡◌, ℕ, ◌+◌, ◌<◌, List, [], ◌∷◌, ◌++◌, length, take, drop, get_or, Option, Some, None, Result, Ok, Err, sym, ◌∙◌, ap, subst, append_assoc}
use Rattle.std.specs.Io.KnownBytes.{Appends}
use Rattle.std.specs.Result.{OnErr, OnOk}
use Rattle.std.specs.Prelude.{flat_map}
use Rattle.std.proofs.lemmas.Grind.{flat_map-append}
use Rattle.std.proofs.lemmas.List.{append-nil, take-append-drop, take_more}
use Rattle.outside.specs.Bytes.{AppendsPrefix}
use Rattle.due_tiles.specs.Piece.{Puts}

pub appends_none : (now : Option (List ℕ)) → Appends now now []
appends_none None = tt
appends_none (Some bytes) = sym (append-nil bytes)

pub appends_then : (before mid now : Option (List ℕ)) (xs ys : List ℕ) → Appends before mid xs → Appends mid now ys
    → Appends before now (xs ++ ys)
appends_then None mid now xs ys p q = tt
appends_then (Some a) None now xs ys p q = absurd p
appends_then (Some a) (Some b) None xs ys p q = q
appends_then (Some a) (Some b) (Some c) xs ys p q = q ∙ ap (λ front. front ++ ys) p ∙ append_assoc a xs ys

pub stops_behind : (before mid now : Option (List ℕ)) (xs ys : List ℕ) → Appends before mid xs → AppendsPrefix mid now ys
    → AppendsPrefix before now (xs ++ ys)
stops_behind None mid now xs ys p q = tt
stops_behind (Some a) None now xs ys p q = absurd p
stops_behind (Some a) (Some b) None xs ys p q = q
stops_behind (Some a) (Some b) (Some c) xs ys p (front, back, whole, grown) = (
  xs ++ front,
  back,
  ap (λ rest. xs ++ rest) whole ∙ sym (append_assoc xs front back),
  grown ∙ ap (λ all. all ++ front) p ∙ append_assoc a xs front,
)

stops_more : (before now : Option (List ℕ)) (xs ys : List ℕ) → AppendsPrefix before now xs → AppendsPrefix before now (xs ++ ys)
stops_more None now xs ys p = tt
stops_more (Some a) None xs ys p = p
stops_more (Some a) (Some b) xs ys (front, back, whole, grown) =
    (front, back ++ ys, ap (λ all. all ++ ys) whole ∙ append_assoc front back ys, grown)

-- none, and one after the other

pub puts_none : (now : Option (List ℕ)) (held : List ℕ) → Puts now now held held []
puts_none now held = ([], appends_none now, append-nil held)

pub puts_then : (before mid now : Option (List ℕ)) (held kept left xs ys : List ℕ) → Puts before mid held kept xs → Puts mid now kept left ys
    → Puts before now held left (xs ++ ys)
puts_then before mid now held kept left xs ys (front, one, is) (back, two, are) = (
  front ++ back,
  appends_then before mid now front back one two,
  sym (append_assoc held xs ys) ∙ ap (λ own. own ++ ys) is ∙ append_assoc front kept ys ∙ ap (λ own. front ++ own) are
      ∙ sym (append_assoc front back left),
)

-- what is held is written, and then more

pub puts_alone : (before mid now : Option (List ℕ)) (held left bytes : List ℕ) → Appends before mid held → Appends mid now bytes → left ≡ []
    → Puts before now held left bytes
puts_alone before mid now held left bytes one two none =
    (held ++ bytes, appends_then before mid now held bytes one two, sym (append-nil (held ++ bytes)) ∙ ap (λ own. (held ++ bytes) ++ own) (sym none))

-- the output fails at the first of two pieces, or at the second

pub fails_first : (before now : Option (List ℕ)) (held xs ys : List ℕ) → AppendsPrefix before now (held ++ xs)
    → AppendsPrefix before now (held ++ (xs ++ ys))
fails_first before now held xs ys p =
    subst (λ (own : List ℕ). AppendsPrefix before now own) (append_assoc held xs ys) (stops_more before now (held ++ xs) ys p)

pub fails_then : (before mid now : Option (List ℕ)) (held kept xs ys : List ℕ) → Puts before mid held kept xs
    → AppendsPrefix mid now (kept ++ ys) → AppendsPrefix before now (held ++ (xs ++ ys))
fails_then before mid now held kept xs ys (front, one, is) p =
    subst (λ (own : List ℕ). AppendsPrefix before now own)
    (sym (append_assoc front kept ys) ∙ ap (λ own. own ++ ys) (sym is) ∙ append_assoc held xs ys)
    (stops_behind before mid now front (kept ++ ys) one p)

-- what an answer says, said otherwise

pub on_err : {T E : Type 0} (P : Type 0) (result : Result T E) → P → OnErr result P
on_err P (Ok value) p = tt
on_err P (Err fault) p = p

pub on_ok_so : {T E : Type 0} (P Q : Type 0) (result : Result T E) → (P → Q) → OnOk result P → OnOk result Q
on_ok_so P Q (Ok value) so p = so p
on_ok_so P Q (Err fault) so p = tt

pub on_err_so : {T E : Type 0} (P Q : Type 0) (result : Result T E) → (P → Q) → OnErr result P → OnErr result Q
on_err_so P Q (Ok value) so p = tt
on_err_so P Q (Err fault) so p = so p

-- one of a list more, and a fault at it

module _ {A : Type 0} (f : A → List ℕ) (all : List A) (i : ℕ) (d item : A) (within : i < length all) (is : item ≡ get_or all i d) where
  so_far : flat_map f (take i all) ++ f item ≡ flat_map f (take (i + 1) all)
  so_far = sym (ap (flat_map f) (take_more all i d within ∙ ap (λ own. take i all ++ own ∷ []) (sym is)) ∙ flat_map-append f (take i all) (item ∷ [])
      ∙ ap (λ own. flat_map f (take i all) ++ own) (append-nil (f item)))

  in_all : (flat_map f (take i all) ++ f item) ++ flat_map f (drop (i + 1) all) ≡ flat_map f all
  in_all = ap (λ own. own ++ flat_map f (drop (i + 1) all)) so_far ∙ sym (flat_map-append f (take (i + 1) all) (drop (i + 1) all))
      ∙ ap (flat_map f) (take-append-drop (i + 1) all)

  pub puts_more : (before mid now : Option (List ℕ)) (held kept left : List ℕ) → Puts before mid held kept (flat_map f (take i all))
      → Puts mid now kept left (f item) → Puts before now held left (flat_map f (take (i + 1) all))
  puts_more before mid now held kept left one two =
      subst (λ (own : List ℕ). Puts before now held left own) so_far
      (puts_then before mid now held kept left (flat_map f (take i all)) (f item) one two)

  pub fails_at : (before mid now : Option (List ℕ)) (held kept : List ℕ) → Puts before mid held kept (flat_map f (take i all))
      → AppendsPrefix mid now (kept ++ f item) → AppendsPrefix before now (held ++ flat_map f all)
  fails_at before mid now held kept one two =
      subst (λ (own : List ℕ). AppendsPrefix before now (held ++ own)) in_all
      (fails_first before now held (flat_map f (take i all) ++ f item) (flat_map f (drop (i + 1) all))
      (fails_then before mid now held kept (flat_map f (take i all)) (f item) one two))

-- the piece began with nothing held, and ends so

pub written : (before mid now : Option (List ℕ)) (left text : List ℕ) → Puts before mid [] left text → Appends mid now left → Appends before now text
written before mid now left text (front, one, is) two =
    subst (λ (own : List ℕ). Appends before now own) (sym is) (appends_then before mid now front left one two)

pub unwritten : (before mid now : Option (List ℕ)) (left text : List ℕ) → Puts before mid [] left text → AppendsPrefix mid now left
    → AppendsPrefix before now text
unwritten before mid now left text (front, one, is) two =
    subst (λ (own : List ℕ). AppendsPrefix before now own) (sym is) (stops_behind before mid now front left one two)
