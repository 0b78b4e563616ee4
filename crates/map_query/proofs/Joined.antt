-- The box around several lines.
use Rattle.std.proofs.Common.{◌≡◌, ℕ, ◌+◌, ◌<◌, ℤ, List, [], ◌∷◌, ◌++◌, map, length, take, get_or, append_assoc, Option, Some, refl, sym}
use Rattle.std.proofs.Common.{◌∙◌, ap, arith}
use Rattle.std.specs.Prelude.{flat_map}
use Rattle.std.specs.List.{fold}
use Rattle.std.specs.Int.{int_min, int_max}
use Rattle.std.proofs.lemmas.Int.{ints}
use Rattle.std.proofs.lemmas.Grind.{common_steps}
use Rattle.osm_base.specs.declared.values.place.GeoBox.{GeoBox}
use Rattle.osm_base.specs.values.Place.{PlaceOf}
use Rattle.lanes_geo.specs.Box.{box_of}
use Rattle.map_query.specs.Answer.{around, joined_boxes}

min_grouped : (a b c : ℤ) → int_min (int_min a b) c ≡ int_min a (int_min b c)
min_grouped a b c = grind (arith, ints)

max_grouped : (a b c : ℤ) → int_max (int_max a b) c ≡ int_max a (int_max b c)
max_grouped a b c = grind (arith, ints)

-- a fold over two lists is that of the folds
fold_grouped : (f : ℤ → ℤ → ℤ) → ((a b c : ℤ) → f (f a b) c ≡ f a (f b c)) → (a b : ℤ) (xs : List ℤ) → fold f (f a b) xs ≡ f a (fold f b xs)
fold_grouped f grouped a b [] = refl
fold_grouped f grouped a b (x ∷ xs) = ap (λ start. fold f start xs) (grouped a b x) ∙ fold_grouped f grouped a (f b x) xs

fold_two : (f : ℤ → ℤ → ℤ) → ((a b c : ℤ) → f (f a b) c ≡ f a (f b c)) → (g : PlaceOf → ℤ) (a : ℤ) (xs ys : List PlaceOf) (y : PlaceOf)
    → fold f a (map g (xs ++ y ∷ ys)) ≡ f (fold f a (map g xs)) (fold f (g y) (map g ys))
fold_two f grouped g a [] ys y = fold_grouped f grouped a (g y) (map g ys)
fold_two f grouped g a (x ∷ xs) ys y = fold_two f grouped g (f a (g x)) xs ys y

no_more : {A : Type 0} (xs : List A) → xs ++ [] ≡ xs
no_more [] = refl
no_more (x ∷ xs) = ap (λ ys. x ∷ ys) (no_more xs)

pub box_of-append : (xs ys : List PlaceOf) → box_of (xs ++ ys) ≡ joined_boxes (box_of xs) (box_of ys)
box_of-append [] ys = refl
box_of-append (x ∷ xs) [] = ap (λ places. box_of (x ∷ places)) (no_more xs)
box_of-append (x ∷ xs) (y ∷ ys) = λ i. Some (record {
  west = fold_two int_min min_grouped (λ place. place.lon) x.lon xs ys y i;
  south = fold_two int_min min_grouped (λ place. place.lat) x.lat xs ys y i;
  east = fold_two int_max max_grouped (λ place. place.lon) x.lon xs ys y i;
  north = fold_two int_max max_grouped (λ place. place.lat) x.lat xs ys y i;
})

-- a list that grows by one more of another
one_more : {A : Type 0} (xs : List A) (i : ℕ) (x : A) → i < length xs → x ≡ get_or xs i x → take (i + 1) xs ≡ take i xs ++ x ∷ []
one_more xs i x h e = grind (arith, common_steps)

flat_map_append : {A : Type 0} (f : A → List PlaceOf) (xs : List A) (x : A) → flat_map f (xs ++ x ∷ []) ≡ flat_map f xs ++ f x
flat_map_append f [] x = no_more (f x)
flat_map_append f (y ∷ ys) x = ap (λ rest. f y ++ rest) (flat_map_append f ys x) ∙ sym (append_assoc (f y) (flat_map f ys) (f x))

-- the box around those so far, and one more
pub box_more : {A : Type 0} (f : A → List PlaceOf) (xs : List A) (i : ℕ) (x : A) (so_far : Option GeoBox) → i < length xs
    → x ≡ get_or xs i x → so_far ≡ box_of (flat_map f (take i xs))
    → joined_boxes so_far (box_of (f x)) ≡ box_of (flat_map f (take (i + 1) xs))
box_more f xs i x so_far h e before =
    ap (λ box. joined_boxes box (box_of (f x))) before ∙ sym (box_of-append (flat_map f (take i xs)) (f x))
    ∙ ap box_of (sym (ap (flat_map f) (one_more xs i x h e) ∙ flat_map_append f (take i xs) x))

-- a box by its sides
pub around_is : (one other : GeoBox) (west south east north : ℤ) → west ≡ int_min one.west other.west
    → south ≡ int_min one.south other.south
    → east ≡ int_max one.east other.east → north ≡ int_max one.north other.north
    → ◌≡◌ {A = GeoBox} (record { west = west; south = south; east = east; north = north }) (around one other)
around_is one other west south east north a b c d = λ i. record { west = a i; south = b i; east = c i; north = d i }
