-- Where no lane is more than its room above its least, each byte is within.
use Rattle.std.proofs.Common.{◌≡◌, ℕ, ◌+◌, ◌-◌, ◌*◌, ◌%◌, ◌^◌, ◌<◌, ◌≤◌, Bool, true, false, not, ◌&&◌}
use Rattle.std.proofs.Common.{List, [], ◌∷◌, map, length, Fits, w8}
use Rattle.std.proofs.Common.{refl, sym, ap, ap₂, ◌∙◌, arith, cond, leb, ltb, eqb}
use Rattle.std.proofs.lemmas.Bool.{not-true, and_from, and_parts, eq-eqb, eqb-true, ltb-false, le-ltb}
use Rattle.std.proofs.lemmas.Bool.{leb-true, le-leb}
use Rattle.std.proofs.lemmas.Simd.{mask_l-mod}
use Rattle.std.proofs.lemmas.List.{length-map}
use Rattle.std.specs.List.{list_all, zip}
use lib.Lanes.{zip2, mask_l, top, Each1}
use Rattle.opl_object.specs.Runs.{is_room, is_within}

-- how far a byte is behind the least, where what is below comes round
abbrev pub behind : ℕ → ℕ → ℕ
behind byte least = (byte + (256 - least)) % 256

-- all bits of a lane that is farther
abbrev pub above : ℕ → ℕ → ℕ
above room far = cond (ltb room far) 255 0

-- two tests that pass together
pub same_bool : (p q : Bool) → (p ≡ true → q ≡ true) → (q ≡ true → p ≡ true) → p ≡ q
same_bool true q onto back = sym (onto refl)
same_bool false true onto back = back refl
same_bool false false onto back = refl

all_or_none : (b : Bool) → top 7 (cond b 255 0) ≡ b
all_or_none true = refl
all_or_none false = refl

none_set : (m : Bool) (rest : ℕ) → eqb (cond m 1 0 + 2 * rest) 0 ≡ (not m && eqb rest 0)
none_set true rest = same_bool _ _ (λ e. let zero_sum : 1 + 2 * rest ≡ 0 = eqb-true _ _ e in absurd (omega (arith, zero_sum))) (λ e. cc)
none_set false rest = same_bool _ _ (λ e. let zero_sum : 0 + 2 * rest ≡ 0 = eqb-true _ _ e in eq-eqb _ _ (omega (arith, zero_sum)))
    (λ e. let none = eqb-true _ _ e in eq-eqb _ _ (omega (arith, none)))

not_over : (byte least room : ℕ) → byte < 256 → least + room ≤ 255 → not (ltb room (behind byte least)) ≡ is_within (byte, (least, room))
not_over byte least room fits last = same_bool _ _
    (λ e. let near = ltb-false room (behind byte least) (not-true _ e) in
    and_from _ _ (le-leb least byte (omega (arith, near))) (le-leb byte (least + room) (omega (arith, near))))
    (λ e. let parts = and_parts (leb least byte) (leb byte (least + room)) e in
    let low = leb-true least byte parts.0 in let high = leb-true byte (least + room) parts.1 in
    ap not (le-ltb room (behind byte least) (omega (arith, low, high))))

-- the mask is empty just where each byte is within
empty_mask : (bytes least room : List ℕ) → Each1 (Fits w8) bytes → list_all is_room (zip least room) ≡ true
    → eqb (mask_l (map (top 7) (zip2 above room (zip2 behind bytes least)))) 0 ≡ list_all is_within (zip bytes (zip least room))
empty_mask [] least [] fits all = refl
empty_mask [] least (r ∷ room) fits all = refl
empty_mask (b ∷ bytes) [] [] fits all = refl
empty_mask (b ∷ bytes) [] (r ∷ room) fits all = refl
empty_mask (b ∷ bytes) (l ∷ least) [] fits all = refl
empty_mask (b ∷ bytes) (l ∷ least) (r ∷ room) fits all =
    let parts = and_parts _ _ all in
    let last = leb-true _ _ parts.0 in
    let below : b < 256 = fits.0.fits in
    none_set (top 7 (above r (behind b l))) _
    ∙ ap₂ (λ p q. p && q) (ap not (all_or_none (ltb r (behind b l))) ∙ not_over b l r below last)
    (empty_mask bytes least room fits.1 parts.1)

few_left : (f : ℕ → ℕ → ℕ) (xs ys : List ℕ) → length (zip2 f xs ys) ≤ length xs
few_left f [] ys = omega arith
few_left f (x ∷ xs) [] = omega arith
few_left f (x ∷ xs) (y ∷ ys) = let rest = few_left f xs ys in omega (arith, rest)

few_right : (f : ℕ → ℕ → ℕ) (xs ys : List ℕ) → length (zip2 f xs ys) ≤ length ys
few_right f [] ys = omega arith
few_right f (x ∷ xs) [] = omega arith
few_right f (x ∷ xs) (y ∷ ys) = let rest = few_right f xs ys in omega (arith, rest)

-- the same of the mask that is taken of a load
pub all_within_from_mask : (text least room : List ℕ) → Each1 (Fits w8) text → length text ≡ 16 → list_all is_room (zip least room) ≡ true
    → eqb (mask_l (map (top 7) (zip2 above room (zip2 behind text least))) % 2 ^ 64) 0 ≡ list_all is_within (zip text (zip least room))
all_within_from_mask text least room fits long all =
    let ms = map (top 7) (zip2 above room (zip2 behind text least)) in
    let one = few_right above room (zip2 behind text least) in
    let two = few_left behind text least in
    ap (λ n. eqb n 0) (mask_l-mod ms 64 (omega (arith, one, two, long, length-map (zip2 above room (zip2 behind text least)) (top 7))))
    ∙ empty_mask text least room fits all
