-- Two texts in UTF-8 are ordered by their bytes as by their characters.
use Rattle.std.proofs.Common.{◌≡◌, ℕ, ◌+◌, ◌/◌, ◌%◌, ◌<◌, ◌≤◌, true, false, ltb, List, [], ◌∷◌, ◌++◌, refl, sym, ◌∙◌, ap, arith, inl, inr}
use Rattle.std.proofs.lemmas.Bool.{cases_lt}
use Rattle.std.proofs.lemmas.Bool.Decides.{nat_tests}
use Rattle.std.proofs.lemmas.Cmp.{nat_cmp_total, tied_itself}
use Rattle.std.proofs.lemmas.Str.{encodes-chars}
use Rattle.std.proofs.Math.Utf8.{encode, encodes, next}
use Rattle.std.specs.Str.{IsUtf8, chars}
use Rattle.std.specs.declared.cmp.Ordering.{Ordering}
use Rattle.std.specs.declared.cmp.Ordering.TheVariants.{Less}
use Rattle.std.specs.Ordering.{nat_cmp, ordering_then, ordering_reverse}
use Rattle.std.specs.Cmp.Lexicographic.{slice_cmp, nat_list_cmp_total}

nat_cmp-less : (a b : ℕ) → a < b → nat_cmp a b ≡ Less
nat_cmp-less a b h = let t : ltb a b ≡ true = grind (arith, nat_tests) in rw t refl

-- the first of two bytes that differ decides
decided : (a b : ℕ) (after : Ordering) → a < b → ordering_then (nat_cmp a b) after ≡ Less
decided a b after h = rw (nat_cmp-less a b h) refl

-- or what follows, where the bytes are equal
undecided : (a b : ℕ) (after : Ordering) → a ≤ b → (a ≡ b → after ≡ Less) → ordering_then (nat_cmp a b) after ≡ Less
undecided a b after h later =
    elim (cases_lt a b) [
      | inl below ↦ decided a b after below
      | inr above ↦
          let level : a ≡ b = omega arith in
          ap (λ x. ordering_then (nat_cmp x b) after) level ∙ ap (λ r. ordering_then r after) (tied_itself nat_cmp_total b) ∙ later level
    ]

encode-one : (c : ℕ) → c < 128 → encode c ≡ c ∷ []
unfolding encode
encode-one c h = let t : ltb c 128 ≡ true = grind (arith, nat_tests) in rw t refl

encode-two : (c : ℕ) → 128 ≤ c → c < 2048 → encode c ≡ (192 + c / 64) ∷ next c ∷ []
unfolding encode
encode-two c g h =
    let s : ltb c 128 ≡ false = grind (arith, nat_tests) in
    let t : ltb c 2048 ≡ true = grind (arith, nat_tests) in
    rw (s, t) refl

encode-three : (c : ℕ) → 2048 ≤ c → c < 65536 → encode c ≡ (224 + c / 4096) ∷ next (c / 64) ∷ next c ∷ []
unfolding encode
encode-three c g h =
    let r : ltb c 128 ≡ false = grind (arith, nat_tests) in
    let s : ltb c 2048 ≡ false = grind (arith, nat_tests) in
    let t : ltb c 65536 ≡ true = grind (arith, nat_tests) in
    rw (r, s, t) refl

encode-four : (c : ℕ) → 65536 ≤ c → encode c ≡ (240 + c / 262144) ∷ next (c / 4096) ∷ next (c / 64) ∷ next c ∷ []
unfolding encode
encode-four c g =
    let r : ltb c 128 ≡ false = grind (arith, nat_tests) in
    let s : ltb c 2048 ≡ false = grind (arith, nat_tests) in
    let t : ltb c 65536 ≡ false = grind (arith, nat_tests) in
    rw (r, s, t) refl

module _ (x y : ℕ) (h : x < y) (xs ys : List ℕ) where
  two_two : 128 ≤ x → y < 2048 → slice_cmp nat_cmp (encode x ++ xs) (encode y ++ ys) ≡ Less
  two_two g k =
      rw (encode-two x g (omega arith), encode-two y (omega arith) k)
      (undecided (192 + x / 64) (192 + y / 64) _ (omega arith) (λ e. decided (128 + x % 64) (128 + y % 64) _ (omega arith)))

  three_three : 2048 ≤ x → y < 65536 → slice_cmp nat_cmp (encode x ++ xs) (encode y ++ ys) ≡ Less
  three_three g k =
      rw (encode-three x g (omega arith), encode-three y (omega arith) k)
      (undecided (224 + x / 4096) (224 + y / 4096) _ (omega arith) (λ e.
      undecided (128 + x / 64 % 64) (128 + y / 64 % 64) _ (omega arith) (λ f.
      decided (128 + x % 64) (128 + y % 64) _ (omega arith))))

  four_four : 65536 ≤ x → slice_cmp nat_cmp (encode x ++ xs) (encode y ++ ys) ≡ Less
  four_four g =
      rw (encode-four x g, encode-four y (omega arith))
      (undecided (240 + x / 262144) (240 + y / 262144) _ (omega arith) (λ d.
      undecided (128 + x / 4096 % 64) (128 + y / 4096 % 64) _ (omega arith) (λ e.
      undecided (128 + x / 64 % 64) (128 + y / 64 % 64) _ (omega arith) (λ f.
      decided (128 + x % 64) (128 + y % 64) _ (omega arith)))))

  pub encode-less : slice_cmp nat_cmp (encode x ++ xs) (encode y ++ ys) ≡ Less
  encode-less =
      elim (cases_lt y 128) [
        | inl low ↦ rw (encode-one x (omega arith), encode-one y low) (decided x y _ h)
        | inr y1 ↦ elim (cases_lt y 2048) [
          | inl low ↦ elim (cases_lt x 128) [
            | inl one ↦ rw (encode-one x one, encode-two y y1 low) (decided x (192 + y / 64) _ (omega arith))
            | inr x1 ↦ two_two x1 low
          ]
          | inr y2 ↦ elim (cases_lt y 65536) [
            | inl low ↦ elim (cases_lt x 128) [
              | inl one ↦ rw (encode-one x one, encode-three y y2 low) (decided x (224 + y / 4096) _ (omega arith))
              | inr x1 ↦ elim (cases_lt x 2048) [
                | inl two ↦ rw (encode-two x x1 two, encode-three y y2 low) (decided (192 + x / 64) (224 + y / 4096) _ (omega arith))
                | inr x2 ↦ three_three x2 low
              ]
            ]
            | inr y3 ↦ elim (cases_lt x 128) [
              | inl one ↦ rw (encode-one x one, encode-four y y3) (decided x (240 + y / 262144) _ (omega arith))
              | inr x1 ↦ elim (cases_lt x 2048) [
                | inl two ↦ rw (encode-two x x1 two, encode-four y y3) (decided (192 + x / 64) (240 + y / 262144) _ (omega arith))
                | inr x2 ↦ elim (cases_lt x 65536) [
                  | inl three ↦ rw (encode-three x x2 three, encode-four y y3) (decided (224 + x / 4096) (240 + y / 262144) _ (omega arith))
                  | inr x3 ↦ four_four x3
                ]
              ]
            ]
          ]
        ]
      ]

encode-some : (c : ℕ) → (byte : ℕ) × (bytes : List ℕ) × (encode c ≡ byte ∷ bytes)
encode-some c =
    elim (cases_lt c 128) [
      | inl low ↦ (_, _, encode-one c low)
      | inr c1 ↦ elim (cases_lt c 2048) [
        | inl low ↦ (_, _, encode-two c c1 low)
        | inr c2 ↦ elim (cases_lt c 65536) [
          | inl low ↦ (_, _, encode-three c c2 low)
          | inr c3 ↦ (_, _, encode-four c c3)
        ]
      ]
    ]

same_front : (front xs ys : List ℕ) → slice_cmp nat_cmp (front ++ xs) (front ++ ys) ≡ slice_cmp nat_cmp xs ys
same_front [] xs ys = refl
same_front (byte ∷ front) xs ys =
    ap (λ r. ordering_then r (slice_cmp nat_cmp (front ++ xs) (front ++ ys))) (tied_itself nat_cmp_total byte) ∙ same_front front xs ys

-- one character more in front
encode-order : (x y : ℕ) (xs ys : List ℕ)
    → slice_cmp nat_cmp (encode x ++ xs) (encode y ++ ys) ≡ ordering_then (nat_cmp x y) (slice_cmp nat_cmp xs ys)
encode-order x y xs ys =
    elim (cases_lt x y) [
      | inl below ↦ encode-less x y below xs ys ∙ sym (decided x y (slice_cmp nat_cmp xs ys) below)
      | inr least ↦ elim (cases_lt y x) [
        | inl above ↦
            nat_list_cmp_total.antisymm (encode x ++ xs) (encode y ++ ys)
            ∙ ap ordering_reverse (encode-less y x above ys xs)
            ∙ sym (ap (λ r. ordering_then r (slice_cmp nat_cmp xs ys))
            (nat_cmp_total.antisymm x y ∙ ap ordering_reverse (nat_cmp-less y x above)))
        | inr most ↦
            let level : x ≡ y = omega arith in
            ap (λ c. slice_cmp nat_cmp (encode c ++ xs) (encode y ++ ys)) level
            ∙ same_front (encode y) xs ys
            ∙ sym (ap (λ r. ordering_then r (slice_cmp nat_cmp xs ys)) (ap (λ c. nat_cmp c y) level ∙ tied_itself nat_cmp_total y))
      ]
    ]

pub encodes-order : (xs ys : List ℕ) → slice_cmp nat_cmp (encodes xs) (encodes ys) ≡ slice_cmp nat_cmp xs ys
encodes-order [] [] = refl
encodes-order [] (y ∷ ys) = let s = encode-some y in rw (s.2) refl
encodes-order (x ∷ xs) [] = let s = encode-some x in rw (s.2) refl
encodes-order (x ∷ xs) (y ∷ ys) =
    encode-order x y (encodes xs) (encodes ys) ∙ ap (ordering_then (nat_cmp x y)) (encodes-order xs ys)

-- so the order of two texts is that of their bytes
pub chars-order : (text other : List ℕ) → IsUtf8 text → IsUtf8 other
    → slice_cmp nat_cmp (chars text) (chars other) ≡ slice_cmp nat_cmp text other
chars-order text other u w =
    sym (encodes-order (chars text) (chars other))
    ∙ ap (λ bytes. slice_cmp nat_cmp bytes (encodes (chars other))) (encodes-chars text u)
    ∙ ap (λ bytes. slice_cmp nat_cmp text bytes) (encodes-chars other w)
