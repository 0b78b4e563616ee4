-- What the mask of sixteen lanes says of the bytes that were loaded into them.
use Rattle.std.proofs.Common.{◌≡◌, ℕ, ◌+◌, ◌%◌, ◌^◌, ◌<◌, ◌≤◌, Bool, true, false, not, ◌||◌, List, [], ◌∷◌, map, length, get_or, replicate, Fits, w8}
use Rattle.std.proofs.Common.{refl, sym, ap, ap₂, ◌∙◌, subst, arith, inl, inr}
use Rattle.std.proofs.lemmas.Bool.{agree_below, agree_below_at, not-true, not-false, cases_eq, eq-eqb, ne_eqb, cond-true, cond-false}
use Rattle.std.proofs.lemmas.Simd.{map-map, mask_l-mod, length-chunk, get_or-chunk, leading_from_mask_l, trailing_mask_l}
use Rattle.std.proofs.lemmas.List.{length-map}
use Rattle.std.proofs.lemmas.List.Sums.{prefix_len-le-length, prefix_len_passes, prefix_len_stops}
use Rattle.std.specs.List.{prefix_len}
use lib.Lanes.{chunk, zip2, mask_l, top}
use Rattle.opl_object.specs.Runs.{IsRun, Passes, first_set}

zip2_maps : (both : ℕ → ℕ → ℕ) (one other : ℕ → ℕ) (bytes : List ℕ)
    → zip2 both (map one bytes) (map other bytes) ≡ map (λ byte. both (one byte) (other byte)) bytes
zip2_maps both one other [] = refl
zip2_maps both one other (byte ∷ bytes) = ap (λ lanes. both (one byte) (other byte) ∷ lanes) (zip2_maps both one other bytes)

-- two vectors that hang on the bytes lane by lane, put together lane by lane
pub lane_by_lane : (both : ℕ → ℕ → ℕ) (one other : ℕ → ℕ) (bytes : List ℕ) {left right : List ℕ} → left ≡ map one bytes → right ≡ map other bytes
    → zip2 both left right ≡ map (λ byte. both (one byte) (other byte)) bytes
lane_by_lane both one other bytes l r = ap₂ (zip2 both) l r ∙ zip2_maps both one other bytes

-- the same number in each lane
pub all_lanes : (bytes : List ℕ) (count number : ℕ) → length bytes ≡ count → replicate count number ≡ map (λ _. number) bytes
all_lanes [] count number e = ap (λ n. replicate n number) (sym e)
all_lanes (byte ∷ bytes) count number e = ap (λ n. replicate n number) (sym e) ∙ ap (λ lanes. number ∷ lanes) (all_lanes bytes (length bytes) number refl)

-- the bytes themselves
pub own_lanes : (bytes : List ℕ) → bytes ≡ map (λ byte. byte) bytes
own_lanes [] = refl
own_lanes (byte ∷ bytes) = ap (λ lanes. byte ∷ lanes) (own_lanes bytes)

-- the first lane whose bit is set is the first byte that stops
lowest_stop : (stops : ℕ → Bool) (bytes : List ℕ) → length bytes ≡ 16 → first_set (mask_l (map stops bytes)) ≡ prefix_len (λ byte. not (stops byte)) bytes
lowest_stop stops bytes long = elim (cases_eq (mask_l (map stops bytes)) 0) [
  | inl none ↦ cond-true _ _ _ (eq-eqb _ _ none) ∙ sym (leading_from_mask_l stops bytes none ∙ long)
  | inr some ↦ cond-false _ _ _ (ne_eqb _ _ some) ∙ trailing_mask_l stops 64 bytes (omega arith) (omega arith)
]

module _ (test : ℕ → Bool) (text : List ℕ) (run : ℕ) (lanes : List ℕ) (long : 16 ≤ length text) (fits : (k : ℕ) → Fits w8 (get_or text k 0))
    (found : run ≡ first_set (mask_l (map (top 7) lanes) % 2 ^ 64)) (f : ℕ → ℕ) (each : lanes ≡ map f (chunk 0 16 text)) where
  abbrev stops : ℕ → Bool
  stops byte = top 7 (f byte)

  full : length (chunk 0 16 text) ≡ 16
  full = length-chunk 0 16 text long

  counted : run ≡ prefix_len (λ byte. not (stops byte)) (chunk 0 16 text)
  counted =
      let bytes = chunk 0 16 text in
      let mask = ap (λ l. mask_l l % 2 ^ 64) (ap (map (top 7)) each ∙ map-map (top 7) f bytes)
      ∙ mask_l-mod (map stops bytes) 64 (omega (arith, length-map bytes stops, full)) in
      found ∙ ap first_set mask ∙ lowest_stop stops bytes full

  few : run ≤ 16
  few = omega (arith, counted, full, prefix_len-le-length (λ byte. not (stops byte)) (chunk 0 16 text))

  -- the byte that a lane was loaded with
  loaded : (k : ℕ) → k < 16 → get_or (chunk 0 16 text) k 0 ≡ get_or text k 0
  loaded k lt = let same : 0 + k ≡ k = omega arith in get_or-chunk 0 16 text k 0 lt ∙ ap (λ j. get_or text j 0) same

  goes_on : (k : ℕ) → k < run → stops (get_or text k 0) ≡ false
  goes_on k lt = subst (λ byte. stops byte ≡ false) (loaded k (omega (arith, few)))
      (not-true _ (prefix_len_passes (λ byte. not (stops byte)) (chunk 0 16 text) k 0 (omega (arith, counted))))

  -- each byte that stops no lane passes the test
  pub passing : agree_below (λ byte. stops byte || test byte) (λ _. true) 256 ≡ true → Passes test text run
  passing all = record {
    few = few;
    all = λ k lt. sym (ap (λ b. b || test (get_or text k 0)) (goes_on k lt))
        ∙ agree_below_at (λ byte. stops byte || test byte) (λ _. true) 256 (get_or text k 0) all (fits k).fits;
  }

  -- a lane is stopped just where the test fails
  pub running : agree_below stops (λ byte. not (test byte)) 256 ≡ true → IsRun test text run
  running all = record {
    passes = record {
      few = few;
      all = λ k lt. not-false _ (sym (agree_below_at stops (λ byte. not (test byte)) 256 (get_or text k 0) all (fits k).fits) ∙ goes_on k lt);
    };
    stops = λ short.
        let here = ap (λ j. get_or (chunk 0 16 text) j 0) (sym counted) ∙ loaded run short in
        let set = subst (λ byte. stops byte ≡ true) here
        (not-false _ (prefix_len_stops (λ byte. not (stops byte)) (chunk 0 16 text) 0 (omega (arith, counted, full)))) in
        not-true _ (sym (agree_below_at stops (λ byte. not (test byte)) 256 (get_or text run 0) all (fits run).fits) ∙ set);
  }
