-- Lists of words, and the same lists of their bytes.
use Rattle.std.proofs.Common.{◌≡◌, ℕ, None, ◌-◌, ◌≤◌, Bool, false, cond, ltb, List, [], ◌∷◌, length, take, drop, refl, sym, ◌∙◌, ap, arith}
use Rattle.std.proofs.Common.{map as each}
use Rattle.std.specs.List.{prefix_len}
use Rattle.std.proofs.lemmas.List.{take-map, drop-map, length-map}
use Rattle.std.proofs.lemmas.Bool.Decides.{nat_tests}
use Rattle.updater.specs.Command.{is_option, options_of, form_of, without_dashes, named, command}

-- how many items pass from the front on, told by a view of them
prefix_len-map : {A B : Type 0} (view : A → B) (test : B → Bool) (items : List A)
    → prefix_len test (each view items) ≡ prefix_len (λ item. test (view item)) items
prefix_len-map view test [] = refl
prefix_len-map view test (item ∷ items) = simp (prefix_len-map view test items)

-- the command of words that are cut as the program cuts them
module _ {A : Type 0} (view : A → List ℕ) (name : A) (later options form : List A) (count size : ℕ)
    (sized : size ≡ length (name ∷ later)) (few : size ≤ 4096)
    (counted : count ≡ prefix_len (λ word. is_option (view word)) later) (cut : options ≡ take count later)
    (rest : each view form ≡ without_dashes (each view (drop count later))) where
  counted_bytes : count ≡ prefix_len is_option (each view later)
  counted_bytes = counted ∙ sym (prefix_len-map view is_option later)

  the_options : each view options ≡ options_of (each view later)
  the_options = ap (each view) cut ∙ sym (take-map view count later) ∙ ap (λ k. take k (each view later)) counted_bytes

  the_form : each view form ≡ form_of (each view later)
  the_form = rest ∙ ap without_dashes (sym (drop-map view count later) ∙ ap (λ k. drop k (each view later)) counted_bytes)

  the_size : size ≡ length (view name ∷ each view later)
  the_size = sized ∙ sym (length-map (name ∷ later) view)

  the_place : size - length form ≡ length (view name ∷ each view later) - length (form_of (each view later))
  the_place =
      ap (λ s. s - length form) the_size
      ∙ ap (λ l. length (view name ∷ each view later) - l) (sym (length-map form view) ∙ ap length the_form)

  within : ltb 4096 (length (view name ∷ each view later)) ≡ false
  within = let few_bytes : length (view name ∷ each view later) ≤ 4096 = omega (arith, the_size, few) in grind (arith, nat_tests)

  command-row : command (view name ∷ each view later)
      ≡ named (view name) (options_of (each view later)) (form_of (each view later))
      (length (view name ∷ each view later) - length (form_of (each view later)))
  unfolding command
  command-row =
      ap (λ b. cond b None (named (view name) (options_of (each view later)) (form_of (each view later))
      (length (view name ∷ each view later) - length (form_of (each view later))))) within

  pub command-words : named (view name) (each view options) (each view form) (size - length form) ≡ command (each view (name ∷ later))
  command-words =
      ap (λ o. named (view name) o (each view form) (size - length form)) the_options
      ∙ ap (λ f. named (view name) (options_of (each view later)) f (size - length form)) the_form
      ∙ ap (λ p. named (view name) (options_of (each view later)) (form_of (each view later)) p) the_place
      ∙ sym command-row
