use Rattle.std.proofs.Common.{◌≡◌, ◌∙◌, ◌==◌, ℕ, suc, true, List, [], ◌∷◌, Option, Some, ap, arith, refl, rules, sym}
use Rattle.std.specs.Prelude.{length, map}
use Rattle.std.proofs.lemmas.Bool.{eqb-true}
use Rattle.std.specs.Option.{option_and_then}
use Rattle.std.specs.String.{string_bytes}
use Rattle.run_promise.specs.CommandOf.{follow_of}
use Rattle.run_promise.specs.declared.files.Files.{Files}
use Rattle.updater.specs.Forms.{stored_files}
use Rattle.updater.specs.commands.Follow.{form}
use Rattle.updater.proofs.commands.follow.form.Goals as goal

no_words : {A : Type 0} (words : List A) → (length words == 0) ≡ true → words ≡ []
no_words [] is = refl
no_words (word ∷ words) is = absurd (omega (arith, eqb-true (suc (length words)) 0 is))

-- with no option it is by the files alone
bare : (options words : List (List ℕ)) (place : ℕ) → options ≡ []
    → form options words place ≡ option_and_then (λ (store, files). Some (follow_of store files)) (stored_files 1 words place)
bare options words place is = ap (λ (own : List (List ℕ)). form own words place) is

pub returns : goal.returns
returns c = record {
  read = record {
    read =
        let none : (length c.args.words.options.now == 0) ≡ true = search rules in
        let told : stored_files 1 (map string_bytes c.args.words.form.now) c.args.words.place
        ≡ Some (c.in_ok-store.store.now, c.in_ok-store.files) = search rules in
        sym (bare (map string_bytes c.args.words.options.now) (map string_bytes c.args.words.form.now) c.args.words.place
        (ap (λ own. map string_bytes own) (no_words c.args.words.options.now none))
        ∙ ap (λ (own : Option (List ℕ × Files)). option_and_then (λ (store, files). Some (follow_of store files)) own) told);
    fits = c.in_ok-store.ensures.fits;
  };
}
