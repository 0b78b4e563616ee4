-- The bytes of a store that was just formatted mean the empty store.
use Rattle.std.proofs.Common.{◌≡◌, ◌≢◌, inl, inr, ℕ, ◌+◌, ◌-◌, ◌*◌, ◌%◌, ◌≤◌, List, [], ◌∷◌, length, replicate, refl, sym, subst, ◌∙◌}
use Rattle.std.proofs.Common.{arith}
use Rattle.std.proofs.lemmas.Bool.{cases_lt}
use Rattle.std.proofs.lemmas.List.{get_or-replicate, length-replicate}
use Rattle.page_journal.specs.Home.{Home, IsFresh, IsHomePage}
use Rattle.page_journal.specs.Pages.{gate, number, page_from}
use Rattle.page_journal.specs.declared.layout.TheConstants.{FORMAT, OPEN}
use Rattle.page_journal.proofs.Bytes.{number-page_from, number_same}
use Rattle.chain_store.specs.Chain.{HasPages}
use Rattle.chain_store.specs.Directories.{first_in, root_in}
use Rattle.chain_store.specs.Links.{page_in}
use Rattle.chain_store.specs.State.{IsOwner, IsState}
use Rattle.chain_store.proofs.FirstLaws.{first_in-bucket, first_in-free, first_in-root}
use Rattle.chain_store.proofs.NumberLaws.{number-beyond}
use Rattle.bucket_store.specs.Image.{HasImage, Spells, fresh_image}

-- zeros are the number 0
eight_zeros : number (replicate 8 0) 0 ≡ 0
unfolding number
eight_zeros = refl

module _ (bytes : List ℕ) (is : IsFresh bytes) where
  abbrev front : List ℕ
  front = page_from bytes 4096

  abbrev pages : List (List ℕ)
  pages = page_from bytes 4096 ∷ []

  -- behind its first two numbers the root page has zeros
  zero_at : (at : ℕ) → 16 ≤ at → at + 8 ≤ 4096 → number front at ≡ 0
  zero_at at above below =
      let long = is.long in
      let few : List ℕ = replicate 8 0 in
      let few_long : length few ≡ 8 = length-replicate {A = ℕ} 8 0 in
      number-page_from bytes 4096 at (omega (arith, long)) below
      ∙ number_same few bytes 0 (4096 + at) (omega (arith, few_long)) (omega (arith, long, below)) (λ k inside.
      is.zeros (4096 + at + k) (inr (omega (arith, above))) ∙ sym (get_or-replicate 8 (0 + k) 0 0 (omega (arith, inside))))
      ∙ eight_zeros

  format_is : number front 8 ≡ FORMAT
  format_is = let long = is.long in number-page_from bytes 4096 8 (omega (arith, long)) (omega arith) ∙ is.format

  root_is : root_in (page_in pages 1) ≡ fresh_image.root
  unfolding fresh_image
  root_is = λ i. record {
    format = format_is i;
    state = zero_at 16 (omega arith) (omega arith) i;
    changes = zero_at 24 (omega arith) (omega arith) i;
    buckets = zero_at 32 (omega arith) (omega arith) i;
  }

  none_at : (n : ℕ) → IsOwner n → first_in front (λ m. []) n ≡ 0
  none_at n (inl free) = first_in-free front (λ m. []) n free ∙ zero_at 40 (omega arith) (omega arith)
  none_at n (inr chain) = elim (cases_lt n 16) [
    | inl low ↦ first_in-root front (λ m. []) n low ∙ zero_at (48 + 8 * n) (omega arith) (omega (arith, low))
    | inr above ↦
        first_in-bucket front (λ m. []) n (omega (arith, above)) chain ∙ number-beyond [] (8 * ((n - 16) % 65536)) (omega arith)
  ]

  no_pages : (n : ℕ) → IsOwner n → HasPages (page_in pages) (length pages + 1) n (first_in front (λ m. []) n) []
  no_pages n owner = record { path = none_at n owner; few = omega arith }

  fresh_state : IsState fresh_image.root (λ n. []) pages
  unfolding fresh_image
  fresh_state = record {
    some = omega arith;
    fields = root_is;
    count = inl (λ i. 0);
    directory = λ m. [];
    directories = λ m below. record {
      ns = [];
      has = record { path = zero_at (112 + 8 * m) (omega arith) (omega (arith, below)); few = omega arith };
      held = refl;
    };
    long = λ m below. omega arith;
    sound = record {
      chains = λ n owner. ([], no_pages n owner);
      owned = λ p above below. absurd (omega (arith, above, below));
    };
    each = λ n seen chain. record { ns = []; has = no_pages n (inr chain); held = refl };
  }

  fresh_shut : gate bytes ≢ OPEN
  fresh_shut is_open =
      let zero : gate bytes ≡ 0 = is.zeros 4095 (inl (omega arith, omega arith)) in absurd (omega (arith, zero, is_open))

  fresh_home : Home pages bytes
  fresh_home =
      let long = is.long in
      record {
        formatted = record { long = omega (arith, long); marked = is.mark };
        journal = λ is_open. absurd (fresh_shut is_open);
        some = omega arith;
        count = number-page_from bytes 4096 0 (omega (arith, long)) (omega arith) ∙ is.home;
        holds = omega (arith, long);
        each = λ n from to.
            let one : n ≡ 1 = omega (arith, from, to) in
            let here : IsHomePage bytes 1 (page_from bytes 4096) =
            inr (record { not_there = λ is_open. absurd (fresh_shut is_open); same = refl }) in
            subst (λ (k : ℕ). IsHomePage bytes k (page_in (page_from bytes 4096 ∷ []) k)) (sym one) here;
      }

  fresh_spells : Spells fresh_image (λ n. [])
  unfolding fresh_image
  fresh_spells = record {
    texts = λ n below. refl;
    parts = λ m bucket below low. absurd (omega (arith, low));
    none = λ zero m below. refl;
  }

  pub fresh_means : HasImage fresh_image bytes
  fresh_means = record {
    strings = λ n. [];
    state = record { pages = pages; home = fresh_home; state = fresh_state };
    spells =
        fresh_spells;
  }
