-- Options, word after word.
use Rattle.std.proofs.Common.{◌≡◌, ◌≤◌, ◌+◌, ◌<◌, true, arith, ℕ, Option, None, Some, List, ◌∷◌, length, drop, refl, sym, ◌∙◌, ap, subst}
use Rattle.std.proofs.Common.{map as each}
use Rattle.std.proofs.Common.{get_or}
use Rattle.std.specs.Int.{is_power_of_two}
use Rattle.std.specs.Int.Count.{ones}
use Rattle.std.specs.Option.{option_and_then, unwrap_or}
use Rattle.std.specs.Prelude.{IfSome}
use Rattle.std.proofs.lemmas.List.{drop_more}
use Rattle.updater.specs.declared.options.Allowed.{Allowed}
use Rattle.updater.specs.declared.options.Options.{Options}
use Rattle.updater.specs.declared.options.TheConstants.{BUCKETS, READERS}
use Rattle.run_promise.specs.declared.ranges.TheConstants.{MAX_AHEAD, MAX_BUCKETS, MAX_READERS}
use Rattle.run_promise.specs.CommandOf.{AreBuckets, AreReaders}
use Rattle.updater.specs.Options.{AreInRange, with_option, with_options}

-- the word that comes next is read, and then those behind it
with_next : {A : Type 0} (view : A → List ℕ) (allowed : Allowed) (options : Options) (words : List A) (i : ℕ) (word : A) → i < length words
    → word ≡ get_or words i word
    → with_options allowed options (each view (drop i words))
    ≡ option_and_then (λ more. with_options allowed more (each view (drop (i + 1) words))) (with_option allowed options (view word))
with_next view allowed options words i word there is =
    ap (λ own. with_options allowed options (each view own)) (drop_more words i word there ∙ ap (λ own. own ∷ drop (i + 1) words) (sym is))

pub with_more : {A : Type 0} (view : A → List ℕ) (allowed : Allowed) (options more : Options) (words : List A) (i : ℕ) (word : A)
    → i < length words → word ≡ get_or words i word → Some more ≡ with_option allowed options (view word)
    → with_options allowed options (each view (drop i words)) ≡ with_options allowed more (each view (drop (i + 1) words))
with_more view allowed options more words i word there is read =
    with_next view allowed options words i word there is
    ∙ ap (option_and_then (λ own. with_options allowed own (each view (drop (i + 1) words)))) (sym read)

pub with_none : {A : Type 0} (view : A → List ℕ) (allowed : Allowed) (options : Options) (words : List A) (i : ℕ) (word : A)
    → i < length words → word ≡ get_or words i word → None ≡ with_option allowed options (view word)
    → None ≡ with_options allowed options (each view (drop i words))
with_none view allowed options words i word there is read =
    sym (with_next view allowed options words i word there is
    ∙ ap (option_and_then (λ own. with_options allowed own (each view (drop (i + 1) words)))) (sym read))

-- a value that stands there, or the one that is meant where none does
readers_among : (value : Option ℕ) (readers : ℕ) → IfSome value (λ readers. (1 ≤ readers) × (readers ≤ MAX_READERS))
    → readers ≡ unwrap_or value READERS → AreReaders readers
readers_among None readers h is = record { one = omega (arith, is); limit = omega (arith, is) }
readers_among (Some value) readers h is = record { one = omega (arith, is, h.0); limit = omega (arith, is, h.1) }

pub readers_fit : (options : Options) (readers : ℕ) → AreInRange options → readers ≡ unwrap_or options.readers READERS → AreReaders readers
readers_fit options readers range is = readers_among options.readers readers range.few_readers is

pub default_power : is_power_of_two 1024 ≡ true
unfolding ones
default_power = refl

buckets_among : (value : Option ℕ) (buckets : ℕ) → IfSome value (λ buckets. (is_power_of_two buckets ≡ true) × (buckets ≤ MAX_BUCKETS))
    → buckets ≡ unwrap_or value BUCKETS → AreBuckets buckets
buckets_among None buckets h is = subst (λ (own : ℕ). AreBuckets own) (sym is) (record { power = default_power; limit = omega arith })
buckets_among (Some value) buckets h is = subst (λ (own : ℕ). AreBuckets own) (sym is) (record { power = h.0; limit = h.1 })

pub buckets_fit : (options : Options) (buckets : ℕ) → AreInRange options → buckets ≡ unwrap_or options.buckets BUCKETS → AreBuckets buckets
buckets_fit options buckets range is = buckets_among options.buckets buckets range.power is

ahead_among : (value : Option ℕ) (ahead : ℕ) → IfSome value (λ ahead. ahead ≤ MAX_AHEAD) → ahead ≡ unwrap_or value 0 → ahead ≤ MAX_AHEAD
ahead_among None ahead h is = omega (arith, is)
ahead_among (Some value) ahead h is = omega (arith, is, h)

pub ahead_fits : (options : Options) (ahead : ℕ) → AreInRange options → ahead ≡ unwrap_or options.ahead 0 → ahead ≤ MAX_AHEAD
ahead_fits options ahead range is = ahead_among options.ahead ahead range.few_ahead is
