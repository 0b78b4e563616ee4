-- What is known of the bytes of a file, from one call to the next.
use Rattle.std.proofs.Common.{◌≡◌, ℕ, ◌+◌, List, ◌++◌, Option, Some, None, replicate, ◌∙◌, arith, subst}
use Rattle.std.proofs.lemmas.List.{replicate-append-replicate}
use Rattle.outside.specs.Reads.{ReadsNoOther}
use Rattle.outside.specs.Inputs.{FilesView}
use Rattle.outside.specs.Bytes.{BothKnown}
use Rattle.std.specs.Prelude.{IfSome}
use Rattle.delta_feed.specs.Stops.{Stops}
use Rattle.delta_feed.specs.declared.fault.FeedFault.{FeedFault}
use Rattle.delta_feed.specs.declared.fault.FeedFault.TheVariants.{Bad, NoBase, Limit, ReadFault, OutOfMemory}

-- two calls in one
pub both : (first second third : Option (List ℕ)) (One Two Both : List ℕ → List ℕ → Type 0) → BothKnown first second One → BothKnown second third Two
    → ((a b c : List ℕ) → One a b → Two b c → Both a c) → BothKnown first third Both
both None second third One Two Both one two make = tt
both (Some a) None third One Two Both one two make = absurd one
both (Some a) (Some b) None One Two Both one two make = two
both (Some a) (Some b) (Some c) One Two Both one two make = make a b c one two

-- one call, of which less is said
pub less : (first second : Option (List ℕ)) (One Other : List ℕ → List ℕ → Type 0) → BothKnown first second One
    → ((a b : List ℕ) → One a b → Other a b) → BothKnown first second Other
less None second One Other one make = tt
less (Some a) None One Other one make = one
less (Some a) (Some b) One Other one make = make a b one

-- what is said of the bytes before alone
pub before : (first second : Option (List ℕ)) (One : List ℕ → List ℕ → Type 0) (Of : List ℕ → Type 0) → BothKnown first second One
    → ((a b : List ℕ) → One a b → Of a) → IfSome first Of
before None second One Of one make = tt
before (Some a) None One Of one make = absurd one
before (Some a) (Some b) One Of one make = make a b one

pub before_two : (first second third : Option (List ℕ)) (One Two : List ℕ → List ℕ → Type 0) (Of : List ℕ → Type 0) → BothKnown first second One
    → BothKnown second third Two → ((a b c : List ℕ) → One a b → Two b c → Of a) → IfSome first Of
before_two None second third One Two Of one two make = tt
before_two (Some a) None third One Two Of one two make = absurd one
before_two (Some a) (Some b) None One Two Of one two make = absurd two
before_two (Some a) (Some b) (Some c) One Two Of one two make = make a b c one two

pub before_then : (first second : Option (List ℕ)) (One : List ℕ → List ℕ → Type 0) (Then Of : List ℕ → Type 0) → BothKnown first second One
    → IfSome second Then → ((a b : List ℕ) → One a b → Then b → Of a) → IfSome first Of
before_then None second One Then Of one then make = tt
before_then (Some a) None One Then Of one then make = absurd one
before_then (Some a) (Some b) One Then Of one then make = make a b one then

pub nothing_read : (left : Option (List ℕ)) (One : List ℕ → List ℕ → Type 0) → ((a : List ℕ) → One a a) → BothKnown left left One
nothing_read None One make = tt
nothing_read (Some a) One make = make a

pub some_less : (told : Option (List ℕ)) (One Other : List ℕ → Type 0) → IfSome told One → ((bytes : List ℕ) → One bytes → Other bytes) → IfSome told Other
some_less None One Other one make = tt
some_less (Some bytes) One Other one make = make bytes one

-- causes of which less is said
pub stops_less : (Found Other : FeedFault → Type 0) (failed also : Type 0) (fault : FeedFault)
    → ((own : FeedFault) → Found own → Other own) → (failed → also) → Stops Found failed fault → Stops Other also fault
stops_less Found Other failed also (Bad line why) one two stops = one (Bad line why) stops
stops_less Found Other failed also (NoBase line) one two stops = one (NoBase line) stops
stops_less Found Other failed also (Limit which value) one two stops = one (Limit which value) stops
stops_less Found Other failed also ReadFault one two stops = two stops
stops_less Found Other failed also OutOfMemory one two stops = tt

-- reads of one file, by two calls
module _ {I : Type 0} (reads : I → List ℕ → I → Type 0) (view : I → FilesView) where
  reads_both : (file : ℕ)
      → ((first second third : I) (before after : List ℕ) → reads first before second → reads second after third → reads first (before ++ after) third)
      → (first now new : I) → ReadsNoOther file (λ asked. reads first asked now) (view first) (view now)
      → ReadsNoOther file (λ asked. reads now asked new) (view now) (view new)
      → ReadsNoOther file (λ asked. reads first asked new) (view first) (view new)
  reads_both file law first now new so_far again = record {
    asked = (
      so_far.asked.0 + again.asked.0,
      subst (λ files. reads first files new) (replicate-append-replicate so_far.asked.0 again.asked.0 file)
          (law first now new (replicate so_far.asked.0 file) (replicate again.asked.0 file) so_far.asked.1 again.asked.1),
    );
    alone = record {
      others = λ other differs. again.alone.others other differs ∙ so_far.alone.others other differs;
      later = omega (arith, so_far.alone.later, again.alone.later);
    };
  }

  pub reads_on : (file own : ℕ) → own ≡ file
      → ((first second third : I) (before after : List ℕ) → reads first before second → reads second after third → reads first (before ++ after) third)
      → (first now new : I) → ReadsNoOther file (λ asked. reads first asked now) (view first) (view now)
      → ReadsNoOther own (λ asked. reads now asked new) (view now) (view new)
      → ReadsNoOther file (λ asked. reads first asked new) (view first) (view new)
  reads_on file own is law first now new so_far again = reads_both file law first now new so_far
      (subst (λ (f : ℕ). ReadsNoOther f (λ asked. reads now asked new) (view now) (view new)) is again)
