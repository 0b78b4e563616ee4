-- The least key of a map that is not right, as the value of a store.
use Rattle.std.proofs.Common.{◌≡◌, ◌⊎◌, inl, inr, ◌<◌, ◌≤◌, ℕ, zero, suc, true, false, nat_lt, Option, Some, None}
use Rattle.std.proofs.Common.{refl, sym, ap, subst, ◌∙◌, arith, ⊎_elim}
use Rattle.std.proofs.lemmas.Bool.Decides.{nat_tests}
use Rattle.std.proofs.lemmas.Option.{same_Some}
use Rattle.std.specs.Prelude.{IfSome}
use Rattle.style_read.specs.Style.{StyleOf}
use Rattle.object_fold.specs.Listings.{HasIds}
use Rattle.bucket_store.specs.Image.{Image}
use Rattle.value_bytes.specs.StoreMap.{map_number}
use Rattle.value_bytes.specs.declared.store_map.StoreMap.{StoreMap}
use Rattle.value_bytes.specs.declared.store_map.StoreMap.TheVariants as stored
use Rattle.store_check.specs.Held.{HeldOf}
use Rattle.store_check.specs.Objects.{HoldsObjects}
use Rattle.store_check.specs.Values.{objects_of}
use Rattle.store_check.specs.Wrong.{AllRight, IsFirstWrong, IsLeast, IsRightIn, IsWrongIn, wrong_at}
use Rattle.store_check.proofs.Right.{objects_have_ids}
use Rattle.store_check.specs.declared.wrong.Wrong.{Wrong}

pub some_weaker : {T : Type 0} (P Q : T → Type 0) → ((value : T) → P value → Q value) → (found : Option T) → IfSome found P → IfSome found Q
some_weaker {T} P Q step None own = tt
some_weaker {T} P Q step (Some value) own = step value own

pub some_in_each : {T : Type 0} (P : Image → Type 0) (Q : Image → T → Type 0) (found : Option T)
    → ((rest : Image) → P rest → IfSome found (Q rest)) → IfSome found (λ own. (rest : Image) → P rest → Q rest own)
some_in_each {T} P Q None own = tt
some_in_each {T} P Q (Some value) own = own

pub wrong_found : (Is : StoreMap → ℕ → Type 0) (map : StoreMap) (found : Option ℕ) (wrong : Option Wrong) → wrong ≡ wrong_at map found
    → IsLeast (Is map) found → IsWrongIn Is map wrong
wrong_found Is map None wrong is least = subst (IsWrongIn Is map) (sym is) (λ key. least key tt)
wrong_found Is map (Some own) wrong is least = subst (IsWrongIn Is map) (sym is) (refl, least.0, λ key low. least.1 key low tt)

-- maps with one number are one

at_number : ℕ → Option StoreMap
at_number zero = Some stored.Nodes
at_number (suc zero) = Some stored.Ways
at_number (suc (suc zero)) = Some stored.Relations
at_number (suc (suc (suc zero))) = Some stored.WaysOfBlocks
at_number (suc (suc (suc (suc zero)))) = Some stored.RelationsOfNodes
at_number (suc (suc (suc (suc (suc zero))))) = Some stored.RelationsOfWays
at_number (suc (suc (suc (suc (suc (suc zero)))))) = Some stored.NodeRows
at_number (suc (suc (suc (suc (suc (suc (suc zero))))))) = Some stored.OtherRows
at_number _ = None

at_own : (map : StoreMap) → at_number (map_number map) ≡ Some map
unfolding at_number
at_own stored.Nodes = refl
at_own stored.Ways = refl
at_own stored.Relations = refl
at_own stored.WaysOfBlocks = refl
at_own stored.RelationsOfNodes = refl
at_own stored.RelationsOfWays = refl
at_own stored.NodeRows = refl
at_own stored.OtherRows = refl

pub same_map : (one other : StoreMap) → map_number one ≡ map_number other → one ≡ other
same_map one other level = same_Some one other (sym (at_own one) ∙ ap at_number level ∙ at_own other)

low_number : (n k : ℕ) → nat_lt n k ≡ true → n < k
low_number n k is = grind (arith, nat_tests)

high_number : (n k : ℕ) → nat_lt n k ≡ false → k ≤ n
high_number n k is = grind (arith, nat_tests)

pub lower_or_not : (n k : ℕ) → (n < k) ⊎ (k ≤ n)
lower_or_not n k = elim (nat_lt n k) as (λ b. nat_lt n k ≡ b → (n < k) ⊎ (k ≤ n)) [
  | true ↦ λ is. inl (low_number n k is)
  | false ↦ λ is. inr (high_number n k is)
] refl

module _ (style : StyleOf) (image : Image) (held : HeldOf) (own : HoldsObjects style image held) where
  pub held_ids : HasIds (objects_of own.nodes own.ways own.relations)
  held_ids = objects_have_ids style image own.nodes own.ways own.relations own.read own.right

  -- maps 0 to 2 are right, and so are these
  pub all_right : ((map : StoreMap) → 3 ≤ map_number map → (key : ℕ) → IsRightIn style image own.nodes own.ways own.relations map key)
      → AllRight style image
  all_right behind = record {
    nodes = own.nodes;
    ways = own.ways;
    relations = own.relations;
    read = own.read;
    right = λ map key. ⊎_elim (λ low. own.right map low key) (λ high. behind map high key) (lower_or_not (map_number map) 3);
  }

  -- the first value that is not right behind them
  pub first_found : (map : StoreMap) → ((other : StoreMap) → 3 ≤ map_number other → map_number other < map_number map → (key : ℕ)
      → IsRightIn style image own.nodes own.ways own.relations other key) → (wrong : Wrong)
      → IsWrongIn (IsRightIn style image own.nodes own.ways own.relations) map (Some wrong) → IsFirstWrong style image wrong.map wrong.key
  first_found map before wrong is = subst (λ (at : StoreMap). IsFirstWrong style image at wrong.key) (sym is.0) (record {
    nodes = own.nodes;
    ways = own.ways;
    relations = own.relations;
    read = λ high. own.read;
    least = record {
      maps_before = λ other low key. ⊎_elim (λ first. own.right other first key) (λ high. before other high low key)
          (lower_or_not (map_number other) 3);
      keys_before = is.2;
      wrong = is.1;
    };
  })
