-- What a chain has that was not written is what stands in the store.
use Rattle.std.proofs.Common.{◌≡◌, List, ℕ, Bool, false, Option, Some, None, Bor, ap, refl, sym, subst, ◌∙◌}
use Rattle.std.specs.Option.{is_some, option_copied}
use Rattle.std.specs.FinMap as map
use Rattle.chain_store.specs.Chains.{IsMarked, IsOpen, LoadedIs, first_of, written_of}
use Rattle.chain_store.specs.Marks.{same_pages}
use Rattle.chain_store.proofs.MarkLaws.{marked_by}
use Rattle.chain_store.proofs.Taking.{on_value}
use Rattle.chain_store.proofs.chains.Chains.marks_over.Goals as goal

none_copied : {T : Type 0} (o : Option (Bor T)) (some : Bool) → some ≡ is_some o → some ≡ false → option_copied o ≡ None
none_copied None some is not = refl
none_copied (Some value) some is not = absurd (cc)

pub returns : goal.returns
returns g c =
    let self = c.args.self.now in
    let none : map.get self.written c.args.n ≡ None =
    sym c.get.ensures.value ∙ none_copied c.get.result c.is_some.result c.is_some.ensures c.if-is_some.false in
    record {
      marked = on_value (λ (same : List ℕ). same ≡ same_pages c.as_slice.result.now c.as_slice-2.result.now)
          (λ (same : List ℕ). (pages : List (List ℕ)) → IsOpen pages c.args.self.now
          → LoadedIs pages c.args.n (first_of c.args.self.now c.args.n) (map.get (written_of c.args.self.now) c.args.n) c.args.before
          → IsMarked pages c.args.n (first_of c.args.self.now c.args.n) same c.args.bytes.now)
          c.same_pages.result
          (λ same is pages opened loaded. marked_by pages c.args.n (first_of self c.args.n) c.args.before c.args.bytes.now same
          c.as_slice.result.now c.as_slice-2.result.now
          (subst (λ (o : Option (List ℕ)). LoadedIs pages c.args.n (first_of self c.args.n) o c.args.before) none loaded)
          c.as_slice.ensures.items c.as_slice-2.ensures.items is)
          c.same_pages.ensures;
      exact = λ unwritten. on_value (λ (same : List ℕ). same ≡ same_pages c.as_slice.result.now c.as_slice-2.result.now)
          (λ (same : List ℕ). same ≡ same_pages c.args.before c.args.bytes.now)
          c.same_pages.result
          (λ same is. is ∙ ap (λ (l : List ℕ). same_pages l c.as_slice-2.result.now) c.as_slice.ensures.items
          ∙ ap (λ (l : List ℕ). same_pages c.args.before l) c.as_slice-2.ensures.items)
          c.same_pages.ensures;
    }
