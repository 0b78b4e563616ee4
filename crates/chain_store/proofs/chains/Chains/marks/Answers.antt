-- What is kept of a string is what stands in the store.
use Rattle.std.proofs.Common.{◌≡◌, ◌∙◌, List, ℕ, Option, ap, sym}
use Rattle.std.specs.FinMap as map
use Rattle.chain_store.specs.Chains.{IsMarked, IsOpen, first_of, texts_of}
use Rattle.chain_store.specs.Marks.{marks_over, same_pages}
use Rattle.chain_store.proofs.MarkLaws.{marked_by}
use Rattle.chain_store.proofs.Taking.{on_value}
use Rattle.chain_store.proofs.chains.Chains.marks.Goals as goal

pub returns-in-Some : goal.returns-in-Some
returns-in-Some g c = record {
  marked = on_value (λ (same : List ℕ). same ≡ same_pages c.as_slice.result.now c.as_slice-in-Some.result.now)
      (λ (same : List ℕ). (pages : List (List ℕ)) → IsOpen pages c.args.self.now
      → IsMarked pages c.args.n (first_of c.args.self.now c.args.n) same c.args.bytes.now)
      c.same_pages.result
      (λ same is pages opened. marked_by pages c.args.n (first_of c.args.self.now c.args.n) c.in-Some.text.now c.args.bytes.now same
      c.as_slice.result.now c.as_slice-in-Some.result.now (opened.had c.args.n c.in-Some.text.now (sym c.in-Some.ensures.value))
      c.as_slice.ensures.items c.as_slice-in-Some.ensures.items is)
      c.same_pages.ensures;
  exact = on_value (λ (same : List ℕ). same ≡ same_pages c.as_slice.result.now c.as_slice-in-Some.result.now)
      (λ (same : List ℕ). same ≡ marks_over (map.get (texts_of c.args.self.now) c.args.n) c.args.bytes.now)
      c.same_pages.result
      (λ same is. is ∙ ap (λ (l : List ℕ). same_pages l c.as_slice-in-Some.result.now) c.as_slice.ensures.items
      ∙ ap (λ (l : List ℕ). same_pages c.in-Some.text.now l) c.as_slice-in-Some.ensures.items
      ∙ ap (λ (o : Option (List ℕ)). marks_over o c.args.bytes.now) c.in-Some.ensures.value)
      c.same_pages.ensures;
}
