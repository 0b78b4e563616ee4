use Rattle.std.proofs.Common.{◌*◌, ◌+◌, ◌-◌, ◌/◌, ◌<◌, ℕ, List, length, sym, ap, ◌∙◌, arith}
use Rattle.page_journal.specs.Pages.{number}
use Rattle.chain_store.specs.Kept.{buckets_in, bytes_at}
use Rattle.chain_store.specs.declared.walking.Walked.{Walked}
use Rattle.chain_store.proofs.FirstLaws.{first_in-free, first_in-root, first_in-bucket, bytes_at-get_or}
use Rattle.chain_store.proofs.kept.Kept.first.Goals as goal

pub returns-then-n-eq-FREE : goal.returns-then-n-eq-FREE
returns-then-n-eq-FREE c = record {
  first =
      c.number_at.ensures ∙ ap (λ (l : List ℕ). number l 40) c.as_slice-front.ensures.value
      ∙ sym (first_in-free c.args.self.now.front.items (bytes_at c.args.self.now.directories.items) c.args.n c.if-n-eq-FREE.true);
}

pub returns-then-n-lt-BUCKET : goal.returns-then-n-lt-BUCKET
returns-then-n-lt-BUCKET c = record {
  first =
      c.number_at-then-n-lt-BUCKET.ensures ∙ ap (λ (l : List ℕ). number l (48 + 8 * c.args.n)) c.as_slice-front.ensures.value
      ∙ sym (first_in-root c.args.self.now.front.items (bytes_at c.args.self.now.directories.items) c.args.n c.if-n-lt-BUCKET.true);
}

pub first_of_bucket-requires-clause-whole : goal.first_of_bucket-requires-clause-whole
first_of_bucket-requires-clause-whole c =
    let map : c.split-map.result.0 < 8 = omega (arith, c.split-map.ensures.map, c.requires) in (
      buckets_in c.args.self.now.front.items,
      ap (λ (l : List ℕ). length l) (c.deref.ensures.value
          ∙ ap (λ (w : Walked). w.bytes.items) c.index.ensures
          ∙ bytes_at-get_or c.args.self.now.directories.items c.split-map.result.0 c.index.result.now
          (omega (arith, map, c.args.self.now.eight)))
          ∙ c.args.self.now.long c.split-map.result.0 map,
    )

pub returns : goal.returns
returns c = record {
  first =
      let map : c.split-map.result.0 < 8 = omega (arith, c.split-map.ensures.map, c.requires) in
      c.first_of_bucket.ensures
      ∙ ap (λ (l : List ℕ). number l (8 * c.split-map.result.1)) (c.deref.ensures.value
      ∙ ap (λ (w : Walked). w.bytes.items) c.index.ensures
      ∙ bytes_at-get_or c.args.self.now.directories.items c.split-map.result.0 c.index.result.now
      (omega (arith, map, c.args.self.now.eight)))
      ∙ ap (λ (m : ℕ). number (bytes_at c.args.self.now.directories.items m) (8 * c.split-map.result.1)) c.split-map.ensures.map
      ∙ ap (λ (b : ℕ). number (bytes_at c.args.self.now.directories.items ((c.args.n - 16) / 65536)) (8 * b)) c.split-map.ensures.bucket
      ∙ sym (first_in-bucket c.args.self.now.front.items (bytes_at c.args.self.now.directories.items) c.args.n
      (omega (arith, c.if-n-lt-BUCKET.false)) (omega (arith, c.requires, c.if-n-eq-FREE.false)));
}
