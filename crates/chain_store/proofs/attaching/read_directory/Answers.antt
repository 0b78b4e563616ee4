use Rattle.std.proofs.Common.{◌≡◌, ◌+◌, ◌*◌, inr, ℕ, List, length, ap, subst, ◌∙◌, arith}
use Rattle.page_journal.specs.Pages.{number}
use Rattle.chain_store.specs.Answers.{first_or_root}
use Rattle.chain_store.specs.Chain.{HasPages}
use Rattle.chain_store.specs.Directories.{directory_first}
use Rattle.chain_store.specs.Links.{page_in}
use Rattle.chain_store.proofs.attaching.read_directory.Goals as goal

pub returns-then-len-buckets-clause-answers : goal.returns-then-len-buckets-clause-answers
returns-then-len-buckets-clause-answers g c = λ pages rests is.
    let walks = c.in-Ok.ensures.answers pages rests in
    let place : 48 + 8 * (8 + c.args.m) ≡ 112 + 8 * c.args.m = omega arith in
    let first_is : c.number_at-first.result ≡ directory_first (page_in pages 1) c.args.m =
    c.number_at-first.ensures ∙ ap (λ (at : ℕ). number c.args.front.now at) place ∙ ap (λ (l : List ℕ). number l (112 + 8 * c.args.m)) is in
    let buckets_is : c.args.buckets ≡ number (page_in pages 1) 32 = c.requires.buckets ∙ ap (λ (l : List ℕ). number l 32) is in
    inr (
      c.in-Ok.walked.bytes.items,
      record {
        ns = c.in-Ok.walked.pages.items;
        has = subst (λ (first : ℕ). HasPages (page_in pages) (length pages + 1) (8 + c.args.m) first c.in-Ok.walked.pages.items) first_is
            walks.0;
        held = walks.1;
      },
      λ same. c.if-len-buckets.true (let many : length c.in-Ok.walked.bytes.items ≡ 8 * number (page_in pages 1) 32 = same in
          omega (arith, c.len.ensures, c.in-Ok.walked.bytes.ok.0, many, buckets_is)),
      c.first_or_root.ensures ∙ ap (λ (first : ℕ). first_or_root first) first_is,
    )
