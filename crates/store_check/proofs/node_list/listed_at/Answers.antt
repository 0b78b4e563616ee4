use Rattle.std.proofs.Common.{get_or, sym, ap, ◌∙◌, arith}
use Rattle.std.proofs.lemmas.List.{get_or_default}
use Rattle.store_check.specs.Places.{id_of}
use Rattle.store_check.proofs.PlaceFinds.{find_at, find_gap, strict}
use Rattle.store_check.proofs.node_list.listed_at.Goals as goal

pub returns-then-at-listed : goal.returns-then-at-listed
returns-then-at-listed c = record {
  found = sym (find_gap c.args.listed.now c.first_at-at.result c.args.id c.requires.order c.first_at-at.ensures.before
      (λ own within. absurd (omega (arith, within, c.if-at-listed.true))));
}

pub returns-then-own-id : goal.returns-then-own-id
returns-then-own-id c =
    let listed = c.args.listed.now in
    let at = c.first_at-at.result in
    let own = c.index-listed-at-2.result in
    record {
      found = sym (find_at listed at c.args.id own c.if-at-listed.false
          (ap id_of (get_or_default listed at own c.index-listed-at.result c.if-at-listed.false) ∙ c.if-own-id.true)
          (λ k first same.
          let under = c.first_at-at.ensures.before k own first (omega (arith, first, c.if-at-listed.false)) in
          absurd (omega (arith, under, same))));
    }

pub returns-else-own-id : goal.returns-else-own-id
returns-else-own-id c =
    let listed = c.args.listed.now in
    let at = c.first_at-at.result in
    record {
      found = sym (find_gap listed at c.args.id c.requires.order c.first_at-at.ensures.before (λ own within.
          strict c.args.id (get_or listed at own).0 (c.first_at-at.ensures.behind at own (omega arith) within)
          (λ same. c.if-own-id.false (ap id_of (get_or_default listed at c.index-listed-at.result own within) ∙ same))));
    }
