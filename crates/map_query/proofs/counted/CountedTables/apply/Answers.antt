use Rattle.std.proofs.Common.{◌≡◌, ◌∙◌, is_some, length, rules, ap, sym}
use Rattle.std.specs.List.{slice_get}
use Rattle.map_query.proofs.KeptCounts.{kept_change, written}
use Rattle.map_query.proofs.counted.CountedTables.apply.Goals as goal

pub invariant_of-self-2 : goal.invariant_of-self-2
invariant_of-self-2 c table count e =
    let old = c.deref_mut.result.now in
    let new = c.note.new.counts in
    let same : old ≡ c.self.inside.counts.items = c.deref_mut.ensures.value in
    let long : length new ≡ c.self.inside.counts.len = c.note.ensures.same ∙ (ap length same ∙ sym c.self.inside.counts.ok.0) in
    let was : c.is_some-was.result ≡ is_some c.get.result = search rules in
    let is : c.is_some-is.result ≡ is_some c.args.change.row = search rules in
    kept_change c.self.inside.tables c.apply.new.self c.args.change c.get.result c.is_some-was.result c.is_some-is.result old new
    c.get.ensures.row was is c.in_ok-apply.ensures.ok
    (λ table count e. c.self.invariant table count (ap (λ counts. slice_get counts table) (sym same) ∙ e)) c.note.ensures.noted table count
    (ap (λ counts. slice_get counts table) (sym (written c.self.inside.counts.len new _ long)) ∙ e)
