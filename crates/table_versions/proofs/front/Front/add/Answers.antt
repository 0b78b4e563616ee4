use Rattle.std.proofs.Common.{◌≡◌, suc, length, sym, ◌∙◌, ap}
use Rattle.table_versions.specs.declared.history.Entry.TheVariants.{Adds}
use Rattle.table_versions.specs.Fronts.{FrontOf}
use Rattle.table_versions.proofs.Adding.{adds_moves}
use Rattle.table_versions.proofs.Shapes.{shaped-length}
use Rattle.table_versions.proofs.front.Front.add.Goals as goal

pub compare_exchange-found-requires : goal.compare_exchange-found-requires
compare_exchange-found-requires c =
    let h = c.head.invariant in
    let seen = c.again-seen.result in
    let offer = c.plain-offer.ensures in
    let pen = c.no_pen-pen.ensures in
    let same : seen.book ≡ c.head.inside.word.book =
    ap (λ seen. seen.book) c.again-seen.ensures
    ∙ (ap (λ (front : FrontOf). front.book) c.self.view_is ∙ (sym c.requires.same ∙ sym c.head.view_is)) in
    let long : length seen.log ≡ suc c.self.inside.deltas =
    ap (λ seen. length seen.log) c.again-seen.ensures
    ∙ (shaped-length c.self.inside.seen.log c.self.invariant.0 ∙ ap suc (sym c.self.invariant.1)) in (
      ap (λ word. word.tracked) h,
      same,
      pen.0 ∙ same,
      offer.0,
      rw (ap (λ word. word.key) h, pen.1, offer.1, offer.3) (adds_moves seen.log (Adds c.args.delta.now) c.self.inside.deltas long),
    )
