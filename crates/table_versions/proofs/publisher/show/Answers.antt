use Rattle.std.proofs.Common.{◌≡◌, ◌+◌, ◌∷◌, ◌++◌, [], fold, length, sym, ap, subst, ◌∙◌}
use Rattle.table_versions.specs.declared.shown.Shown.{Shown}
use Rattle.table_versions.specs.Steps.{stepped}
use Rattle.table_versions.proofs.Turns.{shows}
use Rattle.table_versions.proofs.publisher.show.Goals as goal

pub publish_as-board-requires : goal.publish_as-board-requires
publish_as-board-requires g c next same =
    let before : Shown = c.args.board.desk.shown.value in
    let old : Shown = c.queue.new.board.desk.shown.value in
    let front = c.args.front in
    let delta = c.args.delta in
    let kept : before ≡ old = sym (ap (λ desk. desk.shown.value) c.if-not-queue.ensures.desk) in
    let more : front ≡ record old.front { log = old.front.log ++ delta ∷ [] } =
    subst (λ (shown : Shown). front ≡ record shown.front { log = shown.front.log ++ delta ∷ [] }) kept c.requires.front in
    let number : delta.version ≡ old.front.base + length old.front.log + 1 =
    subst (λ (shown : Shown). delta.version ≡ shown.front.base + length shown.front.log + 1) kept c.requires.version in
    shows _ _ old next delta front more number (same ∙ ap (fold stepped old) c.if-not-queue.ensures.queued)
