use Rattle.std.proofs.Common.{ap, ◌∙◌, fold}
use Rattle.table_versions.specs.declared.shown.Shown.{Shown}
use Rattle.table_versions.specs.Steps.{stepped}
use Rattle.table_versions.proofs.Turns.{opens}
use Rattle.table_versions.proofs.making.open_board.Goals as goal

pub publish_as-board-requires : goal.publish_as-board-requires
publish_as-board-requires g c next same =
    let old : Shown = c.in-Ok.board.desk.shown.value in
    opens _ _ old next (same ∙ ap (fold stepped old) c.in-Ok.ensures.1)
