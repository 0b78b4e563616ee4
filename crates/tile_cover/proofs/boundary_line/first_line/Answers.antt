use Rattle.tile_cover.proofs.Tables.{cut_ended, cut_last, cut_shorter}
use Rattle.tile_cover.proofs.boundary_line.first_line.Goals.{else-is_whole-via-then-is_whole+else-line-bytes}
use Rattle.tile_cover.proofs.boundary_line.first_line.Goals.{else-is_whole-via-else-is_whole}
use Rattle.tile_cover.proofs.boundary_line.first_line.Goals as goal

pub returns-then-line-bytes-clause-lines : goal.returns-then-line-bytes-clause-lines
returns-then-line-bytes-clause-lines c =
    rw c.split_at.ensures.back (cut_ended c.args.bytes.now c.up_to_newline-is_whole.result.0.now c.up_to_newline-is_whole.result.1
    c.up_to_newline-is_whole.ensures.front c.if-is_whole.true)

pub returns-clause-lines : goal.returns-clause-lines
returns-clause-lines c = elim c.else-is_whole.branch [
  | else-is_whole-via-then-is_whole+else-line-bytes w ↦
      absurd (cut_shorter c.args.bytes.now c.up_to_newline-is_whole.result.0.now c.up_to_newline-is_whole.result.1
      c.up_to_newline-is_whole.ensures.front w.if-is_whole.true w.if-line-bytes.false)
  | else-is_whole-via-else-is_whole w ↦
      cut_last c.args.bytes.now c.up_to_newline-is_whole.result.0.now c.up_to_newline-is_whole.result.1
      c.up_to_newline-is_whole.ensures.front w.if-is_whole.false c.requires
]
