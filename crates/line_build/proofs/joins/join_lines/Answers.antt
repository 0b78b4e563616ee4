use Rattle.std.proofs.Common.{◌∙◌, ◌++◌, sym, ap}
use Rattle.std.proofs.lemmas.List.{append-nil}
use Rattle.piece_ends.specs.Walk.{lines_by}
use Rattle.piece_ends.proofs.Lines.{lines_by-more, lines_by-fewer, lines_by-none}
use Rattle.piece_ends.specs.Joins.{line_begun}
use Rattle.line_build.proofs.Begun.{line_begun-Grows}
use Rattle.line_build.proofs.joins.join_lines.Goals as goal

pub lines-smaller : goal.lines-smaller
lines-smaller c =
    lines_by-fewer line_begun line_begun-Grows _ _ _ _ _ c.in-Some.ensures.first c.in_ok-begun.ensures.line

pub lines-preserved : goal.lines-preserved
lines-preserved c =
    ap (λ lines. lines ++ lines_by line_begun c.begun.new.unused) c.in_ok-push.ensures.ok
    ∙ lines_by-more line_begun line_begun-Grows _ _ _ _ _ c.in-Some.ensures.first c.in_ok-begun.ensures.line c.lines.lines
    ∙ c.lines.invariant

pub returns : goal.returns
returns c = record {
  joined_lines =
      sym (append-nil c.lines.lines)
      ∙ ap (λ rest. c.lines.lines ++ rest) (sym (lines_by-none line_begun line_begun-Grows))
      ∙ ap (λ unused. c.lines.lines ++ lines_by line_begun unused) (sym c.in_default.ensures.first)
      ∙ c.lines.invariant;
}
