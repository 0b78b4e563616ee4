use Rattle.std.proofs.Common.{◌<◌, ◌++◌, List, ℕ, length, take, sym, ap, ◌∙◌, subst}
use Rattle.delta_feed.specs.Text.{ended_line, more_line, more_lines, ended_lines}
use Rattle.delta_feed.specs.declared.hexes.TheConstants.{LINE_BYTES}
use Rattle.delta_feed.proofs.MoreLines.{drop_smaller, room, written_more}
use Rattle.delta_feed.proofs.written.push_more.Goals as goal

pub loop-rest-smaller : goal.loop-rest-smaller
loop-rest-smaller c = subst (λ (own : List ℕ). length own < length c.loop-rest.rest.now) (sym c.cut.ensures.behind)
    (drop_smaller LINE_BYTES c.loop-rest.rest.now room (sym c.is_empty.ensures ∙ c.loop-rest-test.true))

pub loop-rest-preserved : goal.loop-rest-preserved
loop-rest-preserved c =
    ap (λ (own : List ℕ). own ++ ended_lines (more_lines (length c.cut.result.1.now) c.cut.result.1.now))
    (c.in_ok-push_more_line.ensures.line ∙ ap (λ (own : List ℕ). c.loop-rest.out.items ++ ended_line (more_line own)) c.cut.ensures.front)
    ∙ ap (λ (own : List ℕ). (c.loop-rest.out.items ++ ended_line (more_line (take LINE_BYTES c.loop-rest.rest.now))) ++ ended_lines (more_lines (length own) own))
    c.cut.ensures.behind
    ∙ written_more c.loop-rest.out.items _ c.loop-rest.rest.now (sym c.is_empty.ensures ∙ c.loop-rest-test.true) c.loop-rest.invariant
