use Rattle.std.proofs.Common.{◌≡◌, cond, Some, None, sym, ◌∙◌, ap, subst}
use Rattle.opl_lines.specs.Takes.{Takes, ended_line}
use Rattle.opl_lines.proofs.TakeLemmas.{takes_as_grown, takes_as_lent}
use Rattle.opl_lines.proofs.reader.LineReader.take_line.Goals as goal
use Rattle.opl_lines.proofs.reader.LineReader.take_line.Goals.{then-whole-2, else-whole-2}

pub returns-then-self-clause-ok : goal.returns-then-self-clause-ok
returns-then-self-clause-ok c =
    takes_as_lent c.args.self.now c.admit.new.self _ c.args.piece.now c.in_ok-front.front.now c.in_ok-front.whole c.from.result
    c.in_ok-front.ensures.unchanged c.self.view_is c.if-self.true c.if-whole.true c.from.ensures
    c.in_ok-front.ensures.limits c.in_ok-front.ensures.fits c.in_ok-front.ensures.front

pub returns-clause-ok : goal.returns-clause-ok
returns-clause-ok c =
    let kept = c.add.new.self.line in
    let ended : cond c.in_ok-front.whole (Some kept) None ≡ ended_line c.if-whole-2.line kept =
    elim c.if-whole-2.branch [
      | then-whole-2 w ↦ ap (λ whole. cond whole (Some kept) None) w.if-whole-2.true ∙ sym (ap (λ line. ended_line line kept) w.line-is)
      | else-whole-2 w ↦ ap (λ whole. cond whole (Some kept) None) w.if-whole-2.false ∙ sym (ap (λ line. ended_line line kept) w.line-is)
    ] in
    subst (Takes c.args.self.now c.add.new.self c.args.piece.now _) ended
    (takes_as_grown c.args.self.now c.admit.new.self c.add.new.self c.args.piece.now c.in_ok-front.front.now c.in_ok-front.whole
    c.from.result
    c.in_ok-front.ensures.unchanged c.in_ok-add.ensures.ok c.from.ensures
    c.requires.some c.in_ok-front.ensures.limits c.in_ok-front.ensures.fits c.in_ok-front.ensures.front)
