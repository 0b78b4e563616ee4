use Rattle.opl_lines.proofs.TakeLemmas.{takes_as_grown}
use Rattle.opl_lines.proofs.reader.LineReader.take.Goals as goal

pub returns-clause-ok : goal.returns-clause-ok
returns-clause-ok c =
    takes_as_grown c.args.self.now c.admit.new.self c.add.new.self c.args.piece.now c.in_ok-front.front.now c.in_ok-front.whole
    c.from.result
    c.in_ok-front.ensures.unchanged c.in_ok-add.ensures.ok c.from.ensures
    c.requires.some c.in_ok-front.ensures.limits c.in_ok-front.ensures.fits c.in_ok-front.ensures.front
