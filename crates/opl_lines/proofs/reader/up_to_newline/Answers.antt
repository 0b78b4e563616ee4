use Rattle.std.proofs.Common.{eq-eqb, arith}
use Rattle.std.proofs.lemmas.Bool.{eqb-true}
use Rattle.opl_lines.proofs.LineLemmas.{front_ended}
use Rattle.opl_lines.proofs.reader.up_to_newline.Goals as goal

pub returns-in-Some : goal.returns-in-Some
returns-in-Some c = record {
  front = front_ended c.args.piece.now c.in-Some.end
      (λ k lt same. c.in-Some.ensures.0.before k (omega arith) lt (eq-eqb _ _ same)) c.in-Some.ensures.0.high
      (eqb-true _ _ c.in-Some.ensures.1);
}
