use Rattle.std.proofs.Common.{sym, ◌∙◌, arith}
use Rattle.delta_feed.proofs.HexWords.{digits_last}
use Rattle.delta_feed.proofs.hexes.is_hex.Goals as goal
use Rattle.delta_feed.proofs.hexes.is_hex.Goals.{then-word-le-MAX_HEX, else-word-le-MAX_HEX}

pub returns-then-word-eq0-clause-alone : goal.returns-then-word-eq0-clause-alone
returns-then-word-eq0-clause-alone c = λ all. digits_last c.args.word.now
    (elim c.if-word-le-MAX_HEX.branch [ then-word-le-MAX_HEX w ↦ omega (arith, w.if-word-le-MAX_HEX.true.0) | else-word-le-MAX_HEX w ↦ absurd (cc) ])
    (sym c.all_digits.ensures.value ∙ all)
