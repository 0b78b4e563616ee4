use Rattle.std.proofs.Common.{◌≡◌, ◌++◌, ◌∷◌, [], length, length-append, ap, arith}
use Rattle.reader_rounds.proofs.RoundLaws.{more_askers}
use Rattle.reader_rounds.proofs.askers.Askers.of.Goals as goal

pub loop-reader-preserved : goal.loop-reader-preserved
loop-reader-preserved c =
    let popped = c.in-Some.ensures.next in
    let pushed : c.push.new.self.items ≡ c.loop-reader.askers.items ++ c.new.result ∷ [] = c.in_ok-push.ensures.items in (
      omega (
        arith,
        ap length popped,
        ap length pushed,
        length-append c.pop.new.self (c.in-Some.reader ∷ []),
        length-append c.loop-reader.askers.items (c.new.result ∷ []),
        c.loop-reader.invariant.0,
      ),
      λ style front queries all.
          more_askers style front queries c.loop-reader.readers c.pop.new.self c.in-Some.reader c.loop-reader.askers.items
          c.push.new.self.items c.new.result popped pushed c.new.ensures.reader c.new.ensures.rounds
          (c.loop-reader.invariant.1 style front queries all),
    )

pub returns-clause-asking : goal.returns-clause-asking
returns-clause-asking c = λ style front queries all. (c.loop-reader.invariant.1 style front queries all).1
