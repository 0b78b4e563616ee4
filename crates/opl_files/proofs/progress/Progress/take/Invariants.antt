use Rattle.std.proofs.Common.{◌≡◌, ◌≤◌, ◌<◌, ◌++◌, ℕ, List, length}
use Rattle.opl_lines.specs.Reading.{room}
use Rattle.opl_files.specs.Keeps.{kept_all}
use Rattle.opl_files.specs.Progress.{entries_left, IsReadyFor}
use Rattle.opl_files.proofs.progress.Progress.take.Given as goal

-- what is left makes of the keeper now what all of it made of it before
abbrev pub invariant-loop-rest : goal.invariant-loop-rest
invariant-loop-rest g l = record {
  ready : IsReadyFor g.K.Keeper.takes l.limits l.self l.keeper;
  entries : (later : List ℕ) → kept_all g.K.Keeper.after l.fn.keeper (entries_left l.limits l.fn.self (l.fn.piece ++ later))
      ≡ kept_all g.K.Keeper.after l.keeper (entries_left l.limits l.self (l.rest ++ later));
  shorter : length l.rest ≤ length l.fn.piece;
  at_most : room l.self.reader ≤ room l.fn.self.reader;
  room : (length l.rest < length l.fn.piece → room l.self.reader < room l.fn.self.reader);
}

abbrev pub decreases-loop-rest : goal.decreases-loop-rest
decreases-loop-rest g l = length l.rest
