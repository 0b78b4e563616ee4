use Rattle.std.proofs.Common.{◌≡◌, ◌+◌, length}
use Rattle.std.specs.Prelude.{All}
use Rattle.std.specs.Vec.Iter.{into_iter_items}
use Rattle.reader_rounds.specs.Asking.{HasAsked, begin_of}
use Rattle.reader_rounds.specs.Rounds.{AreServed}
use Rattle.reader_rounds.proofs.askers.Askers.finish.Given as goal

-- the readers so far are served, and those that are left asked their rounds
abbrev pub invariant-loop-asker : goal.invariant-loop-asker
invariant-loop-asker g l = record {
  same : l.publisher ≡ l.fn.publisher;
  count : length l.blocks + length (into_iter_items l.asker-iterator) ≡ length l.fn.self.askers.items;
  asked : All (HasAsked l.style (begin_of l.fn.publisher.front) l.queries l.rounds) (into_iter_items l.asker-iterator);
  served : All (AreServed l.style l.fn.publisher.front l.queries l.rounds) l.blocks;
}
