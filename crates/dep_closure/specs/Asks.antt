-- What a call that asks an index leaves of it, what it has asked, and how it may end.
use Rattle.std.specs.Prelude.{◌≡◌, ◌≤◌, ℕ, false, List, Result, IfErr, OnOk}
use Rattle.osm_base.specs.declared.map.back.Back as back
use Rattle.osm_base.specs.declared.values.object.Entry.{Entry}
use Rattle.osm_base.specs.map.Known.{Index, Question}
use Rattle.dep_closure.specs.Questions.{AsksAll}
use Rattle.dep_closure.specs.Stops.{Stops, UnlessRefused}
use Rattle.dep_closure.specs.declared.fault.PendingFault.{PendingFault}

-- what is known of the index is known of it still, as long as it may be asked. That it may, where there is an answer, and at each end but
-- a refusal; a refusal is one that it may give to a call at whose entry it had met so many faults. There may be too many of such a number.
pub record OnlyAsks {B E A : Type 0} (own : back.Ghosts B E) (many : ℕ → Type 0) (old new : B)
    (result : Result A (PendingFault E)) : Type 0 where
  pub index : own.spent new ≡ false → (index : Index) → own.knows old index → own.knows new index
  pub spent : OnOk result (own.spent new ≡ false)
  pub unspent : IfErr result (UnlessRefused (own.spent new ≡ false))
  pub faults : own.faults old ≤ own.faults new
  pub stopped : IfErr result (Stops (own.bears new (own.faults old)) many)

-- where there is an answer the index was asked these questions, in this order and no other
pub record Asks {B E A : Type 0} (own : back.Ghosts B E) (questions : List Question) (old new : B)
    (result : Result A (PendingFault E)) : Type 0 where
  pub only : OnlyAsks own (λ _. ⊥) old new result
  pub asked : OnOk result (own.asks old questions new)

-- there it was asked all questions of a change, of ways just those that the change makes due
pub record AsksOf {B E A : Type 0} (own : back.Ghosts B E) (change : List Entry) (many : ℕ → Type 0) (old new : B)
    (result : Result A (PendingFault E)) : Type 0 where
  pub only : OnlyAsks own many old new result
  pub asked : OnOk result (AsksAll own.asks own.knows old change new)

-- calls that asked these questions, one after another, have made the second of the first, and each has given an answer
pub record HasAsked {B E : Type 0} (own : back.Ghosts B E) (questions : List Question) (old new : B) : Type 0 where
  pub asked : own.asks old questions new
  pub index : (index : Index) → own.knows old index → own.knows new index
  pub spent : own.spent new ≡ false
  pub faults : own.faults old ≤ own.faults new
