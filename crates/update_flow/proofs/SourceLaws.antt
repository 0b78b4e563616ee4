-- A follower holds what its source had.
use Rattle.std.proofs.Common.{◌≡◌, ◌+◌, ◌==◌, ℕ, Bool, true, false, cond, List, [], ◌∷◌, refl, sym, ap, subst, ◌∙◌, arith, nat_eq, nat_le}
use Rattle.std.specs.Prelude.{fold}
use Rattle.std.proofs.lemmas.Bool.Decides.{nat_tests}
use Rattle.osm_base.specs.declared.values.row.Delta.{Delta}
use Rattle.osm_base.specs.map.Spots.{TableMap, changed_all}
use Rattle.delta_feed.specs.declared.block.Block.{Block}
use Rattle.delta_feed.specs.declared.block.Block.TheVariants as blocks
use Rattle.update_flow.specs.Sources.{AreOf, AreWholeOf, HoldsSource, IsOf, Source, steps_of}
use Rattle.update_flow.specs.State.{Follow, Following, State, Step, after, followed, following, formatted, imported, outdated, taken_whole}

either : (source : Source) (b : Bool) (one other : Following) → HoldsSource source (following one) → HoldsSource source (following other)
    → HoldsSource source (following (cond b one other))
either source true one other first second = first
either source false one other first second = second

same_number : (one other : ℕ) → (one == other) ≡ true → one ≡ other
same_number one other is = grind (arith, nat_tests, is)

-- what the next change made of the tables that are held leads to those of its version
next_held : (source : Source) (held : Following) (delta : Delta) → IsOf source (blocks.Delta delta) → HoldsSource source (following held)
    → delta.version ≡ held.version + 1
    → HoldsSource source (following (record held { tables = changed_all held.tables delta.changes; version = delta.version }))
next_held source held delta is holds next = record {
  style_is = holds.style_is;
  bytes_are = holds.bytes_are;
  tables_are = ap (λ (t : TableMap). changed_all t delta.changes) holds.tables_are ∙ is held.version next;
}

one_held : (source : Source) (state : State) (block : Block) → IsOf source block → HoldsSource source state
    → HoldsSource source (after state (Follow block))
one_held source formatted (blocks.Full version bytes style rows) is holds = is
one_held source formatted (blocks.Delta delta) is holds = tt
one_held source (imported held) block is holds = absurd holds
one_held source (outdated held) block is holds = absurd holds
one_held source (following held) (blocks.Full version bytes style rows) is holds =
    either source (nat_le version held.version) held (taken_whole held.buckets version bytes style rows) holds is
one_held source (following held) (blocks.Delta delta) is holds =
    let next : Following = record held { tables = changed_all held.tables delta.changes; version = delta.version } in
    elim (delta.version == held.version + 1) as (λ b. (delta.version == held.version + 1) ≡ b
    → HoldsSource source (following (cond b next held))) [
      | true ↦ λ same. next_held source held delta is holds (same_number delta.version (held.version + 1) same)
      | false ↦ λ apart. holds
    ] refl

pub all_held : (source : Source) (all : List Block) (state : State) → AreOf source all → HoldsSource source state
    → HoldsSource source (fold after state (steps_of all))
all_held source [] state are holds = holds
all_held source (block ∷ rest) state are holds =
    all_held source rest (after state (Follow block)) are.1 (one_held source state block are.0 holds)
