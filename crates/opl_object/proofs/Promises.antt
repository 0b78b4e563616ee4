-- What follows of a result that is what a line gives.
use Rattle.std.proofs.Common.{◌≡◌, ℕ, List, Option, None, Some, Result, Ok, Err, subst}
use Rattle.std.specs.Prelude.{IfOk, IfErr, IfSome}
use Rattle.osm_base.specs.declared.values.object.Entry.{Entry}
use Rattle.osm_base.specs.values.Key.{KeyOf}
use Rattle.opl_object.specs.declared.why.Why.{Why}
use Rattle.opl_object.specs.declared.why.Why.TheVariants.{Order}
use Rattle.opl_object.specs.declared.why.LineRefused.{LineRefused}
use Rattle.opl_object.specs.declared.why.LineRefused.TheVariants.{Bad, OutOfMemory}
use Rattle.opl_object.specs.Line.{reading}
use Rattle.opl_object.specs.Faults.{HasFault}
use Rattle.opl_object.specs.Meaning.{TellsFault}
use Rattle.opl_object.specs.Spells.{Spells}
use Rattle.opl_object.specs.Why.{Gives}
use Rattle.opl_object.proofs.Causes.{no_order}
use Rattle.opl_object.proofs.FaultsOfLines.{line_fault, line_fault_again}
use Rattle.opl_object.proofs.SpelledLines.{line_spells, line_again}

pub found_spells : (line : List ℕ) (result : Result (Option Entry) LineRefused) → Gives (λ entry. entry) result (reading line)
    → IfOk result (λ found. IfSome found (λ entry. Spells line entry))
found_spells line (Ok None) exact = tt
found_spells line (Ok (Some entry)) exact = line_spells line entry exact
found_spells line (Err refused) exact = tt

pub again_gives : (line : List ℕ) (entry : Entry) (result : Result (Option Entry) LineRefused) → Spells line entry
    → Gives (λ entry. entry) result (reading line)
    → Gives {X = Option Entry} {Y = Option Entry} (λ found. found) result (Ok (Some entry))
again_gives line entry result s exact = subst (λ read. Gives {X = Option Entry} {Y = Option Entry} (λ found. found) result read)
    (line_again line entry s) exact

pub never_order : (line : List ℕ) (earlier later : KeyOf) (result : Result (Option Entry) LineRefused)
    → Gives (λ entry. entry) result (reading line) → result ≡ Err (Bad (Order earlier later)) → ⊥
never_order line earlier later result exact e =
    no_order line earlier later (subst (λ r. Gives {X = Option Entry} {Y = Option Entry} (λ entry. entry) r (reading line)) e exact)

pub found_fault : (line : List ℕ) (result : Result (Option Entry) LineRefused) → Gives (λ entry. entry) result (reading line)
    → IfErr result (λ refused. TellsFault line refused)
found_fault line (Ok found) exact = tt
found_fault line (Err (Bad why)) exact = line_fault line why exact
found_fault line (Err OutOfMemory) exact = tt

pub fault_gives : (line : List ℕ) (why : Why) (result : Result (Option Entry) LineRefused) → HasFault line why
    → Gives (λ entry. entry) result (reading line)
    → Gives {X = Option Entry} {Y = Option Entry} (λ found. found) result (Err why)
fault_gives line why result f exact = subst (λ read. Gives {X = Option Entry} {Y = Option Entry} (λ found. found) result read)
    (line_fault_again line why f) exact
