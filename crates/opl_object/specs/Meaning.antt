-- What a line means: it is skipped, it has a fault, or it spells one entry.
use Rattle.std.specs.Prelude.{◌≡◌, ◌⊎◌, ℕ, List}
use Rattle.osm_base.specs.declared.values.object.Entry.{Entry}
use Rattle.opl_object.specs.declared.why.LineRefused.{LineRefused}
use Rattle.opl_object.specs.declared.why.LineRefused.TheVariants.{Bad, OutOfMemory}
use Rattle.opl_object.specs.declared.why.Why.{Why}
use Rattle.opl_object.specs.Faults.{HasFault}
use Rattle.opl_object.specs.Line.{IsSkipped}
use Rattle.opl_object.specs.Spells.{Spells}

-- a refusal tells the fault of the line, unless memory ran out
abbrev pub TellsFault : List ℕ → LineRefused → Type 0
TellsFault line (Bad why) = HasFault line why
TellsFault line OutOfMemory = Unit {0}

-- a line has one of three meanings, and no other beside it
pub record HasOneMeaning (line : List ℕ) : Type 0 where
  pub some : IsSkipped line ⊎ (((entry : Entry) × Spells line entry) ⊎ ((why : Why) × HasFault line why))
  pub skipped_no_entry : (entry : Entry) → IsSkipped line → Spells line entry → ⊥
  pub skipped_no_fault : (why : Why) → IsSkipped line → HasFault line why → ⊥
  pub entry_no_fault : (entry : Entry) (why : Why) → Spells line entry → HasFault line why → ⊥
  pub one_entry : (entry other : Entry) → Spells line entry → Spells line other → entry ≡ other
  pub one_fault : (why other : Why) → HasFault line why → HasFault line other → why ≡ other
