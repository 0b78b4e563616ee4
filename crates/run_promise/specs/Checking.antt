-- What a check tells of the bytes of a store, and what no command tells of those that a check finds sound.
use Rattle.std.specs.Prelude.{◌≡◌, ℕ, List, Option, Some, None}
use Rattle.outside.specs.Bytes.{IfTold}
use Rattle.update_flow.specs.BadPage.{IsBadPage}
use Rattle.update_flow.specs.Sound.{IsSound}
use Rattle.run_promise.specs.declared.fault.Fault.{Fault}
use Rattle.run_promise.specs.declared.fault.Fault.TheVariants.{BadStore}
use Rattle.run_promise.specs.CommandOf.{CommandOf, check_of}
use Rattle.run_promise.specs.World.{World}

-- where it ends well, the bytes are a sound store; where it tells a page, they are none, and this is a page that the rules name
pub record IsChecked (content : Option (List ℕ)) (fault : Option Fault) : Type 0 where
  pub sound : fault ≡ None → IfTold content IsSound
  pub bad : (page : ℕ) → fault ≡ Some (BadStore page) → IfTold content (λ bytes. (¬ IsSound bytes) × IsBadPage bytes page)

-- a run of a command
abbrev pub IsCheckedRun : CommandOf → World → Option Fault → Type 0
IsCheckedRun (check_of store) old fault = IsChecked old.disk.content fault
IsCheckedRun _ old fault = Unit {0}

-- over the bytes of a sound store no damaged page is told, whatever is known of their history
abbrev pub IsTrusted : Option (List ℕ) → Option Fault → Type 0
IsTrusted content fault = (page : ℕ) → fault ≡ Some (BadStore page) → IfTold content (λ bytes. ¬ IsSound bytes)
