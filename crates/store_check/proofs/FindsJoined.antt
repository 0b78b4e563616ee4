-- What a call finds of several in whose place one is made.
use Rattle.std.proofs.Common.{◌≡◌, Result, Ok, Err, sym, subst}
use Rattle.outside.specs.declared.disk.Disk.{Ghosts}
use Rattle.page_journal.specs.declared.fault.StoreFault.{StoreFault}
use Rattle.bucket_store.specs.Image.{Has, Image}
use Rattle.store_check.specs.Finds.{Finds}
use Rattle.store_check.specs.declared.reading.Reading.{Reading}
use Rattle.store_check.proofs.FindsLaws.{finds_err, finds_ok}

module _ {D : Type 0} {g : Ghosts D} {T : Type 0} {Own : Image → T → Type 0} where
  told : (old mid new : Reading D g) (result answer : Result T StoreFault) → new ≡ mid → result ≡ answer → Finds old mid result Own
      → Finds old new answer Own
  told old mid new result answer left is own =
      subst (λ (n : Reading D g). Finds old n answer Own) (sym left) (subst (λ (r : Result T StoreFault). Finds old mid r Own) is own)

module _ {D : Type 0} {g : Ghosts D} {T U : Type 0} {Own : Image → T → Type 0} {Is : Image → U → Type 0} where
  pub joined_ok : (old mid new : Reading D g) (result : Result T StoreFault) (value : T) (answer : U) → new ≡ mid → result ≡ Ok value
      → Finds old mid result Own → ((rest : Image) → Has rest rest old.buckets.now → Own rest value → Is rest answer)
      → Finds old new (Ok answer) Is
  joined_ok old mid new result value answer left is own step = finds_ok (told old mid new result (Ok value) left is own) step

  pub joined_err : (old mid new : Reading D g) (result : Result T StoreFault) (fault : StoreFault) → new ≡ mid → result ≡ Err fault
      → Finds old mid result Own → Finds old new (Err fault) Is
  joined_err old mid new result fault left is own = finds_err (told old mid new result (Err fault) left is own)
