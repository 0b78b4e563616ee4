-- A list that is read, or is refused.
use Rattle.std.proofs.Common.{◌≡◌, ℕ, List, Option, Some, None, Result, Ok, Err, IfOk, IfErr, OnOk, sym, subst, ◌∙◌}
use Rattle.page_journal.specs.declared.fault.StoreFault.{StoreFault}
use Rattle.page_journal.specs.declared.fault.StoreFault.TheVariants.{NotFormatted, NotEmpty, BadStore, DiskFault, StoreFull, Broken}
use Rattle.page_journal.specs.declared.fault.StoreFault.TheVariants.{OutOfMemory}
use Rattle.outside.specs.declared.disk.Disk.{Ghosts}
use Rattle.osm_base.specs.values.Ids.{AreRisingIds}
use Rattle.bucket_store.specs.Image.{Image}
use Rattle.bucket_store.specs.Image.{Has as HasNow}
use Rattle.bucket_store.specs.declared.buckets.Buckets.{Buckets}
use Rattle.value_bytes.specs.Forms.{IsAtFront, IsFrontless, IsNoValue, NeedsFor, Spells}
use Rattle.value_bytes.specs.Lists.{list_bytes, IsList}
use Rattle.value_bytes.specs.Numbers.{number_bytes, IsNumber}
use Rattle.value_bytes.specs.declared.fault.ValueFault.{ValueFault}
use Rattle.value_bytes.specs.declared.fault.ValueFault.TheVariants as values
use Rattle.bucket_store.specs.Typed.{refusal_of}
use Rattle.back_index.specs.Calls.{FindsIds}
use Rattle.back_index.specs.Ids.{ids_bytes, AreListed}
use Rattle.back_index.specs.Index.{HasNodes, IsNodeless}
use Rattle.back_index.specs.Relisting.{IsUnread, ReadsIds}
use Rattle.back_index.specs.Visits.{Refuses}
use Rattle.back_index.proofs.Held.{listed_same}

module _ (Has : Image → Image → Type 0) (found : Image → Option (List ℕ)) (bytes : List ℕ)
    (is : (rest now : Image) → Has rest now → found now ≡ Some bytes) where
  pub read_some : (result : Result (List ℕ) ValueFault) → IfOk result (Spells ids_bytes AreListed bytes)
      → IfOk result (λ ids. (rest now : Image) → Has rest now → ReadsIds (found now) ids)
  read_some (Ok ids) spells = λ rest now has. subst (λ o. ReadsIds o ids) (sym (is rest now has)) (spells.is, spells.bytes_are)
  read_some (Err fault) spells = tt

  pub unread_some : (result : Result (List ℕ) ValueFault) → IfErr result (NeedsFor (IsNoValue ids_bytes AreListed bytes))
      → IfErr result (NeedsFor ((rest now : Image) → Has rest now → IsUnread (found now)))
  unread_some (Ok ids) none = tt
  unread_some (Err values.NotSpelled) none = λ rest now has. subst IsUnread (sym (is rest now has)) none
  unread_some (Err values.OutOfMemory) none = tt

-- and they rise
pub finds_rising : {D : Type 0} {g : Ghosts D} (buckets : Buckets D g) (found : Image → Option (List ℕ))
    (result : Result (List ℕ) ValueFault)
    → IfOk result AreRisingIds
    → IfOk result (λ ids. (rest now : Image) → HasNow rest now buckets → ReadsIds (found now) ids)
    → IfOk result (FindsIds (λ now ids. ReadsIds (found now) ids) buckets)
finds_rising buckets found (Ok ids) rising are = record { rising = rising; are = are }
finds_rising buckets found (Err fault) rising are = tt

-- the nodes of a way, in the same words
module _ (Has : Image → Image → Type 0) (found : Image → Option (List ℕ)) (bytes : List ℕ)
    (is : (rest now : Image) → Has rest now → found now ≡ Some bytes) where
  pub nodes_some : (result : Result (List ℕ) ValueFault) → IfOk result (IsAtFront (list_bytes number_bytes) (IsList IsNumber) bytes)
      → IfOk result (λ nodes. (rest now : Image) → Has rest now → HasNodes (found now) nodes)
  nodes_some (Ok nodes) front = λ rest now has. subst (λ o. HasNodes o nodes) (sym (is rest now has)) front
  nodes_some (Err fault) front = tt

  pub nodeless_some : (result : Result (List ℕ) ValueFault)
      → IfErr result (NeedsFor (IsFrontless (list_bytes number_bytes) (IsList IsNumber) bytes))
      → IfErr result (NeedsFor ((rest now : Image) → Has rest now → IsNodeless (found now)))
  nodeless_some (Ok nodes) none = tt
  nodeless_some (Err values.NotSpelled) none = λ rest now has. subst IsNodeless (sym (is rest now has)) none
  nodeless_some (Err values.OutOfMemory) none = tt

pub nodeless_not : (found : Option (List ℕ)) (nodes : List ℕ) → IsNodeless found → HasNodes found nodes → ⊥
nodeless_not None nodes none has = has
nodeless_not (Some bytes) nodes none has = none nodes has.0 has.1.begins

-- a list is read as one list alone, or is not read
pub unread_not : (found : Option (List ℕ)) (ids : List ℕ) → IsUnread found → ReadsIds found ids → ⊥
unread_not None ids unread reads = unread
unread_not (Some bytes) ids unread reads = unread ids reads.0 reads.1

pub reads_same : (found : Option (List ℕ)) (one other : List ℕ) → ReadsIds found one → ReadsIds found other → one ≡ other
reads_same None one other reads again = reads ∙ sym again
reads_same (Some bytes) one other reads again = listed_same one other reads.0 again.0 (sym reads.1 ∙ again.1)

-- a refusal says less
pub refuses_more : (Bad Worse : ℕ → Type 0) → ((at : ℕ) → Bad at → Worse at) → (fault : StoreFault) → Refuses Bad fault
    → Refuses Worse fault
refuses_more Bad Worse more NotFormatted refuses = refuses
refuses_more Bad Worse more NotEmpty refuses = refuses
refuses_more Bad Worse more (BadStore at) refuses = more at refuses
refuses_more Bad Worse more DiskFault refuses = tt
refuses_more Bad Worse more (StoreFull pages) refuses = refuses
refuses_more Bad Worse more Broken refuses = refuses
refuses_more Bad Worse more OutOfMemory refuses = tt

pub refuses_result : (T : Type 0) (Bad Worse : ℕ → Type 0) (result : Result T StoreFault) → ((at : ℕ) → Bad at → Worse at)
    → IfErr result (Refuses Bad)
    → IfErr result (Refuses Worse)
refuses_result T Bad Worse (Ok value) more refuses = tt
refuses_result T Bad Worse (Err fault) more refuses = refuses_more Bad Worse more fault refuses

pub never_refuses : (Bad : ℕ → Type 0) (fault : StoreFault) → Refuses (λ at. ⊥) fault → Refuses Bad fault
never_refuses Bad fault refuses = refuses_more (λ at. ⊥) Bad (λ at none. absurd none) fault refuses

pub on_ok : (T : Type 0) (P Q : Type 0) (result : Result T StoreFault) → (P → Q) → OnOk result P → OnOk result Q
on_ok T P Q (Ok value) more p = more p
on_ok T P Q (Err fault) more p = tt

-- what is refused for a value is refused for this page
pub needs_refuses : (Bad : ℕ → Type 0) (Fact : Type 0) (fault : ValueFault) (page : ℕ) → NeedsFor Fact fault → (Fact → Bad page)
    → Refuses Bad (refusal_of fault page)
needs_refuses Bad Fact values.NotSpelled page fact bad = bad fact
needs_refuses Bad Fact values.OutOfMemory page fact bad = tt

pub if_ok : (T : Type 0) (P Q : T → Type 0) (result : Result T StoreFault) → ((value : T) → P value → Q value) → IfOk result P
    → IfOk result Q
if_ok T P Q (Ok value) more p = more value p
if_ok T P Q (Err fault) more p = tt
