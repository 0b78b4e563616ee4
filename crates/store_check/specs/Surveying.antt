-- What the steps of a survey find: which chains are accepted, and which pages have a mark.
use Rattle.std.specs.Prelude.{◌≡◌, ◌⊎◌, ◌+◌, ◌<◌, ℕ, Bool, false, true, List, ◌∷◌, ◌++◌, length, Result, Ok, Err, OnOk}
use Rattle.std.specs.List.{AllByRecursion}
use Rattle.outside.specs.declared.disk.Disk.{Ghosts}
use Rattle.page_journal.specs.declared.fault.StoreFault.{StoreFault}
use Rattle.page_journal.specs.declared.fault.StoreFault.TheVariants.{BadStore}
use Rattle.chain_store.specs.Chain.{HasPages}
use Rattle.chain_store.specs.Chains.{kept_of}
use Rattle.chain_store.specs.Links.{page_in}
use Rattle.chain_store.specs.State.{IsIn}
use Rattle.chain_store.specs.Store.{kept_first}
use Rattle.chain_store.specs.declared.kept.Kept.{Kept}
use Rattle.bucket_store.specs.Calls.{IsBegun}
use Rattle.bucket_store.specs.Transaction.{IsOpenStore, chains_of, has_refused}
use Rattle.bucket_store.specs.declared.buckets.Buckets.{Buckets}
use Rattle.row_store.specs.Loading.{Looks}
use Rattle.store_check.specs.BadPage.{IsLoaded, IsOwned, IsRefusedAt}
use Rattle.store_check.specs.Marks.{is_marked}

-- each page of this chain has a mark; one that is not well formed has no page
abbrev pub IsCovered : List (List ℕ) → Kept → List Bool → ℕ → Type 0
IsCovered pages kept marks n = (p : ℕ) → p < length marks → IsIn (page_in pages) (length pages + 1) (kept_first kept) n p
    → is_marked marks p ≡ true

-- the pages of these chains have marks now, and else only pages that a chain has, or that had one
pub record MarksChains (pages : List (List ℕ)) (kept : Kept) (chains : List ℕ) (old new : List Bool) : Type 0 where
  pub many : length new ≡ length old
  pub stay : (p : ℕ) → p < length old → is_marked old p ≡ true → is_marked new p ≡ true
  pub all : AllByRecursion (IsCovered pages kept new) chains
  pub only : (p : ℕ) → p < length old → is_marked new p ≡ true → (is_marked old p ≡ true) ⊎ IsOwned pages kept p

-- which chains are accepted in a store of which this is kept, and which are refused at which page
abbrev pub Accepts : Type 1
Accepts = List (List ℕ) → Kept → ℕ → Type 0

abbrev pub Refuses : Type 1
Refuses = List (List ℕ) → Kept → ℕ → ℕ → Type 0

-- the first of these chains that is not accepted is refused at this page
pub record IsFirstOf (Is : ℕ → Type 0) (IsNot : ℕ → ℕ → Type 0) (chains : List ℕ) (at : ℕ) : Type 0 where
  pub before : List ℕ
  pub n : ℕ
  pub after : List ℕ
  pub order : chains ≡ before ++ n ∷ after
  pub accepted : AllByRecursion Is before
  pub refused : IsNot n at

-- reading these chains in their order, and marking their pages, may give this answer
abbrev pub ReadsAll : (ℕ → Type 0) → (ℕ → ℕ → Type 0) → List (List ℕ) → Kept → List ℕ → List Bool → List Bool
    → Result (Unit {0}) StoreFault → Type 0
ReadsAll Is IsNot pages kept chains old new (Ok done) = AllByRecursion Is chains × MarksChains pages kept chains old new
ReadsAll Is IsNot pages kept chains old new (Err (BadStore at)) = IsFirstOf Is IsNot chains at
ReadsAll Is IsNot pages kept chains old new (Err _) = Unit {0}

-- the transaction is just begun, and has refused no call
pub record IsFresh {D : Type 0} {g : Ghosts D} (buckets : Buckets D g) : Type 0 where
  pub begun : IsBegun buckets
  pub going : has_refused buckets ≡ false

-- what a step does that reads these chains and marks their pages: it ends with a transaction just begun
pub record Reads {D : Type 0} {g : Ghosts D} (Is : Accepts) (IsNot : Refuses) (chains : List ℕ) (old new : Buckets D g)
    (before after : List Bool) (result : Result (Unit {0}) StoreFault) : Type 0 where
  pub answers : (pages : List (List ℕ)) → IsOpenStore pages old
      → ReadsAll (Is pages (kept_of (chains_of old))) (IsNot pages (kept_of (chains_of old))) pages (kept_of (chains_of old)) chains before
      after result
  pub opens : OnOk result ((pages : List (List ℕ)) → IsOpenStore pages old → IsOpenStore pages new)
  pub begun : OnOk result (IsBegun new)
  pub looks : Looks old new result

-- of a step that loads them; and of one that passes over those that are not well formed
abbrev pub LoadsChains : {D : Type 0} {g : Ghosts D} → List ℕ → Buckets D g → Buckets D g → (before after : List Bool)
    → Result (Unit {0}) StoreFault → Type 0
LoadsChains chains old new before after result = Reads IsLoaded IsRefusedAt chains old new before after result

abbrev pub MarksOthers : {D : Type 0} {g : Ghosts D} → List ℕ → Buckets D g → Buckets D g → (before after : List Bool)
    → Result (Unit {0}) StoreFault → Type 0
MarksOthers chains old new before after result =
    Reads (λ pages kept n. Unit {0}) (λ pages kept n at. ⊥) chains old new before after result

-- telling the pages of a chain that is loaded may give this answer
abbrev pub TellsLoaded : List (List ℕ) → Kept → ℕ → Result (List ℕ) StoreFault → Type 0
TellsLoaded pages kept n (Ok ns) = IsLoaded pages kept n × HasPages (page_in pages) (length pages + 1) n (kept_first kept n) ns
TellsLoaded pages kept n (Err (BadStore at)) = IsRefusedAt pages kept n at
TellsLoaded pages kept n (Err _) = Unit {0}

-- what a call does that tells them
pub record TellsPages {D : Type 0} {g : Ghosts D} (n : ℕ) (old new : Buckets D g) (result : Result (List ℕ) StoreFault) : Type 0 where
  pub answers : (pages : List (List ℕ)) → IsOpenStore pages old → TellsLoaded pages (kept_of (chains_of old)) n result
  pub opens : (pages : List (List ℕ)) → IsOpenStore pages old → IsOpenStore pages new
  pub looks : Looks old new result
