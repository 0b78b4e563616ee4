-- What was taken out of a transaction stands for it.
use Rattle.std.proofs.Common.{◌≡◌, ◌⊎◌, ℕ, ◌+◌, List, length, Bool, true, false, Result, Ok, Err, is_err, sym, ap, subst, ◌∙◌}
use Rattle.std.specs.FinMap as finite
use Rattle.std.specs.Result.{IfOk, OnErr, OnOk}
use Rattle.outside.specs.Disk.{Crashes, Goes}
use Rattle.outside.specs.declared.disk.Disk.{Ghosts}
use Rattle.page_journal.specs.Journal.{home_count, view_of}
use Rattle.page_journal.specs.declared.journal.Journal.{Journal}
use Rattle.page_journal.specs.Crash.{IsAtRest}
use Rattle.page_journal.specs.declared.fault.StoreFault.{StoreFault}
use Rattle.chain_store.specs.Answers.{RestsWith}
use Rattle.chain_store.specs.Chains.{IsOpenStore}
use Rattle.chain_store.specs.Directories.{root_in}
use Rattle.chain_store.specs.Ends.{Ends}
use Rattle.chain_store.specs.Known.{Lists, changed}
use Rattle.chain_store.specs.Needed.{FitsNeeded, needed}
use Rattle.chain_store.specs.Plan.{IsPlan}
use Rattle.chain_store.specs.Parts.{head_or}
use Rattle.chain_store.specs.State.{HasState, IsState}
use Rattle.chain_store.specs.Store.{Keeps}
use Rattle.chain_store.specs.declared.kept.Kept.{Kept}
use Rattle.chain_store.specs.declared.parts.Part.{Part}
use Rattle.chain_store.specs.declared.planning.Plan.{Plan}
use Rattle.chain_store.specs.declared.root.Root.{Root}
use Rattle.chain_store.proofs.Puts.{nothing}
use Rattle.chain_store.proofs.RootPages.{root_fields}

-- an open store of which a transaction knows nothing yet
pub begun : {D : Type 0} {g : Ghosts D} (pages : List (List ℕ)) (journal : Journal D g) (kept : Kept) (read texts written before : Lists)
    → RestsWith pages journal → Keeps pages kept → read ≡ finite.empty → texts ≡ finite.empty → before ≡ finite.empty
    → IsOpenStore pages journal kept read texts written before
begun pages journal kept read texts written before rests keeps none_read none_texts none_before = record {
  rests = rests;
  keeps = keeps;
  known = λ n ns is. absurd (nothing read n ns none_read is);
  had = λ n bytes is. absurd (nothing texts n bytes none_texts is);
  marked = λ n same bytes is written_is. absurd (nothing before n same none_before is);
}

module _ {D : Type 0} {g : Ghosts D} (pages : List (List ℕ)) (journal taken : Journal D g) (kept taken_kept : Kept)
    (read texts written before taken_read taken_texts taken_written taken_before : Lists) (same_journal : taken ≡ journal)
    (same_kept : taken_kept ≡ kept)
    (none_texts : taken_texts ≡ finite.empty) (opened : IsOpenStore pages journal kept read texts written before) where
  pub opened_taken : taken_read ≡ read → taken_written ≡ written → taken_before ≡ before
      → IsOpenStore pages taken taken_kept taken_read taken_texts taken_written taken_before
  opened_taken same_read same_written same_before =
      subst (λ (j : Journal D g). IsOpenStore pages j taken_kept taken_read taken_texts taken_written taken_before) (sym same_journal)
      (subst (λ (k : Kept). IsOpenStore pages journal k taken_read taken_texts taken_written taken_before) (sym same_kept)
      (subst (λ (l : Lists). IsOpenStore pages journal kept l taken_texts taken_written taken_before) (sym same_read)
      (subst (λ (l : Lists). IsOpenStore pages journal kept read taken_texts l taken_before) (sym same_written)
      (subst (λ (l : Lists). IsOpenStore pages journal kept read taken_texts written l) (sym same_before) (record {
        rests = opened.rests;
        keeps = opened.keeps;
        known = opened.known;
        had = λ n bytes is. absurd (nothing taken_texts n bytes none_texts is);
        marked = opened.marked;
      })))))

  -- a transaction that was begun anew knows nothing
  pub opened_anew : taken_read ≡ finite.empty → taken_before ≡ finite.empty
      → IsOpenStore pages taken taken_kept taken_read taken_texts taken_written taken_before
  opened_anew none_read none_before =
      subst (λ (j : Journal D g). IsOpenStore pages j taken_kept taken_read taken_texts taken_written taken_before) (sym same_journal)
      (subst (λ (k : Kept). IsOpenStore pages journal k taken_read taken_texts taken_written taken_before) (sym same_kept)
      (begun pages journal kept taken_read taken_texts taken_written taken_before opened.rests opened.keeps none_read none_texts
      none_before))

module _ (root old new : Root) (strings : ℕ → List ℕ) (written taken : Lists) (same_root : old ≡ new) (same_written : taken ≡ written) where
  pub state_taken : (pages : List (List ℕ)) → IsState old (changed strings taken) pages → IsState new (changed strings written) pages
  state_taken pages state =
      subst (λ (r : Root). IsState r (changed strings written) pages) same_root
      (subst (λ (l : Lists). IsState old (changed strings l) pages) same_written state)

  pub moment_taken : (before mid after : Crashes)
      → Goes (λ left. HasState root strings left ⊎ HasState old (changed strings taken) left) before after
      → Goes (λ left. HasState root strings left ⊎ HasState new (changed strings written) left) before after
  moment_taken before mid after goes =
      subst (λ (r : Root). Goes (λ left. HasState root strings left ⊎ HasState r (changed strings written) left) before after) same_root
      (subst (λ (l : Lists). Goes (λ left. HasState root strings left ⊎ HasState old (changed strings l) left) before after) same_written
      goes)

-- what is needed then
pub needs_taken : (old new : Root) (strings : ℕ → List ℕ) (written taken : Lists) (before home limit now : ℕ)
    (result : Result (Unit {0}) StoreFault)
    → old ≡ new → taken ≡ written → before ≡ home → FitsNeeded (needed before old.buckets (changed strings taken)) limit now result
    → FitsNeeded (needed home new.buckets (changed strings written)) limit now result
needs_taken old new strings written taken before home limit now result same_root same_written same_home fits =
    subst (λ (n : ℕ). FitsNeeded (needed n new.buckets (changed strings written)) limit now result) same_home
    (subst (λ (r : Root). FitsNeeded (needed before r.buckets (changed strings written)) limit now result) same_root
    (subst (λ (l : Lists). FitsNeeded (needed before old.buckets (changed strings l)) limit now result) same_written fits))

-- an open store with the pages that were committed
pub opened_new : {D : Type 0} {g : Ghosts D} (pages : List (List ℕ)) (journal : Journal D g) (kept : Kept)
    (read texts written before : Lists)
    → IsAtRest pages (view_of journal) → length pages + 1 ≡ home_count journal → Keeps pages kept → read ≡ finite.empty
    → texts ≡ finite.empty
    → before ≡ finite.empty → IsOpenStore pages journal kept read texts written before
opened_new pages journal kept read texts written before rests many keeps none_read none_texts none_before =
    begun pages journal kept read texts written before (rests, many) keeps none_read none_texts none_before

-- the root page of a plan has the fields
pub plan_root : (kept : Kept) (root : Root) (parts : List Part) (free : List ℕ) (home : ℕ) (plan : Plan)
    → IsPlan kept root parts free home plan
    → root ≡ root_in plan.kept.front.items
plan_root kept root parts free home plan is =
    sym (ap (λ (l : List ℕ). root_in l) is.front_is
    ∙ root_fields kept.front.items root is.dealt.«end»
    (head_or is.dealt.left.items is.dealt.tail) is.dealt.chains.items is.dealt.directories.items kept.page is.small)

pub on_ok : {E : Type 0} (A B : Type 0) (result : Result (Unit {0}) E) → (A → B) → OnOk result A → OnOk result B
on_ok A B (Ok done) f a = f a
on_ok A B (Err fault) f a = tt

-- how many pages are there then
pub ends_taken : (pages : List (List ℕ)) (kept taken_kept : Kept) (root taken_root : Root)
    (written taken_written read taken_read before taken_before : Lists) (limit taken_limit home : ℕ) (result : Result (Unit {0}) StoreFault)
    → taken_kept ≡ kept → taken_root ≡ root → taken_written ≡ written → taken_read ≡ read → taken_before ≡ before → taken_limit ≡ limit
    → Ends pages taken_kept taken_root taken_written taken_read taken_before taken_limit home result
    → Ends pages kept root written read before limit home result
ends_taken pages kept taken_kept root taken_root written taken_written read taken_read before taken_before limit taken_limit home result
    same_kept same_root
    same_written same_read same_before same_limit ends =
    subst (λ (k : Kept). Ends pages k root written read before limit home result) same_kept
    (subst (λ (r : Root). Ends pages taken_kept r written read before limit home result) same_root
    (subst (λ (l : Lists). Ends pages taken_kept taken_root l read before limit home result) same_written
    (subst (λ (l : Lists). Ends pages taken_kept taken_root taken_written l before limit home result) same_read
    (subst (λ (l : Lists). Ends pages taken_kept taken_root taken_written taken_read l limit home result) same_before
    (subst (λ (n : ℕ). Ends pages taken_kept taken_root taken_written taken_read taken_before n home result) same_limit ends)))))

-- what follows for a value that is there
pub on_value : {T E : Type 0} (A B : T → Type 0) (result : Result T E) → ((value : T) → A value → B value) → IfOk result A → IfOk result B
on_value A B (Ok value) f a = f value a
on_value A B (Err fault) f a = tt

-- what holds of a refusal, where a call was refused, and what holds where it was not
pub on_err : {E : Type 0} (A : Type 0) (result : Result (Unit {0}) E) (b : Bool) → b ≡ is_err result → b ≡ true → OnErr result A → A
on_err A (Ok done) b is told a = absurd (cc)
on_err A (Err fault) b is told a = a

pub on_done : {E : Type 0} (A : Type 0) (result : Result (Unit {0}) E) (b : Bool) → b ≡ is_err result → b ≡ false → OnOk result A → A
on_done A (Ok done) b is told a = a
on_done A (Err fault) b is told a = absurd (cc)

pub ok_has : {T E : Type 0} (A : T → Type 0) (result : Result T E) (value : T) → result ≡ Ok value → IfOk result A → A value
ok_has A result value is has = subst (λ r. IfOk r A) is has
