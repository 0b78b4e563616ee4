use Rattle.std.proofs.Common.{◌⊎◌, ℕ, List, ap, subst, rules}
use Rattle.std.specs.Result.{OnOk}
use Rattle.outside.specs.Disk.{Goes}
use Rattle.page_journal.specs.Journal.{home_count, page_limit, view_of}
use Rattle.chain_store.specs.Answers.{Looked}
use Rattle.chain_store.specs.Ends.{ReadsFree}
use Rattle.chain_store.specs.Known.{changed}
use Rattle.chain_store.specs.Chains.{IsOpenStore}
use Rattle.chain_store.specs.Needed.{FitsNeeded, needed}
use Rattle.chain_store.specs.State.{HasState, IsState}
use Rattle.chain_store.specs.declared.kept.Kept.{Kept}
use Rattle.chain_store.specs.declared.root.Root.{Root}
use Rattle.chain_store.proofs.Taking.{ends_taken, moment_taken, needs_taken, on_ok, opened_anew, opened_taken, state_taken}
use Rattle.chain_store.proofs.chains.Chains.commit.Goals as goal

pub returns-clause-any_moment : goal.returns-clause-any_moment
returns-clause-any_moment g c = λ root strings pages opened state.
    let self = c.args.self.now in
    let t = c.take-taken.ensures in
    let taken = c.take-taken.result in
    let mid = c.take-taken.new.self in
    subst (λ j. Goes (λ left. HasState root strings left ⊎ HasState self.root (changed strings self.written) left) (view_of j).crashes
    (view_of c.write-outcome.new.self.journal).crashes)
    t.journal
    (moment_taken root taken.root self.root strings self.written taken.written t.was_root t.was_written (view_of mid.journal).crashes
    (view_of mid.journal).crashes
    (view_of c.write-outcome.new.self.journal).crashes
    (c.write-outcome.ensures.any_moment root strings pages
    (opened_taken pages self.journal mid.journal self.kept mid.kept self.read self.texts self.written self.before taken.read mid.texts
    taken.written taken.before
    t.journal t.kept t.begun.texts opened t.was_read t.was_written t.was_before) state))

pub returns-clause-done : goal.returns-clause-done
returns-clause-done g c =
    let self = c.args.self.now in
    let t = c.take-taken.ensures in
    let taken = c.take-taken.result in
    let mid = c.take-taken.new.self in
    let after = c.write-outcome.new.self in
    on_ok ((root : Root) → (strings : ℕ → List ℕ) → (pages : List (List ℕ))
    → IsOpenStore pages mid.journal mid.kept taken.read mid.texts taken.written taken.before → IsState root strings pages
    → (new : List (List ℕ)) × IsOpenStore new after.journal after.kept after.read after.texts after.written after.before
    × IsState taken.root (changed strings taken.written) new)
    ((root : Root) → (strings : ℕ → List ℕ) → (pages : List (List ℕ))
    → IsOpenStore pages self.journal self.kept self.read self.texts self.written self.before → IsState root strings pages
    → (new : List (List ℕ)) × IsOpenStore new after.journal after.kept after.read after.texts after.written after.before
    × IsState self.root (changed strings self.written) new)
    c.write-outcome.result
    (λ done root strings pages opened state.
    let x = done root strings pages
    (opened_taken pages self.journal mid.journal self.kept mid.kept self.read self.texts self.written self.before taken.read mid.texts
    taken.written taken.before
    t.journal t.kept t.begun.texts opened t.was_read t.was_written t.was_before) state in
    (x.0, x.1, state_taken root taken.root self.root strings self.written taken.written t.was_root t.was_written x.0 x.2))
    c.write-outcome.ensures.done

pub returns-clause-commits : goal.returns-clause-commits
returns-clause-commits g c = record {
  alone = search rules;
  opens = λ err fine pages opened.
      let self = c.args.self.now in
      let t = c.take-taken.ensures in
      let mid = c.take-taken.new.self in
      c.write-outcome.ensures.commits.opens err fine pages
      (opened_anew pages self.journal mid.journal self.kept mid.kept self.read self.texts self.written self.before mid.read mid.texts
      mid.written mid.before
      t.journal t.kept t.begun.texts opened t.begun.read t.begun.before);
  looked = λ err fine.
      subst (λ j. Looked j c.write-outcome.new.self.journal) c.take-taken.ensures.journal (c.write-outcome.ensures.commits.looked err fine);
  kept = search rules;
  same_disk = search rules;
  limit = search rules;
  broken = search rules;
  cause = search rules;
}

pub returns-clause-reads : goal.returns-clause-reads
returns-clause-reads g c =
    let self = c.args.self.now in
    let t = c.take-taken.ensures in
    let mid = c.take-taken.new.self in
    let after = c.write-outcome.new.self.journal in
    subst (λ j. OnOk c.write-outcome.result (ReadsFree j self.kept after)) t.journal
    (subst (λ (k : Kept). OnOk c.write-outcome.result (ReadsFree mid.journal k after)) t.kept c.write-outcome.ensures.reads)

pub returns-clause-needs : goal.returns-clause-needs
returns-clause-needs g c = λ root strings pages opened state.
    let self = c.args.self.now in
    let t = c.take-taken.ensures in
    let taken = c.take-taken.result in
    let mid = c.take-taken.new.self in
    let after = c.write-outcome.new.self in
    let fits = subst (λ (n : ℕ). FitsNeeded (needed (home_count mid.journal) taken.root.buckets (changed strings taken.written)) n
    (home_count after.journal) c.write-outcome.result)
    (ap (λ j. page_limit j) t.journal)
    (c.write-outcome.ensures.needs root strings pages
    (opened_taken pages self.journal mid.journal self.kept mid.kept self.read self.texts self.written self.before taken.read mid.texts
    taken.written taken.before
    t.journal t.kept t.begun.texts opened t.was_read t.was_written t.was_before) state) in
    needs_taken taken.root self.root strings self.written taken.written (home_count mid.journal) (home_count self.journal)
    (page_limit self.journal)
    (home_count after.journal) c.write-outcome.result t.was_root t.was_written (ap (λ j. home_count j) t.journal) fits

pub returns-clause-answers : goal.returns-clause-answers
returns-clause-answers g c = λ pages opened.
    let self = c.args.self.now in
    let t = c.take-taken.ensures in
    let taken = c.take-taken.result in
    let mid = c.take-taken.new.self in
    ends_taken pages self.kept mid.kept self.root taken.root self.written taken.written self.read taken.read self.before taken.before
    (page_limit self.journal) (page_limit mid.journal) (home_count c.write-outcome.new.self.journal) c.write-outcome.result
    t.kept t.was_root t.was_written t.was_read t.was_before (ap (λ j. page_limit j) t.journal)
    (c.write-outcome.ensures.answers pages
    (opened_taken pages self.journal mid.journal self.kept mid.kept self.read self.texts self.written self.before taken.read mid.texts
    taken.written taken.before
    t.journal t.kept t.begun.texts opened t.was_read t.was_written t.was_before))
