use Rattle.std.proofs.Common.{◌≡◌, ◌+◌, ◌*◌, ◌≤◌, ℕ, List, length, refl, sym, ap, subst, ◌∙◌, arith, rules}
use Rattle.page_journal.specs.Journal.{home_count, is_broken, page_limit, view_of}
use Rattle.page_journal.specs.PageSet.{CanCommit, overwritten}
use Rattle.page_journal.proofs.ReadCounts.{reads_quiet}
use Rattle.chain_store.specs.Chain.{AreBehindRoot, HasPages}
use Rattle.chain_store.specs.Kept.{AreAllBehindRoot}
use Rattle.chain_store.specs.Known.{AreKnown, changed}
use Rattle.chain_store.specs.Links.{page_in}
use Rattle.chain_store.specs.Needed.{needed}
use Rattle.chain_store.specs.Plan.{IsPlan}
use Rattle.chain_store.specs.State.{HasState, IsState}
use Rattle.chain_store.specs.Store.{Keeps, kept_first}
use Rattle.chain_store.specs.declared.layout.TheConstants.{FREE}
use Rattle.chain_store.specs.declared.root.Root.{Root}
use Rattle.chain_store.proofs.Carried.{renewed_keeps, renewed_long, renewed_needed, renewed_state}
use Rattle.chain_store.proofs.Commits.{behind_of, can_of, idle, ran}
use Rattle.chain_store.proofs.Looks.{looked_untouched, rests_looked}
use Rattle.chain_store.proofs.Needs.{fits_refused}
use Rattle.chain_store.proofs.NewStore.{pages_long}
use Rattle.chain_store.proofs.Puts.{held_none, known_none, open_looked, stored_none}
use Rattle.chain_store.proofs.Taking.{opened_new, plan_root}
use Rattle.chain_store.proofs.chains.Chains.write.Goals as goal

pub planned-requires-clause-known : goal.planned-requires-clause-known
planned-requires-clause-known g c = λ n bytes got. (c.requires.may.stored n bytes got).0

pub commit-requires : goal.commit-requires
commit-requires g c =
    let self = c.args.self.now in
    let taken = c.args.taken in
    let plan = c.in_ok-plan.plan in
    let is_home : c.pages-home.result ≡ home_count self.journal = c.pages-home.ensures.pages in
    subst (λ (n : ℕ). CanCommit plan.set n plan.home) (is_home ∙ sym c.walk.ensures.looks.looked.pages)
    (can_of self.kept taken.root taken.written taken.read taken.before c.in_ok-plan.ensures.parts c.in-Ok.free.pages.items
    c.pages-home.result plan
    (subst (λ (l : List ℕ). IsPlan c.args.self.now.kept c.args.taken.root c.in_ok-plan.ensures.parts l c.pages-home.result
    c.in_ok-plan.plan) c.deref.ensures.value c.in_ok-plan.ensures.is) c.in_ok-plan.ensures.gathered.each
    (subst (λ (n : ℕ). AreKnown n taken.read) (sym is_home) c.requires.may.known)
    (subst (λ (n : ℕ). AreAllBehindRoot n self.kept.directories.items) (sym is_home) self.behind)
    c.pages-home.ensures.some
    (subst (λ (n : ℕ). AreBehindRoot n c.in-Ok.free.pages.items) (sym is_home) c.in-Ok.ensures.inside))

pub returns-in-Err-commit-clause-any_moment : goal.returns-in-Err-commit-clause-any_moment
returns-in-Err-commit-clause-any_moment g c = λ root strings pages opened state.
    let self = c.args.self.now in
    let taken = c.args.taken in
    let plan = c.in_ok-plan.plan in
    let settled = opened.rests.0.1 in
    let is_home : c.pages-home.result ≡ length pages + 1 = c.pages-home.ensures.pages ∙ sym opened.rests.1 in
    let is : IsPlan self.kept taken.root c.in_ok-plan.ensures.parts c.in-Ok.free.pages.items (length pages + 1) plan =
    subst (λ (n : ℕ). IsPlan self.kept taken.root c.in_ok-plan.ensures.parts c.in-Ok.free.pages.items n plan) is_home
    (subst (λ (l : List ℕ). IsPlan c.args.self.now.kept c.args.taken.root c.in_ok-plan.ensures.parts l c.pages-home.result
    c.in_ok-plan.plan) c.deref.ensures.value c.in_ok-plan.ensures.is) in
    let free : HasPages (page_in pages) (length pages + 1) FREE (kept_first self.kept FREE) c.in-Ok.free.pages.items =
    subst (λ (n : ℕ). HasPages (page_in pages) (length pages + 1) FREE n c.in-Ok.free.pages.items) c.first.ensures.first
    (c.in-Ok.ensures.answers pages opened.rests).0 in
    let now = rests_looked pages self.journal c.walk.new.journal opened.rests c.walk.ensures.looks.looked in
    ran pages (overwritten plan.set plan.home pages) opened.rests.0.0 (view_of self.journal) (view_of c.walk.new.journal)
    (view_of c.commit.new.self)
    root taken.root strings (changed strings taken.written) settled c.walk.ensures.looks.looked.stays state
    (renewed_state pages self.kept taken.root taken.written taken.read taken.before c.in_ok-plan.ensures.parts c.in-Ok.free.pages.items plan
    root strings state opened.keeps opened.known opened.marked (pages_long pages opened.rests.0.0 (view_of self.journal) settled)
    c.requires.may.stored c.requires.may.gone c.requires.may.few c.requires.may.count c.in_ok-plan.ensures.gathered free is)
    (c.in-Err-commit.ensures.any_moment pages now.0 now.1)

pub invariant_of-self-2 : goal.invariant_of-self-2
invariant_of-self-2 g c =
    let self = c.args.self.now in
    let taken = c.args.taken in
    let plan = c.in_ok-plan.plan in
    let is_home : c.pages-home.result ≡ home_count self.journal = c.pages-home.ensures.pages in
    let buckets = ap (λ (root : Root). root.buckets)
    (plan_root self.kept taken.root c.in_ok-plan.ensures.parts c.in-Ok.free.pages.items c.pages-home.result plan
    (subst (λ (l : List ℕ). IsPlan c.args.self.now.kept c.args.taken.root c.in_ok-plan.ensures.parts l c.pages-home.result
    c.in_ok-plan.plan) c.deref.ensures.value c.in_ok-plan.ensures.is)) in
    record {
      known = known_none self.read c.requires.begun.read _;
      behind = subst (λ (n : ℕ). AreAllBehindRoot n plan.kept.directories.items) (sym c.in_default.ensures.pages)
          (behind_of self.kept taken.root taken.written taken.read taken.before c.in_ok-plan.ensures.parts c.in-Ok.free.pages.items
          c.pages-home.result plan
          (subst (λ (l : List ℕ). IsPlan c.args.self.now.kept c.args.taken.root c.in_ok-plan.ensures.parts l c.pages-home.result
          c.in_ok-plan.plan) c.deref.ensures.value c.in_ok-plan.ensures.is) c.in_ok-plan.ensures.gathered.each
          (subst (λ (n : ℕ). AreKnown n taken.read) (sym is_home) c.requires.may.known)
          (subst (λ (n : ℕ). AreAllBehindRoot n self.kept.directories.items) (sym is_home) self.behind)
          c.pages-home.ensures.some
          (subst (λ (n : ℕ). AreBehindRoot n c.in-Ok.free.pages.items) (sym is_home) c.in-Ok.ensures.inside));
      held = held_none self.read self.texts c.requires.begun.read;
      stored = stored_none self.read self.written taken.root.buckets c.requires.begun.written;
      gone = λ other. absurd (other buckets);
      few = c.requires.may.few;
      count = λ other. absurd (other buckets);
    }

pub returns-clause-any_moment : goal.returns-clause-any_moment
returns-clause-any_moment g c = λ root strings pages opened state.
    let self = c.args.self.now in
    let taken = c.args.taken in
    let plan = c.in_ok-plan.plan in
    let settled = opened.rests.0.1 in
    let is_home : c.pages-home.result ≡ length pages + 1 = c.pages-home.ensures.pages ∙ sym opened.rests.1 in
    let is : IsPlan self.kept taken.root c.in_ok-plan.ensures.parts c.in-Ok.free.pages.items (length pages + 1) plan =
    subst (λ (n : ℕ). IsPlan self.kept taken.root c.in_ok-plan.ensures.parts c.in-Ok.free.pages.items n plan) is_home
    (subst (λ (l : List ℕ). IsPlan c.args.self.now.kept c.args.taken.root c.in_ok-plan.ensures.parts l c.pages-home.result
    c.in_ok-plan.plan) c.deref.ensures.value c.in_ok-plan.ensures.is) in
    let free : HasPages (page_in pages) (length pages + 1) FREE (kept_first self.kept FREE) c.in-Ok.free.pages.items =
    subst (λ (n : ℕ). HasPages (page_in pages) (length pages + 1) FREE n c.in-Ok.free.pages.items) c.first.ensures.first
    (c.in-Ok.ensures.answers pages opened.rests).0 in
    let now = rests_looked pages self.journal c.walk.new.journal opened.rests c.walk.ensures.looks.looked in
    ran pages (overwritten plan.set plan.home pages) opened.rests.0.0 (view_of self.journal) (view_of c.walk.new.journal)
    (view_of c.commit.new.self)
    root taken.root strings (changed strings taken.written) settled c.walk.ensures.looks.looked.stays state
    (renewed_state pages self.kept taken.root taken.written taken.read taken.before c.in_ok-plan.ensures.parts c.in-Ok.free.pages.items plan
    root strings state opened.keeps opened.known opened.marked (pages_long pages opened.rests.0.0 (view_of self.journal) settled)
    c.requires.may.stored c.requires.may.gone c.requires.may.few c.requires.may.count c.in_ok-plan.ensures.gathered free is)
    (c.in_default.ensures.any_moment pages now.0 now.1)

pub returns-clause-done : goal.returns-clause-done
returns-clause-done g c = λ root strings pages opened state.
    let self = c.args.self.now in
    let taken = c.args.taken in
    let plan = c.in_ok-plan.plan in
    let settled = opened.rests.0.1 in
    let is_home : c.pages-home.result ≡ length pages + 1 = c.pages-home.ensures.pages ∙ sym opened.rests.1 in
    let is : IsPlan self.kept taken.root c.in_ok-plan.ensures.parts c.in-Ok.free.pages.items (length pages + 1) plan =
    subst (λ (n : ℕ). IsPlan self.kept taken.root c.in_ok-plan.ensures.parts c.in-Ok.free.pages.items n plan) is_home
    (subst (λ (l : List ℕ). IsPlan c.args.self.now.kept c.args.taken.root c.in_ok-plan.ensures.parts l c.pages-home.result
    c.in_ok-plan.plan) c.deref.ensures.value c.in_ok-plan.ensures.is) in
    let free : HasPages (page_in pages) (length pages + 1) FREE (kept_first self.kept FREE) c.in-Ok.free.pages.items =
    subst (λ (n : ℕ). HasPages (page_in pages) (length pages + 1) FREE n c.in-Ok.free.pages.items) c.first.ensures.first
    (c.in-Ok.ensures.answers pages opened.rests).0 in
    let now = rests_looked pages self.journal c.walk.new.journal opened.rests c.walk.ensures.looks.looked in
    let long = pages_long pages opened.rests.0.0 (view_of self.journal) settled in
    let may = c.requires.may in
    let new : List (List ℕ) = overwritten plan.set plan.home pages in
    let many : length new + 1 ≡ plan.home =
    renewed_long pages self.kept taken.root taken.written taken.read taken.before c.in_ok-plan.ensures.parts c.in-Ok.free.pages.items plan
    root strings state opened.keeps opened.known opened.marked long may.stored may.gone may.few may.count c.in_ok-plan.ensures.gathered free
    is in
    let keeps : Keeps new plan.kept =
    renewed_keeps pages self.kept taken.root taken.written taken.read taken.before c.in_ok-plan.ensures.parts c.in-Ok.free.pages.items plan
    root strings state opened.keeps opened.known opened.marked long may.stored may.gone may.few may.count c.in_ok-plan.ensures.gathered free
    is in
    let renewed : IsState taken.root (changed strings taken.written) new =
    renewed_state pages self.kept taken.root taken.written taken.read taken.before c.in_ok-plan.ensures.parts c.in-Ok.free.pages.items plan
    root strings state opened.keeps opened.known opened.marked long may.stored may.gone may.few may.count c.in_ok-plan.ensures.gathered free
    is in (
      new,
      opened_new new c.commit.new.self plan.kept self.read self.texts self.written self.before (c.in_default.ensures.done pages now.0 now.1)
          (many ∙ sym c.in_default.ensures.pages) keeps
          c.requires.begun.read c.requires.begun.texts c.requires.begun.before,
      renewed,
    )

pub returns-clause-still : goal.returns-clause-still
returns-clause-still g c = record {
  read = search rules;
  written = search rules;
  before = search rules;
  texts = search rules;
  root = plan_root c.args.self.now.kept c.args.taken.root c.in_ok-plan.ensures.parts c.in-Ok.free.pages.items c.pages-home.result
      c.in_ok-plan.plan (subst (λ (l : List ℕ).
      IsPlan c.args.self.now.kept c.args.taken.root c.in_ok-plan.ensures.parts l c.pages-home.result c.in_ok-plan.plan)
      c.deref.ensures.value c.in_ok-plan.ensures.is);
}

pub returns-in-Err-commit-clause-commits : goal.returns-in-Err-commit-clause-commits
returns-in-Err-commit-clause-commits g c = record {
  alone = search rules;
  opens = λ err fine pages opened.
      let self = c.args.self.now in
      open_looked pages self.journal c.commit.new.self self.kept self.read self.texts self.written self.before opened
      (looked_untouched self.journal c.walk.new.journal c.commit.new.self c.walk.ensures.looks.looked
      (c.in-Err-commit.ensures.untouched refl fine)
      c.in-Err-commit.ensures.pages c.in-Err-commit.ensures.keeps.limit c.in-Err-commit.ensures.keeps.same_disk);
  looked = λ err fine.
      looked_untouched c.args.self.now.journal c.walk.new.journal c.commit.new.self c.walk.ensures.looks.looked
      (c.in-Err-commit.ensures.untouched refl fine)
      c.in-Err-commit.ensures.pages c.in-Err-commit.ensures.keeps.limit c.in-Err-commit.ensures.keeps.same_disk;
  kept = search rules;
  same_disk = search rules;
  limit = search rules;
  broken = search rules;
  cause = search rules;
}

pub returns-clause-reads : goal.returns-clause-reads
returns-clause-reads g c =
    let self = c.args.self.now in (
      c.in-Ok.free.pages.items,
      λ pages rests.
          subst (λ (n : ℕ). HasPages (page_in pages) (length pages + 1) FREE n c.in-Ok.free.pages.items) c.first.ensures.first
          (c.in-Ok.ensures.answers pages rests).0,
      reads_quiet (length c.in-Ok.free.pages.items) (4096 * home_count self.journal) (view_of self.journal).reads
          (view_of c.walk.new.journal).reads
          (view_of c.commit.new.self).reads c.in-Ok.ensures.reads c.in_default.ensures.reads,
    )

pub returns-clause-needs : goal.returns-clause-needs
returns-clause-needs g c = λ root strings pages opened state.
    let self = c.args.self.now in
    let taken = c.args.taken in
    let plan = c.in_ok-plan.plan in
    let settled = opened.rests.0.1 in
    let is_home : c.pages-home.result ≡ length pages + 1 = c.pages-home.ensures.pages ∙ sym opened.rests.1 in
    let is : IsPlan self.kept taken.root c.in_ok-plan.ensures.parts c.in-Ok.free.pages.items (length pages + 1) plan =
    subst (λ (n : ℕ). IsPlan self.kept taken.root c.in_ok-plan.ensures.parts c.in-Ok.free.pages.items n plan) is_home
    (subst (λ (l : List ℕ). IsPlan c.args.self.now.kept c.args.taken.root c.in_ok-plan.ensures.parts l c.pages-home.result
    c.in_ok-plan.plan) c.deref.ensures.value c.in_ok-plan.ensures.is) in
    let free : HasPages (page_in pages) (length pages + 1) FREE (kept_first self.kept FREE) c.in-Ok.free.pages.items =
    subst (λ (n : ℕ). HasPages (page_in pages) (length pages + 1) FREE n c.in-Ok.free.pages.items) c.first.ensures.first
    (c.in-Ok.ensures.answers pages opened.rests).0 in
    let may = c.requires.may in
    let enough : plan.home ≡ needed (home_count self.journal) taken.root.buckets (changed strings taken.written) =
    subst (λ (n : ℕ). plan.home ≡ needed n taken.root.buckets (changed strings taken.written)) opened.rests.1
    (renewed_needed pages self.kept taken.root taken.written taken.read taken.before c.in_ok-plan.ensures.parts c.in-Ok.free.pages.items
    plan
    root strings state opened.keeps opened.known opened.marked (pages_long pages opened.rests.0.0 (view_of self.journal) settled)
    may.stored may.gone may.few may.count c.in_ok-plan.ensures.gathered free is) in (
      c.in_default.ensures.pages ∙ enough,
      subst (λ (n : ℕ). n ≤ page_limit self.journal) enough
          (omega (arith, c.in_default.ensures.answers.1, c.walk.ensures.looks.looked.limit)),
    )

pub returns-in-Err-commit-clause-needs : goal.returns-in-Err-commit-clause-needs
returns-in-Err-commit-clause-needs g c = λ root strings pages opened state.
    let self = c.args.self.now in
    let taken = c.args.taken in
    let plan = c.in_ok-plan.plan in
    let settled = opened.rests.0.1 in
    let is_home : c.pages-home.result ≡ length pages + 1 = c.pages-home.ensures.pages ∙ sym opened.rests.1 in
    let is : IsPlan self.kept taken.root c.in_ok-plan.ensures.parts c.in-Ok.free.pages.items (length pages + 1) plan =
    subst (λ (n : ℕ). IsPlan self.kept taken.root c.in_ok-plan.ensures.parts c.in-Ok.free.pages.items n plan) is_home
    (subst (λ (l : List ℕ). IsPlan c.args.self.now.kept c.args.taken.root c.in_ok-plan.ensures.parts l c.pages-home.result
    c.in_ok-plan.plan) c.deref.ensures.value c.in_ok-plan.ensures.is) in
    let free : HasPages (page_in pages) (length pages + 1) FREE (kept_first self.kept FREE) c.in-Ok.free.pages.items =
    subst (λ (n : ℕ). HasPages (page_in pages) (length pages + 1) FREE n c.in-Ok.free.pages.items) c.first.ensures.first
    (c.in-Ok.ensures.answers pages opened.rests).0 in
    let may = c.requires.may in
    let enough : plan.home ≡ needed (home_count self.journal) taken.root.buckets (changed strings taken.written) =
    subst (λ (n : ℕ). plan.home ≡ needed n taken.root.buckets (changed strings taken.written)) opened.rests.1
    (renewed_needed pages self.kept taken.root taken.written taken.read taken.before c.in_ok-plan.ensures.parts c.in-Ok.free.pages.items
    plan
    root strings state opened.keeps opened.known opened.marked (pages_long pages opened.rests.0.0 (view_of self.journal) settled)
    may.stored may.gone may.few may.count c.in_ok-plan.ensures.gathered free is) in
    fits_refused c.in-Err-commit.fault (is_broken c.walk.new.journal) (page_limit c.walk.new.journal) (page_limit self.journal) plan.home
    (home_count c.commit.new.self) (needed (home_count self.journal) taken.root.buckets (changed strings taken.written))
    c.in-Err-commit.ensures.answers c.walk.ensures.looks.looked.limit enough

pub returns-in-Err-clause-any_moment : goal.returns-in-Err-clause-any_moment
returns-in-Err-clause-any_moment g c = λ root strings pages opened state.
    let self = c.args.self.now in
    let taken = c.args.taken in
    idle pages opened.rests.0.0 (view_of self.journal) (view_of c.walk.new.journal) root strings
    (HasState taken.root (changed strings taken.written))
    opened.rests.0.1 c.walk.ensures.looks.looked.stays state

pub returns-in-Err-clause-commits : goal.returns-in-Err-clause-commits
returns-in-Err-clause-commits g c = record {
  alone = search rules;
  opens = λ err fine pages opened.
      let self = c.args.self.now in
      open_looked pages self.journal c.walk.new.journal self.kept self.read self.texts self.written self.before opened
      c.walk.ensures.looks.looked;
  looked = search rules;
  kept = search rules;
  same_disk = search rules;
  limit = search rules;
  broken = search rules;
  cause = search rules;
}

pub returns-in_err-plan-clause-any_moment : goal.returns-in_err-plan-clause-any_moment
returns-in_err-plan-clause-any_moment g c = λ root strings pages opened state.
    let self = c.args.self.now in
    let taken = c.args.taken in
    idle pages opened.rests.0.0 (view_of self.journal) (view_of c.walk.new.journal) root strings
    (HasState taken.root (changed strings taken.written))
    opened.rests.0.1 c.walk.ensures.looks.looked.stays state

pub returns-in_err-plan-clause-commits : goal.returns-in_err-plan-clause-commits
returns-in_err-plan-clause-commits g c = record {
  alone = search rules;
  opens = λ err fine pages opened.
      let self = c.args.self.now in
      open_looked pages self.journal c.walk.new.journal self.kept self.read self.texts self.written self.before opened
      c.walk.ensures.looks.looked;
  looked = search rules;
  kept = search rules;
  same_disk = search rules;
  limit = search rules;
  broken = search rules;
  cause = search rules;
}
