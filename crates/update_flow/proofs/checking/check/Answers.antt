-- A store that was opened is judged whole.
use Rattle.std.proofs.Common.{◌≡◌, ◌⊎◌, inl, inr, false, List, Option, Result, Ok, ℕ, refl, sym, subst, ⊎_elim}
use Rattle.std.specs.Prelude.{IfOk, IfSome, IsErrOf}
use Rattle.std.specs.Result.{result_err}
use Rattle.outside.specs.Bytes.{IsTold}
use Rattle.outside.specs.Disk.{Tells}
use Rattle.page_journal.specs.declared.fault.StoreFault.TheVariants as store
use Rattle.update_flow.specs.AtRest.{IsAt, Opens, OpensAs}
use Rattle.update_flow.specs.Judged.{IsReadOf}
use Rattle.update_flow.specs.Opening.{FoundIn, HoldsState, OpensAny}
use Rattle.update_flow.specs.Sound.{IsSound}
use Rattle.update_flow.specs.State.{State}
use Rattle.update_flow.specs.declared.fault.FlowFault.{FlowFault}
use Rattle.update_flow.specs.declared.fault.FlowFault.TheVariants as flow
use Rattle.update_flow.specs.declared.opened.Opened.{Opened}
use Rattle.update_flow.proofs.Checks.{alone_of, any_still, bad_told, err_again, fault_found, found_told, some_found, sound_told, whole_sound}
use Rattle.update_flow.proofs.Openings.{at_state, bad_none, opens_as, opens_either, state_here}
use Rattle.update_flow.proofs.checking.check.Goals as goal

pub returns-clause-sound : goal.returns-clause-sound
returns-clause-sound g c =
    let old = g.D.Disk.view c.args.disk.now in
    let mid = g.D.Disk.view c.open.new.disk in
    let fresh : c.in-Some.opened.outdated ≡ false = cc (c.if-outdated.false) in
    subst (λ (r : Result (Option Opened) FlowFault). IfOk r (λ found. IfSome found (λ opened. opened.outdated ≡ false
    → (bytes : List ℕ) → Tells old bytes → IsSound bytes))) (sym c.some_of.ensures)
    (sound_told c.survey_whole.result (λ bytes. Tells old bytes) (λ bytes told.
    let read = some_found c.in-Ok.found c.in-Some.opened (λ opened. (bytes : List ℕ) → Tells old bytes → IsReadOf bytes opened mid)
    c.in-Some.is c.in-Ok.ensures.fits bytes told in (
      read.fits.pages,
      c.in-Some.opened.store.kept,
      read.home,
      c.survey_whole.ensures.exact read.fits read.count read.fields fresh,
    )))

pub returns-clause-bad : goal.returns-clause-bad
returns-clause-bad g c = λ page is bytes told.
    let old = g.D.Disk.view c.args.disk.now in
    let mid = g.D.Disk.view c.open.new.disk in
    let fresh : c.in-Some.opened.outdated ≡ false = cc (c.if-outdated.false) in
    let read = some_found c.in-Ok.found c.in-Some.opened (λ opened. (bytes : List ℕ) → Tells old bytes → IsReadOf bytes opened mid)
    c.in-Some.is c.in-Ok.ensures.fits bytes told in
    bad_told c.survey_whole.result page bytes read.fits.pages c.in-Some.opened.store.kept
    (err_again c.survey_whole.result (flow.Store (store.BadStore page))
    (subst (λ (r : Result (Option Opened) FlowFault). IsErrOf r (flow.Store (store.BadStore page))) c.some_of.ensures is))
    read.home read.fits.keeps
    (c.survey_whole.ensures.exact read.fits read.count read.fields fresh)

pub returns-clause-reads : goal.returns-clause-reads
returns-clause-reads g c = λ bytes state told stands.
    let old = g.D.Disk.view c.args.disk.now in
    let mid = g.D.Disk.view c.open.new.disk in
    let new = g.D.Disk.view c.survey_whole.new.disk in
    let fresh : c.in-Some.opened.outdated ≡ false = cc (c.if-outdated.false) in
    let read = some_found c.in-Ok.found c.in-Some.opened (λ opened. (bytes : List ℕ) → Tells old bytes → IsReadOf bytes opened mid)
    c.in-Some.is c.in-Ok.ensures.fits bytes told in
    let at = (c.in-Ok.ensures.reads bytes state told stands).found refl in
    subst (λ (f : Option FlowFault). OpensAs state f new) (fault_found c.some_of.result c.survey_whole.result c.some_of.ensures)
    (opens_as state mid new (result_err c.survey_whole.result) (state_here state mid at) c.survey_whole.ensures.stays
    (whole_sound state c.in-Some.opened mid read.fits (result_err c.survey_whole.result) at
    (subst (λ (o : Option Opened). FoundIn state mid o) c.in-Some.is (c.in-Ok.ensures.found (bytes, told) state at)) fresh
    (c.survey_whole.ensures.exact read.fits read.count read.fields fresh) (alone_of c.survey_whole.result c.survey_whole.ensures.alone)))

pub returns-clause-opens : goal.returns-clause-opens
returns-clause-opens g c = λ one other either.
    let old = g.D.Disk.view c.args.disk.now in
    let mid = g.D.Disk.view c.open.new.disk in
    let new = g.D.Disk.view c.survey_whole.new.disk in
    let fault = result_err c.survey_whole.result in
    let fresh : c.in-Some.opened.outdated ≡ false = cc (c.if-outdated.false) in
    let read = some_found c.in-Ok.found c.in-Some.opened (λ opened. (bytes : List ℕ) → Tells old bytes → IsReadOf bytes opened mid)
    c.in-Some.is c.in-Ok.ensures.fits either.told.0 either.told.1 in
    let own = c.in-Ok.ensures.opens one other either in
    let holds : HoldsState one mid ⊎ HoldsState other mid =
    ⊎_elim (λ at. inl (state_here one mid at)) (λ at. inr (state_here other mid at)) (own.found refl) in
    subst (λ (f : Option FlowFault). Opens one other f old new) (fault_found c.some_of.result c.survey_whole.result c.some_of.ensures)
    (opens_either one other old mid new fault holds c.survey_whole.ensures.stays (λ state has.
    let at = at_state state mid has in
    whole_sound state c.in-Some.opened mid read.fits fault at
    (subst (λ (o : Option Opened). FoundIn state mid o) c.in-Some.is (c.in-Ok.ensures.found either.told state at)) fresh
    (c.survey_whole.ensures.exact read.fits read.count read.fields fresh) (alone_of c.survey_whole.result c.survey_whole.ensures.alone))
    own.moments)

pub returns-clause-found : goal.returns-clause-found
returns-clause-found g c =
    let old = g.D.Disk.view c.args.disk.now in
    let mid = g.D.Disk.view c.open.new.disk in
    let new = g.D.Disk.view c.survey_whole.new.disk in
    subst (λ (r : Result (Option Opened) FlowFault). IfOk r (λ found. IsTold old.content → (state : State) → IsAt state new
    → FoundIn state new found)) (sym c.some_of.ensures)
    (found_told c.survey_whole.result c.in-Some.opened old mid new
    (λ told. (some_found c.in-Ok.found c.in-Some.opened (λ opened. (bytes : List ℕ) → Tells old bytes → IsReadOf bytes opened mid)
    c.in-Some.is c.in-Ok.ensures.fits told.0 told.1).fits)
    c.survey_whole.ensures.stays
    (λ told state at. subst (λ (o : Option Opened). FoundIn state mid o) c.in-Some.is (c.in-Ok.ensures.found told state at))
    c.survey_whole.ensures.same c.survey_whole.ensures.fits)

pub returns-clause-any : goal.returns-clause-any
returns-clause-any g c =
    let old = g.D.Disk.view c.args.disk.now in
    let mid = g.D.Disk.view c.open.new.disk in
    let new = g.D.Disk.view c.survey_whole.new.disk in
    let fresh : c.in-Some.opened.outdated ≡ false = cc (c.if-outdated.false) in
    subst (λ (r : Result (Option Opened) FlowFault). OpensAny old new r) (sym c.some_of.ensures)
    (any_still c.survey_whole.result c.in-Some.opened old mid new
    (subst (λ (o : Option Opened). OpensAny old mid (Ok o)) c.in-Some.is c.in-Ok.ensures.any) c.survey_whole.ensures.stays
    c.survey_whole.ensures.alone c.survey_whole.ensures.cause c.survey_whole.ensures.same (λ page is bytes told state stands.
    let read = some_found c.in-Ok.found c.in-Some.opened (λ opened. (bytes : List ℕ) → Tells old bytes → IsReadOf bytes opened mid)
    c.in-Some.is c.in-Ok.ensures.fits bytes told in
    let at = (c.in-Ok.ensures.reads bytes state told stands).found refl in
    bad_none Opened c.survey_whole.result page is
    (whole_sound state c.in-Some.opened mid read.fits (result_err c.survey_whole.result) at
    (subst (λ (o : Option Opened). FoundIn state mid o) c.in-Some.is (c.in-Ok.ensures.found (bytes, told) state at)) fresh
    (c.survey_whole.ensures.exact read.fits read.count read.fields fresh) (alone_of c.survey_whole.result c.survey_whole.ensures.alone))))

-- an old store is only opened
pub returns-then-outdated-clause-sound : goal.returns-then-outdated-clause-sound
returns-then-outdated-clause-sound g c = λ fresh bytes told. absurd (cc (fresh, c.if-outdated.true))

pub returns-then-outdated-clause-bad : goal.returns-then-outdated-clause-bad
returns-then-outdated-clause-bad g c = λ page is bytes told. absurd (cc (is))

pub returns-then-outdated-clause-found : goal.returns-then-outdated-clause-found
returns-then-outdated-clause-found g c = λ told state at.
    subst (λ (o : Option Opened). FoundIn state (g.D.Disk.view c.open.new.disk) o) c.in-Some.is (c.in-Ok.ensures.found told state at)

pub returns-then-outdated-clause-any : goal.returns-then-outdated-clause-any
returns-then-outdated-clause-any g c =
    subst (λ (o : Option Opened). OpensAny (g.D.Disk.view c.args.disk.now) (g.D.Disk.view c.open.new.disk) (Ok o)) c.in-Some.is
    c.in-Ok.ensures.any

-- and so is that of a follower
pub returns-in_default-clause-found : goal.returns-in_default-clause-found
returns-in_default-clause-found g c = λ told state at.
    subst (λ (o : Option Opened). FoundIn state (g.D.Disk.view c.open.new.disk) o) c.in_default.is (c.in-Ok.ensures.found told state at)

pub returns-in_default-clause-any : goal.returns-in_default-clause-any
returns-in_default-clause-any g c =
    subst (λ (o : Option Opened). OpensAny (g.D.Disk.view c.args.disk.now) (g.D.Disk.view c.open.new.disk) (Ok o)) c.in_default.is
    c.in-Ok.ensures.any
