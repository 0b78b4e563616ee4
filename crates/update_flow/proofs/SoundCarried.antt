-- Steps and looks at a sound store, from the buckets to the disk under them, and to the open store.
use Rattle.std.proofs.Common.{◌≡◌, ◌≢◌, ◌⊎◌, ◌+◌, ℕ, true, false, Option, Some, None, List, refl, sym, ap, subst, ◌∙◌, inl, inr}
use Rattle.std.specs.Prelude.{is_some}
use Rattle.std.proofs.lemmas.Option.{same_Some}
use Rattle.outside.specs.Disk.{Goes, Tells}
use Rattle.outside.specs.declared.disk.Disk.{Ghosts}
use Rattle.osm_base.specs.declared.bounds.limits.LimitNumbers.{LimitNumbers}
use Rattle.osm_base.specs.declared.values.object.Entry.{Entry}
use Rattle.style_read.specs.Style.{StyleOf}
use Rattle.tile_cover.specs.Table.{BoundsOf}
use Rattle.page_journal.specs.Journal.{disk_of as disk_under}
use Rattle.page_journal.proofs.Moments.{started}
use Rattle.chain_store.specs.Chains.{journal_of}
use Rattle.bucket_store.specs.Image.{HasImage, Image, OnlyLooks, RestsAt}
use Rattle.bucket_store.specs.Transaction.{chains_of}
use Rattle.bucket_store.specs.declared.buckets.Buckets.{Buckets}
use Rattle.bucket_store.specs.declared.resting.Resting.{Resting}
use Rattle.bucket_store.proofs.Holding.{rests_later}
use Rattle.bucket_store.proofs.Reopened.{holds_under}
use Rattle.update_flow.specs.Handle.{Handle, IsOpen, Shows, TellsAs, changes_of, is_follower, is_imported, is_old, is_whole, limits_of, style_of, view_of}
use Rattle.update_flow.specs.Opening.{HoldsState}
use Rattle.update_flow.specs.Refusals.{MayAnswer, MayLook}
use Rattle.update_flow.specs.Sound.{IsSound, IsSoundImport, MeansSound}
use Rattle.update_flow.specs.SoundTurns.{IsKeptSound, IsOpenSound, LooksSound, LooksSoundOn, MayFollow, RestsSound, TakesSound, TurnsSound}
use Rattle.update_flow.specs.SoundTurns.{TurnsSoundOn}
use Rattle.update_flow.specs.Stands.{IsBlank}
use Rattle.update_flow.specs.State.{Append, Clear, Holding, Import, State, Step, following, formatted, fresh, imported, outdated}
use Rattle.update_flow.specs.Turning.{EndsIn, view_in}
use Rattle.update_flow.specs.Updater.{KeptFits}
use Rattle.update_flow.specs.Within.{is_whole_store}
use Rattle.update_flow.specs.declared.fault.FlowFault.{FlowFault}
use Rattle.update_flow.specs.declared.fault.FlowFault.TheVariants as flow
use Rattle.update_flow.specs.declared.fault.TheConstants.{LAST_CHANGE}
use Rattle.update_flow.proofs.Carrying.{IsBackOf, no_fault, whole_kept}
use Rattle.update_flow.proofs.Openings.{state_here}
use Rattle.update_flow.proofs.SoundStanding.{import_sound, own_of}

module _ {D : Type 0} {g : Ghosts D} where
  kept_sound : (state : State) (buckets : Buckets D g) (kept : Option Resting) → IsBackOf buckets kept → is_whole_store buckets
      → RestsSound state buckets → IsKeptSound state (view_in buckets) kept
  kept_sound state buckets None back whole rests = absurd (cc (whole_kept buckets None back whole))
  kept_sound state buckets (Some opened) back whole rests = record {
    holds = record { image = rests.image; holds = holds_under rests.image buckets rests.at_rest; is = rests.is };
    fits = (opened, refl, back.1 rests.image rests.at_rest);
  }

  module _ {call : Option Step} (fault : Option FlowFault) (old new : Buckets D g) (kept : Option Resting) (back : IsBackOf new kept)
      (ends : EndsIn call fault old new) where
    sound_here : (limits : LimitNumbers) (state : State) (step : Step) → TurnsSound limits state step fault old new
        → TurnsSoundOn limits state step fault (view_in old) (view_in new) kept
    sound_here limits state step turns = record {
      answer = turns.answer;
      done = λ is.
          let done = turns.done is in
          (done.0, done.1, kept_sound done.0 new kept back (ends.whole (no_fault fault is)) done.2);
      refused = λ not no. kept_sound state new kept back (ends.whole no) (turns.refused not no);
      moments = turns.moments;
    }

    -- so on the disk, whatever it is called
    pub sound_on : (limits : LimitNumbers) (state : State) (step : Step) → TurnsSound limits state step fault old new → (one other : D)
        → disk_under (journal_of (chains_of old)) ≡ one → disk_under (journal_of (chains_of new)) ≡ other
        → TurnsSoundOn limits state step fault (g.view one) (g.view other) kept
    sound_on limits state step turns one other first last =
        subst (λ (d : D). TurnsSoundOn limits state step fault (g.view one) (g.view d) kept) last
        (subst (λ (d : D). TurnsSoundOn limits state step fault (g.view d) (view_in new) kept) first (sound_here limits state step turns))

    -- a look leaves what was there
    pub looked_on : (state : State) (rest : Image) → RestsAt rest old → MeansSound state rest → OnlyLooks old new → MayLook state fault
        → (other : D) → disk_under (journal_of (chains_of new)) ≡ other → LooksSoundOn state fault (g.view other) kept
    looked_on state rest rests is looks may other last =
        subst (λ (d : D). LooksSoundOn state fault (g.view d) kept) last (record {
          answer = may;
          stays = λ no. kept_sound state new kept back (ends.whole no)
              (record { image = rest; at_rest = rests_later rest old new looks rests; is = is });
        })

-- what was done on the disk was done to the store
module _ (old new : Handle) (kept : Option Resting) (whole : is_some kept ≡ is_whole new)
    (keeps : KeptFits kept (view_of new) → new.keeps) where
  open_sound : (state : State) → IsKeptSound state (view_of new) kept → Shows state new → IsOpenSound state new
  open_sound state is shows = record {
    holds = is.holds;
    whole = sym whole ∙ ap (λ (o : Option Resting). is_some o) is.fits.1;
    shows = shows;
    fits = keeps is.fits;
  }

  step_sound : (state : State) (step : Step) (fault : Option FlowFault)
      → TurnsSoundOn (limits_of old) state step fault (view_of old) (view_of new) kept
      → (fault ≡ None → (next : State) → MayFollow state step next → Shows next new) → (fault ≢ None → Shows state new)
      → TakesSound state step fault old new
  step_sound state step fault turns done refused = record {
    answer = turns.answer;
    done = λ none.
        let own = turns.done none in
        (own.0, own.1, open_sound own.0 own.2 (done none own.0 own.1));
    refused = λ some no. open_sound state (turns.refused some no) (refused some);
    moments = turns.moments;
  }

  still_shown : (state : State) → TellsAs old new → Shows state old → Shows state new
  still_shown state tells shows = record {
    changes_are = tells.changes_same ∙ shows.changes_are;
    imported_is = tells.imported_same ∙ shows.imported_is;
    old_is = tells.old_same ∙ shows.old_is;
    style_is = tells.style_same ∙ shows.style_is;
    follower_is = tells.follower_same ∙ shows.follower_is;
  }

  module _ (fault : Option FlowFault) where
    -- a change
    pub append_sound : is_imported old ≡ true → is_old new ≡ is_old old → style_of new ≡ style_of old → is_follower new ≡ is_follower old
        → (fault ≡ None → changes_of new ≡ changes_of old + 1) → (fault ≢ None → changes_of new ≡ changes_of old)
        → (bounds : BoundsOf) (change : List Entry) → ((held : Holding) → IsOpenSound (imported held) old
        → TurnsSoundOn (limits_of old) (imported held) (Append bounds change) fault (view_of old) (view_of new) kept)
        → (state : State) → IsOpenSound state old → TakesSound state (Append bounds change) fault old new
    append_sound begun stays style own one_more as_many bounds change turns formatted opened = absurd (cc (begun, opened.shows.imported_is))
    append_sound begun stays style own one_more as_many bounds change turns (outdated held) opened = absurd opened.holds.is
    append_sound begun stays style own one_more as_many bounds change turns (following held) opened = absurd opened.holds.is
    append_sound begun stays style own one_more as_many bounds change turns (imported held) opened =
        let shows = opened.shows in
        step_sound (imported held) (Append bounds change) fault (turns held opened)
        (λ none next follows. subst (λ (s : State). Shows s new) (sym follows.1) (record {
          changes_are = one_more none ∙ ap (λ (n : ℕ). n + 1) shows.changes_are;
          imported_is = ap (λ (o : Option StyleOf). is_some o) style ∙ shows.imported_is;
          old_is = stays ∙ shows.old_is;
          style_is = style ∙ shows.style_is;
          follower_is = own ∙ shows.follower_is;
        }))
        (λ some. record {
          changes_are = as_many some ∙ shows.changes_are;
          imported_is = ap (λ (o : Option StyleOf). is_some o) style ∙ shows.imported_is;
          old_is = stays ∙ shows.old_is;
          style_is = style ∙ shows.style_is;
          follower_is = own ∙ shows.follower_is;
        })

    -- no tile is due any more
    pub clear_sound : TellsAs old new → is_imported old ≡ true → ((held : Holding) → IsOpenSound (imported held) old
        → TurnsSoundOn (limits_of old) (imported held) Clear fault (view_of old) (view_of new) kept)
        → (state : State) → IsOpenSound state old → TakesSound state Clear fault old new
    clear_sound tells begun turns formatted opened = absurd (cc (begun, opened.shows.imported_is))
    clear_sound tells begun turns (outdated held) opened = absurd opened.holds.is
    clear_sound tells begun turns (following held) opened = absurd opened.holds.is
    clear_sound tells begun turns (imported held) opened =
        let shows = still_shown (imported held) tells opened.shows in
        step_sound (imported held) Clear fault (turns held opened)
        (λ none next follows. subst (λ (s : State). Shows s new) (sym follows) (record {
          changes_are = shows.changes_are;
          imported_is = shows.imported_is;
          old_is = shows.old_is;
          style_is = shows.style_is;
          follower_is = shows.follower_is;
        }))
        (λ some. shows)

    -- the first import
    pub begin_sound : (style : StyleOf) (bytes : List ℕ) (buckets : ℕ) (entries : List Entry) → is_imported old ≡ false
        → (IsOpenSound formatted old
        → TurnsSoundOn (limits_of old) formatted (Import style bytes buckets entries) fault (view_of old) (view_of new) kept)
        → (fault ≡ None → Shows (imported (fresh style bytes buckets entries)) new) → (fault ≢ None → TellsAs old new)
        → (state : State) → IsOpenSound state old → TakesSound state (Import style bytes buckets entries) fault old new
    begin_sound style bytes buckets entries is turns done tells (imported held) opened = absurd (cc (is, opened.shows.imported_is))
    begin_sound style bytes buckets entries is turns done tells (outdated held) opened = absurd opened.holds.is
    begin_sound style bytes buckets entries is turns done tells (following held) opened = absurd opened.holds.is
    begin_sound style bytes buckets entries is turns done tells formatted opened =
        step_sound formatted (Import style bytes buckets entries) fault (turns opened)
        (λ none next follows.
        let shows = done none in
        subst (λ (s : State). Shows s new) (sym follows.1) (record {
          changes_are = shows.changes_are;
          imported_is = shows.imported_is;
          old_is = shows.old_is;
          style_is = shows.style_is;
          follower_is = shows.follower_is;
        }))
        (λ some. still_shown formatted (tells some) opened.shows)

    -- a look
    pub look_sound : TellsAs old new → is_imported old ≡ true
        → ((held : Holding) → IsOpenSound (imported held) old → LooksSoundOn (imported held) fault (view_of new) kept)
        → (state : State) → IsOpenSound state old → LooksSound state fault new
    look_sound tells begun looks formatted opened = absurd (cc (begun, opened.shows.imported_is))
    look_sound tells begun looks (outdated held) opened = absurd opened.holds.is
    look_sound tells begun looks (following held) opened = absurd opened.holds.is
    look_sound tells begun looks (imported held) opened =
        let own = looks held opened in
        record {
          answer = own.answer;
          stays = λ no. open_sound (imported held) (own.stays no) (still_shown (imported held) tells opened.shows);
        }

-- what is sound in a state is sound
pub any_state : (state : State) (image : Image) → MeansSound state image → IsBlank image ⊎ ((held : Holding) × IsSoundImport held image)
any_state formatted image is = inl is
any_state (imported held) image is = inr (held, is)
any_state (outdated held) image is = absurd is
any_state (following held) image is = absurd is

-- What is refused before the store is asked.

module _ (handle : Handle) (state : State) (opened : IsOpenSound state handle) where
  sound_now : Goes IsSound (view_of handle).crashes (view_of handle).crashes
  sound_now = started IsSound (view_of handle).crashes (λ left is. record {
    image = opened.holds.image;
    has = subst (λ bytes. HasImage opened.holds.image bytes) (sym (opened.holds.holds.only left is)) opened.holds.holds.has;
    is = any_state state opened.holds.image opened.holds.is;
  })

  sound_none : (step : Step) (fault : FlowFault) → MayAnswer (limits_of handle) state step (Some fault)
      → TakesSound state step (Some fault) handle handle
  sound_none step fault may = record {
    answer = may;
    done = λ is. absurd (cc (is));
    refused = λ not no. opened;
    moments = sound_now;
  }

pub sound_broken : (state : State) (handle : Handle) → IsOpenSound state handle → is_whole handle ≡ false → ⊥
sound_broken state handle opened is = absurd (cc (is, opened.whole))

pub sound_old : (state : State) (handle : Handle) → IsOpenSound state handle → is_old handle ≡ true → ⊥
sound_old formatted handle opened is = absurd (cc (is, opened.shows.old_is))
sound_old (imported held) handle opened is = absurd (cc (is, opened.shows.old_is))
sound_old (outdated held) handle opened is = absurd opened.holds.is
sound_old (following held) handle opened is = absurd opened.holds.is

pub append_unasked : (handle : Handle) (bounds : BoundsOf) (change : List Entry) (state : State) → is_imported handle ≡ false
    → IsOpenSound state handle → TakesSound state (Append bounds change) (Some flow.NotImported) handle handle
append_unasked handle bounds change formatted is opened = sound_none handle formatted opened (Append bounds change) flow.NotImported refl
append_unasked handle bounds change (imported held) is opened = absurd (cc (is, opened.shows.imported_is))
append_unasked handle bounds change (outdated held) is opened = absurd opened.holds.is
append_unasked handle bounds change (following held) is opened = absurd opened.holds.is

pub append_last : (handle : Handle) (bounds : BoundsOf) (change : List Entry) (state : State) → is_imported handle ≡ true
    → changes_of handle ≡ LAST_CHANGE
    → IsOpenSound state handle → TakesSound state (Append bounds change) (Some flow.LastChange) handle handle
append_last handle bounds change formatted begun is opened = absurd (cc (begun, opened.shows.imported_is))
append_last handle bounds change (imported held) begun is opened =
    sound_none handle (imported held) opened (Append bounds change) flow.LastChange (sym opened.shows.changes_are ∙ is)
append_last handle bounds change (outdated held) begun is opened = absurd opened.holds.is
append_last handle bounds change (following held) begun is opened = absurd opened.holds.is

pub clear_unbegun : (handle : Handle) (state : State) → is_imported handle ≡ false → IsOpenSound state handle
    → TakesSound state Clear (Some flow.NotImported) handle handle
clear_unbegun handle formatted is opened = sound_none handle formatted opened Clear flow.NotImported refl
clear_unbegun handle (imported held) is opened = absurd (cc (is, opened.shows.imported_is))
clear_unbegun handle (outdated held) is opened = absurd opened.holds.is
clear_unbegun handle (following held) is opened = absurd opened.holds.is

pub import_again : (handle : Handle) (style : StyleOf) (bytes : List ℕ) (buckets : ℕ) (entries : List Entry) (state : State)
    → is_imported handle ≡ true → IsOpenSound state handle
    → TakesSound state (Import style bytes buckets entries) (Some flow.AlreadyImported) handle handle
import_again handle style bytes buckets entries formatted is opened = absurd (cc (is, opened.shows.imported_is))
import_again handle style bytes buckets entries (imported held) is opened =
    sound_none handle (imported held) opened (Import style bytes buckets entries) flow.AlreadyImported refl
import_again handle style bytes buckets entries (outdated held) is opened = absurd opened.holds.is
import_again handle style bytes buckets entries (following held) is opened = absurd opened.holds.is

pub look_unbegun : (handle : Handle) (state : State) → is_imported handle ≡ false → IsOpenSound state handle
    → LooksSound state (Some flow.NotImported) handle
look_unbegun handle formatted is opened = record { answer = refl; stays = λ no. opened }
look_unbegun handle (imported held) is opened = absurd (cc (is, opened.shows.imported_is))
look_unbegun handle (outdated held) is opened = absurd opened.holds.is
look_unbegun handle (following held) is opened = absurd opened.holds.is

-- What is open is sound.

pub standing_open : (held : Holding) (store : Handle) → IsOpen (imported held) store → (own : Holding) × IsOpenSound (imported own) store
standing_open held store opened =
    let here : HoldsState (imported held) (view_of store) = state_here (imported held) (view_of store) opened.at_rest in
    let shows = opened.shows in (
      own_of held here.image here.means,
      record {
        holds = record { image = here.image; holds = here.holds; is = import_sound here.image held here.means };
        whole = opened.sound;
        shows = record {
          changes_are = shows.changes_are;
          imported_is = shows.imported_is;
          old_is = shows.old_is;
          style_is = shows.style_is;
          follower_is = shows.follower_is;
        };
        fits = opened.fits;
      },
    )

pub sound_told : (state : State) (store : Handle) (bytes : List ℕ) → IsOpenSound state store → Tells (view_of store) bytes → IsSound bytes
sound_told state store bytes opened tells =
    let image = opened.holds.image in
    let holds = opened.holds.holds in
    record {
      image = image;
      has = subst (λ bytes. HasImage image bytes) (same_Some holds.bytes bytes (sym holds.told ∙ tells)) holds.has;
      is = any_state state image opened.holds.is;
    }
