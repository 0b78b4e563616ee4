-- A change that the maps of a store have, committed with what it leaves beside them.
use Rattle.std.proofs.Common.{◌≡◌, ◌≤◌, ◌+◌, ◌||◌, ◌∙◌, ℕ, Bool, List, Option, Some, Ok, ap, arith, refl, sym, subst}
use Rattle.outside.specs.declared.disk.Disk.{Ghosts}
use Rattle.osm_base.specs.declared.bounds.limits.LimitNumbers.{LimitNumbers}
use Rattle.osm_base.specs.declared.values.object.Entry.{Entry}
use Rattle.osm_base.specs.declared.values.row.RowChange.{RowChange}
use Rattle.osm_base.specs.map.Objects.{folded_all}
use Rattle.style_read.specs.Style.{StyleOf}
use Rattle.dep_closure.specs.PendingSet.{IsPendingOf}
use Rattle.tile_cover.specs.Runs.{IsTileSet, has}
use Rattle.tile_cover.specs.Table.{BoundsOf}
use Rattle.tile_cover.specs.declared.runs.Run.{Run}
use Rattle.bucket_store.specs.Image.{Has, Image, OnlyLooks}
use Rattle.bucket_store.specs.declared.buckets.Buckets.{Buckets}
use Rattle.bucket_store.proofs.Holding.{looks_then, rests_under}
use Rattle.store_maps.specs.Maps.{Maps}
use Rattle.store_maps.specs.Stands.{Stands}
use Rattle.update_step.specs.Changing.{Changes}
use Rattle.update_flow.specs.maps.Calls.{IsAllowed}
use Rattle.update_flow.specs.maps.Held.{Beside, HasMaps}
use Rattle.update_flow.specs.Due.{both, due_between}
use Rattle.update_flow.specs.Ids.{AreIdEntries}
use Rattle.update_flow.specs.Settling.{committed_due}
use Rattle.update_flow.specs.Stands.{IsImported}
use Rattle.update_flow.specs.State.{Append, Holding, imported}
use Rattle.update_flow.specs.Turning.{CommitsWith, EndsIn, TurnsIn, limit_in}
use Rattle.update_flow.specs.declared.fault.FlowFault.{FlowFault}
use Rattle.update_flow.specs.declared.fault.TheConstants.{LAST_CHANGE}
use Rattle.update_flow.proofs.Changed.{append_becomes}
use Rattle.update_flow.proofs.Turning.{ends_then, turns_committed}

-- what is beside the maps of a store at rest
abbrev pub beside : Image → Beside
beside rest = record { rest = rest; root = rest.root; texts = rest.texts }

-- the maps of a store at rest stand for its objects
pub maps_stand : (held : Holding) (rest : Image) (is : IsImported held rest) (style : StyleOf) → held.style ≡ style
    → Stands style is.maps.maps held.objects
maps_stand held rest is style alike = subst (λ (s : StyleOf). Stands s is.maps.maps held.objects) alike is.maps.stand

module _ {D : Type 0} {g : Ghosts D} (held : Holding) (rest : Image) (is : IsImported held rest) (style : StyleOf)
    (alike : held.style ≡ style) where
  -- a transaction that has only looked has the maps of the store
  pub has_maps : (own : StyleOf) (mid : Buckets D g) → own ≡ style → Has rest rest mid → HasMaps own.tables (beside rest) is.maps.maps mid
  has_maps own mid same has =
      subst (λ (s : StyleOf). HasMaps s.tables (beside rest) is.maps.maps mid) (sym (same ∙ sym alike))
      (record { now = rest; has = has; root = refl; texts = λ n below. refl; kept = is.maps.kept })

  module _ (limits : LimitNumbers) (bounds : BoundsOf) (change : List Entry) (number : ℕ) (old mid last new : Buckets D g)
      (looked : OnlyLooks old mid) (later : OnlyLooks mid last) (due : List Run) (fault : Option FlowFault)
      (commits : CommitsWith (committed_due number due) fault last new) where
    -- all is committed, or nothing
    pub append_turns : (own : StyleOf) (before : List Run) (told : List RowChange) → own ≡ style → Has rest rest old
        → limit_in old ≡ limits.pages → held.changes + 1 ≡ number → number ≤ LAST_CHANGE
        → ((zoom x y : ℕ) → has before zoom x y ≡ held.due zoom x y) → IsTileSet due → AreIdEntries change
        → Changes (λ (maps : Maps). HasMaps own.tables (beside rest) maps last) IsAllowed style bounds limits.pending held.objects
        change (has before) (has due) (Ok told)
        → TurnsIn limits (imported held) (Append bounds change) fault old new
    append_turns own before told styled had same next counted dues set ids done =
        let after = done.stands.0 in
        let kept : HasMaps held.style.tables (beside rest) after last =
        subst (λ (s : StyleOf). HasMaps s.tables (beside rest) after last) (styled ∙ sym alike) done.stands.1 in
        let stands : Stands held.style after (folded_all held.objects change) =
        subst (λ (s : StyleOf). Stands s after (folded_all held.objects change)) (sym alike) done.stands.2 in
        let tiles : (zoom x y : ℕ) → has due zoom x y
        ≡ both held.due (due_between held.style bounds held.objects (folded_all held.objects change)) zoom x y = λ zoom x y.
        done.due zoom x y
        ∙ ap (λ (b : Bool). b || due_between style bounds held.objects (folded_all held.objects change) zoom x y) (dues zoom x y)
        ∙ ap (λ (s : StyleOf). held.due zoom x y || due_between s bounds held.objects (folded_all held.objects change) zoom x y)
        (sym alike) in
        let becomes = append_becomes held rest bounds change number due after last is kept stands set tiles next counted ids in
        let looks = looks_then old mid last looked later in
        turns_committed limits (imported held) (Append bounds change) fault rest _ old last new (rests_under rest rest old had) is looks
        becomes (
          (λ last. absurd (omega (arith, last, next, counted))),
          (λ set pending. done.few set (subst (λ (s : StyleOf). IsPendingOf s held.objects change set) alike pending)),
        )
        (commits.commits limits rest kept.now (looks.looked.limit ∙ same) kept.has)

-- whatever the store holds
pub append_ends : {D : Type 0} {g : Ghosts D} (bounds : BoundsOf) (change : List Entry) (number : ℕ) (old mid last new : Buckets D g)
    (due : List Run) (fault : Option FlowFault) → OnlyLooks old mid → OnlyLooks mid last → CommitsWith (committed_due number due) fault last new
    → EndsIn (Some (Append bounds change)) fault old new
append_ends bounds change number old mid last new due fault looked later commits =
    ends_then fault old last new (looks_then old mid last looked later) (commits.ends (Append bounds change))
