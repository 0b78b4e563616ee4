-- Steps of a sound store, put together of calls on its buckets.
use Rattle.std.proofs.Common.{◌≡◌, ◌⊎◌, ◌&&◌, ◌==◌, inl, inr, ℕ, Bool, true, false, List, [], Option, Some, None, refl, sym, subst}
use Rattle.std.proofs.Common.{◌∙◌, arith}
use Rattle.std.proofs.lemmas.Bool.Decides.{nat_tests}
use Rattle.outside.specs.declared.disk.Disk.{Ghosts}
use Rattle.osm_base.specs.declared.bounds.limits.LimitNumbers.{LimitNumbers}
use Rattle.page_journal.proofs.Moments.{goes_then, goes_weaker}
use Rattle.chain_store.specs.declared.root.Root.{Root}
use Rattle.bucket_store.specs.Image.{HasImage, Image, OnlyLooks, RestsAt, with_text}
use Rattle.bucket_store.specs.declared.buckets.Buckets.{Buckets}
use Rattle.bucket_store.proofs.Holding.{looks_then, rests_later}
use Rattle.bucket_store.proofs.Images.{maps_with_text, root_with_text, texts_beside, texts_here}
use Rattle.bucket_store.proofs.Reopened.{moments_looked}
use Rattle.due_tiles.specs.Spelling.{set_bytes}
use Rattle.tile_cover.specs.Runs.{IsTileSet}
use Rattle.update_flow.specs.Refusals.{MayAnswer, Refuses}
use Rattle.update_flow.specs.Roots.{is_blank}
use Rattle.update_flow.specs.Sound.{IsSound, IsSoundImport, MeansSound}
use Rattle.update_flow.specs.SoundTurns.{MayFollow, TurnsSound}
use Rattle.update_flow.specs.State.{Holding, State, Step, cleared}
use Rattle.update_flow.specs.Turning.{CommitsTo, view_in}
use Rattle.update_flow.specs.declared.fault.FlowFault.{FlowFault}
use Rattle.update_flow.specs.declared.fields.TheConstants.{DUE_TEXT, STYLE_TEXT}
use Rattle.update_flow.proofs.MapsKept.{kept_same}
use Rattle.update_flow.proofs.SoundCarried.{any_state}
use Rattle.update_flow.proofs.Turning.{answered}

image_sound : (state : State) (image : Image) (left : List ℕ) → MeansSound state image → HasImage image left → IsSound left
image_sound state image left is has = record { image = image; has = has; is = any_state state image is }

-- a store that was only made has no buckets
two_last : (a b c : Bool) → (a && (b && c)) ≡ true → c ≡ true
two_last true true c is = is
two_last true false c is = absurd (cc (is))
two_last false b c is = absurd (cc (is))

no_count : (n : ℕ) → (n == 0) ≡ true → n ≡ 0
no_count n is = grind (arith, nat_tests, is)

pub blank_count : (root : Root) → is_blank root ≡ true → root.buckets ≡ 0
blank_count root is = no_count root.buckets (two_last (root.format == 1) (root.state == 0) (root.buckets == 0) is)

module _ {D : Type 0} {g : Ghosts D} (limits : LimitNumbers) (state : State) (step : Step) (rest : Image) (is : MeansSound state rest) where
  -- a step that is refused before its commit was never begun
  pub sound_refused : (fault : FlowFault) (old new : Buckets D g) → RestsAt rest old → OnlyLooks old new
      → MayAnswer limits state step (Some fault) → TurnsSound limits state step (Some fault) old new
  sound_refused fault old new rests looks may = record {
    answer = may;
    done = λ is. absurd (cc (is));
    refused = λ not no. record { image = rest; at_rest = rests_later rest old new looks rests; is = is };
    moments = goes_weaker (λ left. HasImage rest left) IsSound (view_in old).crashes (view_in new).crashes
        (moments_looked rest old new rests looks) (λ left has. image_sound state rest left is has);
  }

  -- all is committed, or nothing
  pub sound_committed : (fault : Option FlowFault) (now : Image) (next : State) (old last new : Buckets D g) → RestsAt rest old
      → OnlyLooks old last → MeansSound next now → MayFollow state step next → Refuses limits state step None
      → CommitsTo limits rest now fault last new → TurnsSound limits state step fault old new
  sound_committed fault now next old last new rests looks becomes follows may commit = record {
    answer = answered limits fault (fault ≡ None) (Refuses limits state step fault)
        (λ none. subst (λ (f : Option FlowFault). Refuses limits state step f) (sym none) may) commit.answer;
    done = λ none. (next, follows, record { image = now; at_rest = commit.done none; is = becomes });
    refused = λ not no. record {
      image = rest;
      at_rest = rests_later rest old new (looks_then old last new looks (commit.refused not no)) rests;
      is = is;
    };
    moments = goes_then IsSound (view_in old).crashes (view_in last).crashes (view_in new).crashes
        (goes_weaker (λ left. HasImage rest left) IsSound (view_in old).crashes (view_in last).crashes
        (moments_looked rest old last rests looks) (λ left has. image_sound state rest left is has))
        (goes_weaker (λ left. HasImage rest left ⊎ HasImage now left) IsSound (view_in last).crashes
        (view_in new).crashes commit.moments (λ left either. elim either [
          | inl one ↦ image_sound state rest left is one
          | inr other ↦ image_sound next now left becomes other
        ]));
  }

no_runs : IsTileSet []
no_runs = record { each = tt; apart = tt }

-- no tile is due
pub cleared_sound : (held : Holding) (image : Image) → IsSoundImport held image
    → IsSoundImport (cleared held) (with_text DUE_TEXT (set_bytes []) image)
cleared_sound held image is = record {
  root = root_with_text DUE_TEXT (set_bytes []) image ∙ is.root;
  counted = is.counted;
  some = is.some;
  power = is.power;
  few = is.few;
  style_text = texts_beside DUE_TEXT (set_bytes []) image STYLE_TEXT (omega arith) ∙ is.style_text;
  style = is.style;
  due = record {
    runs = [];
    is = no_runs;
    bytes_are = texts_here DUE_TEXT (set_bytes []) image DUE_TEXT refl;
    tiles = λ zoom x y. refl;
  };
  others = λ n below not_style not_due. texts_beside DUE_TEXT (set_bytes []) image n not_due ∙ is.others n below not_style not_due;
  ids = is.ids;
  maps = record {
    maps = is.maps.maps;
    kept = kept_same held.style.tables image.maps (with_text DUE_TEXT (set_bytes []) image).maps is.maps.maps
        (λ m. maps_with_text DUE_TEXT (set_bytes []) image m) is.maps.kept;
    own = is.maps.own;
    on = is.maps.on;
    rows = is.maps.rows;
  };
}
