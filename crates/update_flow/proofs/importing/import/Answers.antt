-- The maps are filled, and all is committed with the style.
use Rattle.std.proofs.Common.{◌≡◌, ◌∙◌, nat_eq, List, Some, ap, refl, sym, subst}
use Rattle.osm_base.specs.declared.values.object.Entry.{Entry}
use Rattle.update_flow.specs.Ids.{AreIdEntries}
use Rattle.store_maps.specs.Maps.{empty_maps}
use Rattle.style_read.specs.Style.{StyleOf}
use Rattle.chain_store.specs.declared.root.Root.{Root}
use Rattle.page_journal.specs.Journal.{is_broken}
use Rattle.bucket_store.specs.Image.{with_buckets, with_root}
use Rattle.bucket_store.proofs.Holding.{looks_then, rests_under}
use Rattle.bucket_store.proofs.Images.{maps_with_root, root_with_root, texts_with_root}
use Rattle.back_index.specs.Index.{is_spent}
use Rattle.update_flow.specs.maps.Calls.{buckets_of, style_in}
use Rattle.update_flow.specs.maps.Held.{Beside, HasMaps}
use Rattle.update_flow.specs.maps.Laws.{later_same, over_going, over_none, over_whole}
use Rattle.update_flow.proofs.MapsKept.{empty_kept}
use Rattle.update_flow.specs.Settling.{begun}
use Rattle.update_flow.specs.SoundTurns.{TurnsSound}
use Rattle.update_flow.specs.State.{Import, formatted, fresh, imported}
use Rattle.update_flow.specs.Turning.{EndsIn, TurnsIn}
use Rattle.update_flow.specs.declared.fault.FlowFault.{FlowFault}
use Rattle.update_flow.proofs.Steps.{none_spent, step_ends}
use Rattle.update_flow.proofs.Imports.{begun_becomes, power_counts, step_begins}
use Rattle.update_flow.proofs.Needs.{step_fits}
use Rattle.update_flow.proofs.SoundStanding.{import_sound, own_of}
use Rattle.update_flow.proofs.SoundSteps.{blank_count, sound_committed, sound_refused}
use Rattle.update_flow.proofs.Turning.{ends_then, turns_committed, turns_refused}
use Rattle.update_flow.proofs.importing.import.Goals as goal

-- the root says that there are buckets already
pub returns-then-root-ne0-clause-turns : goal.returns-then-root-ne0-clause-turns
returns-then-root-ne0-clause-turns g c limits rest same has blank =
    absurd (c.if-root-ne0.true (ap (λ (r : Root). r.buckets) (c.root.ensures ∙ has.root) ∙ blank_count rest.root blank.root))

pub import_maps-requires-clause-spent : goal.import_maps-requires-clause-spent
import_maps-requires-clause-spent g c lifetimes lives =
    over_none c.args.maps.now.indexed.stopped (is_spent c.set_buckets.new.self) c.requires.fresh
    (none_spent c.set_buckets.new.self c.set_buckets.ensures.fields.going
    (ap (λ j. is_broken j) c.set_buckets.ensures.fields.journal ∙ c.requires.ready.whole)
    (ap (λ (r : Root). nat_eq r.buckets 0) c.set_buckets.ensures.fields.root ∙ power_counts c.args.buckets c.requires.asked.power))

pub begin-requires : goal.begin-requires
begin-requires g c = record {
  ready = record {
    going = over_going c.import_maps.new.store c.in-Ok.ensures.goes.spent;
    whole =
        over_whole c.import_maps.new.store c.in-Ok.ensures.goes.spent;
  };
}

pub returns-in-Ok-clause-turns : goal.returns-in-Ok-clause-turns
returns-in-Ok-clause-turns g c limits rest same has blank =
    let old = buckets_of c.args.maps.now in
    let mid = c.set_buckets.new.self in
    let last = c.import_maps.new.store in
    let count = c.args.buckets in
    let later = c.import_maps.ensures.goes.looked _ (later_same _) in
    let numbered = with_root (with_buckets count rest.root) rest in
    let root = root_with_root (with_buckets count rest.root) rest in
    let texts = texts_with_root (with_buckets count rest.root) rest in
    let none : rest.root.buckets ≡ 0 = blank_count rest.root blank.root in
    let under : Beside = record { rest = rest; root = with_buckets count rest.root; texts = rest.texts } in
    let keeps : HasMaps (style_in c.args.maps.now).tables under empty_maps mid =
    record {
      now = numbered;
      has = c.set_buckets.ensures.has rest rest has;
      root = root;
      texts = λ n below. texts n;
      kept = empty_kept (style_in c.args.maps.now).tables numbered.maps
          (λ m below. maps_with_root (with_buckets count rest.root) rest m ∙ has.none none m below);
    } in
    let made = c.in-Ok.ensures.stands under keeps in
    let after = made.0 in
    let kept : HasMaps c.args.style.now.tables under after (buckets_of last) =
    subst (λ (s : StyleOf). HasMaps s.tables under after (buckets_of last)) (later.same_style ∙ c.requires.style) made.1 in
    let becomes = begun_becomes c.args.style.now c.args.style_bytes.now count c.args.change rest kept.now after blank.texts c.requires.asked.reads
    c.requires.asked.power
    c.requires.asked.few_buckets (ap (λ (r : Root). r.buckets) kept.root) kept.texts kept.kept made.2
    (subst (λ (l : List Entry). AreIdEntries l) c.entries.ensures.entries c.known_ids.ensures) in
    let looks = looks_then old mid (buckets_of last) c.set_buckets.ensures.fields.same later.looks in
    turns_committed limits formatted (Import c.args.style.now c.args.style_bytes.now count c.args.change) _ rest _ old
    (buckets_of last) c.begin.new.buckets
    (rests_under rest rest old has) blank looks becomes refl
    (c.begin.ensures.commits.commits limits rest kept.now (looks.looked.limit ∙ same) kept.has)

pub returns-in-Ok-clause-ends : goal.returns-in-Ok-clause-ends
returns-in-Ok-clause-ends g c =
    let later = c.import_maps.ensures.goes.looked _ (later_same _) in
    ends_then _ (buckets_of c.args.maps.now) (buckets_of c.import_maps.new.store) c.begin.new.buckets
    (looks_then (buckets_of c.args.maps.now) c.set_buckets.new.self
    (buckets_of c.import_maps.new.store) c.set_buckets.ensures.fields.same later.looks)
    (c.begin.ensures.commits.ends (Import c.args.style.now c.args.style_bytes.now c.args.buckets c.args.change))

pub returns-in-Err-clause-turns : goal.returns-in-Err-clause-turns
returns-in-Err-clause-turns g c limits rest same has blank =
    let old = buckets_of c.args.maps.now in
    let mid = c.set_buckets.new.self in
    let last = c.import_maps.new.store in
    let count = c.args.buckets in
    let step = Import c.args.style.now c.args.style_bytes.now count c.args.change in
    let later = c.import_maps.ensures.goes.looked _ (later_same _) in
    let numbered = with_root (with_buckets count rest.root) rest in
    let none : rest.root.buckets ≡ 0 = blank_count rest.root blank.root in
    let under : Beside = record { rest = rest; root = with_buckets count rest.root; texts = rest.texts } in
    let keeps : HasMaps (style_in c.args.maps.now).tables under empty_maps mid =
    record {
      now = numbered;
      has = c.set_buckets.ensures.has rest rest has;
      root = root_with_root (with_buckets count rest.root) rest;
      texts = λ n below. texts_with_root (with_buckets count rest.root) rest n;
      kept = empty_kept (style_in c.args.maps.now).tables numbered.maps
          (λ m below. maps_with_root (with_buckets count rest.root) rest m ∙ has.none none m below);
    } in
    subst (λ (f : FlowFault). TurnsIn limits formatted step (Some f) old (buckets_of last)) (sym c.step_fault.ensures)
    (turns_refused limits formatted step _ rest old (buckets_of last) (rests_under rest rest old has) blank
    (looks_then old mid (buckets_of last) c.set_buckets.ensures.fields.same later.looks)
    (step_begins limits step _ _ c.in-Err.why c.in-Err.ensures.goes.ends (c.in-Err.ensures.allowed under keeps))
    (step_fits limits _ c.in-Err.why (c.in-Err.ensures.allowed under keeps)))

pub returns-in-Err-clause-ends : goal.returns-in-Err-clause-ends
returns-in-Err-clause-ends g c =
    let old = buckets_of c.args.maps.now in
    let mid = c.set_buckets.new.self in
    let last = c.import_maps.new.store in
    let later = c.import_maps.ensures.goes.looked _ (later_same _) in
    let step = Import c.args.style.now c.args.style_bytes.now c.args.buckets c.args.change in
    subst (λ (f : FlowFault). EndsIn (Some step) (Some f) old (buckets_of last)) (sym c.step_fault.ensures)
    (ends_then _ old mid (buckets_of last) c.set_buckets.ensures.fields.same
    (step_ends mid (buckets_of last) later.looks _ _ _ c.in-Err.why c.in-Err.ensures.goes.ends
    (λ fault refused. (refused _ (later_same _)).1) (λ fresh. over_whole last fresh) (Some step) (λ value none. absurd none)))

-- a sound store into which nothing was imported

pub returns-then-root-ne0-clause-sound : goal.returns-then-root-ne0-clause-sound
returns-then-root-ne0-clause-sound g c limits rest same has blank =
    absurd (c.if-root-ne0.true (ap (λ (r : Root). r.buckets) (c.root.ensures ∙ has.root) ∙ blank_count rest.root blank.root))

pub returns-in-Ok-clause-sound : goal.returns-in-Ok-clause-sound
returns-in-Ok-clause-sound g c limits rest same has blank =
    let old = buckets_of c.args.maps.now in
    let mid = c.set_buckets.new.self in
    let last = c.import_maps.new.store in
    let count = c.args.buckets in
    let step = Import c.args.style.now c.args.style_bytes.now count c.args.change in
    let held = fresh c.args.style.now c.args.style_bytes.now count c.args.change in
    let later = c.import_maps.ensures.goes.looked _ (later_same _) in
    let numbered = with_root (with_buckets count rest.root) rest in
    let none : rest.root.buckets ≡ 0 = blank_count rest.root blank.root in
    let under : Beside = record { rest = rest; root = with_buckets count rest.root; texts = rest.texts } in
    let keeps : HasMaps (style_in c.args.maps.now).tables under empty_maps mid =
    record {
      now = numbered;
      has = c.set_buckets.ensures.has rest rest has;
      root = root_with_root (with_buckets count rest.root) rest;
      texts = λ n below. texts_with_root (with_buckets count rest.root) rest n;
      kept = empty_kept (style_in c.args.maps.now).tables numbered.maps
          (λ m below. maps_with_root (with_buckets count rest.root) rest m ∙ has.none none m below);
    } in
    let made = c.in-Ok.ensures.stands under keeps in
    let after = made.0 in
    let kept : HasMaps c.args.style.now.tables under after (buckets_of last) =
    subst (λ (s : StyleOf). HasMaps s.tables under after (buckets_of last)) (later.same_style ∙ c.requires.style) made.1 in
    let becomes = begun_becomes c.args.style.now c.args.style_bytes.now count c.args.change rest kept.now after blank.texts
    c.requires.asked.reads c.requires.asked.power
    c.requires.asked.few_buckets (ap (λ (r : Root). r.buckets) kept.root) kept.texts kept.kept made.2
    (subst (λ (l : List Entry). AreIdEntries l) c.entries.ensures.entries c.known_ids.ensures) in
    let now = begun c.args.style_bytes.now kept.now in
    let own = own_of held now becomes in
    let looks = looks_then old mid (buckets_of last) c.set_buckets.ensures.fields.same later.looks in
    sound_committed limits formatted step rest blank _ now (imported own) old (buckets_of last) c.begin.new.buckets
    (rests_under rest rest old has) looks (import_sound now held becomes) (own.objects, refl) refl
    (c.begin.ensures.commits.commits limits rest kept.now (looks.looked.limit ∙ same) kept.has)

pub returns-in-Err-clause-sound : goal.returns-in-Err-clause-sound
returns-in-Err-clause-sound g c limits rest same has blank =
    let old = buckets_of c.args.maps.now in
    let mid = c.set_buckets.new.self in
    let last = c.import_maps.new.store in
    let count = c.args.buckets in
    let step = Import c.args.style.now c.args.style_bytes.now count c.args.change in
    let later = c.import_maps.ensures.goes.looked _ (later_same _) in
    let numbered = with_root (with_buckets count rest.root) rest in
    let none : rest.root.buckets ≡ 0 = blank_count rest.root blank.root in
    let under : Beside = record { rest = rest; root = with_buckets count rest.root; texts = rest.texts } in
    let keeps : HasMaps (style_in c.args.maps.now).tables under empty_maps mid =
    record {
      now = numbered;
      has = c.set_buckets.ensures.has rest rest has;
      root = root_with_root (with_buckets count rest.root) rest;
      texts = λ n below. texts_with_root (with_buckets count rest.root) rest n;
      kept = empty_kept (style_in c.args.maps.now).tables numbered.maps
          (λ m below. maps_with_root (with_buckets count rest.root) rest m ∙ has.none none m below);
    } in
    subst (λ (f : FlowFault). TurnsSound limits formatted step (Some f) old (buckets_of last)) (sym c.step_fault.ensures)
    (sound_refused limits formatted step rest blank _ old (buckets_of last) (rests_under rest rest old has)
    (looks_then old mid (buckets_of last) c.set_buckets.ensures.fields.same later.looks)
    (step_begins limits step _ _ c.in-Err.why c.in-Err.ensures.goes.ends (c.in-Err.ensures.allowed under keeps)))
