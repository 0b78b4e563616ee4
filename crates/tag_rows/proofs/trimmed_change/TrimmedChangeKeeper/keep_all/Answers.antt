use Rattle.std.proofs.Common.{◌≡◌, ◌<◌, ◌+◌, ◌∷◌, List, None, Some, length, drop, fold, get_or, slice_set, ap, sym, subst, ◌∙◌, arith}
use Rattle.osm_base.specs.declared.values.object.Entry.{Entry}
use Rattle.object_fold.specs.Change.{Follows, RiseFrom, last_key}
use Rattle.tag_rows.specs.TrimmedChange.{TrimmedEntries, trimmed_entry, with_entry}
use Rattle.tag_rows.proofs.RestLaws.{rise_behind, follows_behind, last_key-more, next_and_rest}
use Rattle.tag_rows.proofs.trimmed_change.TrimmedChangeKeeper.keep_all.Goals as goal

pub loop-entry-init : goal.loop-entry-init
loop-entry-init c =
    let same = c.deref_mut-entry-items.ensures.value in
    let here = last_key None c.args.self.now.entries in
    let all = c.args.entries.items in
    record {
      kept = ap (fold with_entry c.args.self.now) same;
      rise = subst (RiseFrom here) (sym same) (rise_behind c.args.last here all c.requires.takes c.requires.rise);
      takes = λ next follows. subst (λ (entries : List Entry). Follows (last_key here entries) next) (sym same)
          (follows_behind c.args.last here all c.requires.takes next follows);
    }

pub loop-entry-preserved : goal.loop-entry-preserved
loop-entry-preserved c =
    let items = c.loop-entry.entry-items in
    let place = c.loop-entry.entry-index in
    let entry = get_or items place c.entry-item.result in
    let own = c.loop-entry.self in
    let before = last_key None own.entries in
    let rest = drop (place + 1) (slice_set items place c.keep_from.new.entry) in
    let within : place < length items = omega arith in
    let front : drop place items ≡ entry ∷ rest = next_and_rest items place c.keep_from.new.entry c.entry-item.result within in
    let last : last_key None c.keep_from.new.self.entries ≡ Some entry.key =
    ap (λ (now : TrimmedEntries). last_key None now.entries) c.in_ok-keep_from.ensures.ok
    ∙ last_key-more None own.entries (trimmed_entry own.key entry) in
    record {
      kept =
          ap (λ (now : TrimmedEntries). fold with_entry now rest) c.in_ok-keep_from.ensures.ok
          ∙ ap (fold with_entry own) (sym front) ∙ c.loop-entry.invariant.kept;
      rise = subst (λ key. RiseFrom key rest) (sym last) (subst (RiseFrom before) front c.loop-entry.invariant.rise).2;
      takes = λ next follows. subst (λ key. Follows (last_key key rest) next) (sym last)
          (subst (λ (left : List Entry). Follows (last_key before left) next) front (c.loop-entry.invariant.takes next follows));
    }
