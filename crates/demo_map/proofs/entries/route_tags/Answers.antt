use Rattle.std.proofs.Common.{◌≡◌, true, false}
use Rattle.std.specs.Prelude.{T}
use Rattle.std.specs.Cmp.Lexicographic.{slice_cmp}
use Rattle.std.specs.FinMap.{is_sorted}
use Rattle.std.specs.Ordering.{nat_cmp}
use Rattle.std.specs.Str.{chars}
use Rattle.demo_map.proofs.RouteTags.{rising_pairs}
use Rattle.demo_map.proofs.entries.route_tags.Goals as goal

pub unreachable-requires : goal.unreachable-requires
unreachable-requires c =
    let sorted : T (is_sorted (slice_cmp nat_cmp) c.push-2.new.self) =
    rw (c.in_ok-push-2.ensures.ok, c.in_ok-push.ensures.ok, c.in_ok-tags.ensures.empty) (rising_pairs (chars c.as_str.result.now)) in
    let clash : false ≡ true = c.in-None.ensures.rising.1 sorted in absurd cc

pub returns : goal.returns
returns c = record {
  tags = rw (
    c.in-Some.ensures.tags,
    c.in_ok-push-2.ensures.ok,
    c.in_ok-push.ensures.ok,
    c.in_ok-tags.ensures.empty,
    c.as_str.ensures.value,
    c.in_ok-reference.ensures.ok,
  );
}
