use Rattle.std.proofs.Common.{sym, subst}
use Rattle.std.specs.List.{AllByRecursion}
use Rattle.osm_base.specs.values.Key.{IsId}
use Rattle.osm_base.specs.declared.values.key.Kind.TheVariants as kinds
use Rattle.value_bytes.specs.Objects.{object_bytes, IsStored}
use Rattle.value_bytes.proofs.ObjectLaws.{way_parts, AreWayParts, way_of, ways_made, way_stored, way_ids}
use Rattle.value_bytes.proofs.objects.read_way.Goals as goal
use Rattle.value_bytes.proofs.Fronts.{needs_more}
use Rattle.value_bytes.proofs.Made.{whole_made, none_made, unmade}

pub returns-in-Err-clause-refused : goal.returns-in-Err-clause-refused
returns-in-Err-clause-refused c =
    needs_more c.in-Err.fault (none_made way_parts AreWayParts object_bytes (IsStored kinds.Way) way_of ways_made c.args.bytes.now)
    c.in-Err.ensures.refused

pub returns-then-not-are_ids-clause-refused : goal.returns-then-not-are_ids-clause-refused
returns-then-not-are_ids-clause-refused c =
    unmade way_parts AreWayParts object_bytes (IsStored kinds.Way) way_of ways_made c.args.bytes.now c.in-Ok.found c.in-Ok.ensures.value
    (λ stored. absurd (cc (
      c.are_ids.ensures.ids.1 (subst (λ l. AllByRecursion IsId l) (sym c.as_slice.ensures.items)
          (way_ids c.in-Ok.found.0 c.in-Ok.found.1 stored)),
      c.if-not-are_ids.true,
    )))

pub returns-clause-object : goal.returns-clause-object
returns-clause-object c =
    whole_made way_parts AreWayParts object_bytes (IsStored kinds.Way) way_of ways_made c.args.bytes.now c.in-Ok.found c.in-Ok.ensures.value
    (way_stored c.in-Ok.found.0 c.in-Ok.found.1 c.in-Ok.ensures.value.is.0 c.in-Ok.ensures.value.is.1
    (subst (λ l. AllByRecursion IsId l) c.as_slice.ensures.items (c.are_ids.ensures.ids.0 c.if-not-are_ids.false)))
