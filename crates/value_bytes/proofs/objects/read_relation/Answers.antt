use Rattle.osm_base.specs.declared.values.key.Kind.TheVariants as kinds
use Rattle.value_bytes.specs.Objects.{object_bytes, IsStored}
use Rattle.value_bytes.proofs.ObjectLaws.{relation_parts, AreRelationParts, relation_of, relations_made, relation_stored}
use Rattle.value_bytes.proofs.objects.read_relation.Goals as goal
use Rattle.value_bytes.proofs.Fronts.{needs_more}
use Rattle.value_bytes.proofs.Made.{whole_made, none_made}

pub returns-in-Err-clause-refused : goal.returns-in-Err-clause-refused
returns-in-Err-clause-refused c =
    needs_more c.in-Err.fault (none_made relation_parts AreRelationParts object_bytes
    (IsStored kinds.Relation) relation_of relations_made c.args.bytes.now)
    c.in-Err.ensures.refused

pub returns-clause-object : goal.returns-clause-object
returns-clause-object c =
    whole_made relation_parts AreRelationParts object_bytes
    (IsStored kinds.Relation) relation_of relations_made c.args.bytes.now c.in-Ok.found
    c.in-Ok.ensures.value (relation_stored c.in-Ok.found.0 c.in-Ok.found.1 c.in-Ok.ensures.value.is.0 c.in-Ok.ensures.value.is.1)
