use Rattle.std.proofs.Common.{None, Some, sym, ◌∙◌}
use Rattle.update_step.specs.Named.{key_named}
use Rattle.update_step.proofs.NewEntries.{get_made}
use Rattle.update_step.proofs.new_objects.object_at.Goals as goal

pub returns-in-Some : goal.returns-in-Some
returns-in-Some c =
    record {
      object = c.as_ref.ensures.value ∙ sym (get_made c.args.entries.now (key_named c.args.kind c.args.id) (Some c.in-Some.object.now)
          c.requires (sym c.in-Some.ensures.named));
    }

pub returns-in-None : goal.returns-in-None
returns-in-None c =
    record {
      object = sym (get_made c.args.entries.now (key_named c.args.kind c.args.id) None c.requires (sym c.in-None.ensures.named));
    }
