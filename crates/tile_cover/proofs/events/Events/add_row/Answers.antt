use Rattle.std.proofs.Common.{refl}
use Rattle.tile_cover.specs.Span.{segment_of}
use Rattle.tile_cover.proofs.Gained.{gained, gained_none}
use Rattle.tile_cover.proofs.events.Events.add_row.Goals as goal

pub returns-in_ok-push : goal.returns-in_ok-push
returns-in_ok-push c =
    let told = rw (c.columns-columns.ensures.power, c.sides-south.ensures.south, c.sides-south.ensures.north) at c.in-Some.ensures.told in
    record {
      ok = record {
        table = refl;
        gains = rw c.in_ok-push.ensures.items (gained c.args.self.now.bounds.now c.args.row
            (segment_of c.args.climb) c.args.self.now.list.items c.in-Some.span told);
      };
    }

pub returns-in_default : goal.returns-in_default
returns-in_default c =
    let told = rw (c.columns-columns.ensures.power, c.sides-south.ensures.south, c.sides-south.ensures.north) at
    c.in_default.ensures.told in
    record {
      ok = record {
        table = refl;
        gains = gained_none c.args.self.now.bounds.now c.args.row (segment_of c.args.climb) c.args.self.now.list.items told;
      };
    }
