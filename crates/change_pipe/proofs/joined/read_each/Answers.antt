use Rattle.std.proofs.Common.{◌+◌, List, sym, subst, rules, arith}
use Rattle.change_pipe.specs.declared.parcel.Parcel.{Parcel as ParcelOf}
use Rattle.change_pipe.specs.Files.{AreRead, HasAll}
use Rattle.change_pipe.proofs.FileLaws.{HasRead, among_more, among_within, read_more, read_next, read_within, refused_last}
use Rattle.change_pipe.proofs.joined.read_each.Goals as goal

pub returns-in_err-push : goal.returns-in_err-push
returns-in_err-push g c =
    let laws = g.met.I.Inputs g.world.𝓛 g.world.𝓜 g.world.𝓡 ((λ s x. x), (λ x. x), (λ x. x), λ x. x) in
    record {
      files = record {
        parcels = search rules;
        all = search rules;
        read = among_within _ _ _ _ _ _ (omega (arith, c.loop-file-test.true))
            (among_more g.I.Inputs.view g.I.Inputs.reads laws.reads_then _ _ _ c.args.inputs.now c.loop-file.inputs
            c.read_parcel-parcel.new.inputs _ _ c.loop-file.invariant.so_far c.read_parcel-parcel.ensures.parcel
            c.read_parcel-parcel.ensures.read);
      };
    }

-- the last one is refused

pub returns-then-not-whole : goal.returns-then-not-whole
returns-then-not-whole g c =
    let laws = g.met.I.Inputs g.world.𝓛 g.world.𝓜 g.world.𝓡 ((λ s x. x), (λ x. x), (λ x. x), λ x. x) in
    let view = g.I.Inputs.view in
    record {
      files = record {
        parcels = subst (λ (list : List ParcelOf). AreRead c.args.limits.now c.args.files.first (c.args.files.first + c.args.files.count)
            (view c.args.inputs.now) (view c.read_parcel-parcel.new.inputs) list) (sym c.in_ok-push.ensures.items)
            (read_within _ _ _ _ _ _ _ (omega (arith, c.loop-file-test.true))
            (read_more view g.I.Inputs.reads laws.reads_then _ _ _ c.args.inputs.now c.loop-file.inputs c.read_parcel-parcel.new.inputs _ _
            c.loop-file.invariant.so_far c.read_parcel-parcel.ensures.parcel c.read_parcel-parcel.ensures.read));
        all = subst (λ (list : List ParcelOf). HasAll c.args.files.count list) (sym c.in_ok-push.ensures.items)
            (refused_last c.args.files.count c.loop-file.parcels.items c.read_parcel-parcel.result (λ whole. search (rules, whole)));
        read = among_within _ _ _ _ _ _ (omega (arith, c.loop-file-test.true))
            (among_more view g.I.Inputs.reads laws.reads_then _ _ _ c.args.inputs.now c.loop-file.inputs
            c.read_parcel-parcel.new.inputs _ _ c.loop-file.invariant.so_far c.read_parcel-parcel.ensures.parcel
            c.read_parcel-parcel.ensures.read);
      };
    }

-- none is

pub loop-file-preserved : goal.loop-file-preserved
loop-file-preserved g c =
    let laws = g.met.I.Inputs g.world.𝓛 g.world.𝓜 g.world.𝓡 ((λ s x. x), (λ x. x), (λ x. x), λ x. x) in
    let view = g.I.Inputs.view in
    record {
      within = omega (arith, c.loop-file-test.true);
      so_far = subst (λ (list : List ParcelOf). HasRead c.args.limits.now c.args.files.first (c.loop-file.file + 1)
          (λ asked. g.I.Inputs.reads c.args.inputs.now asked c.read_parcel-parcel.new.inputs) (view c.args.inputs.now)
          (view c.read_parcel-parcel.new.inputs) list) (sym c.in_ok-push.ensures.items)
          (read_next view g.I.Inputs.reads laws.reads_then _ _ _ c.args.inputs.now c.loop-file.inputs c.read_parcel-parcel.new.inputs _ _
          c.loop-file.invariant.so_far c.read_parcel-parcel.ensures.parcel c.read_parcel-parcel.ensures.read (search rules));
    }
