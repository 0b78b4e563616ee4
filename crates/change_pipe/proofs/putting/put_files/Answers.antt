use Rattle.std.proofs.Common.{◌+◌, ap, sym, subst, rules, arith}
use Rattle.change_pipe.specs.Ends.{EndView}
use Rattle.change_pipe.specs.Files.{AreRead, HasAll}
use Rattle.change_pipe.proofs.FileLaws.{HasRead, among_more, among_within, read_more, read_next, read_unput, read_within, refused_last}
use Rattle.change_pipe.proofs.putting.put_files.Goals as goal

-- nothing more will be taken

pub returns-then-not-put_when_room-clause-parcels : goal.returns-then-not-put_when_room-clause-parcels
returns-then-not-put_when_room-clause-parcels g c =
    let laws = g.met.I.Inputs g.world.𝓛 g.world.𝓜 g.world.𝓡 ((λ s x. x), (λ x. x), (λ x. x), λ x. x) in
    let view = g.I.Inputs.view in
    subst (λ (own : EndView). AreRead c.args.limits.now c.args.files.first (c.args.files.first + c.args.files.count) (view c.args.inputs.now)
    (view c.read_parcel-parcel.new.inputs) own.list) (sym c.if-not-put_when_room.ensures.left)
    (read_within _ _ _ _ _ _ _ (omega (arith, c.loop-file-test.true))
    (read_unput view g.I.Inputs.reads laws.reads_then _ _ _ c.args.inputs.now c.loop-file.inputs c.read_parcel-parcel.new.inputs _ _
    c.loop-file.invariant.so_far c.read_parcel-parcel.ensures.parcel c.read_parcel-parcel.ensures.read))

pub returns-then-not-put_when_room-clause-read : goal.returns-then-not-put_when_room-clause-read
returns-then-not-put_when_room-clause-read g c =
    let laws = g.met.I.Inputs g.world.𝓛 g.world.𝓜 g.world.𝓡 ((λ s x. x), (λ x. x), (λ x. x), λ x. x) in
    among_within _ _ _ _ _ _ (omega (arith, c.loop-file-test.true))
    (among_more g.I.Inputs.view g.I.Inputs.reads laws.reads_then _ _ _ c.args.inputs.now c.loop-file.inputs
    c.read_parcel-parcel.new.inputs _ _ c.loop-file.invariant.so_far c.read_parcel-parcel.ensures.parcel c.read_parcel-parcel.ensures.read)

-- the parcel that was put is refused

pub returns-then-not-whole-clause-parcels : goal.returns-then-not-whole-clause-parcels
returns-then-not-whole-clause-parcels g c =
    let laws = g.met.I.Inputs g.world.𝓛 g.world.𝓜 g.world.𝓡 ((λ s x. x), (λ x. x), (λ x. x), λ x. x) in
    let view = g.I.Inputs.view in
    subst (λ (own : EndView). AreRead c.args.limits.now c.args.files.first (c.args.files.first + c.args.files.count) (view c.args.inputs.now)
    (view c.read_parcel-parcel.new.inputs) own.list) (sym c.if-not-put_when_room.ensures.put)
    (read_within _ _ _ _ _ _ _ (omega (arith, c.loop-file-test.true))
    (read_more view g.I.Inputs.reads laws.reads_then _ _ _ c.args.inputs.now c.loop-file.inputs c.read_parcel-parcel.new.inputs _ _
    c.loop-file.invariant.so_far c.read_parcel-parcel.ensures.parcel c.read_parcel-parcel.ensures.read))

pub returns-then-not-whole-clause-all : goal.returns-then-not-whole-clause-all
returns-then-not-whole-clause-all g c = subst (λ (own : EndView). HasAll c.args.files.count own.list) (sym c.if-not-put_when_room.ensures.put)
    (refused_last c.args.files.count c.loop-file.putter.list c.read_parcel-parcel.result (λ whole. search (rules, whole)))

pub returns-then-not-whole-clause-read : goal.returns-then-not-whole-clause-read
returns-then-not-whole-clause-read g c =
    let laws = g.met.I.Inputs g.world.𝓛 g.world.𝓜 g.world.𝓡 ((λ s x. x), (λ x. x), (λ x. x), λ x. x) in
    among_within _ _ _ _ _ _ (omega (arith, c.loop-file-test.true))
    (among_more g.I.Inputs.view g.I.Inputs.reads laws.reads_then _ _ _ c.args.inputs.now c.loop-file.inputs
    c.read_parcel-parcel.new.inputs _ _ c.loop-file.invariant.so_far c.read_parcel-parcel.ensures.parcel c.read_parcel-parcel.ensures.read)

-- it is not

pub loop-file-preserved : goal.loop-file-preserved
loop-file-preserved g c =
    let laws = g.met.I.Inputs g.world.𝓛 g.world.𝓜 g.world.𝓡 ((λ s x. x), (λ x. x), (λ x. x), λ x. x) in
    let view = g.I.Inputs.view in
    record {
      within = omega (arith, c.loop-file-test.true);
      ours = ap (λ (own : EndView). own.home) c.if-not-put_when_room.ensures.put;
      so_far = subst (λ (own : EndView). HasRead c.args.limits.now c.args.files.first (c.loop-file.file + 1)
          (λ asked. g.I.Inputs.reads c.args.inputs.now asked c.read_parcel-parcel.new.inputs) (view c.args.inputs.now)
          (view c.read_parcel-parcel.new.inputs) own.list) (sym c.if-not-put_when_room.ensures.put)
          (read_next view g.I.Inputs.reads laws.reads_then _ _ _ c.args.inputs.now c.loop-file.inputs c.read_parcel-parcel.new.inputs _ _
          c.loop-file.invariant.so_far c.read_parcel-parcel.ensures.parcel c.read_parcel-parcel.ensures.read (search rules));
    }
