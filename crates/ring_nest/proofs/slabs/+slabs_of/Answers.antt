use Rattle.std.proofs.Common.{◌∙◌, inl, inr, nat_lt, arith}
use Rattle.std.proofs.lemmas.Bool.{cases_lt}
use Rattle.ring_nest.specs.Slabs.{count_in}
use Rattle.ring_nest.proofs.Halved.{all_across, nothing_more, north_counts, south_counts, thin_counts}
use Rattle.ring_nest.proofs.slabs.+slabs_of.Goals as goal

pub band_row-row-requires : goal.band_row-row-requires
band_row-row-requires t c = record {
  edges = rw (c.in_ok-across.ensures.edges, c.deref.ensures.value) (all_across c.args.band.low c.args.band.high c.args.edges.items);
}

pub returns-then-high-low-lt2-clause-counts : goal.returns-then-high-low-lt2-clause-counts
returns-then-high-low-lt2-clause-counts t c north east from to =
    let whole = rw c.deref.ensures.value at c.in_ok-across.ensures.edges in
    rw (c.in_ok-new.ensures.ok, c.new.ensures.items, c.in_ok-new-2.ensures.ok, c.new-then-high-low-lt2-2.ensures.items) (nothing_more (nat_lt north c.args.band.high) _
    ∙ thin_counts c.args.band.low c.args.band.high north east c.args.edges.items c.band_row-row.result.edges.items c.in_ok-across.field-0.items
    (omega (arith, c.if-high-low-lt2.true)) from to (c.band_row-row.ensures.count north east) whole)

pub slabs_of-requires : goal.slabs_of-requires
slabs_of-requires t c =
    let within = c.in_ok-middle.ensures.within in omega (arith, within)

pub slabs_of-requires-2 : goal.slabs_of-requires-2
slabs_of-requires-2 t c =
    let within = c.in_ok-middle.ensures.within in omega (arith, within)

pub returns-clause-counts : goal.returns-clause-counts
returns-clause-counts t c north east from to =
    let low = c.args.band.low in
    let middle = c.in_ok-middle.middle in
    let high = c.args.band.high in
    let edges = c.args.edges.items in
    let whole = rw c.deref.ensures.value at c.in_ok-across.ensures.edges in
    let half = rw c.deref-3.ensures.value at c.in_ok-south.ensures.edges in
    let upper = rw c.deref-4.ensures.value at c.in_ok-north.ensures.edges in
    rw (c.in_ok-new-3.ensures.ok, c.in_ok-new-4.ensures.ok) (elim (cases_lt north middle) [
      | inl below ↦ south_counts low middle high north east edges c.band_row-row.result.edges.items c.in_ok-across.field-0.items c.in_ok-south.south.items
          (count_in c.in_ok-south-2.south north east) (count_in c.in_ok-north-2.north north east) from below (c.band_row-row.ensures.count north east) whole half
          (c.in_ok-south-2.ensures.counts north east from below)
      | inr above ↦ north_counts low middle high north east edges c.band_row-row.result.edges.items c.in_ok-across.field-0.items c.in_ok-north.north.items
          (count_in c.in_ok-south-2.south north east) (count_in c.in_ok-north-2.north north east) above to (c.band_row-row.ensures.count north east) whole upper
          (c.in_ok-north-2.ensures.counts north east above to)
    ])
