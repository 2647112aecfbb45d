use Rattle.std.proofs.Common.{sym, ◌∙◌, arith}
use Rattle.cla_agg.proofs.Spread.{places_taken}
use Rattle.cla_agg.proofs.rows.add_group.Goals as goal

pub slice_bounds-sums-end : goal.slice_bounds-sums-end
slice_bounds-sums-end g c = omega (arith, c.tuples.ensures, c.requires.scratch)

pub slice_bounds-sums-end-2 : goal.slice_bounds-sums-end-2
slice_bounds-sums-end-2 g c =
    sym (places_taken c.args.scratch.now c.tuples.result _ c.tuples.ensures c.requires.scratch)

pub add_tuples-requires-clause-tuples : goal.add_tuples-requires-clause-tuples
add_tuples-requires-clause-tuples g c =
    places_taken c.args.scratch.now c.tuples.result _ c.tuples.ensures c.requires.scratch ∙ c.tuples.ensures

pub scatter-requires-clause-tuples : goal.scatter-requires-clause-tuples
scatter-requires-clause-tuples g c =
    c.add_tuples.auto.into ∙ places_taken c.args.scratch.now c.tuples.result _ c.tuples.ensures c.requires.scratch
    ∙ c.tuples.ensures
