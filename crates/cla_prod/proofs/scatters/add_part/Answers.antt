use Rattle.std.proofs.Common.{sym, ◌∙◌, arith}
use Rattle.std.proofs.lemmas.List.{length-take-le}
use Rattle.cla_prod.proofs.scatters.add_part.Goals as goal

pub slice_bounds-products-end : goal.slice_bounds-products-end
slice_bounds-products-end g c = omega (arith, c.tuples.ensures, c.requires.scratch)

pub slice_bounds-products-end-2 : goal.slice_bounds-products-end-2
slice_bounds-products-end-2 g c = sym (length-take-le c.tuples.result c.args.scratch.now
    (omega (arith, c.tuples.ensures, c.requires.scratch)))

pub times_tuples-requires-clause-tuples : goal.times_tuples-requires-clause-tuples
times_tuples-requires-clause-tuples g c =
    length-take-le c.tuples.result c.args.scratch.now (omega (arith, c.tuples.ensures, c.requires.scratch))
    ∙ c.tuples.ensures

pub scatter-requires-clause-tuples : goal.scatter-requires-clause-tuples
scatter-requires-clause-tuples g c =
    c.times_tuples.auto.into ∙ length-take-le c.tuples.result c.args.scratch.now
    (omega (arith, c.tuples.ensures, c.requires.scratch)) ∙ c.tuples.ensures
