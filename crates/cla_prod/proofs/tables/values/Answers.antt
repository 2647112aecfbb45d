use Rattle.std.proofs.Common.{arith}
use Rattle.cla_layout.proofs.PartValues.{values_few}
use Rattle.cla_coded.specs.Tables.{layout_of}
use Rattle.cla_prod.proofs.Dense.{value_step}
use Rattle.cla_prod.proofs.tables.values.Goals as goal

pub overflow_mul-count : goal.overflow_mul-count
overflow_mul-count g c =
    let step = value_step g.N.Number.BITS g.G.Group.columns g.G.Group.codes g.G.Group.dictionary c.args.m.now
    c.parts-part-items.result.now
    c.loop-part.part-index c.part-item.result c.loop-part.count c.tuples.result c.width.result g.met.G.Group.laws
    c.parts-part-items.ensures.whole
    c.parts-part-items.ensures.parts c.loop-part-test.true c.part-item.is c.loop-part.invariant c.tuples.ensures
    c.width.ensures in
    omega (arith, step.1)

pub overflow_add-count : goal.overflow_add-count
overflow_add-count g c =
    let step = value_step g.N.Number.BITS g.G.Group.columns g.G.Group.codes g.G.Group.dictionary c.args.m.now
    c.parts-part-items.result.now
    c.loop-part.part-index c.part-item.result c.loop-part.count c.tuples.result c.width.result g.met.G.Group.laws
    c.parts-part-items.ensures.whole
    c.parts-part-items.ensures.parts c.loop-part-test.true c.part-item.is c.loop-part.invariant c.tuples.ensures
    c.width.ensures in
    omega (arith, step.1)

pub loop-part-preserved : goal.loop-part-preserved
loop-part-preserved g c =
    let step = value_step g.N.Number.BITS g.G.Group.columns g.G.Group.codes g.G.Group.dictionary c.args.m.now
    c.parts-part-items.result.now
    c.loop-part.part-index c.part-item.result c.loop-part.count c.tuples.result c.width.result g.met.G.Group.laws
    c.parts-part-items.ensures.whole
    c.parts-part-items.ensures.parts c.loop-part-test.true c.part-item.is c.loop-part.invariant c.tuples.ensures
    c.width.ensures in
    step.0

pub returns-clause-few : goal.returns-clause-few
returns-clause-few g c =
    let whole = c.parts-part-items.ensures.whole in
    let few = values_few g.N.Number.BITS (layout_of g.G.Group.codes g.G.Group.dictionary c.args.m.now)
    c.loop-part.part-index whole in
    omega (arith, c.loop-part.invariant, few, whole.few)
