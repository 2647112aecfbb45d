use Rattle.std.proofs.Common.{◌≡◌, ◌+◌, ◌-◌, [], length, sym, ap, ◌∙◌, arith}
use Rattle.cla_grouping.specs.Grouping.{with_column, groups_to}
use Rattle.cla_stats.specs.Coded.{tuples_of_each}
use Rattle.cla_cocode.proofs.Taken.{each-next, each-count, one_more}
use Rattle.cla_cocode.proofs.layouts.add_columns.Goals as goal

pub add_column-requires-clause-within : goal.add_column-requires-clause-within
add_column-requires-clause-within g c =
    let column = c.loop-tuples.column in
    let next = sym c.in-Some.ensures.steps.0 ∙ c.loop-tuples.invariant.left in
    let parts = each-next c.args.m.now column (c.args.past - column) c.in-Some.tuples _ next in
    omega (arith, parts.0, c.requires.within)

pub add_column-requires-clause-single : goal.add_column-requires-clause-single
add_column-requires-clause-single g c =
    let column = c.loop-tuples.column in
    let next = sym c.in-Some.ensures.steps.0 ∙ c.loop-tuples.invariant.left in
    let parts = each-next c.args.m.now column (c.args.past - column) c.in-Some.tuples _ next in
    c.in_ok-alone.ensures.counted c.args.m.now parts.1

pub overflow_add-column : goal.overflow_add-column
overflow_add-column g c =
    let column = c.loop-tuples.column in
    let next = sym c.in-Some.ensures.steps.0 ∙ c.loop-tuples.invariant.left in
    let parts = each-next c.args.m.now column (c.args.past - column) c.in-Some.tuples _ next in
    omega (arith, parts.0, c.ranges.past.fits)

pub loop-tuples-preserved : goal.loop-tuples-preserved
loop-tuples-preserved g c =
    let m = c.args.m.now in
    let column = c.loop-tuples.column in
    let next = sym c.in-Some.ensures.steps.0 ∙ c.loop-tuples.invariant.left in
    let parts = each-next m column (c.args.past - column) c.in-Some.tuples _ next in
    let less : c.args.past - column - 1 ≡ c.args.past - (column + 1) = omega arith in
    let is = c.loop-tuples.invariant in
    record {
      left = parts.2 ∙ ap (tuples_of_each m (column + 1)) less;
      from = omega (arith, is.from);
      to = omega (arith, parts.0);
      counted = c.in_ok-add_column.ensures.counted;
      columns = c.in_ok-add_column.ensures.columns ∙ ap (λ gs. with_column m gs column) is.columns
          ∙ one_more (with_column m) column [];
      few = omega (arith, c.in_ok-add_column.ensures.few, is.few, is.from);
    }

pub returns-clause-columns : goal.returns-clause-columns
returns-clause-columns g c =
    let m = c.args.m.now in
    let column = c.loop-tuples.column in
    let is = c.loop-tuples.invariant in
    let count = ap length is.left ∙ each-count m column (c.args.past - column) in
    let all : column ≡ c.args.past = omega (arith, c.in-None.ensures.steps.0, count, is.to) in
    is.columns ∙ ap (groups_to m) all
