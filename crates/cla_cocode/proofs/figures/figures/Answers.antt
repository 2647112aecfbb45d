use Rattle.std.proofs.Common.{◌+◌, ◌*◌, ◌≤◌, length, sym, ap, ◌∙◌, subst, arith}
use Rattle.cla_spec.specs.Matrix.{most_cells}
use Rattle.cla_layout.specs.Listed.{rows_where}
use Rattle.cla_layout.proofs.Listings.{rows_where_few}
use Rattle.cla_grouping.specs.Sizes.{is_listed, begins_listed}
use Rattle.cla_cocode.proofs.FigureLemmas.{rows_more, figures-small}
use Rattle.cla_cocode.proofs.figures.figures.Goals as goal

pub overflow_add-listed_rows : goal.overflow_add-listed_rows
overflow_add-listed_rows c =
    let small = figures-small c.args.t.now c.codes-codes.ensures.are in
    let rows = ap length c.codes-codes.ensures.codes in
    omega (
      arith,
      c.loop-i.invariant.rows,
      rows_where_few (is_listed c.zero-zero.result c.codes-codes.result.now)
          c.loop-i.i,
      c.loop-i-test.true,
      rows,
      small.tall,
      c.listed_row-listed_rows.ensures.small,
    )

pub overflow_add-listed_runs : goal.overflow_add-listed_runs
overflow_add-listed_runs c =
    let small = figures-small c.args.t.now c.codes-codes.ensures.are in
    let rows = ap length c.codes-codes.ensures.codes in
    omega (
      arith,
      c.loop-i.invariant.runs,
      rows_where_few (begins_listed c.zero-zero.result c.codes-codes.result.now)
          c.loop-i.i,
      c.loop-i-test.true,
      rows,
      small.tall,
      c.listed_run-listed_runs.ensures.small,
    )

pub loop-i-preserved : goal.loop-i-preserved
loop-i-preserved c =
    let listed = is_listed c.zero-zero.result c.codes-codes.result.now in
    let begins = begins_listed c.zero-zero.result c.codes-codes.result.now in
    let i = c.loop-i.i in
    record {
      rows = ap (λ n. n + c.listed_row-listed_rows.result) c.loop-i.invariant.rows
          ∙ ap (λ n. length (rows_where listed i) + n) c.listed_row-listed_rows.ensures.value
          ∙ sym (rows_more listed i);
      runs = ap (λ n. n + c.listed_run-listed_runs.result) c.loop-i.invariant.runs
          ∙ ap (λ n. length (rows_where begins i) + n) c.listed_run-listed_runs.ensures.value
          ∙ sym (rows_more begins i);
    }

pub returns-clause-small : goal.returns-clause-small
returns-clause-small c =
    let t = c.args.t.now in
    let small = figures-small t c.codes-codes.ensures.are in
    let count = ap length c.codes-codes.ensures.codes in
    let listed = is_listed c.zero-zero.result c.codes-codes.result.now in
    let begins = begins_listed c.zero-zero.result c.codes-codes.result.now in
    record {
      wide = omega (arith, c.width.ensures, small.wide);
      tall = omega (arith, c.rows.ensures, small.tall);
      cells = subst (λ n. n * c.width.result ≤ most_cells) (sym c.rows.ensures)
          (subst (λ w. length t.codes * w ≤ most_cells) (sym c.width.ensures) small.cells);
      distinct = omega (arith, c.distinct.ensures, c.rows.ensures, small.distinct);
      listed = omega (arith, c.listed.ensures.small, c.distinct.ensures, c.distinct-2.ensures);
      listed_rows = omega (
        arith,
        c.loop-i.invariant.rows,
        rows_where_few listed c.loop-i.i,
        c.loop-i.auto.i-end,
        count,
        c.rows.ensures,
      );
      listed_runs = omega (
        arith,
        c.loop-i.invariant.runs,
        rows_where_few begins c.loop-i.i,
        c.loop-i.auto.i-end,
        count,
        c.rows.ensures,
      );
    }
