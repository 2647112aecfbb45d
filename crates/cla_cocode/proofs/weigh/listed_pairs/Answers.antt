use Rattle.std.proofs.Common.{◌+◌, length, sym, ap, ◌∙◌, arith}
use Rattle.cla_layout.specs.Listed.{rows_where}
use Rattle.cla_layout.proofs.Listings.{rows_where_few}
use Rattle.cla_cocode.specs.Weighing.{is_listed_pair, begins_pair}
use Rattle.cla_cocode.proofs.FigureLemmas.{rows_more}
use Rattle.cla_cocode.proofs.weigh.listed_pairs.Goals as goal

pub overflow_add-rows : goal.overflow_add-rows
overflow_add-rows c =
    let listed = is_listed_pair c.args.first c.args.a.now c.args.second c.args.b.now in
    omega (
      arith,
      c.loop-i.invariant.rows,
      rows_where_few listed c.loop-i.i,
      c.loop-i-test.true,
      c.requires.few,
      c.listed_row-rows.ensures.small,
    )

pub overflow_add-runs : goal.overflow_add-runs
overflow_add-runs c =
    let begins = begins_pair c.args.first c.args.a.now c.args.second c.args.b.now in
    omega (
      arith,
      c.loop-i.invariant.runs,
      rows_where_few begins c.loop-i.i,
      c.loop-i-test.true,
      c.requires.few,
      c.listed_run-runs.ensures.small,
    )

pub loop-i-preserved : goal.loop-i-preserved
loop-i-preserved c =
    let listed = is_listed_pair c.args.first c.args.a.now c.args.second c.args.b.now in
    let begins = begins_pair c.args.first c.args.a.now c.args.second c.args.b.now in
    let i = c.loop-i.i in
    record {
      rows = ap (λ n. n + c.listed_row-rows.result) c.loop-i.invariant.rows
          ∙ ap (λ n. length (rows_where listed i) + n) c.listed_row-rows.ensures.value ∙ sym (rows_more listed i);
      runs = ap (λ n. n + c.listed_run-runs.result) c.loop-i.invariant.runs
          ∙ ap (λ n. length (rows_where begins i) + n) c.listed_run-runs.ensures.value ∙ sym (rows_more begins i);
    }
