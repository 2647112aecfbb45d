use Rattle.std.proofs.Common.{◌≡◌, ◌+◌, ◌*◌, ◌≤◌, length, max, sym, ap, ◌∙◌, subst, arith}
use Rattle.cla_spec.specs.Matrix.{most_cells}
use Rattle.cla_grouping.specs.declared.sizes.Figures.{Figures}
use Rattle.cla_grouping.specs.Sizes.{figures_of}
use Rattle.cla_cocode.specs.Weighing.{least_of}
use Rattle.cla_cocode.proofs.Unions.{least-small}
use Rattle.cla_cocode.proofs.weigh.least_union.Goals as goal

pub returns-clause-small : goal.returns-clause-small
returns-clause-small c =
    let a = c.args.a.now in
    let b = c.args.b.now in
    let small = least-small a b c.codes.ensures.are c.codes-2.ensures.are c.requires.pair in
    let width : c.width.result + c.width-2.result ≡ a.width + b.width =
    omega (arith, c.width.ensures, c.width-2.ensures) in
    let rows : max c.args.first.listed_rows c.args.second.listed_rows ≡ (least_of a b).listed_rows =
    ap (λ (f : Figures). max f.listed_rows c.args.second.listed_rows) c.requires.first
    ∙ ap (λ (f : Figures). max (figures_of a).listed_rows f.listed_rows) c.requires.second in
    let runs : max c.args.first.listed_runs c.args.second.listed_runs ≡ (least_of a b).listed_runs =
    ap (λ (f : Figures). max f.listed_runs c.args.second.listed_runs) c.requires.first
    ∙ ap (λ (f : Figures). max (figures_of a).listed_runs f.listed_runs) c.requires.second in
    record {
      wide = omega (arith, width, small.wide);
      tall = omega (arith, c.rows.ensures, small.tall);
      cells = subst (λ n. n * (c.width.result + c.width-2.result) ≤ most_cells) (sym c.rows.ensures)
          (subst (λ w. length a.codes * w ≤ most_cells) (sym width) small.cells);
      distinct = omega arith;
      listed = omega arith;
      listed_rows = omega (arith, rows, small.listed_rows, c.rows.ensures);
      listed_runs = omega (arith, runs, small.listed_runs, c.rows.ensures);
    }
