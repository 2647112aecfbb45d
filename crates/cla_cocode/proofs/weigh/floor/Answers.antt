use Rattle.std.proofs.Common.{◌≡◌, ◌+◌, ◌*◌, ◌≤◌, length, sym, ap, subst, arith}
use Rattle.cla_spec.specs.Matrix.{most_cells}
use Rattle.cla_layout.proofs.Listings.{rows_where_few}
use Rattle.cla_cocode.specs.Weighing.{is_listed_pair, begins_pair}
use Rattle.cla_cocode.proofs.Unions.{floor-small}
use Rattle.cla_cocode.proofs.weigh.floor.Goals as goal

pub returns-clause-small : goal.returns-clause-small
returns-clause-small c =
    let a = c.args.a.now in
    let b = c.args.b.now in
    let xs = c.codes.result.now in
    let ys = c.codes-2.result.now in
    let small = floor-small a b c.codes.ensures.are c.codes-2.ensures.are c.requires in
    let width : c.width.result + c.width-2.result ≡ a.width + b.width =
    omega (arith, c.width.ensures, c.width-2.ensures) in
    let count = ap length c.codes.ensures.codes in
    record {
      wide = omega (arith, width, small.wide);
      tall = omega (arith, c.rows.ensures, small.tall);
      cells = subst (λ n. n * (c.width.result + c.width-2.result) ≤ most_cells) (sym c.rows.ensures)
          (subst (λ w. length a.codes * w ≤ most_cells) (sym width) small.cells);
      distinct = omega arith;
      listed = omega arith;
      listed_rows = omega (
        arith,
        c.listed_pairs-rows.ensures.rows,
        rows_where_few
            (is_listed_pair c.zero.result xs c.zero-2.result ys) (length xs),
        count,
        c.rows.ensures,
      );
      listed_runs = omega (
        arith,
        c.listed_pairs-rows.ensures.runs,
        rows_where_few
            (begins_pair c.zero.result xs c.zero-2.result ys) (length xs),
        count,
        c.rows.ensures,
      );
    }
