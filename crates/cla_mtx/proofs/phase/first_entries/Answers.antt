use Rattle.std.proofs.Common.{◌<◌, length, refl, sym, subst, ap, arith}
use Rattle.cla_spec.specs.Matrix.{Matrix}
use Rattle.cla_text.specs.Words.{words_of}
use Rattle.cla_market.specs.Entries.{array_cells}
use Rattle.cla_mtx.specs.Cells.{IsNextCell}
use Rattle.cla_mtx.proofs.CellLaws.{first_next, cells_count}
use Rattle.cla_mtx.proofs.SizeLaws.{fits}
use Rattle.cla_mtx.proofs.PhaseLaws.{zeros_in_range, no_sums}
use Rattle.cla_mtx.proofs.phase.first_entries.Goals as goal

pub returns-clause-ready : goal.returns-clause-ready
returns-clause-ready g c =
    let size = c.in_ok-size.size in
    let mirroring = c.args.banner.symmetry in
    let read = c.in_ok-size.ensures in
    let fit = fits c.args.banner (words_of c.args.line.now) size read.exact in
    record {
      same_rows = ap (λ (m : Matrix). m.rows) c.new.ensures;
      same_cols = ap (λ (m : Matrix). m.cols) c.new.ensures;
      a_row = read.a_row;
      a_col = read.a_col;
      few_cells = read.few;
      square = fit.square;
      few = omega arith;
      in_range = zeros_in_range g.N.Number.BITS size.rows size.cols c.new.result c.new.ensures;
      array = fit.array;
      next = λ format more. (
          let all = cells_count mirroring size.rows size.cols fit.square in
          let some : 0 < length (array_cells mirroring size.rows size.cols) = omega
          (arith, more, all, fit.array format) in
          subst (IsNextCell mirroring size.rows size.cols 0) (sym c.first_cell.ensures)
          (first_next mirroring size.rows size.cols (omega (arith, read.a_row)) fit.square some));
    }

pub returns-clause-none : goal.returns-clause-none
returns-clause-none g c =
    let size = c.in_ok-size.size in
    record { count = refl; sums = no_sums size.rows size.cols c.new.result c.new.ensures }
