use Rattle.std.proofs.Common.{rules, ◌≡◌, ◌≢◌, ◌+◌, ◌<◌, ◌∷◌, ◌++◌, [], length, true, sym, subst, ◌∙◌, arith}
use Rattle.std.proofs.Common.{length-append}
use Rattle.cla_market.specs.Entries.{array_cells}
use Rattle.cla_market_lines.specs.Lines.{triple_of}
use Rattle.cla_mtx.specs.Cells.{IsNextCell}
use Rattle.cla_mtx.proofs.CellLaws.{next_after, cells_count}
use Rattle.cla_mtx.proofs.SumLaws.{adds_in_range, adds_general}
use Rattle.cla_mtx.proofs.EntryLaws.{in_range_all, sums_more}
use Rattle.cla_mtx.proofs.dense.put_general.Goals as goal

pub returns-clause-ready : goal.returns-clause-ready
returns-clause-ready g c ok =
    let e = c.args.entries.now in
    let ready = c.requires.ready in
    let added : c.add.result ≡ true = search rules in
    let adds = c.add.ensures.sum added in
    record {
      same_rows = adds.same_rows ∙ ready.same_rows;
      same_cols = adds.same_cols ∙ ready.same_cols;
      a_row = ready.a_row;
      a_col = ready.a_col;
      few_cells = ready.few_cells;
      square = ready.square;
      few = omega (arith, c.requires.more);
      in_range = adds_in_range g.N.Number.BITS e.table c.add.new.self c.args.entry.row c.args.entry.col _
          (omega (arith, c.requires.row, ready.same_rows)) (omega (arith, c.requires.col, ready.same_cols)) adds
          ready.in_range (c.add.ensures.in_range added);
      array = ready.array;
      next = λ format more. (
          let now : e.count < e.size.entries = omega (arith, more) in
          let cell = c.requires.cell format in
          let all = cells_count e.banner.symmetry e.size.rows e.size.cols ready.square in
          let within : e.count + 1 < length (array_cells e.banner.symmetry e.size.rows e.size.cols) = omega
          (arith, more, all, ready.array format) in
          subst (IsNextCell e.banner.symmetry e.size.rows e.size.cols (e.count + 1))
          (rw (← cell.0, ← cell.1) (sym c.cell_after-entries.ensures))
          (next_after e.banner.symmetry e.size.rows e.size.cols e.count e.next ready.square within
          (ready.next format now)));
    }

pub returns-clause-takes : goal.returns-clause-takes
returns-clause-takes g c ok number words some is ts has =
    let e = c.args.entries.now in
    let bits = g.N.Number.BITS in
    let ready = c.requires.ready in
    let t = triple_of g.N.Number.value c.args.entry in
    let added : c.add.result ≡ true = search rules in
    let one = c.add.ensures.sum added in
    let adds = adds_general e.banner.symmetry e.table c.add.new.self t c.requires.general one in
    let more = c.requires.more in
    let apart : length ts ≢ e.size.entries = λ same. (omega (arith, c.requires.more, has.count, same)) in
    let exact = rw has.count at is in
    let row = c.requires.row in
    let col = c.requires.col in
    let fit = adds_in_range bits e.table c.add.new.self t.row t.col t.value
    (omega (arith, row, ready.same_rows)) (omega (arith, col, ready.same_cols)) one ready.in_range
    (c.add.ensures.in_range added) in (
      ts ++ t ∷ [],
      in_range_all bits number e.banner e.size ts t e.table ready.same_rows ready.same_cols ready.square row col
          has.sums words some apart exact c.add.new.self adds fit,
      record {
        count = omega (arith, has.count, length-append ts (t ∷ []));
        sums = sums_more bits number e.banner e.size ts t e.table ready.same_rows ready.same_cols ready.square row
            col has.sums c.add.new.self adds;
      },
    )
