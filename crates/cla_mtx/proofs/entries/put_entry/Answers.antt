use Rattle.std.proofs.Common.{◌≡◌, ◌≢◌, ◌+◌, ◌<◌, ◌∷◌, ◌++◌, [], length, false, sym, subst, ◌∙◌, arith, length-append}
use Rattle.cla_text.specs.Words.{words_of}
use Rattle.cla_market.specs.Texts.{is_skipped}
use Rattle.cla_market.specs.Entries.{array_cells}
use Rattle.cla_market_lines.specs.Lines.{triple_of}
use Rattle.cla_mtx.specs.Cells.{IsNextCell}
use Rattle.cla_mtx.proofs.CellLaws.{next_after, cells_count}
use Rattle.cla_mtx.proofs.EntryLaws.{out_of_range, in_range_all, sums_more}
use Rattle.cla_mtx.proofs.entries.put_entry.Goals as goal

pub returns-in-Err-OutOfRange-clause-takes : goal.returns-in-Err-OutOfRange-clause-takes
returns-in-Err-OutOfRange-clause-takes g c words some is ts has text =
    let e = c.args.entries.now in
    let ready = c.requires.ready in
    let t = triple_of g.N.Number.value c.args.entry in
    let more = c.requires.more in
    let apart : length ts ≢ e.size.entries = λ same. (omega (arith, c.requires.more, has.count, same)) in
    let exact = rw has.count at is in
    out_of_range g.N.Number.BITS c.args.number e.banner e.size ts t e.table ready.same_rows ready.same_cols
    ready.square c.requires.row c.requires.col
    has.sums words some apart exact (rw c.in-Err-OutOfRange.field-0-is at c.in-Err-OutOfRange.ensures.cause)

pub returns-clause-ready : goal.returns-clause-ready
returns-clause-ready g c =
    let e = c.args.entries.now in
    let ready = c.requires.ready in
    let adds = c.in-Ok.ensures.adds in
    let entry = c.args.entry in
    record {
      same_rows = adds.same_rows ∙ ready.same_rows;
      same_cols = adds.same_cols ∙ ready.same_cols;
      a_row = ready.a_row;
      a_col = ready.a_col;
      few_cells = ready.few_cells;
      square = ready.square;
      few = omega (arith, c.requires.more);
      in_range = c.in-Ok.ensures.in_range;
      array = ready.array;
      next = λ format more. (
          let now : e.count < e.size.entries = omega (arith, more) in
          let cell = c.requires.cell format in
          let all = cells_count e.banner.symmetry e.size.rows e.size.cols ready.square in
          let within : e.count + 1 < length (array_cells e.banner.symmetry e.size.rows e.size.cols) = omega
          (arith, more, all, ready.array format) in
          subst (IsNextCell e.banner.symmetry e.size.rows e.size.cols (e.count + 1))
          (rw (← cell.0, ← cell.1) (sym c.cell_after-entries.ensures))
          (next_after e.banner.symmetry e.size.rows e.size.cols e.count e.next ready.square within
          (ready.next format now)));
    }

pub returns-clause-takes : goal.returns-clause-takes
returns-clause-takes g c words some is ts has =
    let e = c.args.entries.now in
    let ready = c.requires.ready in
    let t = triple_of g.N.Number.value c.args.entry in
    let adds = c.in-Ok.ensures.adds in
    let more = c.requires.more in
    let apart : length ts ≢ e.size.entries = λ same. (omega (arith, c.requires.more, has.count, same)) in
    let exact = rw has.count at is in
    let row = c.requires.row in
    let col = c.requires.col in (
      ts ++ t ∷ [],
      in_range_all g.N.Number.BITS c.args.number e.banner e.size ts t e.table ready.same_rows ready.same_cols
          ready.square row col has.sums words some apart exact c.add_entry.new.table adds
          c.in-Ok.ensures.in_range,
      record {
        count = omega (arith, has.count, length-append ts (t ∷ []));
        sums = sums_more g.N.Number.BITS c.args.number e.banner e.size ts t e.table ready.same_rows ready.same_cols
            ready.square row col has.sums c.add_entry.new.table adds;
      },
    )
