use Rattle.std.proofs.Common.{◌≡◌, ◌≤◌, ◌*◌, ℕ, ℤ, Bool, List, true, false, not, refl, ap, subst, sym, ◌∙◌, arith}
use Rattle.std.proofs.Math.Nat.{mul_comm}
use Rattle.cla_spec.specs.Matrix.{Matrix, entry}
use Rattle.cla_layout.specs.Layouts.{LayoutPart, IsWhole, entry_in}
use Rattle.cla_layout.specs.Values.{values_of}
use Rattle.cla_coded.specs.Parts.{parts_of}
use Rattle.cla_coded.specs.Tables.{layout_of, rows_of_table, cols_of_table, matrix_of, table_entry}
use Rattle.cla_meaning.specs.Entries.{product_entry}
use Rattle.cla_prod.specs.Answers.{CountsMults}
use Rattle.cla_prod.specs.declared.numbers.Order.TheVariants.{Rows}
use Rattle.cla_prod.specs.Lines.{base_for, entry_by_lines, item_times}
use Rattle.cla_prod.specs.Columns.{read_values}
use Rattle.cla_prod.proofs.Answered.{column_named, columns_left, entries_at, either_some}
use Rattle.cla_prod.proofs.ColumnsRead.{read_whole, whole_at}
use Rattle.cla_prod.proofs.Dense.{base_left, dense_rows, dense_left, turned_entry, turned_shape}
use Rattle.cla_prod.proofs.tables.rows_of_times.Goals as goal

pub product_by_columns-requires-clause-columns : goal.product_by_columns-requires-clause-columns
product_by_columns-requires-clause-columns g c =
    let bits = g.N.Number.BITS in
    let a = c.args.a.now in
    let b = c.args.b.now in
    let parts = parts_of g.H.Group.codes g.H.Group.dictionary in
    let base = parts_of g.G.Group.codes g.G.Group.dictionary in
    let shape = turned_shape a.flipped a.rows a.cols (sym c.flipped.ensures ∙ c.if-flipped.true) in
    let count = c.rows.ensures ∙ shape.0 in
    let inner = c.cols.ensures ∙ shape.1 in
    let outer = c.cols-then-flipped.ensures in
    let outer' = c.cols-then-flipped.result in
    let inner' = c.cols.result in
    let whole = base_left bits b.flipped b.rows b.cols c.cols-then-flipped.result c.cols.result (parts b.parts)
    c.parts-parts.ensures.whole outer (c.cols.ensures ∙ c.requires.inner) in
    let cells : c.rows.result * c.cols-then-flipped.result ≡ rows_of_table a * cols_of_table b =
    ap (λ (n : ℕ). n * c.cols-then-flipped.result) c.rows.ensures ∙ ap (λ (n : ℕ). rows_of_table a * n) outer in
    record {
      columns = whole_at bits a.rows a.cols c.cols.result c.rows.result (base a.parts) (base c.parts-read.result.now)
          c.parts-read.ensures.whole inner count (ap base c.parts-read.ensures.parts);
      whole = subst
          (λ (f : Bool). IsWhole bits (base_for (not f) outer' inner' (parts c.parts-parts.result.now)))
          (sym c.flipped-then-flipped.ensures)
          (subst (λ (ps : List LayoutPart). IsWhole bits (base_for (not b.flipped) outer' inner' ps))
          (sym (ap parts c.parts-parts.ensures.parts)) whole);
      turned = tt;
      codes = refl;
      written = refl;
      few = omega (arith, cells, c.requires.few);
    }

pub returns-then-flipped-clause-product : goal.returns-then-flipped-clause-product
returns-then-flipped-clause-product g c =
    let bits = g.N.Number.BITS in
    let a = c.args.a.now in
    let b = c.args.b.now in
    let parts = parts_of g.H.Group.codes g.H.Group.dictionary in
    let base = parts_of g.G.Group.codes g.G.Group.dictionary in
    let layout = layout_of g.G.Group.codes g.G.Group.dictionary a in
    let turn = sym c.flipped.ensures ∙ c.if-flipped.true in
    let x = table_entry g.G.Group.codes g.G.Group.dictionary a in
    let y = table_entry g.H.Group.codes g.H.Group.dictionary b in
    let inner = cols_of_table a in
    let f = λ (j i : ℕ). item_times (not c.flipped-then-flipped.result) (parts c.parts-parts.result.now)
    (λ k. entry_in (base c.parts-read.result.now) k j) c.cols.result i in
    let whole = c.parts-parts.ensures.whole in
    let some = either_some b.flipped b.rows b.cols whole.a_row whole.a_col in
    entries_at bits c.rows.result c.cols-then-flipped.result (rows_of_table a) (cols_of_table b) (entry_by_lines Rows f)
    (product_entry inner x y) c.product_by_columns.result c.rows.ensures c.cols-then-flipped.ensures
    (omega (arith, some, c.cols-then-flipped.ensures))
    (λ i j row col.
    column_named (not c.flipped-then-flipped.result) (not b.flipped) (parts c.parts-parts.result.now) (parts b.parts)
    (base c.parts-read.result.now) (base a.parts) c.cols.result inner i j (ap not c.flipped-then-flipped.ensures)
    (ap parts c.parts-parts.ensures.parts) (ap base c.parts-read.ensures.parts) c.cols.ensures
    ∙ columns_left b.flipped (parts b.parts) (base a.parts) x inner i j (λ k. turned_entry a.flipped layout i k turn))
    c.product_by_columns.ensures.product

pub returns-then-flipped-clause-counts : goal.returns-then-flipped-clause-counts
returns-then-flipped-clause-counts g c =
    let a = c.args.a.now in
    let b = c.args.b.now in
    let parts = parts_of g.H.Group.codes g.H.Group.dictionary in
    let base = parts_of g.G.Group.codes g.G.Group.dictionary in
    let turn = sym c.flipped.ensures ∙ c.if-flipped.true in
    let rows = (turned_shape a.flipped a.rows a.cols turn).0 in
    subst (λ (n : ℕ). CountsMults n c.product_by_columns.result c.args.meter.now c.product_by_columns.new.meter)
    (ap (λ (ps : List LayoutPart). read_values Rows ps (base c.parts-read.result.now))
    (ap parts c.parts-parts.ensures.parts)
    ∙ ap (read_values Rows (parts b.parts)) (ap base c.parts-read.ensures.parts)
    ∙ read_whole Rows g.N.Number.BITS a.rows a.cols (parts b.parts) (base a.parts) c.parts-read.ensures.whole
    (λ j. refl)
    ∙ ap (λ (n : ℕ). values_of (parts b.parts) * n) (sym rows))
    c.product_by_columns.ensures.counts

pub returns-clause-product : goal.returns-clause-product
returns-clause-product g c =
    let a = c.args.a.now in
    let b = c.args.b.now in
    let layout = layout_of g.G.Group.codes g.G.Group.dictionary a in
    let y = table_entry g.H.Group.codes g.H.Group.dictionary b in
    let m = c.in-Ok.a in
    let is : m ≡ matrix_of g.G.Group.codes g.G.Group.dictionary a = c.in-Ok.ensures in
    let rows : m.rows ≡ rows_of_table a = ap (λ (d : Matrix). d.rows) is ∙ dense_rows a.flipped layout in
    let whole = c.parts-parts.ensures.whole in
    let some = either_some b.flipped b.rows b.cols whole.a_row whole.a_col in
    entries_at g.N.Number.BITS m.rows (cols_of_table b) (rows_of_table a) (cols_of_table b)
    (product_entry m.cols (entry m) y)
    (product_entry (cols_of_table a) (table_entry g.G.Group.codes g.G.Group.dictionary a) y) c.left.result rows refl
    some
    (λ i j row col. dense_left a.flipped layout m y is i j row) c.left.ensures.product
