use Rattle.std.proofs.Common.{◌≡◌, ◌≤◌, ◌*◌, ℕ, ℤ, Bool, List, true, false, not, refl, ap, subst, sym, ◌∙◌, arith}
use Rattle.std.proofs.Math.Nat.{mul_comm}
use Rattle.cla_spec.specs.Matrix.{Matrix, entry}
use Rattle.cla_layout.specs.Layouts.{LayoutPart, IsWhole, entry_in}
use Rattle.cla_layout.specs.Values.{values_of}
use Rattle.cla_coded.specs.Parts.{parts_of}
use Rattle.cla_coded.specs.Tables.{layout_of, rows_of_table, cols_of_table, matrix_of, table_entry}
use Rattle.cla_meaning.specs.Entries.{product_entry}
use Rattle.cla_prod.specs.Answers.{CountsMults}
use Rattle.cla_prod.specs.declared.numbers.Order.TheVariants.{Columns}
use Rattle.cla_prod.specs.Lines.{base_for, entry_by_lines, item_times}
use Rattle.cla_prod.specs.Columns.{read_values}
use Rattle.cla_prod.proofs.Answered.{column_named, columns_right, entries_at, either_some}
use Rattle.cla_prod.proofs.ColumnsRead.{read_whole, whole_at}
use Rattle.cla_prod.proofs.Dense.{base_right, dense_cols, dense_right, plain_entry, plain_shape}
use Rattle.cla_prod.proofs.tables.times_columns_of.Goals as goal

pub returns-then-flipped-clause-product : goal.returns-then-flipped-clause-product
returns-then-flipped-clause-product g c =
    let a = c.args.a.now in
    let b = c.args.b.now in
    let layout = layout_of g.H.Group.codes g.H.Group.dictionary b in
    let x = table_entry g.G.Group.codes g.G.Group.dictionary a in
    let m = c.in-Ok.b in
    let is : m ≡ matrix_of g.H.Group.codes g.H.Group.dictionary b = c.in-Ok.ensures in
    let cols : m.cols ≡ cols_of_table b = ap (λ (d : Matrix). d.cols) is ∙ dense_cols b.flipped layout in
    let whole = c.parts-read.ensures.whole in
    let some = either_some b.flipped b.rows b.cols whole.a_row whole.a_col in
    entries_at g.N.Number.BITS (rows_of_table a) m.cols (rows_of_table a) (cols_of_table b)
    (product_entry m.rows x (entry m))
    (product_entry (cols_of_table a) x (table_entry g.H.Group.codes g.H.Group.dictionary b)) c.right.result refl
    cols (omega (arith, some, cols))
    (λ i j row col. dense_right b.flipped layout m (cols_of_table a) x is c.requires.inner i j col)
    c.right.ensures.product

pub product_by_columns-requires-clause-columns : goal.product_by_columns-requires-clause-columns
product_by_columns-requires-clause-columns g c =
    let bits = g.N.Number.BITS in
    let a = c.args.a.now in
    let b = c.args.b.now in
    let parts = parts_of g.G.Group.codes g.G.Group.dictionary in
    let base = parts_of g.H.Group.codes g.H.Group.dictionary in
    let shape = plain_shape b.flipped b.rows b.cols (sym c.flipped.ensures ∙ c.if-flipped.false) in
    let count = c.cols.ensures ∙ shape.1 in
    let inner = c.rows.ensures ∙ shape.0 in
    let outer = c.rows-2.ensures in
    let whole = base_right bits a.flipped a.rows a.cols c.rows-2.result c.rows.result (parts a.parts)
    c.parts-parts.ensures.whole outer (c.rows.ensures ∙ sym c.requires.inner) in
    let cells : c.cols.result * c.rows-2.result ≡ rows_of_table a * cols_of_table b =
    mul_comm c.cols.result c.rows-2.result ∙ ap (λ (n : ℕ). n * c.cols.result) outer
    ∙ ap (λ (n : ℕ). rows_of_table a * n) c.cols.ensures in
    record {
      columns = whole_at bits b.rows b.cols c.rows.result c.cols.result (base b.parts) (base c.parts-read.result.now)
          c.parts-read.ensures.whole inner count (ap base c.parts-read.ensures.parts);
      whole = subst
          (λ (f : Bool). IsWhole bits (base_for f c.rows-2.result c.rows.result (parts c.parts-parts.result.now)))
          (sym c.flipped-2.ensures)
          (subst (λ (ps : List LayoutPart). IsWhole bits (base_for a.flipped c.rows-2.result c.rows.result ps))
          (sym (ap parts c.parts-parts.ensures.parts)) whole);
      turned = tt;
      codes = refl;
      written = refl;
      few = omega (arith, cells, c.requires.few);
    }

pub returns-clause-product : goal.returns-clause-product
returns-clause-product g c =
    let bits = g.N.Number.BITS in
    let a = c.args.a.now in
    let b = c.args.b.now in
    let parts = parts_of g.G.Group.codes g.G.Group.dictionary in
    let base = parts_of g.H.Group.codes g.H.Group.dictionary in
    let layout = layout_of g.H.Group.codes g.H.Group.dictionary b in
    let plain = sym c.flipped.ensures ∙ c.if-flipped.false in
    let x = table_entry g.G.Group.codes g.G.Group.dictionary a in
    let y = table_entry g.H.Group.codes g.H.Group.dictionary b in
    let inner = cols_of_table a in
    let f = λ (j i : ℕ). item_times c.flipped-2.result (parts c.parts-parts.result.now)
    (λ k. entry_in (base c.parts-read.result.now) k j) c.rows.result i in
    let count = c.cols.ensures ∙ (plain_shape b.flipped b.rows b.cols plain).1 in
    entries_at bits c.rows-2.result c.cols.result (rows_of_table a) (cols_of_table b) (entry_by_lines Columns f)
    (product_entry inner x y) c.product_by_columns.result c.rows-2.ensures c.cols.ensures
    (omega (arith, count, c.parts-read.ensures.whole.a_col))
    (λ i j row col.
    column_named c.flipped-2.result a.flipped (parts c.parts-parts.result.now) (parts a.parts)
    (base c.parts-read.result.now) (base b.parts) c.rows.result inner j i c.flipped-2.ensures
    (ap parts c.parts-parts.ensures.parts) (ap base c.parts-read.ensures.parts) (c.rows.ensures ∙ sym c.requires.inner)
    ∙ columns_right a.flipped (parts a.parts) (base b.parts) y inner i j (λ k. plain_entry b.flipped layout k j plain))
    c.product_by_columns.ensures.product

pub returns-clause-counts : goal.returns-clause-counts
returns-clause-counts g c =
    let a = c.args.a.now in
    let b = c.args.b.now in
    let parts = parts_of g.G.Group.codes g.G.Group.dictionary in
    let base = parts_of g.H.Group.codes g.H.Group.dictionary in
    let plain = sym c.flipped.ensures ∙ c.if-flipped.false in
    let cols = (plain_shape b.flipped b.rows b.cols plain).1 in
    subst (λ (n : ℕ). CountsMults n c.product_by_columns.result c.args.meter.now c.product_by_columns.new.meter)
    (ap (λ (ps : List LayoutPart). read_values Columns ps (base c.parts-read.result.now))
    (ap parts c.parts-parts.ensures.parts)
    ∙ ap (read_values Columns (parts a.parts)) (ap base c.parts-read.ensures.parts)
    ∙ read_whole Columns g.N.Number.BITS b.rows b.cols (parts a.parts) (base b.parts) c.parts-read.ensures.whole
    (λ j. refl)
    ∙ ap (λ (n : ℕ). values_of (parts a.parts) * n) (sym cols))
    c.product_by_columns.ensures.counts
