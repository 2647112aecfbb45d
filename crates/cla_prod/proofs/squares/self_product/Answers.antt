use Rattle.std.proofs.Common.{◌≡◌, ◌*ℤ◌, ℕ, ℤ, List, min, max, true, refl, ap, subst, sym, ◌∙◌, arith}
use Rattle.cla_spec.proofs.Sums.{sum_to-same}
use Rattle.cla_layout.specs.Layouts.{LayoutPart, entry_in}
use Rattle.cla_coded.specs.Parts.{parts_of}
use Rattle.cla_coded.specs.Tables.{layout_of, table_entry}
use Rattle.cla_meaning.specs.Entries.{self_product_entry}
use Rattle.cla_prod.specs.Answers.{CountsMults, self_values_of}
use Rattle.cla_prod.specs.declared.numbers.Order.TheVariants.{Mirrored}
use Rattle.cla_prod.specs.Lines.{entry_by_lines, item_times}
use Rattle.cla_prod.specs.Columns.{read_values}
use Rattle.cla_prod.proofs.Answered.{column_named, entries_at}
use Rattle.cla_prod.proofs.ColumnsRead.{whole_at}
use Rattle.cla_prod.proofs.Dense.{plain_entry, plain_shape}
use Rattle.cla_prod.proofs.Mirrors.{mirrored_is, read_mirrored}
use Rattle.cla_prod.proofs.squares.self_product.Goals as goal

pub product_by_columns-requires-clause-columns : goal.product_by_columns-requires-clause-columns
product_by_columns-requires-clause-columns g c =
    let bits = g.N.Number.BITS in
    let x = c.args.x.now in
    let parts = parts_of g.G.Group.codes g.G.Group.dictionary in
    let shape = plain_shape x.flipped x.rows x.cols c.requires.plain in
    let rows = c.rows.ensures ∙ shape.0 in
    let count = c.cols.ensures ∙ shape.1 in
    let outer = c.cols-2.ensures ∙ shape.1 in
    let whole = c.parts.ensures.whole in
    record {
      columns = whole_at bits x.rows x.cols c.rows.result c.cols.result (parts x.parts) (parts c.parts.result.now) whole
          rows count (ap parts c.parts.ensures.parts);
      whole = whole_at bits x.rows x.cols c.rows.result c.cols-2.result (parts x.parts) (parts c.parts-2.result.now)
          whole rows outer (ap parts c.parts-2.ensures.parts);
      turned = refl;
      codes = refl;
      written = refl;
      few = rw (count, outer) c.requires.few;
    }

pub returns-clause-product : goal.returns-clause-product
returns-clause-product g c =
    let bits = g.N.Number.BITS in
    let x = c.args.x.now in
    let parts = parts_of g.G.Group.codes g.G.Group.dictionary in
    let base = parts x.parts in
    let layout = layout_of g.G.Group.codes g.G.Group.dictionary x in
    let e = entry_in base in
    let t = table_entry g.G.Group.codes g.G.Group.dictionary x in
    let shape = plain_shape x.flipped x.rows x.cols c.requires.plain in
    let rows = c.rows.ensures ∙ shape.0 in
    let count = c.cols.ensures ∙ shape.1 in
    let outer = c.cols-2.ensures ∙ shape.1 in
    let f = λ (j i : ℕ). item_times true (parts c.parts-2.result.now) (λ k. entry_in (parts c.parts.result.now) k j)
    c.rows.result i in
    entries_at bits c.cols.result c.cols-2.result x.cols x.cols (entry_by_lines Mirrored f)
    (self_product_entry x.rows t) c.product_by_columns.result count outer
    (omega (arith, outer, c.parts.ensures.whole.a_col))
    (λ i j row col.
    column_named true true (parts c.parts-2.result.now) base (parts c.parts.result.now) base c.rows.result x.rows
    (min i j) (max i j) refl (ap parts c.parts-2.ensures.parts) (ap parts c.parts.ensures.parts) rows
    ∙ mirrored_is e x.rows i j
    ∙ sum_to-same (λ k. e k i *ℤ e k j) (λ k. t k i *ℤ t k j) x.rows
    (λ k _. ap (λ (z : ℤ). z *ℤ e k j) (plain_entry x.flipped layout k i c.requires.plain)
    ∙ ap (λ (z : ℤ). t k i *ℤ z) (plain_entry x.flipped layout k j c.requires.plain)))
    c.product_by_columns.ensures.product

pub returns-clause-counts : goal.returns-clause-counts
returns-clause-counts g c =
    let x = c.args.x.now in
    let parts = parts_of g.G.Group.codes g.G.Group.dictionary in
    let base = parts x.parts in
    subst (λ (n : ℕ). CountsMults n c.product_by_columns.result c.args.meter.now c.product_by_columns.new.meter)
    (ap (λ (ps : List LayoutPart). read_values Mirrored ps (parts c.parts.result.now))
    (ap parts c.parts-2.ensures.parts)
    ∙ ap (read_values Mirrored base) (ap parts c.parts.ensures.parts)
    ∙ read_mirrored g.N.Number.BITS x.rows x.cols base c.parts.ensures.whole)
    c.product_by_columns.ensures.counts
