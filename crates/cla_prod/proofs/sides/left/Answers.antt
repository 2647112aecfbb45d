use Rattle.std.proofs.Common.{◌≡◌, ◌*◌, ℕ, Bool, List, not, refl, ap, subst, sym, ◌∙◌, arith}
use Rattle.cla_spec.specs.Matrix.{entry}
use Rattle.cla_layout.specs.Layouts.{IsWhole}
use Rattle.cla_layout.specs.Values.{values_of}
use Rattle.cla_coded.specs.declared.part.Part.{Part}
use Rattle.cla_coded.specs.Parts.{parts_of}
use Rattle.cla_coded.specs.Tables.{cols_of_table, table_entry}
use Rattle.cla_meaning.specs.Entries.{product_entry}
use Rattle.cla_prod.specs.Answers.{AnswersEntries, CountsMults}
use Rattle.cla_prod.specs.declared.numbers.Order.TheVariants.{Rows}
use Rattle.cla_prod.specs.Lines.{base_for, entry_by_lines, item_times, line_item}
use Rattle.cla_prod.proofs.Answered.{entries_at, either_some, left_is}
use Rattle.cla_prod.proofs.Dense.{base_left}
use Rattle.cla_prod.proofs.sides.left.Goals as goal

pub product_by_lines-requires-clause-lines : goal.product_by_lines-requires-clause-lines
product_by_lines-requires-clause-lines g c =
    let codes = g.G.Group.codes in
    let dictionary = g.G.Group.dictionary in
    let bits = g.N.Number.BITS in
    let a = c.args.a.now in
    let b = c.args.b.now in
    let outer = c.cols-2.result in
    let inner = c.cols.result in
    let whole = base_left bits b.flipped b.rows b.cols outer inner (parts_of codes dictionary b.parts)
    c.parts.ensures.whole c.cols-2.ensures (c.cols.ensures ∙ c.requires.inner) in
    let cells : c.rows.result * outer ≡ a.rows * cols_of_table b =
    ap (λ (n : ℕ). n * outer) c.rows.ensures ∙ ap (λ (n : ℕ). a.rows * n) c.cols-2.ensures in
    record {
      count = c.rows.ensures;
      inner = c.cols.ensures;
      written = refl;
      few = omega (arith, cells, c.requires.few);
      whole = subst (λ (f : Bool). IsWhole bits (base_for (not f) outer inner (parts_of codes dictionary
          c.parts.result.now))) (sym c.flipped.ensures)
          (subst (λ (ps : List (Part g.row.G.Denot)). IsWhole bits (base_for (not b.flipped) outer inner (parts_of codes
          dictionary ps))) (sym c.parts.ensures.parts) whole);
    }

pub returns-clause-product : goal.returns-clause-product
returns-clause-product g c =
    let codes = g.G.Group.codes in
    let dictionary = g.G.Group.dictionary in
    let bits = g.N.Number.BITS in
    let a = c.args.a.now in
    let b = c.args.b.now in
    let parts = parts_of codes dictionary b.parts in
    let count = c.rows.result in
    let inner = c.cols.result in
    let outer = c.cols-2.result in
    let result = c.product_by_lines.result in
    let whole = c.parts.ensures.whole in
    let some = either_some b.flipped b.rows b.cols whole.a_row whole.a_col in
    let times = λ (flipped : Bool) (ps : List (Part g.row.G.Denot)) (i j : ℕ).
    item_times (not flipped) (parts_of codes dictionary ps) (line_item Rows a i) inner j in
    let answers = subst (λ (ps : List (Part g.row.G.Denot)). AnswersEntries bits count outer
    (entry_by_lines Rows (times b.flipped ps)) result)
    c.parts.ensures.parts
    (subst (λ (flipped : Bool). AnswersEntries bits count outer
    (entry_by_lines Rows (times flipped c.parts.result.now)) result)
    c.flipped.ensures
    c.product_by_lines.ensures.product) in
    entries_at bits count outer a.rows (cols_of_table b) (entry_by_lines Rows (times b.flipped b.parts))
    (product_entry a.cols (entry a) (table_entry codes dictionary b)) result c.rows.ensures c.cols-2.ensures
    (omega (arith, some, c.cols-2.ensures))
    (λ i j row col. left_is b.flipped parts a inner i j c.cols.ensures) answers

pub returns-clause-counts : goal.returns-clause-counts
returns-clause-counts g c =
    let codes = g.G.Group.codes in
    let dictionary = g.G.Group.dictionary in
    let values = λ (parts : List (Part g.row.G.Denot)). values_of (parts_of codes dictionary parts) in
    subst (λ (n : ℕ). CountsMults n c.product_by_lines.result c.args.meter.now c.product_by_lines.new.meter)
    (ap (λ (parts : List (Part g.row.G.Denot)). values parts * c.rows.result) c.parts.ensures.parts
    ∙ ap (λ (n : ℕ). values c.args.b.now.parts * n) c.rows.ensures)
    c.product_by_lines.ensures.counts
