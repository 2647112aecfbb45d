use Rattle.std.proofs.Common.{◌≡◌, ◌*◌, ℕ, Bool, List, refl, ap, subst, sym, ◌∙◌, arith}
use Rattle.std.proofs.Math.Nat.{mul_comm}
use Rattle.cla_spec.specs.Matrix.{entry}
use Rattle.cla_layout.specs.Layouts.{IsWhole}
use Rattle.cla_layout.specs.Values.{values_of}
use Rattle.cla_coded.specs.declared.part.Part.{Part}
use Rattle.cla_coded.specs.Parts.{parts_of}
use Rattle.cla_coded.specs.Tables.{rows_of_table, table_entry}
use Rattle.cla_meaning.specs.Entries.{product_entry}
use Rattle.cla_prod.specs.Answers.{AnswersEntries, CountsMults}
use Rattle.cla_prod.specs.declared.numbers.Order.TheVariants.{Columns}
use Rattle.cla_prod.specs.Lines.{base_for, entry_by_lines, item_times, line_item}
use Rattle.cla_prod.proofs.Answered.{entries_at, right_is}
use Rattle.cla_prod.proofs.Dense.{base_right}
use Rattle.cla_prod.proofs.sides.right.Goals as goal

pub product_by_lines-requires-clause-lines : goal.product_by_lines-requires-clause-lines
product_by_lines-requires-clause-lines g c =
    let codes = g.G.Group.codes in
    let dictionary = g.G.Group.dictionary in
    let bits = g.N.Number.BITS in
    let a = c.args.a.now in
    let b = c.args.b.now in
    let outer = c.rows-2.result in
    let inner = c.rows.result in
    let whole = base_right bits a.flipped a.rows a.cols outer inner (parts_of codes dictionary a.parts)
    c.parts.ensures.whole c.rows-2.ensures (c.rows.ensures ∙ sym c.requires.inner) in
    let cells : c.cols.result * outer ≡ rows_of_table a * b.cols =
    mul_comm c.cols.result outer ∙ ap (λ (n : ℕ). n * c.cols.result) c.rows-2.ensures
    ∙ ap (λ (n : ℕ). rows_of_table a * n) c.cols.ensures in
    record {
      count = c.cols.ensures;
      inner = c.rows.ensures;
      written = refl;
      few = omega (arith, cells, c.requires.few);
      whole = subst (λ (f : Bool). IsWhole bits (base_for f outer inner (parts_of codes dictionary c.parts.result.now)))
          (sym c.flipped.ensures)
          (subst (λ (ps : List (Part g.row.G.Denot)). IsWhole bits (base_for a.flipped outer inner (parts_of codes
          dictionary ps))) (sym c.parts.ensures.parts) whole);
    }

pub returns-clause-product : goal.returns-clause-product
returns-clause-product g c =
    let codes = g.G.Group.codes in
    let dictionary = g.G.Group.dictionary in
    let bits = g.N.Number.BITS in
    let a = c.args.a.now in
    let b = c.args.b.now in
    let parts = parts_of codes dictionary a.parts in
    let inner = c.rows.result in
    let count = c.cols.result in
    let outer = c.rows-2.result in
    let result = c.product_by_lines.result in
    let times = λ (flipped : Bool) (ps : List (Part g.row.G.Denot)) (j i : ℕ).
    item_times flipped (parts_of codes dictionary ps) (line_item Columns b j) inner i in
    let answers = subst (λ (ps : List (Part g.row.G.Denot)). AnswersEntries bits outer count
    (entry_by_lines Columns (times a.flipped ps)) result)
    c.parts.ensures.parts
    (subst (λ (flipped : Bool). AnswersEntries bits outer count
    (entry_by_lines Columns (times flipped c.parts.result.now)) result)
    c.flipped.ensures
    c.product_by_lines.ensures.product) in
    entries_at bits outer count (rows_of_table a) b.cols (entry_by_lines Columns (times a.flipped a.parts))
    (product_entry b.rows (table_entry codes dictionary a) (entry b)) result c.rows-2.ensures c.cols.ensures
    c.product_by_lines.ensures.a_line
    (λ i j row col. right_is a.flipped parts b inner i j c.rows.ensures) answers

pub returns-clause-counts : goal.returns-clause-counts
returns-clause-counts g c =
    let codes = g.G.Group.codes in
    let dictionary = g.G.Group.dictionary in
    let values = λ (parts : List (Part g.row.G.Denot)). values_of (parts_of codes dictionary parts) in
    subst (λ (n : ℕ). CountsMults n c.product_by_lines.result c.args.meter.now c.product_by_lines.new.meter)
    (ap (λ (parts : List (Part g.row.G.Denot)). values parts * c.cols.result) c.parts.ensures.parts
    ∙ ap (λ (n : ℕ). values c.args.a.now.parts * n) c.cols.ensures)
    c.product_by_lines.ensures.counts
