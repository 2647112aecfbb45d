use Rattle.std.proofs.Common.{◌≡◌, Bool, true, false, cond, ap, subst, sym, ◌∙◌}
use Rattle.cla_layout.specs.Layouts.{entry_in, entry_as}
use Rattle.cla_coded.specs.Tables.{layout_of}
use Rattle.cla_meaning.specs.Answers.{AnswersMatrix}
use Rattle.cla_meaning.specs.Entries.{row_sum, col_sum, row_sums_entry}
use Rattle.cla_agg.proofs.Answered.{answer_column}
use Rattle.cla_agg.proofs.lines.row_sums.Goals as goal

pub returns-then-flipped-clause-sums : goal.returns-then-flipped-clause-sums
returns-then-flipped-clause-sums g c =
    let m = c.args.m.now in
    let base = layout_of g.G.Group.codes g.G.Group.dictionary m in
    let turned : true ≡ m.flipped = c.if-flipped.ensures in
    let count = c.rows.ensures ∙ ap (λ (b : Bool). cond b m.cols m.rows) (sym turned) in
    subst (λ (b : Bool). AnswersMatrix g.N.Number.BITS (cond b m.cols m.rows) 1
    (row_sums_entry (cond b m.rows m.cols) (entry_as b base)) c.sums_of_columns.result) turned
    (answer_column g.N.Number.BITS m.cols c.rows.result (col_sum m.rows (entry_in base.parts)) c.sums_of_columns.result
    count c.sums_of_columns.ensures.sums)

pub returns-else-flipped-clause-sums : goal.returns-else-flipped-clause-sums
returns-else-flipped-clause-sums g c =
    let m = c.args.m.now in
    let base = layout_of g.G.Group.codes g.G.Group.dictionary m in
    let plain : false ≡ m.flipped = c.if-flipped.ensures in
    let count = c.rows-else-flipped.ensures ∙ ap (λ (b : Bool). cond b m.cols m.rows) (sym plain) in
    subst (λ (b : Bool). AnswersMatrix g.N.Number.BITS (cond b m.cols m.rows) 1
    (row_sums_entry (cond b m.rows m.cols) (entry_as b base)) c.sums_of_rows.result) plain
    (answer_column g.N.Number.BITS m.rows c.rows-else-flipped.result (row_sum m.cols (entry_in base.parts))
    c.sums_of_rows.result count c.sums_of_rows.ensures)
