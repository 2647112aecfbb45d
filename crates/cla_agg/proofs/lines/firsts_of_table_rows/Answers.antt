use Rattle.std.proofs.Common.{◌≡◌, Bool, true, false, ℕ, cond, ap, subst, sym, ◌∙◌}
use Rattle.std.specs.Prelude.{IfOk}
use Rattle.cla_layout.specs.GroupLaws.{IsExtreme}
use Rattle.cla_layout.specs.Layouts.{entry_in, entry_as}
use Rattle.cla_coded.specs.Tables.{layout_of}
use Rattle.cla_agg.specs.Lines.{HasCells, AreRowExtremes}
use Rattle.cla_agg.proofs.Answered.{row_extremes, if_ok}
use Rattle.cla_agg.proofs.lines.firsts_of_table_rows.Goals as goal

pub returns-then-flipped : goal.returns-then-flipped
returns-then-flipped g c =
    let m = c.args.m.now in
    let before = g.O.Order.before in
    let base = layout_of g.G.Group.codes g.G.Group.dictionary m in
    let entry = λ (i j : ℕ). entry_in base.parts j i in
    let turned : true ≡ m.flipped = c.if-flipped.ensures in
    let n = c.rows.result in
    let count = c.rows.ensures ∙ ap (λ (b : Bool). cond b m.cols m.rows) (sym turned) in
    subst
    (λ (b : Bool). IfOk c.firsts_of_columns.result
    (λ d. AreRowExtremes before (cond b m.cols m.rows) (cond b m.rows m.cols) (entry_as b base) d)) turned
    (if_ok (HasCells (λ p v. IsExtreme before (λ (i : ℕ). entry_in base.parts i p) m.rows v) n 1)
    (AreRowExtremes before m.cols m.rows entry) c.firsts_of_columns.result
    (λ d has. row_extremes before n m.cols m.rows entry d count has) c.firsts_of_columns.ensures)

pub returns-else-flipped : goal.returns-else-flipped
returns-else-flipped g c =
    let m = c.args.m.now in
    let before = g.O.Order.before in
    let base = layout_of g.G.Group.codes g.G.Group.dictionary m in
    let entry = entry_in base.parts in
    let plain : false ≡ m.flipped = c.if-flipped.ensures in
    let n = c.rows-else-flipped.result in
    let count = c.rows-else-flipped.ensures ∙ ap (λ (b : Bool). cond b m.cols m.rows) (sym plain) in
    subst
    (λ (b : Bool). IfOk c.firsts_of_rows.result
    (λ d. AreRowExtremes before (cond b m.cols m.rows) (cond b m.rows m.cols) (entry_as b base) d)) plain
    (if_ok (HasCells (λ p v. IsExtreme before (entry p) m.cols v) n 1) (AreRowExtremes before m.rows m.cols entry)
    c.firsts_of_rows.result
    (λ d has. row_extremes before n m.rows m.cols entry d count has) c.firsts_of_rows.ensures)
