use Rattle.std.proofs.Common.{◌≡◌, ◌<◌, neg_ℤ, arith}
use Rattle.std.proofs.lemmas.Bool.{ne_eqb, eqb-true}
use Rattle.cla_market.specs.Entries.{mirrored}
use Rattle.cla_market_lines.specs.Lines.{triple_of}
use Rattle.cla_mtx.proofs.SumLaws.{adds_in_range, adds_two, on_ok, on_ok_both}
use Rattle.cla_mtx.proofs.entries.add_entry.Goals as goal

pub returns-in_ok-add-in-SkewSymmetric-clause-adds : goal.returns-in_ok-add-in-SkewSymmetric-clause-adds
returns-in_ok-add-in-SkewSymmetric-clause-adds g c =
    let t = triple_of g.N.Number.value c.args.entry in
    let first = c.in_ok-add-in-SkewSymmetric.ensures.sum in
    rw c.in-SkewSymmetric.is
    (on_ok c.add-in-SkewSymmetric-2.result
    (λ second. adds_two c.args.table.now c.add-in-SkewSymmetric.new.self c.add-in-SkewSymmetric-2.new.self t
    (mirrored t (neg_ℤ t.value)) first second) (rw c.negated.ensures at c.add-in-SkewSymmetric-2.ensures.sum))

pub returns-in_ok-add-in-SkewSymmetric-clause-in_range : goal.returns-in_ok-add-in-SkewSymmetric-clause-in_range
returns-in_ok-add-in-SkewSymmetric-clause-in_range g c =
    let bits = g.N.Number.BITS in
    let old = c.args.table.now in
    let mid = c.add-in-SkewSymmetric.new.self in
    let row = c.args.entry.row in
    let col = c.args.entry.col in
    let v = g.N.Number.value c.args.entry.value in
    let first = c.in_ok-add-in-SkewSymmetric.ensures in
    let square : old.rows ≡ old.cols = eqb-true old.rows old.cols (rw c.in-SkewSymmetric.is at c.requires.square) in
    let before = adds_in_range bits old mid c.args.entry.row c.args.entry.col v c.requires.row c.requires.col first.sum
    c.requires.in_range first.in_range in
    let low : c.args.entry.col < mid.rows = omega (arith, c.requires.col, square, first.sum.same_rows) in
    let left : c.args.entry.row < mid.cols = omega (arith, c.requires.row, square, first.sum.same_cols) in
    on_ok_both c.add-in-SkewSymmetric-2.result
    (λ second fits. adds_in_range bits mid c.add-in-SkewSymmetric-2.new.self col row (neg_ℤ v) low left
    second before fits) (rw c.negated.ensures at c.add-in-SkewSymmetric-2.ensures.sum)
    (rw c.negated.ensures at c.add-in-SkewSymmetric-2.ensures.in_range)

pub returns-else-row-col-2-clause-adds : goal.returns-else-row-col-2-clause-adds
returns-else-row-col-2-clause-adds g c =
    let t = triple_of g.N.Number.value c.args.entry in
    let first = c.in_ok-add-in-Symmetric.ensures.sum in
    rw (c.in-Symmetric.is, ne_eqb t.row t.col c.if-row-col-2.false)
    (on_ok c.add-in-Symmetric-2.result
    (λ second. adds_two c.args.table.now c.add-in-Symmetric.new.self c.add-in-Symmetric-2.new.self t
    (mirrored t t.value)
    first second) c.add-in-Symmetric-2.ensures.sum)

pub returns-else-row-col-2-clause-in_range : goal.returns-else-row-col-2-clause-in_range
returns-else-row-col-2-clause-in_range g c =
    let bits = g.N.Number.BITS in
    let old = c.args.table.now in
    let mid = c.add-in-Symmetric.new.self in
    let row = c.args.entry.row in
    let col = c.args.entry.col in
    let v = g.N.Number.value c.args.entry.value in
    let first = c.in_ok-add-in-Symmetric.ensures in
    let square : old.rows ≡ old.cols = eqb-true old.rows old.cols (rw c.in-Symmetric.is at c.requires.square) in
    let before = adds_in_range bits old mid c.args.entry.row c.args.entry.col v c.requires.row c.requires.col first.sum
    c.requires.in_range first.in_range in
    let low : c.args.entry.col < mid.rows = omega (arith, c.requires.col, square, first.sum.same_rows) in
    let left : c.args.entry.row < mid.cols = omega (arith, c.requires.row, square, first.sum.same_cols) in
    on_ok_both c.add-in-Symmetric-2.result
    (λ second fits. adds_in_range bits mid c.add-in-Symmetric-2.new.self col row v low left
    second before fits) c.add-in-Symmetric-2.ensures.sum c.add-in-Symmetric-2.ensures.in_range
