use Rattle.std.proofs.Common.{◌+◌, ◌*◌, subst, ℕ}
use Rattle.cla_table.specs.Kept.{Keeps}
use Rattle.cla_table.proofs.SumLaws.{on_ok, few_set, dense_set}
use Rattle.cla_table.proofs.sums.set_sum.Goals as goal

pub returns-in-Few-clause-whole : goal.returns-in-Few-clause-whole
returns-in-Few-clause-whole g c = c.keep.ensures.within _ c.row_by_row.ensures.within
    (rw c.in-Few.is at c.requires.whole)

pub returns-in-Few-clause-set : goal.returns-in-Few-clause-set
returns-in-Few-clause-set g c =
    let value = g.N.Number.value in
    let grid = c.args.grid in
    let old = c.in-Few.sums.entries in
    let new = c.keep.new.sums.entries in
    let place = c.args.row * grid.cols + c.args.col in
    rw c.in-Few.is (on_ok c.keep.result
    (λ (h : Keeps value old new c.row_by_row.result (value c.args.sum)). few_set value grid old new c.args.row
    c.args.col (value c.args.sum) c.requires.col
    (subst (λ (p : ℕ). Keeps value old new p (value c.args.sum)) c.row_by_row.ensures.place h)) c.keep.ensures.kept)

pub returns-in-Dense-clause-set : goal.returns-in-Dense-clause-set
returns-in-Dense-clause-set g c = rw c.in-Dense.is
    (dense_set g.N.Number.value c.args.grid c.in-Dense.cells.items c.args.row c.args.col c.place.result c.args.sum
    (rw c.in-Dense.is at c.requires.whole) c.requires.row c.requires.col c.place.ensures.place)
