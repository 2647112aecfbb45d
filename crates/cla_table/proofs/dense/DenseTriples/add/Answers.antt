use Rattle.std.proofs.Common.{◌≡◌, ℕ, ℤ, pos, ◌<◌, ◌+ℤ◌, List, map, get_or, refl, subst, sym, ap, ◌∙◌}
use Rattle.cla_spec.specs.Matrix.{Matrix, entry}
use Rattle.cla_spec.specs.Numbers.{InRange}
use Rattle.cla_spec.proofs.Entries.{row_by_row-entry}
use Rattle.cla_table.specs.Sums.{dense_sum}
use Rattle.cla_table.proofs.SumLaws.{dense_set}
use Rattle.cla_table.proofs.TableLaws.{cells_add}
use Rattle.cla_table.proofs.dense.DenseTriples.add.Goals as goal

pub returns-clause-sum : goal.returns-clause-sum
returns-clause-sum g c ok =
    let value = g.N.Number.value in
    let grid = c.self.inside.grid in
    let cells = c.self.inside.cells.items in
    let row = c.args.row in
    let col = c.args.col in
    let below = subst (λ (m : Matrix). row < m.rows) (sym c.self.view_is) c.requires.row in
    let within = subst (λ (m : Matrix). col < m.cols) (sym c.self.view_is) c.requires.col in
    let here : dense_sum value grid cells row col ≡ c.sum_of.result
    = ap (λ (p : ℕ). get_or (map value cells) p (pos 0)) (sym c.place-place.ensures.place)
    ∙ ap (λ (xs : List g.row.N.Denot). get_or (map value xs) c.place-place.result (pos 0)) (sym c.deref.ensures.value)
    ∙ sym c.sum_of.ensures.sum in
    let sum : c.plus-sum.result ≡ dense_sum value grid cells row col +ℤ value c.args.v = c.plus-sum.ensures
    ∙ ap (λ (z : ℤ). z +ℤ c.wide.result) (sym here)
    ∙ ap (λ (z : ℤ). dense_sum value grid cells row col +ℤ z) c.wide.ensures in
    rw (← c.self.view_is)
    (cells_add grid (dense_sum value grid cells) _ row col (value c.args.v) (value c.in-Some.number)
    (c.in-Some.ensures.value ∙ sum)
    (dense_set value grid cells row col c.place-place.result c.in-Some.number c.self.invariant below within
    c.place-place.ensures.place))

pub returns-clause-in_range : goal.returns-clause-in_range
returns-clause-in_range g c ok =
    let value = g.N.Number.value in
    let grid = c.self.inside.grid in
    let cells = c.self.inside.cells.items in
    let row = c.args.row in
    let col = c.args.col in
    let below = subst (λ (m : Matrix). row < m.rows) (sym c.self.view_is) c.requires.row in
    let within = subst (λ (m : Matrix). col < m.cols) (sym c.self.view_is) c.requires.col in
    let here : dense_sum value grid cells row col ≡ c.sum_of.result
    = ap (λ (p : ℕ). get_or (map value cells) p (pos 0)) (sym c.place-place.ensures.place)
    ∙ ap (λ (xs : List g.row.N.Denot). get_or (map value xs) c.place-place.result (pos 0)) (sym c.deref.ensures.value)
    ∙ sym c.sum_of.ensures.sum in
    let sum : c.plus-sum.result ≡ dense_sum value grid cells row col +ℤ value c.args.v = c.plus-sum.ensures
    ∙ ap (λ (z : ℤ). z +ℤ c.wide.result) (sym here)
    ∙ ap (λ (z : ℤ). dense_sum value grid cells row col +ℤ z) c.wide.ensures in
    let cell = row_by_row-entry grid.rows grid.cols (dense_sum value grid cells) row col below within in
    subst (λ (m : Matrix). InRange g.N.Number.BITS (entry m row col +ℤ value c.args.v)) c.self.view_is
    (subst (InRange g.N.Number.BITS) (sum ∙ ap (λ (z : ℤ). z +ℤ value c.args.v) (sym cell))
    (c.in-Some.ensures.cause.0 refl))

pub returns-in_default-clause-refused : goal.returns-in_default-clause-refused
returns-in_default-clause-refused g c ok in_range =
    let value = g.N.Number.value in
    let grid = c.self.inside.grid in
    let cells = c.self.inside.cells.items in
    let row = c.args.row in
    let col = c.args.col in
    let below = subst (λ (m : Matrix). row < m.rows) (sym c.self.view_is) c.requires.row in
    let within = subst (λ (m : Matrix). col < m.cols) (sym c.self.view_is) c.requires.col in
    let here : dense_sum value grid cells row col ≡ c.sum_of.result
    = ap (λ (p : ℕ). get_or (map value cells) p (pos 0)) (sym c.place-place.ensures.place)
    ∙ ap (λ (xs : List g.row.N.Denot). get_or (map value xs) c.place-place.result (pos 0)) (sym c.deref.ensures.value)
    ∙ sym c.sum_of.ensures.sum in
    let sum : c.plus-sum.result ≡ dense_sum value grid cells row col +ℤ value c.args.v = c.plus-sum.ensures
    ∙ ap (λ (z : ℤ). z +ℤ c.wide.result) (sym here)
    ∙ ap (λ (z : ℤ). dense_sum value grid cells row col +ℤ z) c.wide.ensures in
    let cell = row_by_row-entry grid.rows grid.cols (dense_sum value grid cells) row col below within in
    let fits : InRange g.N.Number.BITS c.plus-sum.result
    = subst (InRange g.N.Number.BITS) (ap (λ (z : ℤ). z +ℤ value c.args.v) cell ∙ sym sum)
    (subst (λ (m : Matrix). InRange g.N.Number.BITS (entry m row col +ℤ value c.args.v)) (sym c.self.view_is)
    in_range) in
    let some = c.narrow.ensures.cause.1 fits in let none = rw c.in_default.is at some in absurd cc
