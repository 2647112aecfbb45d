use Rattle.std.proofs.Common.{◌≡◌, ◌<◌, ◌+ℤ◌, refl, subst, sym, ◌∙◌}
use Rattle.cla_spec.specs.Matrix.{Matrix, entry}
use Rattle.cla_table.specs.Sums.{sum_in}
use Rattle.cla_table.proofs.TableLaws.{entry_is, same_table, adds}
use Rattle.cla_table.proofs.triples.Triples.add.Goals as goal

pub returns-in_default-clause-cause : goal.returns-in_default-clause-cause
returns-in_default-clause-cause g c =
    let below = subst (λ (m : Matrix). c.args.row < m.rows) (sym c.self.view_is) c.requires.row in
    let within = subst (λ (m : Matrix). c.args.col < m.cols) (sym c.self.view_is) c.requires.col in
    let cell = entry_is g.N.Number.value c.self.inside.grid c.self.inside.sums c.args.row c.args.col below within in
    let sum : c.plus-sum.result ≡ entry c.args.self.now c.args.row c.args.col +ℤ g.N.Number.value c.args.v
    = rw (← c.self.view_is, cell, ← c.sum_at.ensures.sum, ← c.wide.ensures) c.plus-sum.ensures in (
      sum,
      λ in_range. let some = c.narrow.ensures.cause.1 (rw sum in_range) in let none
          = rw c.in_default.is at some in absurd cc,
    )

pub returns-in-Ok-clause-sum : goal.returns-in-Ok-clause-sum
returns-in-Ok-clause-sum g c =
    let value = g.N.Number.value in
    let grid = c.self.inside.grid in
    let below = subst (λ (m : Matrix). c.args.row < m.rows) (sym c.self.view_is) c.requires.row in
    let within = subst (λ (m : Matrix). c.args.col < m.cols) (sym c.self.view_is) c.requires.col in
    let is : value c.in-Some.number ≡ sum_in value grid c.self.inside.sums c.args.row c.args.col +ℤ value c.args.v
    = c.in-Some.ensures.value ∙ rw (← c.sum_at.ensures.sum, ← c.wide.ensures) c.plus-sum.ensures in
    rw (← c.self.view_is)
    (adds value grid c.self.inside.sums c.put_sum.new.sums c.args.row c.args.col (value c.args.v)
    (value c.in-Some.number) below within is c.in-Ok.ensures.set)

pub returns-in-Ok-clause-in_range : goal.returns-in-Ok-clause-in_range
returns-in-Ok-clause-in_range g c =
    let below = subst (λ (m : Matrix). c.args.row < m.rows) (sym c.self.view_is) c.requires.row in
    let within = subst (λ (m : Matrix). c.args.col < m.cols) (sym c.self.view_is) c.requires.col in
    let cell = entry_is g.N.Number.value c.self.inside.grid c.self.inside.sums c.args.row c.args.col below within in
    let sum : c.plus-sum.result ≡ entry c.args.self.now c.args.row c.args.col +ℤ g.N.Number.value c.args.v
    = rw (← c.self.view_is, cell, ← c.sum_at.ensures.sum, ← c.wide.ensures) c.plus-sum.ensures in
    rw (← sum) (c.in-Some.ensures.cause.0 refl)

pub returns-in-Err-clause-same : goal.returns-in-Err-clause-same
returns-in-Err-clause-same g c = same_table g.N.Number.value c.self.inside.grid c.self.inside.sums c.put_sum.new.sums
    c.in-Err.ensures.same ∙ c.self.view_is
