use Rattle.std.proofs.Common.{ℤ, List, ap, ◌∙◌}
use Rattle.cla_agg.proofs.Answered.{cells_are}
use Rattle.cla_agg.proofs.numbers.matrix_of.Goals as goal

pub returns : goal.returns
returns g c =
    let cells = c.args.cells.now in
    let numbers = c.in_ok-numbers.ensures in (
      c.new.ensures ∙ ap (λ (xs : List ℤ). record { rows = c.args.rows; cols = c.args.cols; cells = xs })
          (numbers.0 ∙ cells_are c.args.rows c.args.cols cells c.requires.shape),
      numbers.1,
    )
