use Rattle.std.proofs.Common.{ℕ, ◌-◌, min, ap, ◌∙◌}
use Rattle.cla_table.proofs.PlaceLaws.{panel_rows}
use Rattle.cla_table.proofs.grid.Grid.height.Goals as goal

pub returns : goal.returns
returns c = c.min.ensures
    ∙ ap (λ (n : ℕ). min n (c.args.self.rows - c.args.first)) (panel_rows c.args.self.shift c.args.self.low)
