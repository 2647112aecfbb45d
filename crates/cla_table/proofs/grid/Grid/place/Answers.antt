use Rattle.std.proofs.Common.{◌^◌}
use Rattle.std.proofs.lemmas.Nat.{pow_pos}
use Rattle.cla_table.proofs.PlaceLaws.{place_fits}
use Rattle.cla_table.proofs.grid.Grid.place.Goals as goal

pub returns-clause-within : goal.returns-clause-within
returns-clause-within c =
    let grid = c.args.self in
    place_fits (2 ^ grid.shift) grid.rows grid.cols c.args.row c.args.col c.first-first.result c.height-height.result
    (pow_pos grid.shift) c.first-first.ensures c.height-height.ensures c.requires.row c.requires.col
