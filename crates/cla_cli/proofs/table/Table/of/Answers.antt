use Rattle.std.proofs.Common.{◌∙◌}
use Rattle.cla_coded.specs.AnyGroups.{any_codes, any_dictionary}
use Rattle.cla_cli.proofs.TableLaws.{shape_is, loose_is, loose_matrix}
use Rattle.cla_cli.proofs.table.Table.of.Goals as goal

pub kept-requires : goal.kept-requires
kept-requires g c = loose_is any_codes any_dictionary c.in_ok-coded.coded c.args.m c.in_ok-coded.ensures.layout
    c.in_ok-coded.ensures.flipped

pub returns : goal.returns
returns g c = c.kept.ensures ∙
    loose_matrix any_codes any_dictionary c.in_ok-coded.coded c.args.m
    (shape_is g.N.Number.value c.args.m.rows c.args.m.cols c.cells.result.now c.args.m.cells c.cells.ensures.cells
    c.cells.ensures.shape)
    c.in_ok-coded.ensures.layout c.in_ok-coded.ensures.flipped
