use Rattle.std.proofs.Common.{◌-◌}
use Rattle.cla_packed.specs.declared.fault.FieldName.TheVariants.{Width}
use Rattle.cla_packed.specs.Files.{fits_width}
use Rattle.cla_pack_reader.specs.Places.{places_of}
use Rattle.cla_pack_reader.specs.Ranges.{within}
use Rattle.cla_pack_reader.proofs.CodeLaws.{took_same, refused_same}
use Rattle.cla_pack_reader.proofs.ColumnLaws.{width_bounds}
use Rattle.cla_pack_reader.proofs.columns.width_of.Goals as goal

pub returns-in-Ok-clause-exact : goal.returns-in-Ok-clause-exact
returns-in-Ok-clause-exact g c taken count =
    let b = places_of c.args.input.now.taken (g.F.Files.state c.args.input.now.files.now) in
    let a = places_of c.field.new.input.taken (g.F.Files.state c.field.new.input.files.now) in
    let most = c.args.cols - c.args.count - c.args.left in
    took_same 4 c.args.group Width (within c.least_width-least.result most) (fits_width c.args.cols taken c.args.left)
    b a
    c.in-Ok.width (width_bounds c.args.cols c.args.count c.args.left c.least_width-least.result taken count
    c.least_width-least.ensures.exact c.requires.room) c.in-Ok.ensures.exact

pub returns-in-Err-clause-exact : goal.returns-in-Err-clause-exact
returns-in-Err-clause-exact g c taken count =
    let b = places_of c.args.input.now.taken (g.F.Files.state c.args.input.now.files.now) in
    let most = c.args.cols - c.args.count - c.args.left in
    refused_same 4 c.args.group Width (within c.least_width-least.result most)
    (fits_width c.args.cols taken c.args.left)
    b
    c.in-Err.fault (width_bounds c.args.cols c.args.count c.args.left c.least_width-least.result taken count
    c.least_width-least.ensures.exact c.requires.room) c.in-Err.ensures.exact
