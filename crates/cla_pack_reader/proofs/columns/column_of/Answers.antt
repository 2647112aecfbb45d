use Rattle.std.proofs.Common.{length, sym, ◌∙◌}
use Rattle.cla_packed.specs.declared.fault.FieldName.TheVariants.{Column}
use Rattle.cla_packed.specs.Files.{fits_column}
use Rattle.cla_pack_reader.specs.Places.{places_of}
use Rattle.cla_pack_reader.proofs.Steps.{follows, took_field, refused_field, unfit_field, offset_is}
use Rattle.cla_pack_reader.proofs.columns.column_of.Goals as goal

pub returns-in-Err-clause-exact : goal.returns-in-Err-clause-exact
returns-in-Err-clause-exact g c taken so_far marks started next =
    let b = places_of c.args.input.now.taken (g.F.Files.state c.args.input.now.files.now) in
    refused_field 4 c.args.group Column (fits_column (length c.args.marks.now) taken so_far) b b c.in-Err.fault
    c.in-Err.ensures.exact

pub returns-then-not-fits_column-clause-exact : goal.returns-then-not-fits_column-clause-exact
returns-then-not-fits_column-clause-exact g c taken so_far marks started next =
    let old = c.args.input.now.taken in
    let s = g.F.Files.state c.args.input.now.files.now in
    let new = c.number.new.input.taken in
    let u = g.F.Files.state c.number.new.input.files.now in
    unfit_field 4 c.args.group Column (fits_column (length c.args.marks.now) taken so_far) (places_of old s)
    (places_of new u) c.in-Ok.column c.at-at.result (follows old new s u c.in-Ok.ensures.frame.told)
    c.in-Ok.ensures.exact (sym (c.fits_column.ensures.exact taken so_far marks started next)
    ∙ c.if-not-fits_column.true)
    (offset_is old s c.at-at.result c.at-at.ensures)

pub returns-clause-exact : goal.returns-clause-exact
returns-clause-exact g c taken so_far marks started next =
    let b = places_of c.args.input.now.taken (g.F.Files.state c.args.input.now.files.now) in
    let m = places_of c.number.new.input.taken (g.F.Files.state c.number.new.input.files.now) in
    took_field 4 c.args.group Column (fits_column (length c.args.marks.now) taken so_far) b m c.in-Ok.column
    c.in-Ok.ensures.exact (sym (c.fits_column.ensures.exact taken so_far marks started next)
    ∙ c.if-not-fits_column.false)
