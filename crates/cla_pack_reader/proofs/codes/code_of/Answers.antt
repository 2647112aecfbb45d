use Rattle.std.proofs.Common.{sym, ◌∙◌}
use Rattle.cla_packed.specs.declared.fault.FieldName.TheVariants.{Code}
use Rattle.cla_pack_reader.specs.Places.{places_of}
use Rattle.cla_pack_reader.specs.Seen.{fits_seen}
use Rattle.cla_pack_reader.proofs.Steps.{follows, took_field, refused_field, unfit_field, offset_is}
use Rattle.cla_pack_reader.proofs.codes.code_of.Goals as goal

pub returns-in-Err-clause-exact : goal.returns-in-Err-clause-exact
returns-in-Err-clause-exact g c =
    let b = places_of c.args.input.now.taken (g.F.Files.state c.args.input.now.files.now) in
    refused_field c.args.k c.args.group Code (fits_seen c.args.d c.args.seen c.args.last) b b c.in-Err.fault
    c.in-Err.ensures.exact

pub returns-then-not-fits_seen-clause-exact : goal.returns-then-not-fits_seen-clause-exact
returns-then-not-fits_seen-clause-exact g c =
    let old = c.args.input.now.taken in
    let s = g.F.Files.state c.args.input.now.files.now in
    let new = c.number.new.input.taken in
    let u = g.F.Files.state c.number.new.input.files.now in
    unfit_field c.args.k c.args.group Code (fits_seen c.args.d c.args.seen c.args.last) (places_of old s)
    (places_of new u) c.in-Ok.code c.at-at.result (follows old new s u c.in-Ok.ensures.frame.told) c.in-Ok.ensures.exact
    (sym c.fits_seen.ensures ∙ c.if-not-fits_seen.true) (offset_is old s c.at-at.result c.at-at.ensures)

pub returns-clause-exact : goal.returns-clause-exact
returns-clause-exact g c =
    let b = places_of c.args.input.now.taken (g.F.Files.state c.args.input.now.files.now) in
    let m = places_of c.number.new.input.taken (g.F.Files.state c.number.new.input.files.now) in
    took_field c.args.k c.args.group Code (fits_seen c.args.d c.args.seen c.args.last) b m c.in-Ok.code
    c.in-Ok.ensures.exact (sym c.fits_seen.ensures ∙ c.if-not-fits_seen.false)
