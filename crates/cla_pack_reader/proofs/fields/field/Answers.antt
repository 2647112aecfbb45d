use Rattle.std.proofs.Common.{sym, ◌∙◌}
use Rattle.cla_pack_reader.specs.Places.{places_of}
use Rattle.cla_pack_reader.specs.Ranges.{within}
use Rattle.cla_pack_reader.proofs.Steps.{follows, took_field, refused_field, unfit_field, offset_is}
use Rattle.cla_pack_reader.proofs.fields.field.Goals as goal

pub returns-in-Err-clause-exact : goal.returns-in-Err-clause-exact
returns-in-Err-clause-exact g c =
    let b = places_of c.args.input.now.taken (g.F.Files.state c.args.input.now.files.now) in
    refused_field c.args.k c.args.group c.args.name (within c.args.low c.args.high) b b c.in-Err.fault
    c.in-Err.ensures.exact

pub returns-then-not-is_within-clause-exact : goal.returns-then-not-is_within-clause-exact
returns-then-not-is_within-clause-exact g c =
    let old = c.args.input.now.taken in
    let s = g.F.Files.state c.args.input.now.files.now in
    let new = c.number.new.input.taken in
    let u = g.F.Files.state c.number.new.input.files.now in
    unfit_field c.args.k c.args.group c.args.name (within c.args.low c.args.high) (places_of old s) (places_of new u)
    c.in-Ok.number c.at-at.result (follows old new s u c.in-Ok.ensures.frame.told) c.in-Ok.ensures.exact
    (sym c.is_within.ensures ∙ c.if-not-is_within.true) (offset_is old s c.at-at.result c.at-at.ensures)

pub returns-clause-exact : goal.returns-clause-exact
returns-clause-exact g c =
    let b = places_of c.args.input.now.taken (g.F.Files.state c.args.input.now.files.now) in
    let m = places_of c.number.new.input.taken (g.F.Files.state c.number.new.input.files.now) in
    took_field c.args.k c.args.group c.args.name (within c.args.low c.args.high) b m c.in-Ok.number
    c.in-Ok.ensures.exact (sym c.is_within.ensures ∙ c.if-not-is_within.false)
