use Rattle.cla_pack_reader.specs.Places.{places_of}
use Rattle.cla_pack_reader.proofs.HeaderLaws.{size_took, size_refused}
use Rattle.cla_pack_reader.proofs.header.size.Goals as goal

pub returns-in-Ok-clause-exact : goal.returns-in-Ok-clause-exact
returns-in-Ok-clause-exact g c =
    let b = places_of c.args.input.now.taken (g.F.Files.state c.args.input.now.files.now) in
    let a = places_of c.field.new.input.taken (g.F.Files.state c.field.new.input.files.now) in
    size_took c.args.name b a c.in-Ok.size c.in-Ok.ensures.exact

pub returns-in-Err-clause-exact : goal.returns-in-Err-clause-exact
returns-in-Err-clause-exact g c =
    let b = places_of c.args.input.now.taken (g.F.Files.state c.args.input.now.files.now) in
    size_refused c.args.name b c.in-Err.fault c.in-Err.ensures.exact
