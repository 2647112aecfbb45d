use Rattle.cla_io.specs.State.{left}
use Rattle.cla_packed.specs.declared.fault.PackFault.TheVariants.{Field, TooLong}
use Rattle.cla_pack_reader.proofs.NumberLaws.{told_left, number_read, number_cut, number_past, refused_at_place}
use Rattle.cla_pack_reader.proofs.fields.number.Goals as goal

pub returns-in-Ok-Some-clause-exact : goal.returns-in-Ok-Some-clause-exact
returns-in-Ok-Some-clause-exact g c =
    let start = g.F.Files.state c.args.input.now.files.now in
    let here = g.F.Files.state c.take.new.self.files.now in
    let e = rw c.in-Ok-Some.field-0-is at c.in-Ok-Some.ensures in
    number_read c.args.k c.args.group c.args.name c.args.input.now.taken c.take.new.self.taken start here
    c.in-Ok-Some.number e.frame.told e.limit e.count.0 e.count.1 e.count.2 e.number

pub returns-in-Ok-None-clause-exact : goal.returns-in-Ok-None-clause-exact
returns-in-Ok-None-clause-exact g c =
    let start = g.F.Files.state c.args.input.now.files.now in
    let here = g.F.Files.state c.take.new.self.files.now in
    let e = rw c.in-Ok-None.field-0-is at c.in-Ok-None.ensures in
    rw c.at-at.ensures (refused_at_place c.args.k c.args.group c.args.name c.args.input.now.taken
    c.take.new.self.taken start here (Field c.args.group c.args.name c.args.input.now.taken.at) (λ told.
    number_cut c.args.k c.args.group c.args.name c.args.input.now.taken c.take.new.self.taken (left start) (left here)
    (told_left start told) e.number))

pub returns-in-Err-TooLong-clause-exact : goal.returns-in-Err-TooLong-clause-exact
returns-in-Err-TooLong-clause-exact g c =
    let start = g.F.Files.state c.args.input.now.files.now in
    let here = g.F.Files.state c.take.new.self.files.now in
    let e = rw c.in-Err-TooLong.field-0-is at c.in-Err-TooLong.ensures in
    refused_at_place c.args.k c.args.group c.args.name c.args.input.now.taken c.take.new.self.taken start here TooLong
    (λ told. number_past c.args.k c.args.group c.args.name c.args.input.now.taken c.take.new.self.taken (left start)
    (left here) (told_left start told) e.number)
