use Rattle.std.proofs.Common.{◌≡◌, Ok, Err, sym, subst}
use Rattle.cla_io.specs.State.{left}
use Rattle.cla_packed.specs.declared.fault.PackFault.TheVariants.{Trailing, TooLong}
use Rattle.cla_packed.specs.Fields.{Place, ended}
use Rattle.cla_pack_reader.proofs.FileLaws.{end_more, end_here, end_past}
use Rattle.cla_pack_reader.proofs.NumberLaws.{told_left}
use Rattle.cla_pack_reader.proofs.reader.read_end.Goals as goal

pub returns-in-Ok-Some-clause-exact : goal.returns-in-Ok-Some-clause-exact
returns-in-Ok-Some-clause-exact g c layout p here =
    let old = c.args.input.now.taken in
    let start = g.F.Files.state c.args.input.now.files.now in
    let end = g.F.Files.state c.take.new.self.files.now in
    let e = rw c.in-Ok-Some.field-0-is at c.in-Ok-Some.ensures in
    rw c.at-at.ensures (subst (λ (r : Place). ended (layout, r) ≡ Err (Trailing old.at)) (sym here.1)
    (end_more old c.take.new.self.taken layout c.requires.near (left start) (left end) c.in-Ok-Some._byte
    (told_left start here.0) e.number))

pub returns-in-Ok-None-clause-exact : goal.returns-in-Ok-None-clause-exact
returns-in-Ok-None-clause-exact g c layout p here =
    let old = c.args.input.now.taken in
    let start = g.F.Files.state c.args.input.now.files.now in
    let end = g.F.Files.state c.take.new.self.files.now in
    let e = rw c.in-Ok-None.field-0-is at c.in-Ok-None.ensures in
    subst (λ (r : Place). ended (layout, r) ≡ Ok layout) (sym here.1)
    (end_here old c.take.new.self.taken layout c.requires.near (left start) (left end) (told_left start here.0)
    e.number)

pub returns-in-Err-TooLong-clause-exact : goal.returns-in-Err-TooLong-clause-exact
returns-in-Err-TooLong-clause-exact g c layout p here =
    let old = c.args.input.now.taken in
    let start = g.F.Files.state c.args.input.now.files.now in
    let end = g.F.Files.state c.take.new.self.files.now in
    let e = rw c.in-Err-TooLong.field-0-is at c.in-Err-TooLong.ensures in
    subst (λ (r : Place). ended (layout, r) ≡ Err TooLong) (sym here.1)
    (end_past old c.take.new.self.taken layout c.requires.near (left start) (left end) (told_left start here.0)
    e.number)
