use Rattle.std.proofs.Common.{◌≤◌, length, ap, arith}
use Rattle.cla_io.specs.State.{left}
use Rattle.cla_io.specs.Lines.{Progress, ahead_of}
use Rattle.cla_cli.specs.Limits.{script_limit}
use Rattle.cla_cli.proofs.NeededLaws.{text_read, text_too_long}
use Rattle.cla_cli.proofs.needed.read_text.Goals as goal

pub returns-in-Ok-whole-clause-reads : goal.returns-in-Ok-whole-clause-reads
returns-in-Ok-whole-clause-reads g c =
    let old = g.F.Files.state c.args.files.now in
    let opened = g.F.Files.state c.open.new.files in
    let new = c.whole.new.self in
    let made = c.in-Ok-new.ensures in
    let read = c.in-Ok-whole.ensures in
    let short : length c.in-Ok-whole.text.items ≤ script_limit = omega
    (arith, read.count.0, read.count.1, read.limit, ap (λ (p : Progress). p.limit) made.nothing_taken) in
    text_read old.told opened.told opened.reading c.args.name.now c.in-Ok-whole.text c.in-Ok-new.input.taken new.taken
    (ahead_of new.taken (left (g.F.Files.state new.files.now)))
    c.open.ensures.frame.told c.in-Ok.ensures.opens made.nothing_taken short (rw made.same at read.whole)

pub returns-in-Err-TooLong-clause-reads : goal.returns-in-Err-TooLong-clause-reads
returns-in-Err-TooLong-clause-reads g c =
    let old = g.F.Files.state c.args.files.now in
    let opened = g.F.Files.state c.open.new.files in
    let new = c.whole.new.self in
    let made = c.in-Ok-new.ensures in
    let read = c.in-Err-TooLong.ensures in
    text_too_long old.told opened.told opened.reading c.args.name.now c.in-Ok-new.input.taken new.taken
    (ahead_of new.taken (left (g.F.Files.state new.files.now))) _
    c.open.ensures.frame.told c.in-Ok.ensures.opens made.nothing_taken read.limit
    (rw (made.same, c.in-Err-TooLong.field-0-is) at read.whole)
