use Rattle.std.proofs.Common.{rules, true, Ok}
use Rattle.cla_io.specs.State.{left}
use Rattle.cla_io.specs.Lines.{TakesLine}
use Rattle.cla_io.proofs.TakenLines.{takes_held}
use Rattle.cla_io.proofs.input.InputOver+F+Taken.take_ahead.Goals as goal

pub returns-clause-line : goal.returns-clause-line
returns-clause-line g c ok =
    let old = c.args.self.now.taken in
    let new = c.take_held.new.self in
    let held : TakesLine old new old.ahead new.ahead (Ok true) = search rules in
    takes_held old new (left (g.F.Files.state c.args.self.now.files.now)) c.args.place (Ok true) c.requires held
