use Rattle.cla_io.specs.State.{left}
use Rattle.cla_io.proofs.TakenLines.{takes_held}
use Rattle.cla_io.proofs.input.InputOver+F+Taken.next_line.Goals as goal

pub returns-in-Some-clause-line : goal.returns-in-Some-clause-line
returns-in-Some-clause-line g c =
    let here = left (g.F.Files.state c.args.self.now.files.now) in
    takes_held c.args.self.now.taken c.take_held.new.self here c.in-Some.place c.take_held.result
    c.in-Some.ensures.place c.take_held.ensures.line
