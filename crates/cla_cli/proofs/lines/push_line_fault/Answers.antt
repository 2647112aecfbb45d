use Rattle.cla_cli.proofs.lines.push_line_fault.Goals as goal

pub returns-in-Unsupported : goal.returns-in-Unsupported
returns-in-Unsupported c = rw c.in-Unsupported.is (rw c.from.ensures at c.push_numbered.ensures)
