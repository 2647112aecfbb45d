use Rattle.cla_check.proofs.ShapesOfNumbers.{has_no_fault}
use Rattle.cla_check.proofs.checked.Checked.script.Goals as goal

pub returns-clause-fits : goal.returns-clause-fits
returns-clause-fits g c =
    has_no_fault g.N.Number.value c.args.self.now.script.statements.items c.args.self.now.inputs.items
    c.args.self.now.fits
