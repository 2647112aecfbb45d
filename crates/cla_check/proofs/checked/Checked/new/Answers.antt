use Rattle.cla_check.proofs.ShapesOfNumbers.{fits}
use Rattle.cla_check.proofs.checked.Checked.new.Goals as goal

pub invariant_of-result : goal.invariant_of-result
invariant_of-result g c =
    record { fits = fits g.N.Number.value c.args.script.statements.items c.args.inputs.items c.requires }
