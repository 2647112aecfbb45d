use Rattle.cla_group.proofs.GroupsMade.{group_projected}
use Rattle.cla_codes.proofs.codes.CodesOwned.project.Goals as goal

pub invariant_of-result-clause-is : goal.invariant_of-result-clause-is
invariant_of-result-clause-is g c =
    rw (c.in_ok-clone.ensures.cases, c.in_ok-project.ensures)
    (group_projected _ _ _ _ _ c.args.self.now.is c.requires.places)
