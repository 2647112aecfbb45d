use Rattle.cla_group.proofs.GroupsMade.{group_projected}
use Rattle.cla_offsets.proofs.owned.OffsetsOwned.project.Goals as goal

pub invariant_of-result-clause-is : goal.invariant_of-result-clause-is
invariant_of-result-clause-is g c =
    let p = c.args.self.now in
    rw (c.in_ok-clone.ensures.cases, c.in_ok-project.ensures) (group_projected _ _ _ _ _ p.is c.requires.places)
