use Rattle.cla_plain.proofs.PlainGroups.{plain_group}
use Rattle.cla_plain.proofs.plain.PlainOwned.with_values.Goals as goal

pub invariant_of-result : goal.invariant_of-result
invariant_of-result g c = record { is = plain_group _ _ _ c.with_values.ensures.are }
