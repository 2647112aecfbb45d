use Rattle.cla_pack.proofs.LayoutsBy.{canonical_part_is_by}
use Rattle.cla_pack.proofs.laws.canonical_parts_are_by.Goals as goal

pub returns : goal.returns
returns c bits layout kinds q is lt = canonical_part_is_by bits layout kinds q is lt
