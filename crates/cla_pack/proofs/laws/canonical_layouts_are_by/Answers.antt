use Rattle.cla_pack.proofs.LayoutsBy.{canonical_is_by}
use Rattle.cla_pack.proofs.laws.canonical_layouts_are_by.Goals as goal

pub returns : goal.returns
returns c bits layout kinds is = canonical_is_by bits layout kinds is
