use Rattle.cla_pack.proofs.LayoutsBy.{layout_by_is}
use Rattle.cla_pack.proofs.laws.layouts_by_are_canonical.Goals as goal

pub returns : goal.returns
returns c bits m columns kinds well are same = layout_by_is bits m columns kinds well are same
