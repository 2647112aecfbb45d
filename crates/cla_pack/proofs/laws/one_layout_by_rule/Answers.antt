use Rattle.cla_pack.proofs.LayoutsBy.{by_rule_is, by_rule_is_one}
use Rattle.cla_pack.proofs.laws.one_layout_by_rule.Goals as goal

pub returns : goal.returns
returns c bits m well = (by_rule_is bits m well, λ layout is. by_rule_is_one bits m layout well is)
